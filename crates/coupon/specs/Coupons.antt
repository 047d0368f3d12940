-- What the lines of a coupon hold.
-- Assumes nothing.
use Rattle.std.specs.Prelude.{◌≡◌, List, [], ◌∷◌, ◌++◌, pos, Ok, Err, vec_items, Result}
use Rattle.quantity.specs.Refusals.{Told}
use Rattle.quantity.specs.declared.benchmark.BenchmarkCode.TheVariants.{Sofr}
use Rattle.rules.specs.declared.rule.Rule.TheVariants.{Compounded}
use Rattle.coupon.specs.declared.day.Day.{Day}
use Rattle.coupon.specs.declared.line.Line.{Line}
use Rattle.coupon.specs.declared.lines.Lines.{Lines}
use Rattle.coupon.specs.declared.terms.Terms.{Terms}
use Rattle.coupon.specs.Lines.{days_of}

abbrev pub held : Lines → List Line
held l = vec_items l.lines

-- the days that they bear
abbrev pub borne : Lines → List Day
borne l = days_of (held l)

-- the terms before any are given: a period of no days
pub record Blank (t : Terms) : Type 0 where
  pub n : t.n ≡ 0
  pub start : t.start.number ≡ 0
  pub end : t.end.number ≡ 0
  pub rule : t.rule ≡ Compounded
  pub benchmark : t.benchmark ≡ Sofr
  pub note : t.note ≡ 0
  pub amount : t.amount.cents ≡ 1
  pub margin : t.margin.places ≡ pos 0

-- one day more on the same terms where a day was admitted, and otherwise nothing changed
abbrev pub Took : Result Day Told → Lines → Lines → Type 0
Took (Ok d) a b = (b.terms ≡ a.terms) × (borne b ≡ borne a ++ d ∷ [])
Took (Err e) a b = b ≡ a
