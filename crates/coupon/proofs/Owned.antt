-- What the lines of a coupon say is what the rules give for the days that they bear.
-- Assumes nothing.
use Rattle.std.proofs.Common.{◌≡◌, ◌≤◌, true, ◌&&◌, List, [], ◌∷◌, ◌++◌, length, Option, MatchOption, vec_len, sym, refl, ap, ◌∙◌, subst, arith}
use Rattle.std.specs.Option.{option_map_or}
use Rattle.std.proofs.lemmas.List.{length-map}
use Rattle.std.proofs.lemmas.Bool.{and_from}
use Rattle.rules.specs.Reach.{is_in_reach}
use Rattle.rules.specs.declared.bounds.Bounds.{Bounds}
use Rattle.rules.specs.Chosen.{chosen_factor, chosen_bounds}
use Rattle.rules.proofs.Laws.{chosen_keeps}
use Rattle.rules.proofs.Prefix.{tests_in_reach}
use Rattle.rules.specs.Runs.{encloses_of, narrow_of, moderate_of}
use Rattle.coupon.specs.declared.day.Day.{Day}
use Rattle.coupon.specs.declared.line.Line.{Line}
use Rattle.coupon.specs.declared.lines.Lines.{Lines}
use Rattle.coupon.specs.declared.terms.Terms.{Terms}
use Rattle.coupon.specs.Coupons.{held, borne}
use Rattle.coupon.specs.Lines.{day_of, seen, weight_of, year_base, bounds_at, factor_at, last_of, line_after}
use Rattle.coupon.proofs.Rows.{few_days, last_says}

pub count_of : (l : Lines) → vec_len l.lines ≡ length (borne l)
count_of l = l.lines.ok.0 ∙ sym (length-map (held l) day_of)

pub count_few : (l : Lines) → vec_len l.lines ≤ 400
count_few l = omega (arith, count_of l, few_days (borne l), l.light)

-- what is read of the last line, or taken where there is none, is what the days come to
module _ {A : Type 0} (l : Lines) (g : Line → A) (F : List Day → A) (h : (ps : List Day) (d : Day) → g (line_after l.terms ps d) ≡ F (ps ++ d ∷ [])) where
  abbrev read : Option Line → A
  read p = option_map_or g p (F [])

  read_by : (p : Option Line) (r : A) → MatchOption p (r ≡ F []) (λ x. r ≡ g x) → r ≡ read p
  read_by p r e = grind arith

  pub read_last : (p : Option Line) (r : A) → p ≡ last_of (held l) → MatchOption p (r ≡ F []) (λ x. r ≡ g x) → r ≡ F (borne l)
  read_last p r is e = read_by p r e ∙ ap read (is ∙ ap last_of l.exact) ∙ last_says l.terms read F h (borne l) refl

-- the bounds of a row whose weights sum to at most 400 are in reach
pub bounds_in_reach : (t : Terms) (ds : List Day) (b : Bounds) → weight_of ds ≤ 400 → b ≡ bounds_at t ds → (is_in_reach b.lo && is_in_reach b.hi) ≡ true
bounds_in_reach t ds b few e =
    let base = year_base t in
    let grown = chosen_factor t.rule base in
    let widened = chosen_bounds t.rule base in
    let keeps = chosen_keeps t.rule base in
    let r = tests_in_reach base (seen ds) (factor_at t ds) (bounds_at t ds) few (encloses_of base grown widened keeps (seen ds) few) (narrow_of base grown widened keeps (seen ds) few) (moderate_of base grown widened keeps (seen ds) few) in
    subst (λ (x : Bounds). (is_in_reach x.lo && is_in_reach x.hi) ≡ true) (sym e) (and_from _ _ r.0 r.1)
