-- What an opening does, and when it is turned down.
-- Assumes nothing.
use Rattle.std.specs.Prelude.{◌≡◌, ℕ, Bool, cond, ◌&&◌, List, [], ℤ, pos, negsuc, Some, None, Ok, Err, Option, Result, MatchResult, int_le, nat_le}
use Rattle.quantity.specs.Refusals.{Told, plain, told}
use Rattle.quantity.specs.declared.refusal.Refusal.{Refusal}
use Rattle.pile.specs.Piles.{Pile}
use Rattle.coupon.specs.Verdicts.{refusal_of}
use Rattle.coupon.specs.declared.terms.Terms.{Terms}
use Rattle.account.specs.declared.account.Account.{Account}
use Rattle.account.specs.declared.offer.Offer.{Offer}
use Rattle.account.specs.declared.phase.Phase.{Phase}
use Rattle.account.specs.declared.phase.Kind.TheVariants.{Open}
use Rattle.account.specs.Histories.{Reached, Stated}
use Rattle.account.specs.Phases.{moved}
use Rattle.account.specs.Tally.{Call}

-- the terms that a pile and an offer make
pub record Offered (m : Pile) (o : Offer) (t : Terms) : Type 0 where
  pub n : t.n ≡ m.n
  pub start : m.day (pos 0) ≡ Ok t.start
  pub end : m.day (pos m.n) ≡ Ok t.end
  pub rule : t.rule ≡ o.rule
  pub benchmark : t.benchmark ≡ o.benchmark
  pub note : t.note ≡ o.note
  pub amount : t.amount.cents ≡ o.amount
  pub margin : t.margin.places ≡ o.margin

-- an amount of 1 to 10^9 cents, and a margin within 1,000,000 places of 0
abbrev pub is_amount : ℕ → Bool
is_amount cents = nat_le 1 cents && nat_le cents 1000000000

abbrev pub is_margin : ℤ → Bool
is_margin places = int_le (negsuc 999999) places && int_le places (pos 1000000)

-- 10 for an amount or a margin outside its limits, then 14
abbrev pub judge_opening : Phase → Offer → Option Told
judge_opening p o = refusal_of (cond (is_amount o.amount && is_margin o.margin) (moved p Open) (Err (plain 10)))

-- an account opened over a pile and then called, with the statement for these calls; or turned down with nothing changed
abbrev pub Anew : Pile → Offer → List Call → Account → Account → Result (Unit {0}) Refusal → Type 0
Anew m o cs a b r = MatchResult r
    (λ _. (judge_opening a.phase o ≡ None) × ((t : Terms) × (Offered m o t × (Reached t cs b × Stated t cs b))))
    (λ e. (judge_opening a.phase o ≡ Some (told e)) × (b ≡ a))

-- the same for no calls
abbrev pub Opening : Pile → Offer → Account → Account → Result (Unit {0}) Refusal → Type 0
Opening m o a b r = Anew m o [] a b r
