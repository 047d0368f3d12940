-- What a verdict on one day more says.
-- Assumes nothing.
use Rattle.std.proofs.Common.{◌≡◌, ℕ, ◌+◌, ◌<◌, ◌≤◌, List, [], ◌∷◌, ◌++◌, length, Some, None, Ok, Err, Result, refl, arith}
use Rattle.std.proofs.lemmas.Bool.Decides.{nat_tests}
use Rattle.quantity.specs.Refusals.{Told}
use Rattle.pile.specs.Piles.{Pile}
use Rattle.coupon.specs.declared.day.Day.{Day}
use Rattle.coupon.specs.declared.lines.Lines.{Lines}
use Rattle.coupon.specs.declared.terms.Terms.{Terms}
use Rattle.coupon.specs.Coupons.{Took, borne}
use Rattle.coupon.specs.Verdicts.{due_day, lightest, refusal_of}

-- a day that is not refused leaves the sum of weights within its limit
pub light_within : (W : ℕ) (d : Day) → None ≡ refusal_of (lightest W d) → W + d.weight.days ≤ 400
light_within W d h = grind (arith, nat_tests)

-- a day that is due has a place among the n
pub due_within : (t : Terms) (ds : List Day) (m : Pile) (d : Day) → Ok d ≡ due_day t ds m → length ds < t.n
due_within t ds m d h = grind (arith, nat_tests)

-- a refusal leaves all as it was
pub took_same : (v : Result Day Told) (e : Told) (a b : Lines) → Some e ≡ refusal_of v → Took v a b → b ≡ a
took_same v e a b h k = grind arith

-- the day that was taken
pub record Taken (v : Result Day Told) (a b : Lines) : Type 0 where
  pub day : Day
  pub is : v ≡ Ok day
  pub terms : b.terms ≡ a.terms
  pub days : borne b ≡ borne a ++ (day ∷ [])

pub taken : (v : Result Day Told) (a b : Lines) → None ≡ refusal_of v → Took v a b → Taken v a b
taken (Ok d) a b h k = record { day = d; is = refl; terms = k.0; days = k.1 }
taken (Err e) a b h k = absurd cc
