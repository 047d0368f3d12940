-- How great the code's numbers can be.
-- Assumes nothing.
use Rattle.std.proofs.Common.{◌≡◌, ℕ, ◌+◌, ◌*◌, ◌^◌, ◌≤◌, true, ℤ, pos, negsuc, ◌-ℤ◌, ◌*ℤ◌, neg_ℤ, ◌≤ℤ◌, mul-le-mul, div-le_self, arith}
use Rattle.std.specs.Int.RustNames.{unsigned_abs}
use Rattle.std.proofs.lemmas.Int.{ints, unsigned_abs-mul}
use Rattle.std.proofs.lemmas.Bool.Decides.{nat_tests}
use Rattle.quantity.proofs.Bases.{base_most}
use Rattle.quantity.specs.Benchmarks.{days_in}
use Rattle.quantity.specs.declared.year.YearBase.{YearBase}
use Rattle.rules.specs.Accrual.{gain}
use Rattle.rules.specs.Reach.{unit, reach, is_in_reach}
use Rattle.rules.specs.Rounding.{floor_div, ceil_div}
use Rattle.rules.specs.declared.observation.Observation.{Observation}

-- the test of a bound
pub in_reach_least : (b : ℤ) → is_in_reach b ≡ true → pos 0 ≤ℤ b
in_reach_least b e = grind (arith, ints, nat_tests)

pub in_reach_most : (b : ℤ) → is_in_reach b ≡ true → b ≤ℤ pos reach
in_reach_most b e = grind (arith, ints, nat_tests)

pub in_reach : (b : ℤ) → pos 0 ≤ℤ b → b ≤ℤ pos reach → is_in_reach b ≡ true
in_reach b l m = grind (arith, ints, nat_tests)

pub times_most : (a b : ℤ) (m n : ℕ) → unsigned_abs a ≤ m → unsigned_abs b ≤ n → unsigned_abs (a *ℤ b) ≤ m * n
times_most a b m n f g = rw (unsigned_abs-mul a b) (mul-le-mul f g)

pub gain_most : (o : Observation) → unsigned_abs (gain o) ≤ 3750000
gain_most o = times_most o.rate.ticks (pos o.weight.days) 250000 15 (omega (arith, ints, o.rate.least, o.rate.most)) o.weight.most

-- a bound times a gain
pub part_most : (a z : ℤ) → is_in_reach a ≡ true → unsigned_abs z ≤ 3750000 → unsigned_abs (a *ℤ z) ≤ reach * 3750000
part_most a z r g = times_most a z reach 3750000 (omega (arith, ints, in_reach_least a r, in_reach_most a r)) g

pub floor_most : (z : ℤ) (B : ℕ) → unsigned_abs (floor_div z B) ≤ unsigned_abs z
floor_most (pos a) B = div-le_self a B
floor_most (negsuc a) B = omega (arith, div-le_self a B)

pub ceil_most : (z : ℤ) (B : ℕ) → unsigned_abs (ceil_div z B) ≤ unsigned_abs z
ceil_most z B = let f = floor_most (neg_ℤ z) B in omega (arith, ints)

-- what a bound has above one, times a year base
pub excess_most : (b : ℤ) (base : YearBase) → is_in_reach b ≡ true → unsigned_abs ((b -ℤ pos unit) *ℤ pos (days_in base)) ≤ (unit + 1200) * 365
excess_most b base r = times_most (b -ℤ pos unit) (pos (days_in base)) (unit + 1200) 365 (omega (arith, ints, in_reach_least b r, in_reach_most b r)) (base_most base)

-- a principal times a rate, and times days
pub yearly_most : (principal : ℕ) (rate : ℤ) → principal ≤ 1000000000 → unsigned_abs rate ≤ 3661000000 → unsigned_abs (pos principal *ℤ rate) ≤ 1000000000 * 3661000000
yearly_most principal rate p r = times_most (pos principal) rate 1000000000 3661000000 p r

pub interest_most : (principal days : ℕ) (rate : ℤ) → principal ≤ 1000000000 → unsigned_abs rate ≤ 3661000000 → days ≤ 2 ^ 32 → unsigned_abs ((pos principal *ℤ rate) *ℤ pos days) ≤ 1000000000 * 3661000000 * 2 ^ 32
interest_most principal days rate p r d = times_most (pos principal *ℤ rate) (pos days) (1000000000 * 3661000000) (2 ^ 32) (yearly_most principal rate p r) d
