-- The rate and the amount that a coupon reports, and what they say of the exact rate.
-- Assumes nothing.
use Rattle.std.specs.Prelude.{◌≡◌, ℕ, ◌*◌, ◌^◌, Bool, true, ◌⊎◌, List, length, ℤ, pos, negsuc, ◌+ℤ◌, ◌-ℤ◌, ◌*ℤ◌, ◌≤ℤ◌, MatchOption}
use Rattle.std.specs.Ordering.{int_eq}
use Rattle.quantity.specs.Benchmarks.{days_in, scale}
use Rattle.quantity.specs.declared.year.YearBase.{YearBase}
use Rattle.rules.specs.Accrual.{weight_of, factor_of, bounds_of, Encloses, Narrow, Moderate}
use Rattle.rules.specs.Reach.{unit}
use Rattle.rules.specs.Rounding.{Fraction, rounded, IsNearest}
use Rattle.rules.specs.declared.bounds.Bounds.{Bounds}
use Rattle.rules.specs.declared.observation.Observation.{Observation}
use Rattle.rules.specs.declared.report.Report.{Report}
use Rattle.rules.specs.declared.run.Accrual.{Accrual}

-- the rate that a bound gives over W days, in places of 10^-7: (bound − U) × N / (10^5 × W)
abbrev pub bound_rate : YearBase → (W : ℕ) → ℤ → Fraction
bound_rate base W bound = record { num = (bound -ℤ pos unit) *ℤ pos (days_in base); den = 10 ^ 5 * W }

abbrev pub rate_of : YearBase → (W : ℕ) → ℤ → ℤ
rate_of base W bound = rounded (bound_rate base W bound)

-- the exact rate of the factor X / P over W days, in places of 10^-7: (X / P − 1) × N × 10^7 / W
abbrev pub exact_rate : YearBase → (W P : ℕ) → ℤ → Fraction
exact_rate base W P x = record { num = (x -ℤ pos P) *ℤ pos (days_in base * 10 ^ 7); den = P * W }

-- the exact rate of a list of observations, of which `factor` is X
abbrev pub exact_rate_of : YearBase → List Observation → ℤ → Fraction
exact_rate_of base os factor = exact_rate base (weight_of os) (scale base ^ length os) factor

abbrev pub same : ℤ → ℤ → Bool
same = int_eq

-- the lower bound gives the rate, and it is settled exactly where the upper bound gives the same
pub record Reports (base : YearBase) (W : ℕ) (b : Bounds) (p : Report) : Type 0 where
  pub rate : p.rate.places ≡ rate_of base W b.lo
  pub nearest : IsNearest (bound_rate base W b.lo) p.rate.places
  pub settled : p.settled ≡ same (rate_of base W b.hi) (rate_of base W b.lo)

-- a settled rate is the exact rate rounded; otherwise that is the reported rate or one place more
pub record Faithful (base : YearBase) (os : List Observation) (factor : ℤ) (p : Report) : Type 0 where
  pub settled : p.settled ≡ true → rounded (exact_rate_of base os factor) ≡ p.rate.places
  pub otherwise : (rounded (exact_rate_of base os factor) ≡ p.rate.places) ⊎ (rounded (exact_rate_of base os factor) ≡ p.rate.places +ℤ pos 1)

-- what a rule gives over a list of observations, and what holds of it; no observations have no rate
pub record Accrues (grown : ℕ → ℤ → Observation → ℤ) (widened : ℕ → Bounds → Observation → Bounds) (base : YearBase) (os : List Observation) (a : Accrual) : Type 0 where
  pub count : a.count ≡ length os
  pub weight : a.weight.days ≡ weight_of os
  pub bounds : a.bounds ≡ bounds_of widened os
  pub encloses : Encloses base os (factor_of grown os) a.bounds
  pub narrow : Narrow os a.bounds
  pub moderate : Moderate base os (factor_of grown os)
  pub report : MatchOption a.report (length os ≡ 0) (λ p. Reports base (weight_of os) a.bounds p × Faithful base os (factor_of grown os) p)

-- the interest on a principal P over D days, in cents: P × (R + margin) × D / (N × 10^7)
abbrev pub interest : YearBase → (principal : ℕ) → (rate margin : ℤ) → (days : ℕ) → Fraction
interest base principal rate margin days = record { num = (pos principal *ℤ (rate +ℤ margin)) *ℤ pos days; den = days_in base * 10 ^ 7 }

abbrev pub amount_of : YearBase → (principal : ℕ) → (rate margin : ℤ) → (days : ℕ) → ℤ
amount_of base principal rate margin days = rounded (interest base principal rate margin days)

-- the difference of two amounts fits 64 bits
pub record SmallAmount (amount : ℤ) : Type 0 where
  pub least : negsuc 4399999999999999999 ≤ℤ amount
  pub most : amount ≤ℤ pos 4400000000000000000
