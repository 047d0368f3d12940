-- What an accrual rule gives over a list of observations, the oldest first.
-- Assumes nothing.
use Rattle.std.specs.Prelude.{ℕ, suc, ◌*◌, ◌^◌, ◌≤◌, List, [], ◌∷◌, length, ℤ, pos, ◌+ℤ◌, ◌*ℤ◌, ◌≤ℤ◌, sum_by}
use Rattle.quantity.specs.Benchmarks.{scale}
use Rattle.quantity.specs.declared.year.YearBase.{YearBase}
use Rattle.rules.specs.Reach.{unit}
use Rattle.rules.specs.Rounding.{floor_div, ceil_div}
use Rattle.rules.specs.declared.bounds.Bounds.{Bounds}
use Rattle.rules.specs.declared.observation.Observation.{Observation}

-- rw: rate times weight
abbrev pub gain : Observation → ℤ
gain o = o.rate.ticks *ℤ pos o.weight.days

-- W: the sum of the weights
abbrev pub weight_of : List Observation → ℕ
weight_of os = sum_by (λ o. o.weight.days) os

-- a quantity that is carried from each observation to the next; `step` is told how many came before
abbrev pub carried : {S : Type 0} → (ℕ → S → Observation → S) → ℕ → S → List Observation → S
carried step k s [] = s
carried step k s (o ∷ os) = carried step (suc k) (step k s o) os

-- X: after k observations the exact factor is X / B^k, and it begins at 1
abbrev pub factor_of : (ℕ → ℤ → Observation → ℤ) → List Observation → ℤ
factor_of step os = carried step 0 (pos 1) os

-- lo and hi, which begin at U
abbrev pub at_one : Bounds
at_one = record { lo = pos unit; hi = pos unit }

abbrev pub bounds_of : (ℕ → Bounds → Observation → Bounds) → List Observation → Bounds
bounds_of step os = carried step 0 at_one os

-- the bounds after an observation, which adds the part rw / B of a basis: of its lower bound rounded down, of its upper one rounded up
abbrev pub raised : YearBase → Bounds → (basis : Bounds) → Observation → Bounds
raised base b basis o = record {
  lo = b.lo +ℤ floor_div (basis.lo *ℤ gain o) (scale base);
  hi = b.hi +ℤ ceil_div (basis.hi *ℤ gain o) (scale base);
}

-- Compounded: the factor is multiplied by 1 + rw / B; each bound adds its own part.
abbrev pub compounded_factor : YearBase → ℕ → ℤ → Observation → ℤ
compounded_factor base k x o = x *ℤ (pos (scale base) +ℤ gain o)

abbrev pub compounded_bounds : YearBase → ℕ → Bounds → Observation → Bounds
compounded_bounds base k b o = raised base b b o

-- Simple: rw / B is added to the factor; each bound adds that part of U.
abbrev pub simple_factor : YearBase → ℕ → ℤ → Observation → ℤ
simple_factor base k x o = (x *ℤ pos (scale base)) +ℤ (gain o *ℤ pos (scale base ^ k))

abbrev pub simple_bounds : YearBase → ℕ → Bounds → Observation → Bounds
simple_bounds base k b o = raised base b at_one o

-- the bounds enclose the exact factor, ends included: lo × B^k ≤ U × X ≤ hi × B^k
pub record Encloses (base : YearBase) (os : List Observation) (factor : ℤ) (b : Bounds) : Type 0 where
  pub above : (b.lo *ℤ pos (scale base ^ length os)) ≤ℤ (pos unit *ℤ factor)
  pub below : (pos unit *ℤ factor) ≤ℤ (b.hi *ℤ pos (scale base ^ length os))

-- after k observations they are at most 3k apart
abbrev pub Narrow : List Observation → Bounds → Type 0
Narrow os b = b.hi ≤ℤ (b.lo +ℤ pos (3 * length os))

-- the exact factor is between one half and two
pub record Moderate (base : YearBase) (os : List Observation) (factor : ℤ) : Type 0 where
  pub half : pos (scale base ^ length os) ≤ℤ (pos 2 *ℤ factor)
  pub double : factor ≤ℤ pos (2 * scale base ^ length os)

-- the three laws of a rule, for observations whose weights sum to at most 400
pub record Laws (base : YearBase) (grown : ℕ → ℤ → Observation → ℤ) (widened : ℕ → Bounds → Observation → Bounds) : Type 0 where
  pub encloses : (os : List Observation) → weight_of os ≤ 400 → Encloses base os (factor_of grown os) (bounds_of widened os)
  pub narrow : (os : List Observation) → weight_of os ≤ 400 → Narrow os (bounds_of widened os)
  pub moderate : (os : List Observation) → weight_of os ≤ 400 → Moderate base os (factor_of grown os)
