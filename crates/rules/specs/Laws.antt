-- Each rule keeps from step to step what the three laws rest on.
-- Assumes nothing.
use Rattle.std.proofs.Common.{arith}
use Rattle.std.specs.Prelude.{◌≡◌, ℕ, ◌^◌, ℤ, pos, ◌+ℤ◌, ◌*ℤ◌}
use Rattle.quantity.proofs.Bases.{scale_least}
use Rattle.quantity.specs.Benchmarks.{scale}
use Rattle.quantity.specs.declared.year.YearBase.{YearBase}
use Rattle.rules.specs.Accrual.{gain, compounded_bounds, simple_bounds}
use Rattle.rules.specs.Chosen.{chosen_factor, chosen_bounds}
use Rattle.rules.specs.declared.observation.Observation.{Observation}
use Rattle.rules.specs.declared.rule.Rule.{Rule}
use Rattle.rules.specs.declared.rule.Rule.TheVariants.{Compounded, Simple}
use Rattle.rules.specs.Runs.{Keeps}
use Rattle.rules.specs.Sound.{compounded_step, simple_step}

-- the exact factor grows by a factor with each observation, as the compounded rule has it
abbrev pub GrowsCompounded : YearBase → (ℕ → ℤ → Observation → ℤ) → Type 0
GrowsCompounded base grown = (k : ℕ) (x : ℤ) (o : Observation) → grown k x o ≡ x *ℤ (pos (scale base) +ℤ gain o)

-- a part is added to the exact factor with each observation, as the simple rule has it
abbrev pub GrowsSimple : YearBase → (ℕ → ℤ → Observation → ℤ) → Type 0
GrowsSimple base grown = (k : ℕ) (x : ℤ) (o : Observation) → grown k x o ≡ (x *ℤ pos (scale base)) +ℤ (gain o *ℤ pos (scale base ^ k))

pub keeps_compounded : (base : YearBase) (grown : ℕ → ℤ → Observation → ℤ) → GrowsCompounded base grown → Keeps base grown (compounded_bounds base)
keeps_compounded base grown grows k W factor b o few s =
    rw (grows k factor o) (compounded_step (scale base) (scale base ^ k) k W factor b.lo b.hi o (omega (arith, scale_least base)) few s)

pub keeps_simple : (base : YearBase) (grown : ℕ → ℤ → Observation → ℤ) → GrowsSimple base grown → Keeps base grown (simple_bounds base)
keeps_simple base grown grows k W factor b o few s =
    rw (grows k factor o) (simple_step (scale base) (scale base ^ k) k W factor b.lo b.hi o (omega (arith, scale_least base)) few s)

pub keeps_chosen : (r : Rule) (base : YearBase) → GrowsCompounded base (chosen_factor Compounded base) → GrowsSimple base (chosen_factor Simple base) → Keeps base (chosen_factor r base) (chosen_bounds r base)
keeps_chosen Compounded base compounded simple = keeps_compounded base (chosen_factor Compounded base) compounded
keeps_chosen Simple base compounded simple = keeps_simple base (chosen_factor Simple base) simple
