-- A line's numbers as an observation, and one observation more.
-- Assumes nothing.
use Rattle.std.specs.Prelude.{◌≡◌, ◌<◌, Bool, true, false, ◌&&◌, ◌⊎◌, List, [], ◌∷◌, ◌++◌, ℤ, pos, negsuc, Ok, Err, Result, int_le}
use Rattle.quantity.specs.Benchmarks.{is_on_step}
use Rattle.quantity.specs.Refusals.{told, plain}
use Rattle.quantity.specs.declared.benchmark.BenchmarkCode.{BenchmarkCode}
use Rattle.quantity.specs.declared.refusal.Refusal.{Refusal}
use Rattle.quantity.specs.declared.year.YearBase.{YearBase}
use Rattle.rules.specs.Accrual.{weight_of}
use Rattle.rules.specs.Chosen.{chosen_factor, chosen_bounds}
use Rattle.rules.specs.Rate.{Accrues}
use Rattle.rules.specs.declared.observation.Observation.{Observation}
use Rattle.rules.specs.declared.rule.Rule.{Rule}
use Rattle.rules.specs.declared.run.Accrual.{Accrual}
use Rattle.factor.specs.declared.observe.Failure.{Failure}
use Rattle.factor.specs.declared.observe.Failure.TheVariants.{Refused, NoMemory}

-- a rate that the benchmark may publish: in range, and on its step
abbrev pub is_published : BenchmarkCode → ℤ → Bool
is_published b ticks = int_le (negsuc 249999) ticks && int_le ticks (pos 250000) && is_on_step b ticks

abbrev pub is_weight : ℤ → Bool
is_weight days = int_le (pos 1) days && int_le days (pos 15)

-- the observation of these numbers, or refusal 2 for the rate, or else refusal 10 for the weight
abbrev pub Judged : BenchmarkCode → (ticks days : ℤ) → Result Observation Refusal → Type 0
Judged b ticks days (Ok o) = (o.rate.ticks ≡ ticks) × (pos o.weight.days ≡ days) × (is_on_step b ticks ≡ true)
Judged b ticks days (Err e) = ((is_published b ticks ≡ false) × (told e ≡ plain 2)) ⊎ ((is_published b ticks ≡ true) × (is_weight days ≡ false) × (told e ≡ plain 10))

-- the rule over the observations before with one more, which is kept; or refusal 17 where their weights would pass 400, or no memory
abbrev pub Observes : Rule → YearBase → (before : List Observation) → Observation → (after : List Observation) → Result Accrual Failure → Type 0
Observes rule base before o after (Ok a) = (after ≡ before ++ o ∷ []) × Accrues (chosen_factor rule base) (chosen_bounds rule base) base after a
Observes rule base before o after (Err (Refused e)) = (after ≡ before) × (400 < weight_of (before ++ o ∷ [])) × (told e ≡ plain 17)
Observes rule base before o after (Err NoMemory) = after ≡ before
