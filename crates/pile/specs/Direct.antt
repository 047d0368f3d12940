-- The pile of a schedule and a source.
-- Assumes nothing.
use Rattle.std.specs.Prelude.{◌≡◌, ℕ, ◌+◌, min, max, true, cond, ℤ, Some, None, Ok, Err, Option, Result}
use Rattle.std.proofs.Common.{arith}
use Rattle.quantity.specs.declared.date.Date.{Date}
use Rattle.quantity.specs.declared.rate.Rate.{Rate}
use Rattle.quantity.specs.declared.weight.Weight.{Weight}
use Rattle.quantity.specs.declared.fault.Fault.{Fault}
use Rattle.quantity.specs.declared.fault.Cause.TheVariants.{NoFixing}
use Rattle.schedule.specs.Positions.{within}
use Rattle.schedule.specs.declared.schedule.Schedule.{Schedule}
use Rattle.schedule.specs.Meaning.{day_at, gap_at}
use Rattle.pile.specs.Faults.{outside}
use Rattle.pile.specs.Piles.{Pile}
use Rattle.pile.specs.declared.observations.ObservedRate.{ObservedRate}

-- the weight of so many days; a gap of a schedule is 1 to 15
abbrev pub weighing : ℕ → Weight
weighing d = record { days = max 1 (min d 15); least = omega arith; most = omega arith }

-- so the weight at each position is the days to the next
abbrev pub Weighs : Schedule → Type 0
Weighs s = (i : ℤ) → within s.n i ≡ true → (weighing (gap_at s i).days).days ≡ (gap_at s i).days

-- the rate on a day, observed there, or the fault at position i that there is none
abbrev pub observed : ℤ → Date → Option Rate → Result ObservedRate Fault
observed i day (Some r) = Ok (record { rate = r; observed = day })
observed i day None = Err (record { cause = NoFixing day; position = record { value = i }; above = 0 })

abbrev pub direct : Schedule → (Date → Option Rate) → Pile
direct s rates = record {
  n = s.n;
  day = λ i. cond (within (s.n + 1) i) (Ok (day_at s i)) (Err (outside i));
  weight = λ i. cond (within s.n i) (Ok (weighing (gap_at s i).days)) (Err (outside i));
  rate = λ i. cond (within s.n i) (observed i (day_at s i) (rates (day_at s i))) (Err (outside i));
}
