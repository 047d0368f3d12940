-- The layers over a pile. Each passes the number of positions and the days on unchanged.
-- Assumes nothing.
use Rattle.std.specs.Prelude.{ℕ, ◌-◌, cond, ℤ, pos, ◌-ℤ◌, Ok, Err, Result, int_lt}
use Rattle.std.specs.Int.{int_min}
use Rattle.quantity.specs.declared.fault.Fault.{Fault}
use Rattle.quantity.specs.declared.rate.Rate.{Rate}
use Rattle.schedule.specs.Positions.{within}
use Rattle.pile.specs.Faults.{outside, lifted}
use Rattle.pile.specs.Piles.{Pile}
use Rattle.pile.specs.declared.observations.ObservedRate.{ObservedRate}

-- what a layer of n positions answers at i, where the pile below answers `below`
abbrev pub passed : {T : Type 0} → ℕ → ℤ → Result T Fault → Result T Fault
passed n i below = cond (within n i) (lifted below) (Err (outside i))

-- a rate with its observed date, or a fault, for each position
abbrev pub Rates : Type 0
Rates = ℤ → Result ObservedRate Fault

-- a layer over m: the weight is that of position f i below, and `rates i` is the rate found below for position i
abbrev pub over : (ℤ → ℤ) → Rates → Pile → Pile
over f rates m = record {
  n = m.n;
  day = m.day;
  weight = λ i. passed m.n i (m.weight (f i));
  rate = λ i. passed m.n i (rates i);
}

-- rate and observed date from p positions earlier
abbrev pub lagged : ℕ → Pile → Pile
lagged p m = over (λ i. i) (λ i. m.rate (i -ℤ pos p)) m

-- weight, rate and observed date from p positions earlier
abbrev pub shifted : ℕ → Pile → Pile
shifted p m = over (λ i. i -ℤ pos p) (λ i. m.rate (i -ℤ pos p)) m

-- rate and observed date from the smaller of i and max(0, n - 1 - k)
abbrev pub locked : ℕ → Pile → Pile
locked k m = over (λ i. i) (λ i. m.rate (int_min i (pos (m.n - 1 - k)))) m

-- the larger of the floor and the rate below
abbrev pub at_least : Rate → Result ObservedRate Fault → Result ObservedRate Fault
at_least f (Ok o) = Ok (record { rate = cond (int_lt o.rate.ticks f.ticks) f o.rate; observed = o.observed })
at_least f (Err e) = Err e

abbrev pub floored : Rate → Pile → Pile
floored f m = over (λ i. i) (λ i. at_least f (m.rate i)) m
