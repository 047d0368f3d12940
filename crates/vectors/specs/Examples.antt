-- The worked examples of the definitions, as one table and one test of it.
-- Assumes nothing.
use Rattle.std.specs.Prelude.{ℕ, zero, suc, ◌+◌, Bool, true, false, not, ◌&&◌, T, List, [], ◌∷◌, ℤ, pos, negsuc, ◌*ℤ◌, Ok, Err, Result, ◌==◌, int_le, nat_le}
use Rattle.std.proofs.Common.{leb→le}
use Rattle.std.specs.Int.Signed.{le_z_yes}
use Rattle.calendar.specs.Easter.{computus}
use Rattle.quantity.specs.Benchmarks.{base_of}
use Rattle.quantity.specs.declared.benchmark.BenchmarkCode.{BenchmarkCode}
use Rattle.quantity.specs.declared.benchmark.BenchmarkCode.TheVariants.{Sonia, Estr}
use Rattle.quantity.specs.declared.date.Date.{Date}
use Rattle.quantity.specs.declared.fault.Fault.{Fault}
use Rattle.quantity.specs.declared.weight.Weight.{Weight}
use Rattle.pile.specs.Faults.{outside}
use Rattle.pile.specs.Layers.{lagged, shifted, locked}
use Rattle.pile.specs.Piles.{Pile}
use Rattle.pile.specs.declared.observations.ObservedRate.{ObservedRate}
use Rattle.rules.specs.Accrual.{weight_of, factor_of, bounds_of}
use Rattle.rules.specs.Chosen.{chosen_factor, chosen_bounds}
use Rattle.rules.specs.Rate.{rate_of, exact_rate_of, amount_of, same}
use Rattle.rules.specs.Reach.{unit}
use Rattle.rules.specs.Rounding.{Fraction, rounded}
use Rattle.rules.specs.declared.bounds.Bounds.{Bounds}
use Rattle.rules.specs.declared.observation.Observation.{Observation}
use Rattle.rules.specs.declared.rule.Rule.{Rule}
use Rattle.rules.specs.declared.rule.Rule.TheVariants.{Compounded}

-- an observation of written numbers in range
abbrev pub seen : (ticks : ℤ) (days : ℕ) → T (int_le (negsuc 249999) ticks) → T (int_le ticks (pos 250000)) → T (nat_le 1 days) → T (nat_le days 15) → Observation
seen ticks days a b c d = record {
  rate = record { ticks = ticks; least = le_z_yes a; most = le_z_yes b };
  weight = record { days = days; least = leb→le 1 days c; most = leb→le days 15 d };
}

abbrev pub dated : (number : ℕ) → T (nat_le number 73048) → Date
dated number a = record { number = number; known = leb→le number 73048 a }

pub data Example : Type 0 where
  -- over these observations the bounds are lo and hi, and the reported rate is this, settled or not
  reports : BenchmarkCode → Rule → List Observation → (lo hi rate : ℤ) → (settled : Bool) → Example
  -- over these observations the exact rate is this fraction, which rounds to this
  exactly : BenchmarkCode → Rule → List Observation → Fraction → (places : ℤ) → Example
  -- on this principal, at this reported rate and margin, over so many days, the amount is this
  pays : BenchmarkCode → (principal : ℕ) → (rate margin : ℤ) → (days : ℕ) → (cents : ℤ) → Example
  -- Easter Sunday of this year is so many days after 22 March
  easter : (year days : ℕ) → Example
  -- at this position the pile observes this date, with this weight
  observes : Pile → (position : ℤ) → (observed weight : ℕ) → Example

abbrev pub agree : Bool → Bool → Bool
agree true b = b
agree false b = not b

-- n / d = m / e
abbrev pub equal : Fraction → Fraction → Bool
equal p q = same (p.num *ℤ pos q.den) (q.num *ℤ pos p.den)

abbrev pub bounds_in : BenchmarkCode → Rule → List Observation → Bounds
bounds_in b r os = bounds_of (chosen_bounds r (base_of b)) os

abbrev pub exact_in : BenchmarkCode → Rule → List Observation → Fraction
exact_in b r os = exact_rate_of (base_of b) os (factor_of (chosen_factor r (base_of b)) os)

abbrev pub is_of : Result ObservedRate Fault → ℕ → Bool
is_of (Ok o) d = o.observed.number == d
is_of (Err f) d = false

abbrev pub weighs : Result Weight Fault → ℕ → Bool
weighs (Ok w) d = w.days == d
weighs (Err f) d = false

abbrev pub holds : Example → Bool
holds (reports b r os lo hi rate settled) = same (bounds_in b r os).lo lo && same (bounds_in b r os).hi hi
    && same (rate_of (base_of b) (weight_of os) lo) rate && agree (same (rate_of (base_of b) (weight_of os) hi) rate) settled
holds (exactly b r os q places) = equal (exact_in b r os) q && same (rounded (exact_in b r os)) places
holds (pays b principal rate margin days cents) = same (amount_of (base_of b) principal rate margin days) cents
holds (easter year days) = computus year == days
holds (observes m i observed weight) = is_of (m.rate i) observed && weighs (m.weight i) weight

abbrev pub all_hold : List Example → Bool
all_hold [] = true
all_hold (e ∷ es) = holds e && all_hold es

-- €STR, 39,100 ticks for 5 days and 39,050 for one
abbrev pub first_day : List Observation
first_day = seen (pos 39100) 5 tt tt tt tt ∷ []

abbrev pub both_days : List Observation
both_days = seen (pos 39100) 5 tt tt tt tt ∷ seen (pos 39050) 1 tt tt tt tt ∷ []

-- SONIA, one tick on one day of 20
abbrev pub one_tick : List Observation
one_tick = seen (pos 1) 1 tt tt tt tt ∷ seen (pos 0) 15 tt tt tt tt ∷ seen (pos 0) 4 tt tt tt tt ∷ []

-- the €STR period from day 8,853 to 8,859, where 8,854 to 8,857 are not good, with two days before it
abbrev pub day_at : ℤ → Result Date Fault
day_at (pos zero) = Ok (dated 8853 tt)
day_at (pos (suc zero)) = Ok (dated 8858 tt)
day_at (pos (suc (suc zero))) = Ok (dated 8859 tt)
day_at (pos (suc (suc (suc k)))) = Err (outside (pos (suc (suc (suc k)))))
day_at (negsuc zero) = Ok (dated 8852 tt)
day_at (negsuc (suc zero)) = Ok (dated 8851 tt)
day_at (negsuc (suc (suc k))) = Err (outside (negsuc (suc (suc k))))

abbrev pub seen_at : ℤ → Result Observation Fault
seen_at (pos zero) = Ok (seen (pos 39100) 5 tt tt tt tt)
seen_at (pos (suc zero)) = Ok (seen (pos 39050) 1 tt tt tt tt)
seen_at (pos (suc (suc k))) = Err (outside (pos (suc (suc k))))
seen_at (negsuc zero) = Ok (seen (pos 39090) 1 tt tt tt tt)
seen_at (negsuc (suc zero)) = Ok (seen (pos 39080) 1 tt tt tt tt)
seen_at (negsuc (suc (suc k))) = Err (outside (negsuc (suc (suc k))))

abbrev pub weight_in : Result Observation Fault → Result Weight Fault
weight_in (Ok o) = Ok o.weight
weight_in (Err f) = Err f

abbrev pub rate_in : Result Observation Fault → Result Date Fault → Result ObservedRate Fault
rate_in (Ok o) (Ok d) = Ok (record { rate = o.rate; observed = d })
rate_in (Ok o) (Err f) = Err f
rate_in (Err f) d = Err f

abbrev pub period : Pile
period = record { n = 2; day = day_at; weight = λ i. weight_in (seen_at i); rate = λ i. rate_in (seen_at i) (day_at i) }

abbrev pub table : List Example
table =
    reports Estr Compounded first_day (pos 1000543055555) (pos 1000543055556) (pos 391000) true
    ∷ reports Estr Compounded both_days (pos 1000651586683) (pos 1000651586685) (pos 390952) true
    ∷ pays Estr 100000000 (pos 391000) (pos 0) 5 (pos 54306)
    ∷ pays Estr 100000000 (pos 390952) (pos 0) 6 (pos 65159)
    ∷ reports Estr Compounded (seen (negsuc 5899) 1 tt tt tt tt ∷ []) (pos 999983611111) (pos 999983611112) (negsuc 58999) true
    ∷ reports Sonia Compounded one_tick (pos (unit + 2739)) (pos (unit + 2740)) (pos 0) false
    ∷ exactly Sonia Compounded one_tick (record { num = pos 1; den = 2 }) (pos 1)
    ∷ easter 2000 32
    ∷ easter 2024 9
    ∷ easter 2025 29
    ∷ observes (lagged 2 period) (pos 0) 8851 5
    ∷ observes (lagged 2 period) (pos 1) 8852 1
    ∷ observes (shifted 2 period) (pos 0) 8851 1
    ∷ observes (shifted 2 period) (pos 1) 8852 1
    ∷ observes (locked 1 period) (pos 0) 8853 5
    ∷ observes (locked 1 period) (pos 1) 8853 1
    ∷ []
