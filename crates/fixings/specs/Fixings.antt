-- Lists of fixings: the rate of a date, one fixing put in, one rate restated, and what is refused.
-- Assumes nothing.
use Rattle.std.specs.Prelude.{◌≡◌, ℕ, zero, suc, ◌+◌, ◌<◌, ◌≤◌, Bool, true, cond, ◌&&◌, List, [], ◌∷◌, ◌++◌, map, length, take, drop, ℤ, Some, None, Ok, Err, Option, Result, nat_lt, slice_index}
use Rattle.std.specs.List.Sorted.{IsPermutation}
use Rattle.quantity.specs.Benchmarks.{is_on_step}
use Rattle.quantity.specs.Dated.{FirstAt}
use Rattle.quantity.specs.Orders.{has}
use Rattle.quantity.specs.Refusals.{Told, plain}
use Rattle.quantity.specs.declared.benchmark.BenchmarkCode.{BenchmarkCode}
use Rattle.quantity.specs.declared.rate.Rate.{Rate}
use Rattle.quantity.specs.declared.refusal.Refusal.{Refusal}
use Rattle.fixings.specs.declared.fixing.Fixing.{Fixing}

-- the day numbers of a list of fixings
abbrev pub dates_of : List Fixing → List ℕ
dates_of fs = map (λ f. f.date.number) fs

-- their rates
abbrev pub rates_of : List Fixing → List ℤ
rates_of fs = map (λ f. f.rate.ticks) fs

-- each fixing stands once at the front of the area, and the rest of the area is as it was
pub record Listed (fs before after : List Fixing) : Type 0 where
  pub once : IsPermutation fs (take (length fs) after)
  pub rest : drop (length fs) after ≡ drop (length fs) before

-- a list of fixings with the rate at one place altered
unfoldable pub altered : List Fixing → ℕ → Rate → List Fixing
altered [] i r = []
altered (f ∷ fs) zero r = record { date = f.date; rate = r } ∷ fs
altered (f ∷ fs) (suc i) r = f ∷ altered fs i r

-- the rate of the fixing of day d among the first n is altered, and nothing else
abbrev pub Restated : List Fixing → ℕ → ℕ → Rate → List Fixing → Type 0
Restated old n d r new = (i : ℕ) × FirstAt (dates_of (take n old)) d (Some i) × (new ≡ altered old i r)

-- the fixing x is put among the first n, after those dated before it and before those dated after it; the rest is left
abbrev pub Inserted : List Fixing → ℕ → Fixing → List Fixing → Type 0
Inserted old n x new =
    (i : ℕ) × (i ≤ n) × ((k : ℕ) → k < i → slice_index (dates_of (take n old)) k < x.date.number) × (i < n → x.date.number < slice_index (dates_of (take n old)) i)
    × (new ≡ (take i (take n old) ++ (x ∷ drop i (take n old))) ++ drop (n + 1) old)

-- whether each rate is a multiple of the benchmark's step
unfoldable pub all_on_step : BenchmarkCode → List Fixing → Bool
all_on_step b [] = true
all_on_step b (f ∷ fs) = is_on_step b f.rate.ticks && all_on_step b fs

-- why a table with n fixings takes none of day d, if it does not: there is no room, or the date is there
unfoldable pub judge_room : List Fixing → ℕ → ℕ → Option Told
judge_room table n d = cond (nat_lt n 600) (cond (has (dates_of (take n table)) d) (Some (plain 5)) None) (Some (plain 3))

-- why no rate of day d can be restated, if none can: the date is not there
unfoldable pub judge_known : List Fixing → ℕ → ℕ → Option Told
judge_known table n d = cond (has (dates_of (take n table)) d) None (Some (plain 6))

-- the same of a benchmark's book, where a rate off the step comes first
unfoldable pub judge_step : BenchmarkCode → ℤ → Option Told → Option Told
judge_step b r next = cond (is_on_step b r) next (Some (plain 2))

-- what a change of a table leaves where it goes through, and that it leaves all else
abbrev pub Unless : {T S : Type 0} → Result T Refusal → S → S → Type 0 → Type 0
Unless (Ok _) old new done = done
Unless (Err e) old new done = new ≡ old
