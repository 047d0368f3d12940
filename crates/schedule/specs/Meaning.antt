-- What a schedule says.
use Rattle.std.specs.Prelude.{◌≡◌, ℕ, ◌+◌, ◌-◌, ◌<◌, ◌≤◌, Bool, true, false, ℤ, pos, ◌+ℤ◌, slice_index_or, unsigned_abs}
use Rattle.quantity.specs.declared.date.Date.{Date}
use Rattle.quantity.specs.declared.days.DayCount.{DayCount}
use Rattle.schedule.specs.Positions.{within}
use Rattle.schedule.specs.declared.schedule.Schedule.{Schedule}
use Rattle.schedule.specs.Days.{at, epoch}
use Rattle.schedule.specs.Refusals.{Reason, Says}

-- the day at position i
abbrev pub day_at : Schedule → ℤ → Date
day_at s i = slice_index_or s.days (unsigned_abs (i +ℤ pos 64)) epoch

-- the days from position i to the next
abbrev pub gap_at : Schedule → ℤ → DayCount
gap_at s i = record { days = (day_at s (i +ℤ pos 1)).number - (day_at s i).number }

-- The schedule of the good days from 64 before the start to the end, which no refusal forbids.
pub record Scheduled (good : ℕ → Bool) (start end : Date) (s : Schedule) : Type 0 where
  pub allowed : (q : Reason) → Says good start.number end.number q → ⊥
  pub starts : (day_at s (pos 0)).number ≡ start.number
  pub ends : (day_at s (pos s.n)).number ≡ end.number
  pub days_good : (i : ℤ) → within (s.n + 1) i ≡ true → good (day_at s i).number ≡ true
  pub none_between : (i : ℤ) → within s.n i ≡ true → (x : ℕ) → (day_at s i).number < x → x < (day_at s (i +ℤ pos 1)).number → good x ≡ false
  pub rest : (k : ℕ) → s.n + 64 < k → k < 465 → slice_index_or s.days k epoch ≡ end

-- two schedules with the same day at each position
pub record Same (s t : Schedule) : Type 0 where
  pub length : s.n ≡ t.n
  pub days : (k : ℕ) → k ≤ s.n + 64 → at s.days k ≡ at t.days k
