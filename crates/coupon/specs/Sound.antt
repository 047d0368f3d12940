-- What is true of the lines that the rules give.
-- Assumes nothing.
use Rattle.std.specs.Prelude.{◌≡◌, ℕ, ◌+◌, ◌*◌, ◌^◌, ◌≤◌, true, ◌⊎◌, List, length, take, pos, ◌+ℤ◌, ◌*ℤ◌, ◌≤ℤ◌, Some}
use Rattle.std.specs.List.{slice_get}
use Rattle.quantity.specs.Benchmarks.{scale}
use Rattle.rules.specs.Reach.{unit}
use Rattle.rules.specs.Rounding.{rounded}
use Rattle.coupon.specs.declared.day.Day.{Day}
use Rattle.coupon.specs.declared.line.Line.{Line}
use Rattle.coupon.specs.declared.terms.Terms.{Terms}
use Rattle.coupon.specs.Lines.{bounds_before, cumulative_before, days_of, exact_rate_at, factor_at, last_of, sum_of_daily, year_base}

-- The bounds after k lines, which are one where k is 0. With X / B^k the exact factor of the first k days, lo × B^k ≤ U × X ≤ hi × B^k, and hi − lo ≤ 3k.
pub record Enclosed (t : Terms) (ls : List Line) (ds : List Day) (k : ℕ) : Type 0 where
  pub low : ((bounds_before (last_of (take k ls))).lo *ℤ pos (scale (year_base t) ^ k)) ≤ℤ (pos unit *ℤ factor_at t (take k ds))
  pub high : (pos unit *ℤ factor_at t (take k ds)) ≤ℤ ((bounds_before (last_of (take k ls))).hi *ℤ pos (scale (year_base t) ^ k))
  pub narrow : (bounds_before (last_of (take k ls))).hi ≤ℤ ((bounds_before (last_of (take k ls))).lo +ℤ pos (3 * k))

-- A settled line's rate is the exact rate of its days, rounded; on any other line that rounding is the reported rate or one place more.
pub record Faithful (t : Terms) (ds : List Day) (l : Line) : Type 0 where
  pub settled : l.settled ≡ true → rounded (exact_rate_at t ds) ≡ l.reported
  pub otherwise : (rounded (exact_rate_at t ds) ≡ l.reported) ⊎ (rounded (exact_rate_at t ds) ≡ l.reported +ℤ pos 1)

-- lines that bear these days, one for each and in their order, with both
pub record Sound (t : Terms) (ls : List Line) (ds : List Day) : Type 0 where
  pub bear : days_of ls ≡ ds
  pub enclosed : (k : ℕ) → k ≤ length ls → Enclosed t ls ds k
  pub faithful : (i : ℕ) (l : Line) → slice_get ls i ≡ Some l → Faithful t (take (i + 1) ds) l

-- the daily amounts of the first k lines add up to the cumulative amount there
abbrev pub AddUp : List Line → Type 0
AddUp ls = (k : ℕ) → sum_of_daily (take k ls) ≡ cumulative_before (last_of (take k ls))
