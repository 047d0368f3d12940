-- Days by year, month and day, in the Gregorian calendar, counted from 2000-01-01, which is day 0 and a Saturday.
-- Assumes nothing.
use Rattle.std.specs.Prelude.{ℕ, ◌+◌, ◌-◌, ◌*◌, ◌/◌, ◌%◌, ◌<◌, ◌≤◌, Bool, cond, not, ◌&&◌, ◌||◌, ◌==◌, nat_lt}
use Rattle.calendar.specs.declared.month.Month.{Month}
use Rattle.calendar.specs.declared.month.Month.TheVariants.{January, February, March, April, May, June, July, August, September, October, November, December}

unfoldable pub is_leap : ℕ → Bool
is_leap y = (y % 4 == 0 && not (y % 100 == 0)) || y % 400 == 0

-- the day number of 1 January: 365 days for each year before, and one more for each leap year among them,
-- which are 2000 and every fourth from there but 2100 (up to 2400)
unfoldable pub new_year : ℕ → ℕ
new_year y = 365 * (y - 2000) + ((y - 2000 + 3) / 4 - (y - 2000 - 1) / 100)

-- the days of a year before a month, 29 February left out
abbrev pub days_before : Month → ℕ
days_before January = 0
days_before February = 31
days_before March = 59
days_before April = 90
days_before May = 120
days_before June = 151
days_before July = 181
days_before August = 212
days_before September = 243
days_before October = 273
days_before November = 304
days_before December = 334

abbrev pub is_past_february : Month → Bool
is_past_february m = nat_lt 31 (days_before m)

-- the day number of a day of a month of a year
unfoldable pub day_of : ℕ → Month → ℕ → ℕ
day_of y m d = new_year y + days_before m + cond (is_leap y && is_past_february m) 1 0 + d - 1

-- the year of a day number
pub record InYear (y d : ℕ) : Type 0 where
  pub since : new_year y ≤ d
  pub until : d < new_year (y + 1)

-- day 0 is a Saturday
abbrev pub is_weekend : ℕ → Bool
is_weekend d = nat_lt (d % 7) 2
