-- The TARGET calendar: every date on which none of eight closings falls.
-- Assumes nothing.
use Rattle.std.specs.Prelude.{ℕ, zero, suc, ◌+◌, ◌-◌, ◌%◌, Bool, false, not, ◌&&◌, ◌||◌, List, [], ◌∷◌, map, ◌==◌, nat_eq, nat_le}
use Rattle.calendar.specs.declared.month.Month.TheVariants.{January, March, May, December}
use Rattle.calendar.specs.Civil.{day_of}
use Rattle.calendar.specs.Easter.{computus}

-- day 0 is a Saturday
abbrev pub is_saturday : ℕ → Bool
is_saturday d = d % 7 == 0

abbrev pub is_sunday : ℕ → Bool
is_sunday d = d % 7 == 1

-- Easter Sunday of the year y
unfoldable pub easter_sunday : ℕ → ℕ
easter_sunday y = day_of y March 22 + computus y

-- the closings of each year, by the day on which they fall in the year y
abbrev pub new_years_day : ℕ → ℕ
new_years_day y = day_of y January 1

abbrev pub good_friday : ℕ → ℕ
good_friday y = easter_sunday y - 2

abbrev pub easter_monday : ℕ → ℕ
easter_monday y = easter_sunday y + 1

abbrev pub labour_day : ℕ → ℕ
labour_day y = day_of y May 1

abbrev pub christmas_day : ℕ → ℕ
christmas_day y = day_of y December 25

abbrev pub day_after_christmas : ℕ → ℕ
day_after_christmas y = day_of y December 26

abbrev pub yearly : List (ℕ → ℕ)
yearly = new_years_day ∷ good_friday ∷ easter_monday ∷ labour_day ∷ christmas_day ∷ day_after_christmas ∷ []

-- whether a test passes at one of the n numbers from i on
unfoldable pub some : ℕ → ℕ → (ℕ → Bool) → Bool
some i zero f = false
some i (suc n) f = f i || some (suc i) n f

-- whether a yearly closing falls on day d, in a year from 2000 to 2199
unfoldable pub falls_on : (ℕ → ℕ) → ℕ → Bool
falls_on closing d = some 2000 200 (λ y. nat_eq d (closing y))

-- the closings in the order of the ECB's text
abbrev pub closings : List (ℕ → Bool)
closings = is_saturday ∷ is_sunday ∷ map falls_on yearly

-- whether some test of a list passes
abbrev pub any_of : {A : Type 0} → (A → Bool) → List A → Bool
any_of f [] = false
any_of f (x ∷ xs) = f x || any_of f xs

unfoldable pub is_target_day : ℕ → Bool
is_target_day d = nat_le d 73048 && not (any_of (λ closes. closes d) closings)

-- whether one of the year's closings falls on day d
abbrev pub is_holiday_of : ℕ → ℕ → Bool
is_holiday_of y d = any_of (λ closing. nat_eq d (closing y)) yearly
