-- The list calendar: Monday to Friday, less a list of holidays in rising order.
-- Assumes nothing.
use Rattle.std.specs.Prelude.{ℕ, suc, Bool, cond, not, ◌&&◌, List, [], ◌∷◌, map, length, Some, None, Option, nat_le, nat_lt}
use Rattle.quantity.specs.declared.date.Date.{Date}
use Rattle.quantity.specs.Orders.{has}
use Rattle.quantity.specs.Refusals.{Told, plain}
use Rattle.calendar.specs.Civil.{is_weekend}

-- the numbers of a list of dates
abbrev pub day_numbers : List Date → List ℕ
day_numbers ds = map (λ d. d.number) ds

-- the good days of a list of holidays
unfoldable pub is_list_day : List ℕ → ℕ → Bool
is_list_day holidays d = nat_le d 73048 && not (is_weekend d) && not (has holidays d)

-- the least day after all of a rising list
abbrev pub least_after : ℕ → List ℕ → ℕ
least_after least [] = least
least_after least (x ∷ xs) = least_after (suc x) xs

-- why one more holiday is turned down, if it is: no date, no room among 2,000, or not above the last
unfoldable pub judge_holiday : List ℕ → ℕ → Option Told
judge_holiday holidays d =
    cond (nat_le d 73048) (cond (nat_lt (length holidays) 2000) (cond (nat_le (least_after 0 holidays) d) None (Some (plain 4))) (Some (plain 3))) (Some (plain 2))
