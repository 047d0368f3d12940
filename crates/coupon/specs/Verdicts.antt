-- Why a day, a position or a pile is turned down, on the terms and the days that stand.
-- Assumes nothing.
use Rattle.std.specs.Prelude.{ℕ, ◌+◌, Bool, false, cond, ◌&&◌, List, [], ◌∷◌, length, take, ℤ, pos, negsuc, Some, None, Ok, Err, Option, Result, nat_le, nat_lt}
use Rattle.std.specs.List.{slice_get}
use Rattle.quantity.specs.Refusals.{Told, plain, faulted}
use Rattle.quantity.specs.declared.fault.Fault.{Fault}
use Rattle.quantity.specs.declared.position.Position.{Position}
use Rattle.pile.specs.Piles.{Pile}
use Rattle.coupon.specs.declared.day.Day.{Day}
use Rattle.coupon.specs.declared.line.Line.{Line}
use Rattle.coupon.specs.declared.terms.Terms.{Terms}
use Rattle.coupon.specs.Days.{day_at, is_date, same_day, same_period}
use Rattle.coupon.specs.Lines.{next_date, weight_of}

-- a pile's day, with its fault as it is told
abbrev pub given : Result Day Fault → Result Day Told
given (Ok d) = Ok d
given (Err f) = Err (faulted f.cause f.position.value f.above)

-- the pile's day for the next line: 15 where every day has its line, 16 where the pile is of another period or has another day next, then its fault
abbrev pub due_day : Terms → List Day → Pile → Result Day Told
due_day t ds m =
    cond (nat_lt (length ds) t.n)
    (cond (same_period t m && is_date (m.day (pos (length ds))) (next_date t.start ds))
    (given (day_at m (length ds)))
    (Err (plain 16)))
    (Err (plain 15))

-- 17 where the sum of weights would pass 400
abbrev pub lightest : ℕ → Day → Result Day Told
lightest W d = cond (nat_le (W + d.weight.days) 400) (Ok d) (Err (plain 17))

abbrev pub and_light : ℕ → Result Day Told → Result Day Told
and_light W (Ok d) = lightest W d
and_light W (Err e) = Err e

-- the day that an accrual over the pile appends to the standing days, or why there is none
abbrev pub admitted : Terms → List Day → Pile → Result Day Told
admitted t ds m = and_light (weight_of ds) (due_day t ds m)

abbrev pub refusal_of : {T : Type 0} → Result T Told → Option Told
refusal_of (Ok x) = None
refusal_of (Err e) = Some e

-- the position of the line after k others
abbrev pub position_at : ℕ → Position
position_at k = record { value = pos k }

-- whether a position is one of 0 to k
abbrev pub is_up_to : ℕ → ℤ → Bool
is_up_to k (pos n) = nat_le n k
is_up_to k (negsuc n) = false

-- 18 where a wind back goes beyond the days that stand, or below 0
abbrev pub beyond : List Day → ℤ → Option Told
beyond ds j = cond (is_up_to (length ds) j) None (Some (plain 18))

-- the first j of a list
abbrev pub front : {A : Type 0} → ℤ → List A → List A
front (pos n) xs = take n xs
front (negsuc n) xs = []

-- the line at a position, or 18
abbrev pub found : Option Line → Result Line Told
found (Some l) = Ok l
found None = Err (plain 18)

abbrev pub line_at : List Line → ℤ → Result Line Told
line_at ls (pos n) = found (slice_get ls n)
line_at ls (negsuc n) = Err (plain 18)

-- the first position from k on where the pile differs from the days or faults, or else the position after them
abbrev pub first_difference : Pile → ℕ → List Day → ℕ
first_difference m k [] = k
first_difference m k (d ∷ ds) = cond (same_day d (day_at m k)) (first_difference m (k + 1) ds) k

-- what a check of the pile answers, or 16
abbrev pub checked : Terms → List Day → Pile → Result Position Told
checked t ds m = cond (same_period t m) (Ok (position_at (first_difference m 0 ds))) (Err (plain 16))
