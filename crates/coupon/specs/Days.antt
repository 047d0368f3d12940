-- What a line takes from a pile, and whether a pile is of a coupon's period.
-- Assumes nothing.
use Rattle.std.specs.Prelude.{ℕ, ◌+◌, Bool, false, ◌&&◌, pos, Ok, Err, Result, ◌==◌}
use Rattle.quantity.specs.declared.date.Date.{Date}
use Rattle.quantity.specs.declared.fault.Fault.{Fault}
use Rattle.quantity.specs.declared.weight.Weight.{Weight}
use Rattle.pile.specs.Piles.{Pile}
use Rattle.pile.specs.declared.observations.ObservedRate.{ObservedRate}
use Rattle.rules.specs.Rate.{same}
use Rattle.coupon.specs.declared.day.Day.{Day}
use Rattle.coupon.specs.declared.terms.Terms.{Terms}

-- the parts of a day as the pile answers them; the first fault is the day's
abbrev pub with_next : ObservedRate → Weight → Date → Result Date Fault → Result Day Fault
with_next o w d (Ok e) = Ok (record { date = d; next = e; weight = w; rate = o.rate; observed = o.observed })
with_next o w d (Err f) = Err f

abbrev pub with_date : Pile → ℕ → ObservedRate → Weight → Result Date Fault → Result Day Fault
with_date m k o w (Ok d) = with_next o w d (m.day (pos (k + 1)))
with_date m k o w (Err f) = Err f

abbrev pub with_weight : Pile → ℕ → ObservedRate → Result Weight Fault → Result Day Fault
with_weight m k o (Ok w) = with_date m k o w (m.day (pos k))
with_weight m k o (Err f) = Err f

abbrev pub with_rate : Pile → ℕ → Result ObservedRate Fault → Result Day Fault
with_rate m k (Ok o) = with_weight m k o (m.weight (pos k))
with_rate m k (Err f) = Err f

-- the pile's day k, day k + 1, weight, and rate with its observed date, or its fault: the rate's before the weight's
abbrev pub day_at : Pile → ℕ → Result Day Fault
day_at m k = with_rate m k (m.rate (pos k))

-- whether a pile has a date at a position
abbrev pub is_date : Result Date Fault → Date → Bool
is_date (Ok d) e = d.number == e.number
is_date (Err f) e = false

-- whether a pile has the number of days, the start and the end of the terms
abbrev pub same_period : Terms → Pile → Bool
same_period t m = m.n == t.n && (is_date (m.day (pos 0)) t.start && is_date (m.day (pos m.n)) t.end)

-- whether a pile gives just this day, in every part
abbrev pub same_day : Day → Result Day Fault → Bool
same_day d (Ok e) =
    (d.date.number == e.date.number)
    && (d.next.number == e.next.number
    && (d.weight.days == e.weight.days
    && (same d.rate.ticks e.rate.ticks
    && d.observed.number == e.observed.number)))
same_day d (Err f) = false
