use Rattle.std.proofs.Common.{arith}
use Rattle.calendar.specs.Civil.{new_year}
use Rattle.calendar.proofs.year.dated.YearFromDate.from.Goals as goal
use Rattle.calendar.proofs.year.dated.YearFromDate.from.Goals.{then-new_year-day, else-new_year-day}

pub invariant_of-result : goal.invariant_of-result
unfolding new_year
invariant_of-result c =
    elim c.if-new_year-day.branch [
      | then-new_year-day w ↦ record { first = omega (arith, w.number-is); last = omega (arith, w.number-is) }
      | else-new_year-day w ↦ record { first = omega (arith, w.number-is); last = omega (arith, w.number-is) }
    ]
