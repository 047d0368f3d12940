use Rattle.std.proofs.Common.{arith}
use Rattle.std.proofs.lemmas.Bool.Decides.{nat_tests}
use Rattle.calendar.specs.Target.{is_target_day}
use Rattle.calendar.proofs.Years.{holiday_year}
use Rattle.calendar.proofs.target.TargetCalendar.is_good.Goals as goal

pub returns-then-not-is_weekend : goal.returns-then-not-is_weekend
unfolding is_target_day
returns-then-not-is_weekend c =
    let e = holiday_year c.from.result.number c.args.date.number (omega arith) (omega arith) c.from.ensures in
    grind (arith, nat_tests)

pub returns-else-not-is_weekend : goal.returns-else-not-is_weekend
unfolding is_target_day
returns-else-not-is_weekend c = grind (arith, nat_tests)
