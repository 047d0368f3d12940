use Rattle.schedule.proofs.Filling.{Going}
use Rattle.schedule.proofs.schedule.build.fill.Given as goal

abbrev pub invariant-loop-k : goal.invariant-loop-k
invariant-loop-k g l = Going (g.C.Calendar.good l.calendar) l.n l.initial.days l.days l.k
