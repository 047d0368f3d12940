use Rattle.std.proofs.Common.{◌≡◌, ℕ, ◌<◌, min, length}
use Rattle.schedule.specs.Days.{at}
use Rattle.schedule.proofs.schedule.Schedule.new.Given as goal

abbrev pub invariant-loop-k : goal.invariant-loop-k
invariant-loop-k l = (length l.days ≡ 465) × ((j : ℕ) → j < l.k → at l.days j ≡ min j 65)
