use Rattle.std.proofs.Common.{◌≡◌, ℕ, ◌+◌, ◌<◌, false}
use Rattle.schedule.proofs.schedule.build.before.Given as goal

-- the days passed are not good
abbrev pub invariant-loop-back : goal.invariant-loop-back
invariant-loop-back g l = (x : ℕ) → x < l.day.number → l.day.number < x + l.back → g.C.Calendar.good l.calendar x ≡ false
