use Rattle.std.proofs.Common.{◌≡◌, take}
use Rattle.rules.specs.Accrual.{bounds_of, weight_of}
use Rattle.rules.proofs.run.accrued.Given as goal

abbrev pub invariant-loop-count : goal.invariant-loop-count
invariant-loop-count g l =
    (l.bounds.bounds ≡ bounds_of (g.R.AccrualRule.widened l.rule l.base) (take l.count l.seen))
    × (l.weight.days ≡ weight_of (take l.count l.seen))
