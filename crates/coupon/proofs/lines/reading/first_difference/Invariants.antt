use Rattle.std.proofs.Common.{◌≡◌, drop}
use Rattle.coupon.specs.Lines.{days_of}
use Rattle.coupon.specs.Verdicts.{first_difference}
use Rattle.coupon.proofs.lines.reading.first_difference.Given as goal

-- what is left decides the answer
abbrev pub invariant-loop-i : goal.invariant-loop-i
invariant-loop-i g l =
    let m = g.P.Observations.meaning l.pile in
    first_difference m l.i (days_of (drop l.i l.lines)) ≡ first_difference m 0 (days_of l.lines)
