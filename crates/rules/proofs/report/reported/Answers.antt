use Rattle.std.proofs.Common.{◌<◌, ap₂, ◌∙◌, arith, w64, SFits, rules}
use Rattle.std.proofs.lemmas.Int.{to_z-of_z}
use Rattle.rules.specs.Rate.{bound_rate, same, Reports}
use Rattle.rules.proofs.Nearest.{nearest_is}
use Rattle.rules.proofs.report.reported.Goals as goal

pub returns : goal.returns
returns c =
    let some : 0 < c.args.weight.days = omega (arith, c.if-number-eq0.false) in
    let f : SFits w64 c.bounds-lo.result.lo = search rules in
    let g : SFits w64 c.bounds-lo.result.hi = search rules in
    let l = simp to_z-of_z at c.rate_of-rate.ensures in
    let u = simp to_z-of_z at c.rate_of-upper.ensures in
    let r : Reports c.args.base c.args.weight.days c.bounds-lo.result (record { rate = c.rate_of-rate.result; settled = c.eq.result }) =
    record { rate = l; nearest = rw l (nearest_is (bound_rate c.args.base c.args.weight.days c.bounds-lo.result.lo) (omega arith)); settled = c.eq.ensures ∙ ap₂ same u l } in
    (some, rw c.bounds-lo.ensures.value at r)
