use Rattle.std.proofs.Common.{refl}
use Rattle.quantity.specs.Benchmarks.{scale}
use Rattle.rules.specs.Rounding.{floor_div, ceil_div}
use Rattle.rules.proofs.Reach.{floor_most, ceil_most}
use Rattle.rules.proofs.Kept.{part_fits, part_room, sum_fits, sum_kept}
use Rattle.rules.proofs.rule.raised.Goals as goal

pub overflow_mul-basis : goal.overflow_mul-basis
overflow_mul-basis c = part_fits c.bounds-basis.result.lo c.gain-gain.result c.bounds-basis.ensures.low c.gain-gain.ensures.small

pub overflow_add-result : goal.overflow_add-result
overflow_add-result c =
    sum_fits floor_div floor_most c.bounds-lo.result.lo c.bounds-basis.result.lo c.gain-gain.result (scale c.args.base) c.bounds-lo.ensures.low c.bounds-basis.ensures.low c.gain-gain.ensures.small _ c.floor_div.ensures

pub overflow_mul-basis-2 : goal.overflow_mul-basis-2
overflow_mul-basis-2 c = part_fits c.bounds-basis.result.hi c.gain-gain.result c.bounds-basis.ensures.high c.gain-gain.ensures.small

pub ceil_div-requires : goal.ceil_div-requires
ceil_div-requires c = part_room c.bounds-basis.result.hi c.gain-gain.result c.bounds-basis.ensures.high c.gain-gain.ensures.small

pub overflow_add-result-2 : goal.overflow_add-result-2
overflow_add-result-2 c =
    sum_fits ceil_div ceil_most c.bounds-lo.result.hi c.bounds-basis.result.hi c.gain-gain.result (scale c.args.base) c.bounds-lo.ensures.high c.bounds-basis.ensures.high c.gain-gain.ensures.small _ c.ceil_div.ensures

pub returns : goal.returns
returns c =
    let l = sum_kept floor_div floor_most c.bounds-lo.result.lo c.bounds-basis.result.lo c.gain-gain.result (scale c.args.base) c.bounds-lo.ensures.low c.bounds-basis.ensures.low c.gain-gain.ensures.small _ c.floor_div.ensures in
    let h = sum_kept ceil_div ceil_most c.bounds-lo.result.hi c.bounds-basis.result.hi c.gain-gain.result (scale c.args.base) c.bounds-lo.ensures.high c.bounds-basis.ensures.high c.gain-gain.ensures.small _ c.ceil_div.ensures in
    rw (l, h, c.bounds-lo.ensures.value, c.bounds-basis.ensures.value, c.gain-gain.ensures.value) refl
