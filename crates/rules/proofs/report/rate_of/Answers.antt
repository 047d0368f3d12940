use Rattle.std.proofs.Common.{arith}
use Rattle.std.proofs.lemmas.Int.{ints}
use Rattle.std.proofs.lemmas.Option.{MatchOption-at_some}
use Rattle.rules.proofs.Kept.{excess_room, rate_is, some_of}
use Rattle.rules.proofs.report.rate_of.Goals as goal

pub nearest_div-places-requires-clause-room : goal.nearest_div-places-requires-clause-room
nearest_div-places-requires-clause-room c = excess_room c.args.base c.args.weight.days c.args.bound c.from.result c.from-2.result c.requires.reach c.from.ensures (cc)

pub overflow_cast-places : goal.overflow_cast-places
overflow_cast-places c =
    let r = rate_is c.args.base c.args.weight.days c.args.bound c.from.result c.from-2.result c.requires.reach c.from.ensures (cc) c.from-3.result _ c.requires.some (omega arith) c.nearest_div-places.ensures in
    omega (arith, ints, r.1)

pub unwrap-requires : goal.unwrap-requires
unwrap-requires c =
    let r = rate_is c.args.base c.args.weight.days c.args.bound c.from.result c.from-2.result c.requires.reach c.from.ensures (cc) c.from-3.result _ c.requires.some (omega arith) c.nearest_div-places.ensures in
    some_of _ _ _ c.new.ensures (λ p. omega (arith, ints, p, r.1))

pub returns : goal.returns
returns c =
    let r = rate_is c.args.base c.args.weight.days c.args.bound c.from.result c.from-2.result c.requires.reach c.from.ensures (cc) c.from-3.result _ c.requires.some (omega arith) c.nearest_div-places.ensures in
    let e = MatchOption-at_some _ _ _ c.unwrap.ensures c.new.ensures in
    omega (arith, ints, r.0, r.1)
