use Rattle.std.proofs.Common.{◌≡◌, ◌+ℤ◌, refl, arith, w64, to_z, of_z}
use mir.Syntax.{w128}
use Rattle.std.proofs.lemmas.Int.{ints}
use Rattle.quantity.proofs.Bases.{base_least}
use Rattle.rules.specs.Rate.{interest, SmallAmount}
use Rattle.rules.proofs.Nearest.{nearest_is}
use Rattle.rules.proofs.Kept.{yearly_fits, interest_fits, interest_room, amount_is}
use Rattle.rules.proofs.report.amount.Goals as goal

pub overflow_mul-interest : goal.overflow_mul-interest
overflow_mul-interest c = yearly_fits c.args.principal.cents (c.args.rate.places +ℤ c.args.margin.places) c.from-2.result c.from-3.result c.args.principal.most (omega (arith, ints)) (cc) (omega (arith, ints))

pub overflow_mul-interest-2 : goal.overflow_mul-interest-2
overflow_mul-interest-2 c =
    interest_fits c.args.base c.args.principal.cents c.args.days.days c.args.rate.places c.args.margin.places c.from-2.result c.from-3.result c.from-4.result c.args.principal.most (omega (arith, ints)) (omega arith) (cc) (omega (arith, ints)) (omega (arith, ints))

pub nearest_div-requires-clause-room : goal.nearest_div-requires-clause-room
nearest_div-requires-clause-room c =
    interest_room c.args.base c.args.principal.cents c.args.days.days c.args.rate.places c.args.margin.places c.from-2.result c.from-3.result c.from-4.result c.args.principal.most (omega (arith, ints)) (omega arith) (cc) (omega (arith, ints)) (omega (arith, ints))

pub overflow_cast-result : goal.overflow_cast-result
overflow_cast-result c =
    let a = amount_is c.args.base c.args.principal.cents c.args.days.days c.args.rate.places c.args.margin.places c.from-2.result c.from-3.result c.from-4.result c.args.principal.most (omega (arith, ints)) (omega arith) (cc) (omega (arith, ints)) (omega (arith, ints))
    c.from-5.result _ (cc) c.nearest_div.ensures in
    omega (arith, ints, a.1)

pub returns : goal.returns
returns c =
    let a = amount_is c.args.base c.args.principal.cents c.args.days.days c.args.rate.places c.args.margin.places c.from-2.result c.from-3.result c.from-4.result c.args.principal.most (omega (arith, ints)) (omega arith) (cc) (omega (arith, ints)) (omega (arith, ints))
    c.from-5.result _ (cc) c.nearest_div.ensures in
    let e : to_z w64 (of_z w64 (to_z w128 (of_z w128 c.nearest_div.result))) ≡ c.nearest_div.result = omega (arith, ints, a.1) in
    let small : SmallAmount c.nearest_div.result = record { least = omega (arith, ints, a.1); most = omega (arith, ints, a.1) } in
    rw (e, a.0) (record {
      value = refl;
      nearest = nearest_is (interest c.args.base c.args.principal.cents c.args.rate.places c.args.margin.places c.args.days.days) (omega (arith, base_least c.args.base));
      small = rw a.0 at small;
    })
