use Rattle.std.proofs.Common.{◌≡◌, pos, ◌*ℤ◌, refl, arith, w64, to_z, of_z}
use Rattle.std.proofs.lemmas.Int.{ints}
use Rattle.rules.specs.Accrual.{gain}
use Rattle.rules.proofs.Reach.{gain_most}
use Rattle.rules.proofs.observation.Observation.gain.Goals as goal

pub returns : goal.returns
returns c =
    let m = gain_most c.args.self in
    let a : to_z w64 (of_z w64 c.from.result) ≡ c.args.self.rate.ticks = omega (arith, ints) in
    let b : to_z w64 (of_z w64 c.from-2.result) ≡ pos c.args.self.weight.days = omega (arith, ints) in
    let e : to_z w64 (of_z w64 (to_z w64 (of_z w64 c.from.result) *ℤ to_z w64 (of_z w64 c.from-2.result))) ≡ gain c.args.self = rw (a, b) (omega (arith, ints, m)) in
    rw e (record { value = refl; small = m })
