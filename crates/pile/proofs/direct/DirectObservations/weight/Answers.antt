use Rattle.std.proofs.Common.{◌≡◌, rules}
use Rattle.pile.specs.Joined.{weighed}
use Rattle.pile.proofs.direct.DirectObservations.weight.Goals as goal

pub returns : goal.returns
returns g c =
    let s = g.S.AsSchedule.schedule c.args.self.now.schedule in
    let i = c.args.i.value in
    let gap = rw (c.in_ok-gap.ensures.ok_part, c.as_schedule.ensures) at c.gap.ensures in
    let days : c.unwrap.result.days ≡ c.in_ok-gap.gap.days = search rules in
    weighed s i c.in_ok-gap.gap c.unwrap.result gap days
