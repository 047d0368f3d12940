use Rattle.std.proofs.Common.{◌≡◌, true, pos, ◌+ℤ◌, length, w32, SFits, rules}
use Rattle.std.proofs.lemmas.Int.{to_z-of_z}
use Rattle.schedule.specs.Positions.{within}
use Rattle.schedule.proofs.Indices.{gap_is}
use Rattle.schedule.proofs.schedule.Schedule.gap.Goals as goal

pub returns : goal.returns
returns c =
    let s = c.args.self.now in
    let i = c.args.i.value in
    let inside : within s.n i ≡ true = search rules in
    let long : length s.days ≡ 465 = search rules in
    let fits : SFits w32 c.value.result = search rules in
    let next_fits : SFits w32 (c.value.result +ℤ pos 64) = search rules in
    rw inside (gap_is s i c.value.result c.index-self-k.result c.index-self-k-2.result c.since.result long inside c.value.ensures (simp to_z-of_z at c.since.ensures))
