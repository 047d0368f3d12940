use Rattle.std.proofs.Common.{◌≡◌, ◌-◌}
use Rattle.fixings.specs.Files.{length_of, tail_of}
use Rattle.fixings.proofs.file.judge_fields.Given as goal

-- the fields to come give the length of the file
abbrev pub invariant-loop : goal.invariant-loop
invariant-loop l = length_of (tail_of l.fn.fields) ≡ length_of (tail_of l.fields)

abbrev pub decreases-loop : goal.decreases-loop
decreases-loop l = 4001 - l.fields.count
