use Rattle.std.proofs.Common.{◌≡◌, ◌-◌, map, vec_len, vec_capacity}
use Rattle.fixings.specs.Files.{entry_of}
use Rattle.fixings.proofs.Tails.{Taken}
use Rattle.fixings.proofs.file.fill.Given as goal

-- the fixings so far are those that the reader took
abbrev pub invariant-loop-fixing : goal.invariant-loop-fixing
invariant-loop-fixing l = record {
  taken : Taken l.fn.fields (map entry_of l.fixings.items) l.fields;
  len : vec_len l.fixings ≡ l.fields.count;
  capacity : vec_capacity l.fixings ≡ vec_capacity l.fn.fixings;
}

abbrev pub decreases-loop-fixing : goal.decreases-loop-fixing
decreases-loop-fixing l = 4001 - l.fields.count
