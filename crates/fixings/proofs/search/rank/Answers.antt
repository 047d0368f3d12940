use Rattle.std.proofs.Common.{ltb, rules}
use Rattle.std.proofs.lemmas.List.Sorted.{IsPartitionPoint-from_clause, IsPartitionedBy-ltb}
use Rattle.fixings.specs.declared.fixing.Fixing.{Fixing}
use Rattle.fixings.proofs.Rising.{dates_ordered, ranked_at}
use Rattle.fixings.proofs.search.rank.Goals as goal

pub returns : goal.returns
returns c =
    let fs = c.args.fixings.now in
    let d = c.args.date.number in
    let parted = IsPartitionPoint-from_clause (λ (f : Fixing). ltb f.date.number d) fs c.partition_point.result c.partition_point.ensures.partitioned (IsPartitionedBy-ltb (λ (f : Fixing). f.date.number) fs d (dates_ordered fs c.requires)) (λ f r g called. search rules) in
    let bounds = ranked_at fs d c.partition_point.result c.partition_point.ensures.bound parted in
    record { within = c.partition_point.ensures.bound; below = bounds.0; above = bounds.1 }
