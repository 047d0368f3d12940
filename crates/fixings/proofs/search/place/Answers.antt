use Rattle.std.proofs.Common.{rules}
use Rattle.std.proofs.lemmas.List.Sorted.{answers_always}
use Rattle.quantity.specs.Dated.{FirstAt}
use Rattle.fixings.specs.declared.fixing.Fixing.{Fixing}
use Rattle.fixings.specs.Fixings.{dates_of}
use Rattle.fixings.proofs.Rising.{placed}
use Rattle.fixings.proofs.search.place.Goals as goal

pub returns : goal.returns
returns c =
    let facts = c.binary_search_by_key.ensures in
    let by_key = facts.position (λ (f : Fixing). f.date) (answers_always _ _ _ (λ f a r g called. search rules)) in
    let found : FirstAt (dates_of c.args.fixings.now) c.args.date.number c.ok.result = rw c.ok.ensures.value (placed _ _ c.binary_search_by_key.result c.requires facts.bound by_key) in
    search rules
