use Rattle.std.proofs.Common.{map, sym, ap, ◌∙◌, arith}
use Rattle.std.proofs.lemmas.List.{map_push}
use Rattle.fixings.specs.Files.{Rest, entry_of}
use Rattle.fixings.proofs.Tails.{taken_more, taken_all, read_more, read_end}
use Rattle.fixings.proofs.file.fill.Goals as goal

pub loop-fixing-preserved : goal.loop-fixing-preserved
loop-fixing-preserved c =
    let answer = read_more c.read_next.result c.in-Some.fixing (sym c.unwrap_or.ensures ∙ c.in-Some.is) in
    let moved = rw answer at c.read_next.ensures.after in
    let pushed = ap (map entry_of) c.push_reserved.ensures.items ∙ map_push entry_of c.loop-fixing.fixings.items c.in-Some.fixing in
    record {
      taken = rw (moved, pushed) (taken_more _ _ _ c.loop-fixing.invariant.taken c.read_next.ensures.few.0 _ (rw answer at c.read_next.ensures.read));
      len = omega (arith, c.push_reserved.ensures.len, c.loop-fixing.invariant.len, ap (λ (r : Rest). r.count) moved);
      capacity = c.push_reserved.ensures.capacity ∙ c.loop-fixing.invariant.capacity;
    }

pub returns : goal.returns
returns c =
    let taken = c.loop-fixing.invariant.taken in
    let all = taken_all _ _ _ taken c.read_next.ensures.few.0 (read_end _ _ c.read_next.ensures.few.0 taken.good c.read_next.ensures.read (sym c.unwrap_or.ensures ∙ c.in_default.is)) in
    record {
      items = all.0;
      few = omega (arith, c.loop-fixing.invariant.len, c.read_next.ensures.few.0);
      capacity = c.loop-fixing.invariant.capacity;
      lawful = all.1;
    }
