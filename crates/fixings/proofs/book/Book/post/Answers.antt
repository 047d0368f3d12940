use Rattle.std.proofs.Common.{◌<◌, length, sym, refl, ◌∙◌, arith, rules}
use Rattle.fixings.proofs.Inserts.{posted}
use Rattle.fixings.proofs.book.Book.post.Goals as goal

pub invariant_of-self : goal.invariant_of-self
invariant_of-self c =
    let book = c.args.self.now in
    let within : book.count < length book.records = search rules in
    let p = posted _ _ _ _ (record { date = c.args.date; rate = c.args.rate }) c.find.result _ _ c.kept-kept.ensures within c.rank-i.ensures.within c.rank-i.ensures.below c.rank-i.ensures.above c.find.ensures (sym c.is_some.ensures ∙ c.if-is_some.false) c.rotate_right.ensures.after (rw c.kept-kept.ensures book.rising) (rw c.kept-kept.ensures book.stepped) (sym c.is_on_step.ensures ∙ c.if-not-is_on_step.false) in
    record { few = omega arith; rising = p.rising; stepped = p.stepped }

pub returns-clause-done : goal.returns-clause-done
returns-clause-done c =
    let book = c.args.self.now in
    let within : book.count < length book.records = search rules in
    let p = posted _ _ _ _ (record { date = c.args.date; rate = c.args.rate }) c.find.result _ _ c.kept-kept.ensures within c.rank-i.ensures.within c.rank-i.ensures.below c.rank-i.ensures.above c.find.ensures (sym c.is_some.ensures ∙ c.if-is_some.false) c.rotate_right.ensures.after (rw c.kept-kept.ensures book.rising) (rw c.kept-kept.ensures book.stepped) (sym c.is_on_step.ensures ∙ c.if-not-is_on_step.false) in
    (p.inserted, refl, refl)
