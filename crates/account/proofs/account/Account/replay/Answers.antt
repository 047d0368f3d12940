use Rattle.std.proofs.Common.{◌&&◌, List, take, sym, subst}
use Rattle.pile.specs.Piles.{Pile}
use Rattle.account.specs.Reconciliations.{Replayed, meanings}
use Rattle.account.proofs.Reconciles.{meanings_more, replayed_more}
use Rattle.account.proofs.account.Account.replay.Goals as goal

pub loop-pile-preserved : goal.loop-pile-preserved
loop-pile-preserved g c =
    let f = g.P.Observations.meaning in
    let a = c.args.self.now in
    let i = c.loop-pile.pile-index in
    let more = meanings_more f c.args.piles.now i c.pile-item.result c.loop-pile-test.true c.pile-item.is in
    let R : List Pile → Type 0 = λ ms. Replayed ms a c.accrue.new.self (c.loop-pile.all && c.is_ok-all.result) in
    subst R (sym more) (replayed_more a c.loop-pile.self c.accrue.new.self (meanings f (take i c.args.piles.now)) c.loop-pile.all c.is_ok-all.result (f c.pile-item.result.now) c.accrue.result c.loop-pile.invariant c.accrue.ensures c.is_ok-all.ensures.value)
