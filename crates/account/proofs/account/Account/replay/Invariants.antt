use Rattle.std.proofs.Common.{take}
use Rattle.account.specs.Reconciliations.{Replayed, meanings}
use Rattle.account.proofs.account.Account.replay.Given as goal

abbrev pub invariant-loop-pile : goal.invariant-loop-pile
invariant-loop-pile g l = Replayed (meanings g.P.Observations.meaning (take l.pile-index l.piles)) l.initial.self l.self l.all
