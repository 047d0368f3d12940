use Rattle.std.proofs.Common.{refl}
use Rattle.account.specs.Replies.{check_answer}
use Rattle.account.specs.Tally.{agrees, check}
use Rattle.account.proofs.Made.{read_done, refused_phase}
use Rattle.account.proofs.account.Account.check.Goals as goal

pub returns-in_err-transition : goal.returns-in_err-transition
returns-in_err-transition g c =
    refused_phase (check (g.P.Observations.meaning c.args.pile.now)) c.args.self.now check_answer (λ _. refl) c.from_residual.result _ c.from_residual.ensures.1 c.in_err-transition.ensures

pub returns : goal.returns
returns g c =
    read_done (check (g.P.Observations.meaning c.args.pile.now)) c.args.self.now check_answer (λ _. refl) agrees c.in_ok-transition.field-0 _ (λ _. refl) refl refl c.in_ok-transition.ensures c.check.result c.check.ensures
