use Rattle.std.proofs.Common.{refl, ap}
use Rattle.coupon.specs.declared.terms.Terms.{Terms}
use Rattle.account.specs.Replies.{status_answer}
use Rattle.account.specs.Tally.{status}
use Rattle.account.proofs.Calls.{status_done}
use Rattle.account.proofs.Made.{refused_phase}
use Rattle.account.proofs.account.Account.status.Goals as goal

pub returns-in_err-transition : goal.returns-in_err-transition
returns-in_err-transition c = refused_phase status c.args.self.now status_answer (λ _. refl) c.from_residual.result _ c.from_residual.ensures.1 c.in_err-transition.ensures

pub returns : goal.returns
returns c =
    status_done c.args.self.now c.in_ok-transition.field-0 c.in_ok-transition.ensures _ _ _ c.count.ensures.value (ap (λ (t : Terms). t.n) c.terms.ensures) c.bounds.ensures
