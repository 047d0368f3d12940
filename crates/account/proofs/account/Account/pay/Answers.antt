use Rattle.std.proofs.Common.{refl, ap}
use Rattle.account.specs.Replies.{pay_answer}
use Rattle.account.specs.Tally.{pay, receipted}
use Rattle.account.specs.declared.phase.Kind.TheVariants.{Pay}
use Rattle.account.proofs.Calls.{due_done, due_refused}
use Rattle.account.proofs.account.Account.pay.Goals as goal

pub returns-in_err-phase : goal.returns-in_err-phase
returns-in_err-phase c =
    let d = c.args.due in
    due_refused c.args.self.now d Pay (pay d.figures) (receipted d.figures) pay_answer (refl, refl, λ _. refl, λ _. refl) c.from_residual.result _ c.from_residual.ensures.1 c.in_err-phase.ensures

pub returns : goal.returns
returns c =
    let d = c.args.due in
    let h = c.in_ok-phase.ensures in
    due_done c.args.self.now d Pay (pay d.figures) (receipted d.figures) pay_answer (refl, refl, λ _. refl, λ _. refl) c.in_ok-phase.phase _ _ h.0 (ap receipted h.1) refl refl
