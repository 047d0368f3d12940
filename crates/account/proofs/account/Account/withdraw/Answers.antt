use Rattle.std.proofs.Common.{refl}
use Rattle.account.specs.Replies.{withdraw_answer}
use Rattle.account.specs.Tally.{withdraw, withdrawn}
use Rattle.account.specs.declared.phase.Kind.TheVariants.{Withdraw}
use Rattle.account.proofs.Calls.{due_done, due_refused}
use Rattle.account.proofs.account.Account.withdraw.Goals as goal

pub returns-in_err-phase : goal.returns-in_err-phase
returns-in_err-phase c =
    let d = c.args.due in
    due_refused c.args.self.now d Withdraw (withdraw d.figures) withdrawn withdraw_answer (refl, refl, λ _. refl, λ _. refl) c.from_residual.result _ c.from_residual.ensures.1 c.in_err-phase.ensures

pub returns : goal.returns
returns c =
    let d = c.args.due in
    let h = c.in_ok-phase.ensures in
    due_done c.args.self.now d Withdraw (withdraw d.figures) withdrawn withdraw_answer (refl, refl, λ _. refl, λ _. refl) c.in_ok-phase.phase _ _ h.0 refl refl refl
