use Rattle.std.proofs.Common.{refl}
use Rattle.account.specs.Replies.{accrue_answer}
use Rattle.account.specs.Tally.{accrue}
use Rattle.account.proofs.Calls.{accrue_done, accrue_refused}
use Rattle.account.proofs.Made.{refused_by, refused_phase}
use Rattle.account.proofs.account.Account.accrue.Goals as goal

pub returns-in_err-phase : goal.returns-in_err-phase
returns-in_err-phase g c =
    refused_phase (accrue (g.P.Observations.meaning c.args.pile.now)) c.args.self.now accrue_answer (λ _. refl) c.from_residual.result _ c.from_residual.ensures.1 c.in_err-phase.ensures

pub returns-in_err-accrue : goal.returns-in_err-accrue
returns-in_err-accrue g c =
    let a = c.args.self.now in
    let m = g.P.Observations.meaning c.args.pile.now in
    let h = c.in_err-accrue.ensures in
    refused_by (accrue m) a accrue_answer (λ _. refl) _ c.from_residual-in_err-accrue.result _ c.from_residual-in_err-accrue.ensures.1
    (accrue_refused a m c.in_ok-phase.phase c.accrue.new.self c.in_ok-phase.ensures h.took _ h.judged _ refl refl)

pub returns : goal.returns
returns g c =
    let h = c.in_ok-accrue.ensures in
    accrue_done c.args.self.now (g.P.Observations.meaning c.args.pile.now) c.in_ok-phase.phase c.accrue.new.self c.in_ok-phase.ensures h.took h.judged _ refl refl
