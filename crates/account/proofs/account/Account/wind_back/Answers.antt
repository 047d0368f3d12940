use Rattle.std.proofs.Common.{refl}
use Rattle.account.specs.Replies.{wind_back_answer}
use Rattle.account.specs.Tally.{wind_back}
use Rattle.account.proofs.Calls.{wind_back_done, wind_back_refused}
use Rattle.account.proofs.Made.{refused_by, refused_phase}
use Rattle.account.proofs.account.Account.wind_back.Goals as goal

pub returns-in_err-phase : goal.returns-in_err-phase
returns-in_err-phase c = refused_phase (wind_back c.args.j.value) c.args.self.now wind_back_answer (λ _. refl) c.from_residual.result _ c.from_residual.ensures.1 c.in_err-phase.ensures

pub returns-in_err-wind_back : goal.returns-in_err-wind_back
returns-in_err-wind_back c =
    let a = c.args.self.now in
    let h = c.in_err-wind_back.ensures in
    refused_by (wind_back c.args.j.value) a wind_back_answer (λ _. refl) _ c.from_residual-in_err-wind_back.result _ c.from_residual-in_err-wind_back.ensures.1
    (wind_back_refused a c.args.j.value c.in_ok-phase.phase c.in_ok-phase.ensures _ _ h.judged refl h.left)

pub returns : goal.returns
returns c =
    let h = c.in_ok-wind_back.ensures in
    wind_back_done c.args.self.now c.args.j.value c.in_ok-phase.phase c.in_ok-phase.ensures _ h.judged refl h.left.0 h.left.1
