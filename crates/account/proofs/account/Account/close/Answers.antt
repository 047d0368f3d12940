use Rattle.std.proofs.Common.{◌≡◌, Some, None, refl, ap, arith}
use Rattle.quantity.specs.declared.refusal.Refusal.TheVariants.{NotAllAccrued}
use Rattle.quantity.specs.Refusals.{told}
use Rattle.coupon.specs.Lines.{figures_of}
use Rattle.coupon.specs.declared.terms.Terms.{Terms}
use Rattle.account.specs.Accounts.{standing_of, terms_of}
use Rattle.account.specs.Replies.{close_answer}
use Rattle.account.specs.Tally.{close}
use Rattle.account.specs.declared.phase.Kind.TheVariants.{Close}
use Rattle.account.proofs.Calls.{close_done, close_early, close_without, pay_accepted, withdraw_accepted}
use Rattle.account.proofs.Made.{phase_after_lem, refused_by, refused_phase}
use Rattle.account.proofs.account.Account.close.Goals as goal

pub returns-in_err-phase-clause-done : goal.returns-in_err-phase-clause-done
returns-in_err-phase-clause-done c = refused_phase close c.args.self.now close_answer (λ _. refl) c.from_residual.result _ c.from_residual.ensures.1 c.in_err-phase.ensures

pub returns-then-count-terms : goal.returns-then-count-terms
returns-then-count-terms c =
    let a = c.args.self.now in
    let days = ap (λ (t : Terms). t.n) c.terms.ensures in
    record { done = close_early a c.in_ok-phase.phase c.in_ok-phase.ensures (omega (arith, c.count.ensures.value, days, c.if-count-terms.true)); accepted = tt }

pub returns-in_err-figures-clause-done : goal.returns-in_err-figures-clause-done
returns-in_err-figures-clause-done c =
    let a = c.args.self.now in
    let days = ap (λ (t : Terms). t.n) c.terms.ensures in
    let none : None ≡ figures_of (terms_of a) (standing_of a) = grind arith in
    let refusal : c.in_err-figures.field-0.0 ≡ NotAllAccrued = grind arith in
    refused_by close a close_answer (λ _. refl) a c.from_residual-in_err-figures.result _ c.from_residual-in_err-figures.ensures.1
    (close_without a c.in_ok-phase.phase c.in_ok-phase.ensures _ (ap told refusal) (omega (arith, c.count.ensures.value, days, c.if-count-terms.false)) none)

pub returns : goal.returns
returns c =
    let a = c.args.self.now in
    let q = c.in_ok-phase.phase in
    let phased = c.in_ok-phase.ensures in
    let f = c.in_ok-figures.figures in
    let own : Some f ≡ figures_of (terms_of a) (standing_of a) = grind arith in
    let days = ap (λ (t : Terms). t.n) c.terms.ensures in
    let closed = phase_after_lem a.phase q Close phased in
    record {
      done = close_done a q phased _ f (omega (arith, c.count.ensures.value, days, c.if-count-terms.false)) own refl refl;
      accepted = (withdraw_accepted (terms_of a) (record { phase = q; standing = standing_of a }) f closed own, pay_accepted (terms_of a) (record { phase = q; standing = standing_of a }) f closed own);
    }
