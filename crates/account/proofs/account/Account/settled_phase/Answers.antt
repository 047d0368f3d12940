use Rattle.std.proofs.Common.{◌≡◌, false, Result, sym, rules}
use Rattle.quantity.specs.Refusals.{answered}
use Rattle.quantity.specs.declared.refusal.Refusal.{Refusal}
use Rattle.coupon.specs.Lines.{figures_of}
use Rattle.account.specs.Accounts.{standing_of, terms_of}
use Rattle.account.specs.Phases.{settled_phase}
use Rattle.account.specs.Tally.{same_figures}
use Rattle.account.specs.declared.phase.Phase.{Phase}
use Rattle.account.proofs.Made.{handed_on, out_of_phase}
use Rattle.account.proofs.account.Account.settled_phase.Goals as goal

pub returns-in_err-phase : goal.returns-in_err-phase
returns-in_err-phase c =
    let a = c.args.self.now in
    let settled = settled_phase a.phase c.args.kind (same_figures c.args.figures (figures_of (terms_of a) (standing_of a))) in
    handed_on (λ (r : Result Phase Refusal). answered r ≡ settled) c.from_residual.result _ c.from_residual.ensures.1 (sym (out_of_phase a.phase c.args.kind _ _ c.in_err-phase.ensures))

pub returns-then-ne : goal.returns-then-ne
returns-then-ne c =
    let a = c.args.self.now in
    let other : same_figures c.args.figures (figures_of (terms_of a) (standing_of a)) ≡ false = search rules in
    search rules
