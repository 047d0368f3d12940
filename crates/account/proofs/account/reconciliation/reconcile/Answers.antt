use Rattle.std.proofs.Common.{◌≡◌, sym, refl, ◌∙◌, arith, subst}
use Rattle.std.proofs.lemmas.Slice.Eq.{slice_eq-Decides}
use Rattle.coupon.specs.SameLines.{line_decides}
use Rattle.coupon.specs.declared.terms.Terms.{Terms}
use Rattle.account.specs.Accounts.{lines_in}
use Rattle.account.specs.Histories.{Opened}
use Rattle.account.specs.Reconciliations.{meanings}
use Rattle.account.proofs.Reconciles.{both_free, reconciled}
use Rattle.account.proofs.account.reconciliation.reconcile.Goals as goal

pub returns-then-all : goal.returns-then-all
returns-then-all g c =
    let issuer = c.args.issuer.now in
    let b = c.replay-all.new.self in
    let opened = subst (λ (t : Terms). Opened t c.begin.new.self) c.terms.ensures c.begin.ensures in
    let mine : c.as_slice.result.now ≡ lines_in issuer = c.as_slice.ensures.value ∙ sym issuer.lines.exact in
    let theirs : c.as_slice-then-all.result.now ≡ lines_in b = c.as_slice-then-all.ensures.value ∙ sym b.lines.exact in
    let same = slice_eq-Decides (λ x y. line_decides x y _ refl) c.as_slice.result.now c.as_slice-then-all.result.now c.eq.result c.eq.ensures in (
      both_free issuer.phase c.args.holder.now.phase c.in_ok-transition.field-0 c.in_ok-transition-2.field-0 c.in_ok-transition.ensures c.in_ok-transition-2.ensures,
      reconciled (meanings g.P.Observations.meaning c.args.piles.now) issuer c.begin.new.self b c.replay-all.result _ opened c.replay-all.ensures
          (λ yes. (c.if-all.true, sym mine ∙ same.0 yes ∙ theirs), λ both. same.1 (mine ∙ both.1 ∙ sym theirs)),
    )

pub returns-else-all : goal.returns-else-all
returns-else-all g c =
    let issuer = c.args.issuer.now in
    let b = c.replay-all.new.self in
    let opened = subst (λ (t : Terms). Opened t c.begin.new.self) c.terms.ensures c.begin.ensures in (
      both_free issuer.phase c.args.holder.now.phase c.in_ok-transition.field-0 c.in_ok-transition-2.field-0 c.in_ok-transition.ensures c.in_ok-transition-2.ensures,
      reconciled (meanings g.P.Observations.meaning c.args.piles.now) issuer c.begin.new.self b c.replay-all.result _ opened c.replay-all.ensures (grind arith),
    )
