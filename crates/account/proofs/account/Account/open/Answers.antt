use Rattle.std.proofs.Common.{◌≡◌, pos, None, Ok, sym, refl, ap, ◌∙◌, arith, w32, SFits, rules}
use Rattle.std.proofs.lemmas.Bool.Decides.{nat_tests}
use Rattle.std.proofs.lemmas.Int.{ints, to_z-of_z}
use Rattle.quantity.specs.declared.amount.CalculationAmount.{CalculationAmount}
use Rattle.quantity.specs.declared.margin.Margin.{Margin}
use Rattle.account.specs.declared.offer.Offer.{Offer}
use Rattle.account.specs.declared.phase.Phase.{Phase}
use Rattle.account.specs.declared.phase.Kind.TheVariants.{Open}
use Rattle.account.specs.Openings.{judge_opening}
use Rattle.account.specs.Phases.{moved}
use Rattle.account.proofs.States.{reached_none, states}
use Rattle.account.proofs.account.Account.open.Goals as goal

opening_goes : (p q : Phase) (o : Offer) (a : CalculationAmount) (m : Margin) → a.cents ≡ o.amount → m.places ≡ o.margin → Ok q ≡ moved p Open → judge_opening p o ≡ None
opening_goes p q o a m ea em h =
    let a1 = a.least in
    let a2 = a.most in
    let m1 = m.least in
    let m2 = m.most in
    grind (arith, ints, nat_tests)

pub returns : goal.returns
returns g c =
    let m = g.P.Observations.meaning c.args.pile.now in
    let o = c.args.offer in
    let b = c.begin.new.self in
    let fits : SFits w32 o.margin = search rules in
    let margin : c.in_ok-margin.margin.places ≡ o.margin = simp to_z-of_z at c.in_ok-margin.ensures in
    let reached = reached_none _ b c.begin.ensures in (
      opening_goes c.args.self.now.phase c.in_ok-transition.field-0 o c.in_ok-amount.amount c.in_ok-margin.margin c.in_ok-amount.ensures margin c.in_ok-transition.ensures,
      (
        _,
        (
          record {
            n = c.length-n.ensures;
            start = c.day_of.ensures;
            end = ap (λ k. m.day (pos k)) (sym c.length-n.ensures) ∙ c.day_of-2.ensures;
            rule = refl;
            benchmark = refl;
            note = refl;
            amount = c.in_ok-amount.ensures;
            margin = margin;
          },
          (reached, states _ _ b reached),
        ),
      ),
    )
