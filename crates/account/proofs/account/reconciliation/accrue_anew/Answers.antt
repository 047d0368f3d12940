use Rattle.std.proofs.Common.{[], ◌∷◌, ℤ, pos, subst}
use Rattle.account.specs.Histories.{Reached}
use Rattle.account.specs.Tally.{accrue, check, wind_back}
use Rattle.account.proofs.account.reconciliation.accrue_anew.Goals as goal

pub returns : goal.returns
returns g c =
    let m = g.P.Observations.meaning c.args.published.now in
    let n = g.Q.Observations.meaning c.args.restated.now in
    let opened = c.in_ok-open.ensures in
    let t = opened.1.0 in
    let accrued = (c.accrue.ensures.stated t [] opened.1.1.1.0).0 in
    let checked = (c.check.ensures.stated t (accrue m ∷ []) accrued).0 in
    let wound = (c.wind_back.ensures.stated t (accrue m ∷ check n ∷ []) checked).0 in
    let back : Reached t (accrue m ∷ check n ∷ wind_back (pos 0) ∷ []) c.wind_back.new.self = subst (λ (z : ℤ). Reached t (accrue m ∷ check n ∷ wind_back z ∷ []) c.wind_back.new.self) c.new.ensures wound in
    (opened.0, (t, (opened.1.1.0, c.accrue-2.ensures.stated t (accrue m ∷ check n ∷ wind_back (pos 0) ∷ []) back)))
