-- What each call comes to, by what its parts answer.
-- Assumes nothing.
use Rattle.std.proofs.Common.{◌≡◌, ℕ, ◌<◌, ◌≤◌, Bool, true, cond, length, ℤ, Some, None, Ok, Err, Result, sym, refl, ap, ◌∙◌, subst, arith}
use Rattle.std.proofs.lemmas.Int.{ints}
use Rattle.std.proofs.lemmas.Bool.Decides.{nat_tests}
use Rattle.std.specs.Result.{IsErrAnd}
use Rattle.quantity.specs.Refusals.{Told, plain, told}
use Rattle.rules.specs.declared.bounds.Bounds.{Bounds}
use Rattle.pile.specs.Piles.{Pile}
use Rattle.coupon.specs.Coupons.{Took, borne}
use Rattle.coupon.specs.Days.{day_at}
use Rattle.coupon.specs.Lines.{bounds_at, figures_of}
use Rattle.coupon.specs.Verdicts.{admitted, beyond, front, refusal_of}
use Rattle.coupon.specs.declared.day.Day.{Day}
use Rattle.coupon.specs.declared.figures.Figures.{Figures}
use Rattle.coupon.specs.declared.lines.Lines.{Lines}
use Rattle.coupon.specs.declared.terms.Terms.{Terms}
use Rattle.coupon.proofs.Admitted.{taken, took_same}
use Rattle.account.specs.declared.due.Due.{Due}
use Rattle.account.specs.declared.due.Returned.{Returned}
use Rattle.account.specs.declared.account.Account.{Account}
use Rattle.account.specs.declared.phase.Phase.{Phase}
use Rattle.account.specs.declared.phase.Phase.TheVariants.{Closed}
use Rattle.account.specs.declared.phase.Kind.{Kind}
use Rattle.account.specs.declared.phase.Kind.TheVariants.{Accrue, Close, Read, WindBack}
use Rattle.account.specs.Accounts.{standing_of, tally_of, terms_of}
use Rattle.account.specs.Histories.{Done}
use Rattle.account.specs.Phases.{in_phase, moved, phase_after, settled_phase}
use Rattle.account.specs.Tally.{Answer, Call, Tally, given_back, accrue, accrued, appended, carried, close, denied, judge, now_due, outcome, pay, same_figures, stands, status, wind_back, withdraw, wound_back}
use Rattle.account.proofs.Goes.{admitted-given}
use Rattle.account.proofs.Made.{account_same, goes_through, handed_on, phase_after_lem, ruled, turned_down}

-- accrue

module _ (a : Account) (m : Pile) (q : Phase) (b : Lines) (phased : Ok q ≡ moved a.phase Accrue) (took : Took (admitted (terms_of a) (standing_of a) m) a.lines b) where
  abbrev admits : Result Day Told
  admits = admitted (terms_of a) (standing_of a) m

  module _ (through : None ≡ refusal_of admits) where
    pub accrue_done : (e : Account) → e.phase ≡ q → e.lines ≡ b → Done (accrue m) a e accrued
    accrue_done e ep el =
        let k = taken admits a.lines b through took in
        let goes : outcome (terms_of a) (tally_of a) (accrue m) ≡ Ok accrued = let is = k.is in grind arith in
        let days : borne e.lines ≡ appended (standing_of a) (day_at m (length (standing_of a))) =
        ap borne el ∙ k.days ∙ sym (ap (appended (standing_of a)) (admitted-given (terms_of a) (standing_of a) m k.day k.is)) in
        goes_through (accrue m) a e accrued goes (ap (λ (x : Lines). x.terms) el ∙ k.terms) (cc (days, phase_after_lem a.phase q Accrue phased))

  module _ (x : Told) (refused : Some x ≡ refusal_of admits) where
    pub accrue_refused : (e : Account) → e.phase ≡ a.phase → e.lines ≡ b → Done (accrue m) a e (denied (accrue m) x)
    accrue_refused e ep el =
        let is : outcome (terms_of a) (tally_of a) (accrue m) ≡ Err x = grind arith in
        turned_down (accrue m) a e x is (account_same e a ep (el ∙ took_same admits x a.lines b refused took))

-- wind back

module _ (a : Account) (j : ℤ) (q : Phase) (phased : Ok q ≡ moved a.phase WindBack) where
  pub wind_back_done : (e : Account) → None ≡ beyond (standing_of a) j → e.phase ≡ q → terms_of e ≡ terms_of a → standing_of e ≡ front j (standing_of a) → Done (wind_back j) a e wound_back
  wind_back_done e through ep et es =
      goes_through (wind_back j) a e wound_back (grind arith) et (cc (phase_after_lem a.phase q WindBack phased))

  pub wind_back_refused : (x : Told) (e : Account) → Some x ≡ beyond (standing_of a) j → e.phase ≡ a.phase → e.lines ≡ a.lines → Done (wind_back j) a e (denied (wind_back j) x)
  wind_back_refused x e refused ep el = turned_down (wind_back j) a e x (grind arith) (account_same e a ep el)

-- close

module _ (a : Account) (q : Phase) (phased : Ok q ≡ moved a.phase Close) where
  pub close_early : length (standing_of a) < (terms_of a).n → Done close a a (denied close (plain 19))
  close_early h = turned_down close a a (plain 19) (grind (arith, nat_tests)) refl

  pub close_without : (e : Told) → e ≡ plain 19 → (terms_of a).n ≤ length (standing_of a) → None ≡ figures_of (terms_of a) (standing_of a) → Done close a a (denied close e)
  close_without e is h f = turned_down close a a e (grind (arith, nat_tests)) refl

  pub close_done : (e : Account) (f : Figures) → (terms_of a).n ≤ length (standing_of a) → Some f ≡ figures_of (terms_of a) (standing_of a) → e.phase ≡ q → e.lines ≡ a.lines → Done close a e (now_due f)
  close_done e f h is ep el =
      goes_through close a e (now_due f) (grind (arith, nat_tests)) (ap (λ (x : Lines). x.terms) el) (cc (phase_after_lem a.phase q Close phased))

-- the account's own due is accepted

figures_self : (f : Figures) → same_figures f (Some f) ≡ true
figures_self f = grind (arith, ints, nat_tests)

module _ (t : Terms) (s : Tally) (f : Figures) (closed : s.phase ≡ Closed) (is : Some f ≡ figures_of t s.standing) where
  same_due : same_figures f (figures_of t s.standing) ≡ true
  same_due = ap (same_figures f) (sym is) ∙ figures_self f

  pub withdraw_accepted : judge t s (withdraw f) ≡ None
  withdraw_accepted = let same = same_due in grind arith

  pub pay_accepted : judge t s (pay f) ≡ None
  pay_accepted = let same = same_due in grind arith

-- a call with a due

settled_ok : (p q : Phase) (k : Kind) (same : Bool) (x : Answer) → Ok q ≡ settled_phase p k same → (in_phase p k (cond same (Ok x) (Err (plain 20))) ≡ Ok x) × (q ≡ phase_after p k)
settled_ok p q k same x h = grind arith

settled_err : (p : Phase) (k : Kind) (same : Bool) (x : Answer) (e : Told) → Err e ≡ settled_phase p k same → in_phase p k (cond same (Ok x) (Err (plain 20))) ≡ Err e
settled_err p k same x e h = grind arith

module _ {T : Type 0} (a : Account) (due : Due) (k : Kind) (c : Call) (x : Answer) (reply : Result T Returned → Answer) where
  abbrev matches : Bool
  matches = same_figures due.figures (figures_of (terms_of a) (standing_of a))

  -- a call that asks whether the figures match, and hands the due back if it is turned down
  abbrev AsksDue : Type 0
  AsksDue =
      (outcome (terms_of a) (tally_of a) c ≡ in_phase a.phase k (cond matches (Ok x) (Err (plain 20)))) × (carried (tally_of a) c ≡ record { phase = phase_after a.phase k; standing = standing_of a })
      × ((e : Told) → denied c e ≡ given_back e due.figures)
      × ((r : Returned) → reply (Err r) ≡ given_back (told r.refusal) r.due.figures)

  pub due_done : AsksDue → (q : Phase) (e : Account) (y : Answer) → Ok q ≡ settled_phase a.phase k matches → y ≡ x → e.phase ≡ q → e.lines ≡ a.lines → Done c a e y
  due_done asks q e y h is ep el =
      let r = settled_ok a.phase q k matches x h in
      goes_through c a e y (asks.0 ∙ r.0 ∙ ap Ok (sym is)) (ap (λ (l : Lines). l.terms) el) (cc (r.1, asks.1))

  pub due_refused : AsksDue → (r : Result T Returned) (e : Returned) → IsErrAnd r (λ y. y ≡ e) → (Err (told e.refusal) ≡ settled_phase a.phase k matches) × (e.due ≡ due) → Done c a a (reply r)
  due_refused asks r e h back =
      let answered : denied c (told e.refusal) ≡ reply (Err e) = asks.2 (told e.refusal) ∙ ap (λ (d : Due). given_back (told e.refusal) d.figures) (sym back.1) ∙ sym (asks.3 e) in
      handed_on (λ y. Done c a a (reply y)) r e h (subst (Done c a a) answered (turned_down c a a (told e.refusal) (asks.0 ∙ settled_err a.phase k matches x (told e.refusal) back.0) refl))

-- status

pub status_done : (a : Account) (q : Phase) → Ok q ≡ moved a.phase Read → (k n : ℕ) (b : Bounds) → k ≡ length (standing_of a) → n ≡ (terms_of a).n → b ≡ bounds_at (terms_of a) (standing_of a)
    → Done status a a (stands (record { phase = a.phase; k = k; n = n; bounds = b }))
status_done a q phased k n b ek en eb = goes_through status a a _ (cc (ruled status a q phased)) refl refl
