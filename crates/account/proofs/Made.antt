-- A call that goes through, and one that is turned down.
-- Assumes nothing.
use Rattle.std.proofs.Common.{◌≡◌, true, length, Some, None, Ok, Err, Result, sym, refl, ap, ◌∙◌, subst, arith}
use mathlib.Core.Bool.{Bool-set}
use mathlib.Core.HLevel.{Σ_prop_path}
use Rattle.std.specs.Result.{IsErrAnd}
use Rattle.std.proofs.lemmas.Result.{err_from_is_err_and}
use Rattle.quantity.specs.Refusals.{Told, answered, told}
use Rattle.quantity.specs.declared.refusal.Refusal.{Refusal}
use Rattle.coupon.specs.Coupons.{borne}
use Rattle.coupon.specs.Verdicts.{refusal_of}
use Rattle.coupon.specs.declared.lines.Lines.{Lines}
use Rattle.account.specs.declared.account.Account.{Account}
use Rattle.account.specs.declared.phase.Phase.{Phase}
use Rattle.account.specs.declared.phase.Kind.{Kind}
use Rattle.account.specs.Accounts.{tally_of, terms_of}
use Rattle.account.specs.Histories.{Done, Performed}
use Rattle.account.specs.Phases.{fits, in_phase, moved, phase_after}
use Rattle.account.specs.Tally.{Answer, Call, answer_by, answering, carried, denied, kind_of, outcome, ruling}
use Rattle.account.proofs.States.{account_adds, reached_more, states}

-- what holds of an error holds of the result by which a `?` hands it on
pub handed_on : {T E : Type 0} (P : Result T E → Type 0) (r : Result T E) (e : E) → IsErrAnd r (λ x. x ≡ e) → P (Err e) → P r
handed_on P r e h p = let q = err_from_is_err_and r h in subst P (sym (q.1 ∙ ap Err q.2)) p

-- two accounts of one phase and the same lines are equal
pub account_same : (x y : Account) → x.phase ≡ y.phase → x.lines ≡ y.lines → x ≡ y
account_same x y p l =
    let Held : Type 0 = (q : (Phase × Lines)) × (fits q.0 q.1.terms.n (length (borne q.1)) ≡ true) in
    let made : Held → Account = λ h. record { phase = h.0.0; lines = h.0.1; fitting = h.1 } in
    let base : ◌≡◌ {A = Phase × Lines} (x.phase, x.lines) (y.phase, y.lines) = ap (λ q. (q, x.lines)) p ∙ ap (λ k. (y.phase, k)) l in
    ap made (Σ_prop_path (λ q. Bool-set _ true) {u = ((x.phase, x.lines), x.fitting)} {v = ((y.phase, y.lines), y.fitting)} base)

done : (c : Call) (a b : Account) (r : Result Answer Told) → outcome (terms_of a) (tally_of a) c ≡ r → Performed c a b → Done c a b (answer_by c r)
done c a b r h p = record {
  answered = ap (answer_by c) (sym h);
  performed = p;
  stated = λ t cs reached. let more = reached_more t cs c a b reached p in (more, states t _ b more);
  adds_up = account_adds b;
}

pub goes_through : (c : Call) (a b : Account) (x : Answer) → outcome (terms_of a) (tally_of a) c ≡ Ok x → terms_of b ≡ terms_of a → tally_of b ≡ carried (tally_of a) c → Done c a b x
goes_through c a b x h t s =
    let none : refusal_of (outcome (terms_of a) (tally_of a) c) ≡ None = ap refusal_of h in
    done c a b (Ok x) h record {
      same_terms = t;
      tallied = cc none;
      unchanged = λ e some. absurd (cc none);
    }

pub turned_down : (c : Call) (a b : Account) (e : Told) → outcome (terms_of a) (tally_of a) c ≡ Err e → b ≡ a → Done c a b (denied c e)
turned_down c a b e h same =
    let some : refusal_of (outcome (terms_of a) (tally_of a) c) ≡ Some e = ap refusal_of h in
    done c a b (Err e) h record {
      same_terms = ap terms_of same;
      tallied = cc some;
      unchanged = λ _ _. same;
    }

-- what a phase says of a call

pub phase_after_lem : (p q : Phase) (k : Kind) → Ok q ≡ moved p k → q ≡ phase_after p k
phase_after_lem p q k h = grind arith

pub out_of_phase : {A : Type 0} (p : Phase) (k : Kind) (r : Result A Told) (e : Told) → Err e ≡ moved p k → in_phase p k r ≡ Err e
out_of_phase p k r e h = grind arith

-- a call that its phase does not allow, and one that it does
pub phase_refused : (c : Call) (a : Account) (e : Told) → Err e ≡ moved a.phase (kind_of c) → Done c a a (denied c e)
phase_refused c a e h = turned_down c a a e (out_of_phase a.phase (kind_of c) (ruling (terms_of a) (tally_of a) c) e h) refl

pub ruled : (c : Call) (a : Account) (q : Phase) → Ok q ≡ moved a.phase (kind_of c) → outcome (terms_of a) (tally_of a) c ≡ ruling (terms_of a) (tally_of a) c
ruled c a q h = grind arith

-- what a call answers by a result, where its refusals are told
module _ {T : Type 0} (c : Call) (a : Account) (reply : Result T Refusal → Answer) (refuses : (e : Refusal) → reply (Err e) ≡ denied c (told e)) where
  -- a refusal that a `?` hands on
  pub refused_by : (b : Account) (r : Result T Refusal) (e : Refusal) → IsErrAnd r (λ x. x ≡ e) → Done c a b (denied c (told e)) → Done c a b (reply r)
  refused_by b r e h d = handed_on (λ x. Done c a b (reply x)) r e h (subst (Done c a b) (sym (refuses e)) d)

  pub refused_phase : (r : Result T Refusal) (e : Refusal) → IsErrAnd r (λ x. x ≡ e) → Err (told e) ≡ moved a.phase (kind_of c) → Done c a a (reply r)
  refused_phase r e h m = refused_by a r e h (phase_refused c a (told e) m)

  -- a call that only reads
  pub read_done : (f : T → Answer) (q : Phase) (v : Result T Told) → ((x : T) → reply (Ok x) ≡ f x) → carried (tally_of a) c ≡ tally_of a → ruling (terms_of a) (tally_of a) c ≡ answering f v
      → Ok q ≡ moved a.phase (kind_of c) → (r : Result T Refusal) → answered r ≡ v → Done c a a (reply r)
  read_done f q v accepts stays asked phased (Ok x) h = subst (Done c a a) (sym (accepts x)) (goes_through c a a (f x) (ruled c a q phased ∙ asked ∙ ap (answering f) (sym h)) refl (sym stays))
  read_done f q v accepts stays asked phased (Err e) h = subst (Done c a a) (sym (refuses e)) (turned_down c a a (told e) (ruled c a q phased ∙ asked ∙ ap (answering f) (sym h)) refl)
