-- A holder's account accrued over piles, and what it shows.
-- Assumes nothing.
use Rattle.std.proofs.Common.{◌≡◌, ℕ, ◌+◌, ◌<◌, Bool, true, cond, ◌&&◌, List, [], ◌∷◌, ◌++◌, map, length, get_or, take, is_ok, None, Ok, Err, Decides, Result, sym, refl, ◌∙◌, subst, arith, Bor}
use Rattle.std.proofs.lemmas.List.{map-append, take_more}
use Rattle.std.proofs.Math.Bool.{and-true, and_assoc}
use Rattle.quantity.specs.Refusals.{Told, plain}
use Rattle.quantity.specs.declared.refusal.Refusal.{Refusal}
use Rattle.pile.specs.Piles.{Pile}
use Rattle.coupon.specs.Verdicts.{admitted, refusal_of}
use Rattle.coupon.specs.declared.day.Day.{Day}
use Rattle.coupon.specs.declared.terms.Terms.{Terms}
use Rattle.account.specs.declared.account.Account.{Account}
use Rattle.account.specs.declared.phase.Phase.{Phase}
use Rattle.account.specs.declared.phase.Kind.TheVariants.{Accrue, Open, Read}
use Rattle.account.specs.Accounts.{lines_in, standing_of, tally_of, terms_of}
use Rattle.account.specs.Histories.{Done, Follows, Opened, Reached, Through}
use Rattle.account.specs.Phases.{allows, moved}
use Rattle.account.specs.Reconciliations.{Reconciled, Replayed, is_none, judge_reconciling, meanings, passes}
use Rattle.account.specs.Replies.{accrue_answer}
use Rattle.account.specs.Tally.{Call, Tally, accrue, accrued, advance, answer_by, answering, begun, givers, judge, tally_from}
use Rattle.account.proofs.States.{follows_push, known, known_after, reached_none, states}

-- the next pile of a slice
pub meanings_more : {P : Type 0} (f : P → Pile) (xs : List (Bor P)) (i : ℕ) (x : Bor P) → i < length xs → x ≡ get_or xs i x → meanings f (take (i + 1) xs) ≡ meanings f (take i xs) ++ (f x.now ∷ [])
meanings_more {P = P} f xs i x h r = cc (take_more xs i x h, map-append (λ (y : Bor P). f y.now) (take i xs) (x ∷ []))

-- one call more

passes-push : (t : Terms) (s : Tally) (cs : List Call) (c : Call) → passes t s (cs ++ c ∷ []) ≡ (passes t s cs && is_none (judge t (tally_from t s cs) c))
passes-push t s [] c = and-true (is_none (judge t s c))
passes-push t s (x ∷ cs) c = cc (passes-push t (advance t s x) cs c, and_assoc (is_none (judge t s x)) (passes t (advance t s x) cs) (is_none (judge t (tally_from t (advance t s x) cs) c)))

-- an accrual answers Ok exactly where it goes through
through_by : (m : Pile) (b : Bool) (v : Result Day Told) (r : Result (Unit {0}) Refusal) → accrue_answer r ≡ answer_by (accrue m) (cond b (answering (λ _. accrued) v) (Err (plain 14)))
    → is_ok r ≡ is_none (refusal_of (cond b (answering (λ _. accrued) v) (Err (plain 14))))
through_by m b v r h = grind arith

pub replayed_more : (a b e : Account) (ms : List Pile) (all through : Bool) (m : Pile) (r : Result (Unit {0}) Refusal)
    → Replayed ms a b all → Done (accrue m) b e (accrue_answer r) → through ≡ is_ok r → Replayed (ms ++ m ∷ []) a e (all && through)
replayed_more a b e ms all through m r f d ok =
    let calls : map accrue (ms ++ m ∷ []) ≡ map accrue ms ++ (accrue m ∷ []) = map-append accrue ms (m ∷ []) in
    let k = known_after a b (map accrue ms) f.follows in
    let here : through ≡ is_none (judge (terms_of b) (tally_of b) (accrue m)) = ok ∙ through_by m (allows b.phase Accrue) (admitted (terms_of b) (standing_of b) m) r d.answered in
    record {
      follows = subst (λ (cs : List Call). Follows a cs e) (sym calls) (follows_push a b e (map accrue ms) (accrue m) f.follows d.performed);
      all = cc (f.all, here, k.on_terms, k.tallied, passes-push (terms_of a) (tally_of a) (map accrue ms) (accrue m), calls);
    }

through_passes : (t : Terms) (s : Tally) (cs : List Call) → Through t s cs → passes t s cs ≡ true
through_passes t s [] h = refl
through_passes t s (c ∷ cs) h = cc (h.0, through_passes t (advance t s c) cs h.1)

-- the holder's account
module _ (ms : List Pile) (issuer first b : Account) (all yes : Bool) (opened : Opened (terms_of issuer) first) (replay : Replayed ms first b all) (decides : Decides yes ((all ≡ true) × (lines_in issuer ≡ lines_in b))) where
  abbrev t : Terms
  t = terms_of issuer

  reached : Reached t (map accrue ms) b
  reached = record { first = first; opened = opened; follows = replay.follows }

  passed : all ≡ passes t begun (map accrue ms)
  passed =
      let k = known t [] first (reached_none t first opened) in
      cc (replay.all, k.on_terms, k.tallied)

  pub reconciled : Reconciled ms issuer b yes
  reconciled = record {
    replayed = reached;
    decides = (λ y. let p = decides.0 y in (sym passed ∙ p.0, p.1), λ both. decides.1 (passed ∙ both.0, both.1));
    confirms = λ u cs given gave.
        let on : t ≡ u = (known u cs issuer given).on_terms in
        let stated = states u cs issuer given in
        let mine : Reached u (map accrue (givers u cs)) b = subst (λ (ns : List Pile). Reached u (map accrue ns) b) (sym gave) (subst (λ (v : Terms). Reached v (map accrue ms) b) on reached) in
        let theirs = stated.holder b mine in
        let went : all ≡ true = cc (passed, through_passes u begun (map accrue (givers u cs)) stated.through) in
        (decides.1 (went, theirs.0), (stated, (theirs.0, theirs.1)));
  }

-- a reconciliation that both phases allow
pub both_free : (i h q p : Phase) → Ok q ≡ moved i Read → Ok p ≡ moved h Open → judge_reconciling i h ≡ None
both_free i h q p r s = grind arith
