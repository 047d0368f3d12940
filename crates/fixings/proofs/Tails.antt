-- The fields of a file, one after another.
-- Assumes nothing.
use Rattle.std.proofs.Common.{◌≡◌, suc, ◌+◌, ◌-◌, ◌≤◌, true, ◌&&◌, leb, List, [], ◌∷◌, ◌++◌, append_assoc, is_ok, Some, None, Ok, Err, Option, Result, sym, refl, ap, ◌∙◌, arith}
use Rattle.std.proofs.lemmas.Bool.Decides.{nat_tests}
use Rattle.std.proofs.lemmas.Bool.{and_from}
use Rattle.std.proofs.lemmas.List.{append-nil}
use Rattle.quantity.specs.Refusals.{Told}
use Rattle.quantity.specs.declared.refusal.Refusal.{Refusal}
use Rattle.std.specs.Result.{result_unwrap_or}
use Rattle.fixings.specs.declared.fixing.Fixing.{Fixing}
use Rattle.fixings.specs.Files.{read, Entry, Rest, Tail, after, prepend, on_verdict, verdict, fields_from, fixing_in, end_in, judge, is_rate, next_of, tail_of, entries_of, lawful_from}

-- what the next field makes of the rest
pub step : (r : Rest) → r.count ≤ 4000 → tail_of r ≡ on_verdict (next_of r) (r.offset + 5) (λ e. tail_of (after r (Ok (Some e))))
unfolding fields_from
step r h = let e : 4001 - r.count ≡ suc (4001 - (r.count + 1)) = omega arith in rw e refl

entries_prepend : (e : Entry) (t : Result Tail Told) → is_ok (prepend e t) ≡ true → (is_ok t ≡ true) × (entries_of (prepend e t) ≡ e ∷ entries_of t)
entries_prepend e (Ok t) h = (refl, refl)
entries_prepend e (Err x) h = grind arith

next_lawful : (r : Rest) (e : Entry) → next_of r ≡ Ok (Some e) → (leb r.least e.day && (leb e.day 73048 && is_rate r.benchmark e.ticks)) ≡ true
unfolding verdict fixing_in end_in judge
next_lawful r e h = grind (arith, nat_tests)

-- es are the entries that a reader took on its way from one place to another, in fields that were judged
pub record Taken (from : Rest) (es : List Entry) (to : Rest) : Type 0 where
  pub good : is_ok (tail_of to) ≡ true
  pub given : entries_of (tail_of from) ≡ es ++ entries_of (tail_of to)
  pub lawful : (fs : List Entry) → lawful_from to.benchmark to.least fs ≡ true → lawful_from from.benchmark from.least (es ++ fs) ≡ true

module _ (from : Rest) (es : List Entry) (to : Rest) (taken : Taken from es to) (most : to.count ≤ 4000) where
  pub taken_more : (e : Entry) → next_of to ≡ Ok (Some e) → Taken from (es ++ (e ∷ [])) (after to (Ok (Some e)))
  unfolding lawful_from
  taken_more e field =
      let good = taken.good in
      let s = step to most in
      let p = entries_prepend e (tail_of (after to (Ok (Some e)))) in
      let given : entries_of (tail_of to) ≡ e ∷ entries_of (tail_of (after to (Ok (Some e)))) = grind arith in
      record {
        good = grind arith;
        given = rw append_assoc (taken.given ∙ ap (λ fs. es ++ fs) given);
        lawful = λ fs h. rw append_assoc (taken.lawful (e ∷ fs) (and_from _ _ (next_lawful to e field) h));
      }

  pub taken_all : next_of to ≡ Ok None → (es ≡ entries_of (tail_of from)) × (lawful_from from.benchmark from.least es ≡ true)
  unfolding lawful_from
  taken_all field =
      let s = step to most in
      let none : entries_of (tail_of to) ≡ [] = grind arith in
      (sym (rw (none, append-nil) at taken.given), rw append-nil at (taken.lawful [] refl))

-- no field that was judged is refused: one is a fixing more, or the end
pub read_more : (v : Result (Option Fixing) Refusal) (f : Fixing) → result_unwrap_or v None ≡ Some f → v ≡ Ok (Some f)
read_more (Ok o) f e = ap Ok e
read_more (Err x) f e = grind arith

pub read_end : (r : Rest) (v : Result (Option Fixing) Refusal) → r.count ≤ 4000 → is_ok (tail_of r) ≡ true → next_of r ≡ read v → result_unwrap_or v None ≡ None → next_of r ≡ Ok None
read_end r (Ok None) most good field e = field
read_end r (Ok (Some f)) most good field e = grind arith
read_end r (Err x) most good field e = let s = step r most in grind arith
