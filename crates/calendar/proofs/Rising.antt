-- The last of a list of dates, and one more date at the end of a rising list.
-- Assumes nothing.
use Rattle.std.proofs.Common.{◌≡◌, ℕ, suc, ◌+◌, ◌-◌, ◌≤◌, Bool, true, false, leb, ltb, List, [], ◌∷◌, ◌++◌, length, get_or, Option, Some, None, MatchOption, Bor, sym, refl, ap, ◌∙◌, arith}
use Rattle.std.specs.Slice.{IsGetResult}
use Rattle.std.proofs.lemmas.List.{length-map, get_or-map, map_push}
use Rattle.std.proofs.lemmas.Bool.{lt-ltb, and_from, and_parts}
use Rattle.std.proofs.lemmas.Bool.Decides.{nat_tests}
use Rattle.quantity.specs.declared.date.Date.{Date}
use Rattle.quantity.specs.Orders.{rises, rises_from}
use Rattle.calendar.specs.Holidays.{day_numbers, least_after}

last_from : (p : ℕ) (x : ℕ) (xs : List ℕ) → least_after p (x ∷ xs) ≡ get_or (x ∷ xs) (length xs) 0 + 1
last_from p x [] = omega arith
last_from p x (y ∷ ys) = last_from (suc x) y ys

-- a day is below the least allowed exactly where it is not above the last of the dates
pub below_least : (ds : List Date) (last : Option (Bor Date)) (n : ℕ) (b : Bool) → IsGetResult ds 0 (length ds - 1) last → MatchOption last (b ≡ false) (λ x. b ≡ leb n x.now.number) → b ≡ ltb n (least_after 0 (day_numbers ds))
below_least [] None n b item test = grind (arith, nat_tests)
below_least [] (Some x) n b item test = absurd (omega (arith, item.3.0))
below_least (d ∷ ds) None n b item test = absurd (omega (arith, item.3))
below_least (d ∷ ds) (Some x) n b item test =
    let size = length-map ds (λ (h : Date). h.number) in
    let end : length (d ∷ ds) - 1 ≡ length ds = omega arith in
    let last : get_or (day_numbers (d ∷ ds)) (length ds) 0 ≡ x.now.number = get_or-map (λ (h : Date). h.number) (d ∷ ds) (length ds) x.now 0 (omega arith) ∙ sym (ap (λ (h : Date). h.number) (rw end at item.1)) in
    let least = last_from 0 d.number (day_numbers ds) in
    grind (arith, nat_tests)

rises-from-push : (p : ℕ) (xs : List ℕ) (d : ℕ) → rises_from p xs ≡ true → least_after (suc p) xs ≤ d → rises_from p (xs ++ (d ∷ [])) ≡ true
rises-from-push p [] d r h = and_from _ _ (lt-ltb p d (omega arith)) refl
rises-from-push p (x ∷ xs) d r h = and_from _ _ (and_parts _ _ r).0 (rises-from-push x xs d (and_parts _ _ r).1 h)

-- a number from there on keeps the list rising
pub rises-push : (xs : List ℕ) (d : ℕ) → rises xs ≡ true → least_after 0 xs ≤ d → rises (xs ++ (d ∷ [])) ≡ true
rises-push [] d r h = refl
rises-push (x ∷ xs) d r h = rises-from-push x xs d r h

-- the day numbers after one more date
pub pushed : (ds es : List Date) (d : Date) (n : ℕ) → es ≡ ds ++ (d ∷ []) → d.number ≡ n → day_numbers es ≡ day_numbers ds ++ (n ∷ [])
pushed ds es d n e same =
    ap day_numbers e ∙ map_push (λ (h : Date). h.number) ds d ∙ ap (λ (k : ℕ). day_numbers ds ++ (k ∷ [])) same
