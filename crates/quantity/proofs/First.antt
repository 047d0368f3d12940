-- A fact about the records of a list by place, said of their dates.
-- Assumes nothing.
use Rattle.std.proofs.Common.{◌≡◌, ◌≢◌, ℕ, ◌≤◌, ◌<◌, List, [], ◌∷◌, map, length, Option, None, Some, MatchOption, arith}
use Rattle.std.specs.List.{AllWithin, HoldsAt}
use Rattle.std.proofs.lemmas.List.{get_or-map, length-map}
use Rattle.quantity.specs.Dated.{FirstAt, NotBefore}

not_before : {R : Type 0} (dated : R → ℕ) (x : R) (xs : List R) (d n : ℕ) → n ≤ length (x ∷ xs) → AllWithin (λ y. dated y ≢ d) (x ∷ xs) 0 n → NotBefore (map dated (x ∷ xs)) d n
not_before dated x xs d n within none k before = let here : k < length (x ∷ xs) = omega arith in rw (get_or-map dated (x ∷ xs) k x 0 here) (none k x (omega arith) before)

pub first_number : {R : Type 0} (dated : R → ℕ) (xs : List R) (d : ℕ) (r : Option ℕ) → MatchOption r (AllWithin (λ y. dated y ≢ d) xs 0 (length xs)) (λ i. (i < length xs) × HoldsAt (λ y. dated y ≡ d) xs i × AllWithin (λ y. dated y ≢ d) xs 0 i) → FirstAt (map dated xs) d r
first_number dated [] d None h = λ k before. absurd (omega arith)
first_number dated [] d (Some i) h = absurd (omega arith)
first_number dated (x ∷ xs) d None h = rw length-map (not_before dated x xs d _ (omega arith) h)
first_number dated (x ∷ xs) d (Some i) h = (rw length-map h.0, rw (get_or-map dated (x ∷ xs) i x 0 h.0) (h.1 x), not_before dated x xs d i (omega arith) h.2)
