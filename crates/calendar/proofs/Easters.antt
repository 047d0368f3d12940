-- A table of Easters that passes the test over all of its entries has the computus at each year.
-- Assumes nothing.
use Rattle.std.proofs.Common.{◌≡◌, ℕ, zero, suc, ◌+◌, ◌-◌, ◌<◌, ◌≤◌, Bool, true, T, eqb, List, [], ◌∷◌, length, get_or, sym, ap, ◌∙◌, subst, le_of_suc-le-suc, not-suc-le-zero, add-zero, add-suc, suc-add, arith, eqb→eq}
use Rattle.std.proofs.lemmas.Bool.{and_parts}
use Rattle.calendar.specs.Easter.{computus, every, is_computus}

-- what passes at each place passes at the place k
pub every-at : (f : ℕ → ℕ → Bool) (xs : List ℕ) (i : ℕ) → every f i xs ≡ true → (k : ℕ) → k < length xs → f (i + k) (get_or xs k 0) ≡ true
unfolding every
every-at f [] i t k h = absurd (not-suc-le-zero h)
every-at f (x ∷ xs) i t zero h = rw add-zero (and_parts _ _ t).0
every-at f (x ∷ xs) i t (suc k) h =
    subst (λ (m : ℕ). f m (get_or xs k 0) ≡ true) (suc-add i k ∙ sym (add-suc i k))
    (every-at f xs (suc i) (and_parts _ _ t).1 k (le_of_suc-le-suc h))

pub entry : (xs : List ℕ) (y : ℕ) → every is_computus 0 xs ≡ true → 2000 ≤ y → y - 2000 < length xs → get_or xs (y - 2000) 0 ≡ computus y
unfolding is_computus
entry xs y t low high =
    let e : 2000 + (0 + (y - 2000)) ≡ y = omega arith in
    let p : eqb (get_or xs (y - 2000) 0) (computus (2000 + (0 + (y - 2000)))) ≡ true = every-at is_computus xs 0 t (y - 2000) high in
    eqb→eq (get_or xs (y - 2000) 0) (computus (2000 + (0 + (y - 2000)))) (subst T (sym p) tt) ∙ ap computus e
