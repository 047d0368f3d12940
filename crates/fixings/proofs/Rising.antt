-- Where dates rise, a search finds the first place of a date.
-- Assumes nothing.
use Rattle.std.proofs.Common.{◌≡◌, ℕ, zero, suc, ◌+◌, ◌<◌, ◌≤◌, true, false, leb, ltb, List, [], ◌∷◌, length, map, get_or, Ok, Err, Result, sym, refl, ◌∙◌, ⊎_elim, arith}
use Rattle.std.specs.List.Sorted.{IsSearchInRange, IsBinarySearchResult, IsNonDecreasingBy, IsPartitionPoint}
use Rattle.std.specs.Ordering.{nat_cmp}
use Rattle.std.specs.Result.{result_ok}
use Rattle.std.proofs.lemmas.Cmp.{ranked}
use Rattle.std.proofs.lemmas.Bool.{ltb-true, lt-ltb, leb-true, and_from, and_parts, cases_lt}
use Rattle.std.proofs.lemmas.Bool.Decides.{nat_tests}
use Rattle.std.proofs.lemmas.List.{get_or-map, length-map}
use Rattle.quantity.specs.Dated.{FirstAt}
use Rattle.quantity.specs.Orders.{rises, rises_from}
use Rattle.fixings.specs.declared.fixing.Fixing.{Fixing}
use Rattle.fixings.specs.Fixings.{dates_of}
use Rattle.fixings.specs.Files.{entry_of, lawful_from}
use Rattle.quantity.specs.declared.benchmark.BenchmarkCode.{BenchmarkCode}

above_first : (p : ℕ) (ds : List ℕ) → rises_from p ds ≡ true → (k : ℕ) → k < length ds → p < get_or ds k 0
above_first p [] r k h = absurd (omega arith)
above_first p (d ∷ ds) r zero h = ltb-true _ _ (and_parts _ _ r).0
above_first p (d ∷ ds) r (suc k) h = omega (arith, ltb-true p d (and_parts _ _ r).0, above_first d ds (and_parts (ltb p d) _ r).1 k (omega arith))

-- a list that rises is higher at each later place
pub rises_at : (ds : List ℕ) → rises ds ≡ true → (i j : ℕ) → i < j → j < length ds → get_or ds i 0 < get_or ds j 0
rises_at [] r i j h w = absurd (omega arith)
rises_at (d ∷ ds) r i zero h w = absurd (omega arith)
rises_at (d ∷ ds) r zero (suc j) h w = above_first d ds r j (omega arith)
rises_at (d ∷ []) r (suc i) (suc j) h w = absurd (omega arith)
rises_at (d ∷ e ∷ ds) r (suc i) (suc j) h w = rises_at (e ∷ ds) (and_parts _ _ r).1 i j (omega arith) (omega arith)

-- the date at a place, by the fixing there
pub date_at : (fs : List Fixing) (k : ℕ) (f : Fixing) → k < length fs → get_or (dates_of fs) k 0 ≡ (get_or fs k f).date.number
date_at fs k f h = get_or-map (λ (g : Fixing). g.date.number) fs k f 0 h

pub dates_length : (fs : List Fixing) → length (dates_of fs) ≡ length fs
dates_length fs = length-map fs (λ (f : Fixing). f.date.number)

module _ (fs : List Fixing) (up : rises (dates_of fs) ≡ true) where
  -- the order that the library's searches ask for
  pub dates_ordered : IsNonDecreasingBy (λ f. f.date.number) fs
  dates_ordered i j f h w =
      let low : get_or (dates_of fs) i 0 ≡ (get_or fs i f).date.number = date_at fs i f (omega arith) in
      let high : get_or (dates_of fs) j 0 ≡ (get_or fs j f).date.number = date_at fs j f w in
      ⊎_elim (λ (l : i < j). omega (arith, rises_at (dates_of fs) up i j l (rw dates_length w))) (λ (l : j ≤ i). let same : i ≡ j = omega arith in rw same (omega arith)) (cases_lt i j)

-- what a search by halves answers is the first place of the date, or none
pub placed : (fs : List Fixing) (d : ℕ) (r : Result ℕ ℕ) → rises (dates_of fs) ≡ true → IsSearchInRange r (length fs) → IsBinarySearchResult (λ f. nat_cmp f.date.number d) fs r → FirstAt (dates_of fs) d (result_ok r)
placed [] d (Ok i) up within found = absurd (omega arith)
placed [] d (Err i) up within parted = λ k h _. absurd (omega arith)
placed (f ∷ fs) d (Ok i) up within found =
    let here : get_or (dates_of (f ∷ fs)) i 0 ≡ d = date_at (f ∷ fs) i f within ∙ ranked _ d _ (sym (found f)) in
    (rw dates_length within, here, λ k h e. omega (arith, rises_at (dates_of (f ∷ fs)) up k i h (rw dates_length within), here, e))
placed (f ∷ fs) d (Err i) up within parted = λ k h e.
    let q = parted (λ a b g l w. let o = dates_ordered (f ∷ fs) up a b g l w in grind (arith, nat_tests)) in
    let there : get_or (dates_of (f ∷ fs)) k 0 ≡ (get_or (f ∷ fs) k f).date.number = date_at (f ∷ fs) k f (omega (arith, dates_length (f ∷ fs))) in
    ⊎_elim (λ (l : k < i). omega (arith, ranked _ d _ (sym (q.0 k f (omega arith) l)), there, e)) (λ (l : i ≤ k). omega (arith, ranked _ d _ (sym (q.1 k f l (omega (arith, dates_length (f ∷ fs))))), there, e)) (cases_lt k i)

-- where the fixings before a date part from the others
pub ranked_at : (fs : List Fixing) (d i : ℕ) → i ≤ length fs → IsPartitionPoint (λ f. ltb f.date.number d ≡ true) (λ f. ltb f.date.number d ≡ false) fs i → ((k : ℕ) → k < i → get_or (dates_of fs) k 0 < d) × (i < length fs → d ≤ get_or (dates_of fs) i 0)
ranked_at [] d i within parted = ((λ k h. absurd (omega arith)), (λ h. absurd (omega arith)))
ranked_at (f ∷ fs) d i within parted = (
  (λ k h. rw (date_at (f ∷ fs) k f (omega arith)) (ltb-true _ _ (parted.0 k f (omega arith) h))),
  (λ h. let e = parted.1 i f (omega arith) h in rw (date_at (f ∷ fs) i f h) (grind (arith, nat_tests))),
)

lawful_above : (b : BenchmarkCode) (p : ℕ) (fs : List Fixing) → lawful_from b (p + 1) (map entry_of fs) ≡ true → rises_from p (dates_of fs) ≡ true
unfolding lawful_from
lawful_above b p [] good = refl
lawful_above b p (f ∷ fs) good = and_from _ _ (lt-ltb p f.date.number (omega (arith, leb-true _ _ (and_parts (leb (p + 1) f.date.number) _ (and_parts _ _ good).0).0))) (lawful_above b f.date.number fs (and_parts _ _ good).1)

-- the dates of lawful fixings rise
pub lawful_rises : (b : BenchmarkCode) (least : ℕ) (fs : List Fixing) → lawful_from b least (map entry_of fs) ≡ true → rises (dates_of fs) ≡ true
unfolding lawful_from
lawful_rises b least [] good = refl
lawful_rises b least (f ∷ fs) good = lawful_above b f.date.number fs (and_parts _ _ good).1
