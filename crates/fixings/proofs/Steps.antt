-- A rate restated in place leaves the dates, and rates stay on the step where the new one is on it.
-- Assumes nothing.
use Rattle.std.proofs.Common.{◌≡◌, ℕ, zero, suc, true, List, [], ◌∷◌, get_or, take, set, refl, ap, ◌∙◌}
use Rattle.std.proofs.lemmas.Bool.{and_from, and_parts}
use Rattle.quantity.specs.Benchmarks.{is_on_step}
use Rattle.quantity.specs.Orders.{rises}
use Rattle.quantity.specs.declared.benchmark.BenchmarkCode.{BenchmarkCode}
use Rattle.quantity.specs.declared.rate.Rate.{Rate}
use Rattle.fixings.specs.declared.fixing.Fixing.{Fixing}
use Rattle.fixings.specs.Fixings.{all_on_step, altered, dates_of}

-- a write of the rate at one place is `altered`
pub set_altered : (fs : List Fixing) (i : ℕ) (f : Fixing) (r : Rate) → set fs i (record { date = (get_or fs i f).date; rate = r }) ≡ altered fs i r
unfolding altered
set_altered [] i f r = refl
set_altered (x ∷ fs) zero f r = refl
set_altered (x ∷ fs) (suc i) f r = ap (λ gs. x ∷ gs) (set_altered fs i f r)

dates_altered : (fs : List Fixing) (n i : ℕ) (r : Rate) → dates_of (take n (altered fs i r)) ≡ dates_of (take n fs)
unfolding altered
dates_altered [] n i r = refl
dates_altered (x ∷ fs) zero i r = refl
dates_altered (x ∷ fs) (suc n) zero r = refl
dates_altered (x ∷ fs) (suc n) (suc i) r = ap (λ ds. x.date.number ∷ ds) (dates_altered fs n i r)

pub altered_rises : (fs : List Fixing) (n i : ℕ) (r : Rate) → rises (dates_of (take n fs)) ≡ true → rises (dates_of (take n (altered fs i r))) ≡ true
altered_rises fs n i r up = ap rises (dates_altered fs n i r) ∙ up

pub altered_stepped : (b : BenchmarkCode) (fs : List Fixing) (n i : ℕ) (r : Rate) → all_on_step b (take n fs) ≡ true → is_on_step b r.ticks ≡ true → all_on_step b (take n (altered fs i r)) ≡ true
unfolding all_on_step altered
altered_stepped b [] n i r all on = all
altered_stepped b (f ∷ fs) zero i r all on = refl
altered_stepped b (f ∷ fs) (suc n) zero r all on = and_from _ _ on (and_parts _ _ all).1
altered_stepped b (f ∷ fs) (suc n) (suc i) r all on = and_from _ _ (and_parts _ _ all).0 (altered_stepped b fs n i r (and_parts _ _ all).1 on)
