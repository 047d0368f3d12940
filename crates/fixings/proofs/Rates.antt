-- The rate that a search finds.
-- Assumes nothing.
use Rattle.std.proofs.Common.{◌≡◌, ℕ, zero, suc, List, [], ◌∷◌, get_or, Some, None, refl, arith}
use Rattle.std.proofs.lemmas.Bool.{ne_eqb, eq-eqb}
use Rattle.quantity.specs.Dated.{FirstAt}
use Rattle.fixings.specs.declared.fixing.Fixing.{Fixing}
use Rattle.fixings.specs.Fixings.{dates_of}
use Rattle.fixings.specs.Sources.{rate_at}

-- the rate at the first place of a date is the list's rate of the date, and without such a place it has none
pub rate_at_none : (fs : List Fixing) (d : ℕ) → FirstAt (dates_of fs) d None → rate_at fs d ≡ None
unfolding rate_at
rate_at_none [] d never = refl
rate_at_none (x ∷ fs) d never = rw (ne_eqb x.date.number d (never 0 (omega arith))) (rate_at_none fs d (λ k h. never (suc k) (omega arith)))

pub rate_at_some : (fs : List Fixing) (d i : ℕ) (f : Fixing) → FirstAt (dates_of fs) d (Some i) → rate_at fs d ≡ Some (get_or fs i f).rate
unfolding rate_at
rate_at_some [] d i f p = absurd (omega (arith, p.0))
rate_at_some (x ∷ fs) d zero f p = rw (eq-eqb x.date.number d p.1) refl
rate_at_some (x ∷ fs) d (suc i) f p = rw (ne_eqb x.date.number d (p.2 0 (omega arith))) (rate_at_some fs d i f (omega (arith, p.0), p.1, (λ k l. p.2 (suc k) (omega arith))))
