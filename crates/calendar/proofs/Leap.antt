-- A year has 366 days if it is a leap year, and 365 if not: one test over the 200 years, which antt computes.
-- Assumes nothing.
use Rattle.std.proofs.Common.{◌≡◌, ℕ, ◌+◌, ◌-◌, ◌≤◌, Bool, true, cond, eqb, refl, subst, arith}
use Rattle.std.proofs.lemmas.Bool.{eqb-true, agree_below, agree_below_at}
use Rattle.calendar.specs.Civil.{is_leap, new_year}

follows : ℕ → Bool
follows k = eqb (new_year (2000 + k + 1)) (new_year (2000 + k) + (365 + cond (is_leap (2000 + k)) 1 0))

tested : agree_below follows (λ _. true) 200 ≡ true
unfolding follows new_year is_leap
tested = refl

pub year_follows : (y : ℕ) → 2000 ≤ y → y ≤ 2199 → new_year (y + 1) ≡ new_year y + (365 + cond (is_leap y) 1 0)
unfolding follows
year_follows y low high =
    let e : 2000 + (y - 2000) ≡ y = omega arith in
    subst (λ (n : ℕ). new_year (n + 1) ≡ new_year n + (365 + cond (is_leap n) 1 0)) e (eqb-true _ _ (agree_below_at follows (λ _. true) 200 (y - 2000) tested (omega arith)))
