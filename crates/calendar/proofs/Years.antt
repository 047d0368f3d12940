-- Years follow one another, and each of the TARGET holidays lies in its own year.
-- Assumes nothing.
use Rattle.std.proofs.Common.{◌≡◌, ℕ, zero, suc, ◌+◌, ◌-◌, ◌*◌, ◌/◌, ◌<◌, ◌≤◌, Bool, false, eqb, map, refl, ap, ◌∙◌, ⊎_elim, arith}
use mathlib.Core.Bool.{or-false}
use Rattle.std.proofs.lemmas.Bool.Decides.{nat_tests}
use Rattle.std.proofs.lemmas.Bool.{ne_eqb, or_from, cases_eq, cases_lt}
use Rattle.calendar.specs.declared.month.Month.{Month}
use Rattle.calendar.specs.declared.month.Month.TheVariants.{January, March, May, December}
use Rattle.calendar.specs.Easter.{moon, sunday, computus}
use Rattle.calendar.specs.Civil.{days_before, new_year, day_of, InYear}
use Rattle.calendar.specs.Target.{easter_sunday, new_years_day, good_friday, easter_monday, labour_day, christmas_day, day_after_christmas, yearly, some, falls_on, any_of, is_holiday_of}

pub new_year_limit : (y : ℕ) → 2000 ≤ y → y ≤ 2200 → new_year y ≤ 73049
unfolding new_year
new_year_limit y low high = omega arith

new_year_low : (y : ℕ) → 365 * (y - 2000) ≤ new_year y
unfolding new_year
new_year_low y = omega arith

new_year_high : (y : ℕ) → new_year y ≤ 365 * (y - 2000) + (y - 2000 + 3) / 4
unfolding new_year
new_year_high y = omega arith

-- a day is in the year that 365 days a year give, or in the one before
pub in_guess : (n d : ℕ) → n ≡ 2000 + d / 365 → new_year (2000 + d / 365) ≤ d → InYear n d
in_guess n d e h =
    record { since = omega (arith, ap new_year e); until = omega (arith, new_year_low (n + 1)) }

pub before_guess : (n d : ℕ) → n ≡ 2000 + d / 365 - 1 → d < new_year (2000 + d / 365) → d ≤ 73048 → InYear n d
before_guess n d e h limit =
    let some_year : 0 < d / 365 = omega (arith, new_year_high (2000 + d / 365)) in
    let next : n + 1 ≡ 2000 + d / 365 = omega arith in
    record { since = omega (arith, new_year_high n); until = omega (arith, ap new_year next) }

-- 1 January comes again after 362 days or more (after 365, in truth, and this is enough)
pub new_year_next : (y z : ℕ) → 2000 ≤ y → y < z → new_year y + 362 ≤ new_year z
unfolding new_year
new_year_next y z low h = omega arith

pub computus_limit : (y : ℕ) → computus y ≤ 35
unfolding computus moon sunday
computus_limit y = omega arith

-- a day lies at most a leap day after its place in a common year
pub day_of_low : (y : ℕ) (m : Month) (d : ℕ) → new_year y + days_before m + d - 1 ≤ day_of y m d
unfolding day_of
day_of_low y m d = omega arith

pub day_of_high : (y : ℕ) (m : Month) (d : ℕ) → day_of y m d ≤ new_year y + days_before m + d
unfolding day_of
day_of_high y m d = grind (arith, nat_tests)

-- Easter lies well within its year
pub easter_low : (y : ℕ) → new_year y + 80 ≤ easter_sunday y
unfolding easter_sunday
easter_low y = omega (arith, day_of_low y March 22)

pub easter_high : (y : ℕ) → easter_sunday y ≤ new_year y + 116
unfolding easter_sunday
easter_high y = omega (arith, day_of_high y March 22, computus_limit y)

-- a day of the year y is within no other year
apart : (y z d : ℕ) → 2000 ≤ y → 2000 ≤ z → InYear y d → (z ≡ y → ⊥) → new_year z ≤ d → d < new_year z + 362 → ⊥
apart y z d hy hz inside ne low high =
    ⊎_elim (λ (h : z < y). omega (arith, new_year_next z y hz h)) (λ (h : y ≤ z). after (omega arith)) (cases_lt z y)
  where
    after : y + 1 ≤ z → ⊥
    after h = ⊎_elim (λ (k : y + 1 < z). omega (arith, new_year_next (y + 1) z (omega arith) k)) (λ (k : z ≤ y + 1). same (omega arith)) (cases_lt (y + 1) z)
      where
        same : z ≡ y + 1 → ⊥
        same e = omega (arith, ap new_year e)

-- a test that fails at every number from i on passes at none of them
none : (f : ℕ → Bool) (i n : ℕ) → ((z : ℕ) → i ≤ z → f z ≡ false) → some i n f ≡ false
unfolding some
none f i zero rest = refl
none f i (suc n) rest = or_from (f i) (some (suc i) n f) (rest i (omega arith)) (none f (suc i) n (λ z h. rest z (omega arith)))

-- a test that fails at every number but y passes at some number exactly when it passes at y
some_only : (f : ℕ → Bool) (y i n : ℕ) → ((z : ℕ) → i ≤ z → (z ≡ y → ⊥) → f z ≡ false) → i ≤ y → y < i + n → some i n f ≡ f y
unfolding some
some_only f y i zero rest low high = absurd (omega arith)
some_only f y i (suc n) rest low high =
    ⊎_elim (λ (e : i ≡ y). rw (none f (suc i) n (λ z h. rest z (omega arith) (λ k. omega arith))) (or-false (f i) ∙ ap f e))
    (λ (ne : i ≡ y → ⊥). rw (rest i (omega arith) ne) (some_only f y (suc i) n (λ z h. rest z (omega arith)) (omega arith) (omega arith)))
    (cases_eq i y)

-- a closing that lies within the first 362 days of each year falls on a day exactly if it does so in the day's own year
falls_in_year : (closing : ℕ → ℕ) (y d : ℕ) → ((z : ℕ) → 2000 ≤ z → (new_year z ≤ closing z) × (closing z < new_year z + 362)) → 2000 ≤ y → y ≤ 2199 → InYear y d
    → falls_on closing d ≡ eqb d (closing y)
unfolding falls_on
falls_in_year closing y d within low high inside =
    some_only (λ z. eqb d (closing z)) y 2000 200 (λ z hz ne. ne_eqb d (closing z) (λ e. apart y z d low hz inside ne (omega (arith, (within z hz).0)) (omega (arith, (within z hz).1)))) low (omega arith)

-- a day is closed, weekends apart, exactly if it is a holiday of its own year
pub holiday_year : (y d : ℕ) → 2000 ≤ y → y ≤ 2199 → InYear y d → any_of (λ closes. closes d) (map falls_on yearly) ≡ is_holiday_of y d
holiday_year y d low high inside =
    let one = falls_in_year new_years_day y d (λ z hz. (omega (arith, day_of_low z January 1), omega (arith, day_of_high z January 1))) low high inside in
    let two = falls_in_year good_friday y d (λ z hz. (omega (arith, easter_low z), omega (arith, easter_high z))) low high inside in
    let three = falls_in_year easter_monday y d (λ z hz. (omega (arith, easter_low z), omega (arith, easter_high z))) low high inside in
    let four = falls_in_year labour_day y d (λ z hz. (omega (arith, day_of_low z May 1), omega (arith, day_of_high z May 1))) low high inside in
    let five = falls_in_year christmas_day y d (λ z hz. (omega (arith, day_of_low z December 25), omega (arith, day_of_high z December 25))) low high inside in
    let six = falls_in_year day_after_christmas y d (λ z hz. (omega (arith, day_of_low z December 26), omega (arith, day_of_high z December 26))) low high inside in
    cc
