-- Positions as indices.
use Rattle.std.proofs.Common.{◌≡◌, ℕ, ◌+◌, ◌-◌, ◌<◌, true, ℤ, pos, negsuc, ◌+ℤ◌, nat_abs, length, get_or, Some, None, Option, MatchOption, refl, ap, ◌∙◌, arith}
use Rattle.std.proofs.lemmas.Int.{ints}
use Rattle.std.proofs.lemmas.List.{get_or_default}
use Rattle.std.proofs.lemmas.Bool.Decides.{nat_tests}
use Rattle.quantity.specs.declared.date.Date.{Date}
use Rattle.quantity.specs.declared.days.DayCount.{DayCount}
use Rattle.schedule.specs.Positions.{within}
use Rattle.schedule.specs.declared.schedule.Schedule.{Schedule}
use Rattle.schedule.specs.Days.{at, epoch}
use Rattle.schedule.specs.Meaning.{gap_at}

-- the index of position i, and that of the next
pub record Indexed (n : ℕ) (i : ℤ) : Type 0 where
  pub index : ℕ
  pub here : i +ℤ pos 64 ≡ pos index
  pub next : (i +ℤ pos 1) +ℤ pos 64 ≡ pos (index + 1)
  pub below : index < n + 64

pub indexed : (n : ℕ) (i : ℤ) → within n i ≡ true → Indexed n i
indexed n (pos j) w = record {
  index = j + 64;
  here = refl;
  next = omega (arith, ints);
  below = let h : j < n = grind (arith, nat_tests) in omega arith;
}
indexed n (negsuc j) w =
    let h : j < 64 = grind (arith, nat_tests) in
    record {
      index = 63 - j;
      here = omega (arith, ints);
      next = omega (arith, ints);
      below = omega arith;
    }

abbrev of_days : ℕ → DayCount
of_days n = record { days = n }

counted : (s : Schedule) (i : ℤ) (x : Indexed s.n i) (r : Option DayCount) → MatchOption r (at s.days (x.index + 1) < at s.days x.index) (λ d. at s.days x.index + d.days ≡ at s.days (x.index + 1)) → r ≡ Some (gap_at s i)
counted s i x None told = absurd (omega (arith, told, s.rises x.index x.below))
counted s i x (Some d) told = let days : d.days ≡ (gap_at s i).days = rw (x.here, x.next) (omega (arith, told)) in ap (λ (n : ℕ). Some (of_days n)) days

-- the days counted between the days that were read at the index of position i and at the next, each read at a default of its own
pub gap_is : (s : Schedule) (i z : ℤ) (p q : Date) (r : Option DayCount) → length s.days ≡ 465 → within s.n i ≡ true → z ≡ i → MatchOption r ((get_or s.days (nat_abs (z +ℤ pos 64) + 1) p).number < (get_or s.days (nat_abs (z +ℤ pos 64)) q).number) (λ d. (get_or s.days (nat_abs (z +ℤ pos 64)) q).number + d.days ≡ (get_or s.days (nat_abs (z +ℤ pos 64) + 1) p).number) → r ≡ Some (gap_at s i)
gap_is s i z p q r long w same told =
    let x = indexed s.n i w in
    let k : nat_abs (z +ℤ pos 64) ≡ x.index = ap (λ (y : ℤ). nat_abs (y +ℤ pos 64)) same ∙ ap nat_abs x.here in
    let low : (get_or s.days x.index q).number ≡ at s.days x.index = ap (λ (d : Date). d.number) (get_or_default s.days x.index q epoch (omega (arith, x.below, s.few))) in
    let high : (get_or s.days (x.index + 1) p).number ≡ at s.days (x.index + 1) = ap (λ (d : Date). d.number) (get_or_default s.days (x.index + 1) p epoch (omega (arith, x.below, s.few))) in
    counted s i x r (simp (k, low, high) at told)
