-- A calendar, a start and an end have one schedule.
-- Assumes nothing.
use Rattle.std.proofs.Common.{◌≡◌, ℕ, ◌+◌, ◌-◌, ◌<◌, ◌≤◌, Bool, true, ℤ, pos, negsuc, ◌+ℤ◌, nat_abs, sym, ap, ◌∙◌, subst, ⊎_elim, eq-or-lt_of_le, arith}
use Rattle.std.proofs.lemmas.Int.{ints}
use Rattle.std.proofs.lemmas.Bool.{cases_lt}
use Rattle.std.proofs.lemmas.Bool.Decides.{nat_tests}
use Rattle.quantity.specs.declared.date.Date.{Date}
use Rattle.schedule.specs.declared.schedule.Schedule.{Schedule}
use Rattle.schedule.specs.Days.{at}
use Rattle.schedule.specs.Meaning.{day_at, Scheduled, Same}
use Rattle.schedule.specs.Positions.{within}
use Rattle.schedule.specs.Rank.{rank}
use Rattle.schedule.proofs.Ranks.{rank_neighbour, rank_same, ranked_back}

-- the position of an index
record Placed (n k : ℕ) : Type 0 where
  i : ℤ
  here : i +ℤ pos 64 ≡ pos k
  next : (i +ℤ pos 1) +ℤ pos 64 ≡ pos (k + 1)
  inside : within n i ≡ true

placed : (n k : ℕ) → k < n + 64 → Placed n k
placed n k h =
    ⊎_elim
    (λ (low : k < 64). record { i = negsuc (63 - k); here = omega (arith, ints); next = omega (arith, ints); inside = grind (arith, nat_tests) })
    (λ (high : 64 ≤ k). record { i = pos (k - 64); here = omega (arith, ints); next = omega (arith, ints); inside = grind (arith, nat_tests) })
    (cases_lt k 64)

module _ (good : ℕ → Bool) (start end : Date) (s : Schedule) (h : Scheduled good start end s) where
  pub day_good : (k : ℕ) → k < s.n + 64 → good (at s.days k) ≡ true
  day_good k lt =
      let p = placed (s.n + 1) k (omega arith) in
      subst (λ (z : ℤ). good (at s.days (nat_abs z)) ≡ true) p.here (h.days_good p.i p.inside)

  pub last_day : at s.days (s.n + 64) ≡ end.number
  last_day = h.ends

  up : (k : ℕ) → k < s.n + 64 → rank good (at s.days (k + 1)) ≡ rank good (at s.days k) + 1
  up k lt =
      let p = placed s.n k lt in
      let low : (day_at s p.i).number ≡ at s.days k = ap (λ (z : ℤ). at s.days (nat_abs z)) p.here in
      let high : (day_at s (p.i +ℤ pos 1)).number ≡ at s.days (k + 1) = ap (λ (z : ℤ). at s.days (nat_abs z)) p.next in
      rank_neighbour good (at s.days k) (at s.days (k + 1)) (day_good k lt) (s.rises k lt)
      (λ x a b. h.none_between p.i p.inside x (omega (arith, low)) (omega (arith, high)))

  -- the number of good days before the day m places before the end
  pub ranked : (m k : ℕ) → m + k ≡ s.n + 64 → rank good (at s.days k) + m ≡ rank good end.number
  ranked m k e = ranked_back good (at s.days) (s.n + 64) up m k e ∙ ap (rank good) last_day

  pub counted : rank good start.number + s.n ≡ rank good end.number
  counted = omega (arith, ranked s.n 64 (omega arith), ap (rank good) h.starts)

pub unique : (good : ℕ → Bool) (start end : Date) (s t : Schedule) → Scheduled good start end s → Scheduled good start end t → Same s t
unique good start end s t f g =
    let n : s.n ≡ t.n = omega (arith, counted good start end s f, counted good start end t g) in
    record {
      length = n;
      days = λ k h. ⊎_elim
          (λ (e : k ≡ s.n + 64). ap (at s.days) e ∙ last_day good start end s f ∙ sym (ap (at t.days) (omega arith) ∙ last_day good start end t g))
          (λ (lt : k < s.n + 64). rank_same good _ _ (day_good good start end s f k lt) (day_good good start end t g k (omega arith)) (omega (arith, ranked good start end s f (s.n + 64 - k) k (omega arith), ranked good start end t g (t.n + 64 - k) k (omega arith))))
          (eq-or-lt_of_le h);
    }
