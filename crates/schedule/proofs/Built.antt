-- The days that were found make a schedule, or show why there is none.
use Rattle.std.proofs.Common.{◌≡◌, ℕ, ◌+◌, ◌-◌, ◌<◌, ◌≤◌, Bool, true, false, leb, List, ℤ, pos, ◌+ℤ◌, ap, ◌∙◌, inl, inr, ⊎_elim, eq-or-lt_of_le, arith}
use Rattle.std.proofs.lemmas.Bool.{both_ways}
use Rattle.std.proofs.lemmas.Bool.Decides.{leb_tells}
use Rattle.quantity.specs.declared.date.Date.{Date}
use Rattle.schedule.specs.declared.schedule.Schedule.{Schedule}
use Rattle.schedule.specs.Meaning.{day_at, Scheduled}
use Rattle.schedule.proofs.Indices.{Indexed, indexed}
use Rattle.schedule.specs.Days.{at}
use Rattle.schedule.specs.Rank.{rank}
use Rattle.schedule.specs.Filled.{Filled, Stuck}
use Rattle.schedule.specs.Refusals.{Reason, period, not_good, apart, Says, number}
use Rattle.schedule.proofs.Ranks.{rank_neighbour, rank_mono, rank_same, ranked_back, last_before}

-- a good day with none before it is a reason to refuse
pub gap_from_stuck : (good : ℕ → Bool) (start end n : ℕ) → rank good start + n ≡ rank good end → Stuck good end n → Says good start end apart
gap_from_stuck good start end n count s =
    ⊎_elim
    (λ (t : (leb 64 (rank good start) ≡ true) × (64 ≤ rank good start)).
    let e = last_before good s.day (omega (arith, s.placed, t.1)) in
    let up = rank_neighbour good e.0 s.day e.1.day e.1.earlier e.1.none in
    inr (record {
      first = e.0;
      second = s.day;
      first_good = e.1.day;
      second_good = s.is_good;
      none = e.1.none;
      apart = ⊎_elim
          (λ (near : (leb s.day (e.0 + 15) ≡ true) × (s.day ≤ e.0 + 15)).
          absurd (both_ways (good e.0) (s.alone e.0 e.1.earlier near.1) e.1.day))
          (λ (far : (leb s.day (e.0 + 15) ≡ false) × (e.0 + 15 < s.day)). far.1)
          (leb_tells s.day (e.0 + 15));
      low = omega (arith, s.placed, up);
      high = s.by_end;
    }))
    (λ (t : (leb 64 (rank good start) ≡ false) × (rank good start < 64)). inl t.1)
    (leb_tells 64 (rank good start))

module _ (good : ℕ → Bool) (start : ℕ) (end : Date) (n : ℕ) (days : List Date) (few : n ≤ 400) (start_good : good start ≡ true) (end_good : good end.number ≡ true) (count : rank good start + n ≡ rank good end.number) (f : Filled good end n days) where
  pub last_is : at days (n + 64) ≡ end.number
  last_is = ap (λ (d : Date). d.number) (f.rest (n + 64) (omega arith) (omega arith))

  pub all_good : (k : ℕ) → k ≤ n + 64 → good (at days k) ≡ true
  all_good k h =
      ⊎_elim
      (λ e. ap (λ (i : ℕ). good (at days i)) e ∙ ap good last_is ∙ end_good)
      (λ lt. (f.steps k lt).day)
      (eq-or-lt_of_le h)

  up : (k : ℕ) → k < n + 64 → rank good (at days (k + 1)) ≡ rank good (at days k) + 1
  up k lt = let b = f.steps k lt in rank_neighbour good (at days k) (at days (k + 1)) b.day b.earlier b.none

  -- the number of good days before a day by its index
  pub ranked : (k : ℕ) → k ≤ n + 64 → rank good (at days k) + 64 ≡ rank good start + k
  ranked k h = omega (arith, ranked_back good (at days) (n + 64) up ((n + 64) - k) k (omega arith), ap (rank good) last_is, count)

  pub start_is : at days 64 ≡ start
  start_is = rank_same good (at days 64) start (all_good 64 (omega arith)) start_good (omega (arith, ranked 64 (omega arith)))

  pub no_gap : Says good start end.number apart → ⊥
  no_gap (inl short) = omega (arith, ranked 0 (omega arith))
  no_gap (inr far) =
      let next = rank_neighbour good far.first far.second far.first_good (omega (arith, far.apart)) far.none in
      let top = rank_mono good far.second end.number far.high in
      let k = (rank good far.first + 64) - rank good start in
      let within : k < n + 64 = omega (arith, next, top, count, far.low) in
      let first_at : at days k ≡ far.first = rank_same good (at days k) far.first (all_good k (omega arith)) far.first_good (omega (arith, ranked k (omega arith), far.low)) in
      let second_at : at days (k + 1) ≡ far.second = rank_same good (at days (k + 1)) far.second (all_good (k + 1) (omega arith)) far.second_good (omega (arith, ranked (k + 1) (omega arith), far.low, next)) in
      omega (arith, first_at, second_at, (f.steps k within).near, far.apart)

-- past the tests, no refusal under a smaller number than that of a gap is true
pub gap_first : (good : ℕ → Bool) (start end : ℕ) → start < end → end ≤ start + 400 → good start ≡ true → good end ≡ true → (q : Reason) → number q < 9 → Says good start end q → ⊥
gap_first good start end after soon start_good end_good period less (inl before) = omega arith
gap_first good start end after soon start_good end_good period less (inr late) = omega arith
gap_first good start end after soon start_good end_good not_good less (inl bad) = both_ways (good start) bad start_good
gap_first good start end after soon start_good end_good not_good less (inr bad) = both_ways (good end) bad end_good
gap_first good start end after soon start_good end_good apart less says = omega arith

module _ (good : ℕ → Bool) (start end : Date) (s : Schedule) (after : start.number < end.number) (soon : end.number ≤ start.number + 400) (start_good : good start.number ≡ true) (end_good : good end.number ≡ true) (count : rank good start.number + s.n ≡ rank good end.number) (f : Filled good end s.n s.days) where
  allowed : (q : Reason) → Says good start.number end.number q → ⊥
  allowed period says = gap_first good start.number end.number after soon start_good end_good period (omega arith) says
  allowed not_good says = gap_first good start.number end.number after soon start_good end_good not_good (omega arith) says
  allowed apart says = no_gap good start.number end s.n s.days s.few start_good end_good count f says

  -- by the index of a position
  good_at : (i : ℤ) → Indexed (s.n + 1) i → good (day_at s i).number ≡ true
  good_at i x = rw x.here (all_good good start.number end s.n s.days s.few start_good end_good count f x.index (omega (arith, x.below)))

  none_at : (i : ℤ) → Indexed s.n i → (x : ℕ) → (day_at s i).number < x → x < (day_at s (i +ℤ pos 1)).number → good x ≡ false
  none_at i k x p q = (f.steps k.index k.below).none x (rw k.here at p) (rw k.next at q)

  pub scheduled : Scheduled good start end s
  scheduled = record {
    allowed = allowed;
    starts = start_is good start.number end s.n s.days s.few start_good end_good count f;
    ends = last_is good start.number end s.n s.days s.few start_good end_good count f;
    days_good = λ i w. good_at i (indexed (s.n + 1) i w);
    none_between = λ i w. none_at i (indexed s.n i w);
    rest = λ k p q. f.rest k (omega arith) q;
  }
