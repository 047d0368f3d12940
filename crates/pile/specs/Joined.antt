-- The pile of a schedule and a source is lawful.
-- Assumes nothing.
use Rattle.std.specs.Prelude.{◌≡◌, ℕ, ◌+◌, ◌<◌, ◌≤◌, Bool, true, false, cond, ℤ, pos, ◌+ℤ◌, Some, None, Ok, Err, Option, Result, refl}
use Rattle.std.proofs.Common.{sym, ap, ◌∙◌, arith}
use mathlib.Core.HLevel.{Σ_prop_path}
use Rattle.std.proofs.Math.Bridge.{le_prop}
use Rattle.std.proofs.lemmas.Bool.{cond-true}
use Rattle.quantity.specs.declared.weight.Weight.{Weight}
use Rattle.quantity.specs.declared.date.Date.{Date}
use Rattle.quantity.specs.declared.rate.Rate.{Rate}
use Rattle.quantity.specs.declared.days.DayCount.{DayCount}
use Rattle.quantity.specs.declared.fault.Fault.{Fault}
use Rattle.pile.specs.Faults.{outside}
use Rattle.schedule.specs.Positions.{within}
use Rattle.pile.specs.Piles.{Lawful}
use Rattle.schedule.specs.declared.schedule.Schedule.{Schedule}
use Rattle.schedule.specs.Meaning.{day_at, gap_at}
use Rattle.schedule.proofs.Indices.{Indexed, indexed}
use Rattle.pile.specs.Direct.{direct, weighing, Weighs}

-- a weight is known by its days
pub weight_same : (x y : Weight) → x.days ≡ y.days → x ≡ y
weight_same x y e =
    let made : ((q : ((n : ℕ) × (1 ≤ n))) × (q.0 ≤ 15)) → Weight = λ p. record { days = p.0.0; least = p.0.1; most = p.1 } in
    let low : ◌≡◌ {A = (n : ℕ) × (1 ≤ n)} (x.days, x.least) (y.days, y.least) = Σ_prop_path (λ n. le_prop) e in
    ap made (Σ_prop_path (λ q. le_prop) {u = ((x.days, x.least), x.most)} {v = ((y.days, y.least), y.most)} low)

module _ (s : Schedule) where
  rises-at : (i : ℤ) → Indexed s.n i → (day_at s i).number < (day_at s (i +ℤ pos 1)).number
  rises-at i x = rw (x.here, x.next) (s.rises x.index x.below)

  close_at : (i : ℤ) → Indexed s.n i → (day_at s (i +ℤ pos 1)).number ≤ (day_at s i).number + 15
  close_at i x = rw (x.here, x.next) (s.close x.index x.below)

  gap_least : (i : ℤ) → within s.n i ≡ true → 1 ≤ (gap_at s i).days
  gap_least i w = omega (arith, rises-at i (indexed s.n i w))

  gap_most : (i : ℤ) → within s.n i ≡ true → (gap_at s i).days ≤ 15
  gap_most i w = omega (arith, close_at i (indexed s.n i w))

  pub weighs : Weighs s
  weighs i w = let least = gap_least i w in let most = gap_most i w in omega arith

  -- a gap that is told is in range
  told : (i : ℤ) (b : Bool) (g : DayCount) → within s.n i ≡ b → Some g ≡ cond b (Some (gap_at s i)) None → (within s.n i ≡ true) × (g ≡ gap_at s i)
  told i true g w e = (w, cc)
  told i false g w e = absurd cc

  pub gap_known : (i : ℤ) (g : DayCount) → Some g ≡ cond (within s.n i) (Some (gap_at s i)) None → (1 ≤ g.days) × (g.days ≤ 15)
  gap_known i g e =
      let t = told i (within s.n i) g refl e in
      let same : g.days ≡ (gap_at s i).days = ap (λ (x : DayCount). x.days) t.1 in
      (omega (arith, gap_least i t.0), omega (arith, gap_most i t.0))

  pub weighed : (i : ℤ) (g : DayCount) (w : Weight) → Some g ≡ cond (within s.n i) (Some (gap_at s i)) None → w.days ≡ g.days → Ok w ≡ cond (within s.n i) (Ok (weighing (gap_at s i).days)) (Err (outside i))
  weighed i g w e h =
      let t = told i (within s.n i) g refl e in
      let same : g.days ≡ (gap_at s i).days = ap (λ (x : DayCount). x.days) t.1 in
      let least = gap_least i t.0 in
      let most = gap_most i t.0 in
      let days : w.days ≡ (weighing (gap_at s i).days).days = omega arith in
      ap Ok (weight_same w (weighing (gap_at s i).days) days) ∙ sym (cond-true (within s.n i) (Ok (weighing (gap_at s i).days)) (Err (outside i)) t.0)

  -- the day of the pile at a position is that of the schedule
  day_is : (b : Bool) (i : ℤ) (d : Date) → ◌≡◌ {A = Result Date Fault} (cond b (Ok (day_at s i)) (Err (outside i))) (Ok d) → day_at s i ≡ d
  day_is true i d e = cc
  day_is false i d e = absurd cc

  pub direct_lawful : (rates : Date → Option Rate) → Lawful (direct s rates)
  direct_lawful rates = record {
    some = s.some;
    few = s.few;
    has_day = λ i w. (day_at s i, simp w);
    rises = λ i d e w p q. let x = day_is (within (s.n + 1) i) i d p in let y = day_is (within (s.n + 1) (i +ℤ pos 1)) (i +ℤ pos 1) e q in
        let h = rises-at i (indexed s.n i w) in omega (arith, h, ap (λ (t : Date). t.number) x, ap (λ (t : Date). t.number) y);
    gaps = λ i d e w p q. let x = day_is (within (s.n + 1) i) i d p in let y = day_is (within (s.n + 1) (i +ℤ pos 1)) (i +ℤ pos 1) e q in
        let h = close_at i (indexed s.n i w) in omega (arith, h, ap (λ (t : Date). t.number) x, ap (λ (t : Date). t.number) y);
    span = λ d e p q. let x = day_is (within (s.n + 1) (pos 0)) (pos 0) d p in let y = day_is (within (s.n + 1) (pos s.n)) (pos s.n) e q in
        omega (arith, s.span, ap (λ (t : Date). t.number) x, ap (λ (t : Date). t.number) y);
    no_day = λ i e. simp e;
    no_weight = λ i e. simp e;
    no_rate = λ i e. simp e;
  }
