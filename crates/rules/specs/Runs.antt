-- From one step to a list of observations, for any rule: the three laws.
-- Assumes nothing.
use Rattle.std.specs.Prelude.{◌≡◌, ℕ, suc, ◌+◌, ◌*◌, ◌^◌, ◌≤◌, List, [], ◌∷◌, length, ℤ, pos, refl}
use Rattle.std.proofs.Common.{subst, pow-suc, arith}
use Rattle.std.proofs.Math.Nat.{pow-zero}
use Rattle.std.proofs.lemmas.Int.{ints}
use Rattle.std.proofs.lemmas.List.Sums.{sum_by-cons}
use Rattle.quantity.proofs.Bases.{scale_least}
use Rattle.quantity.specs.Benchmarks.{scale}
use Rattle.quantity.specs.declared.year.YearBase.{YearBase}
use Rattle.rules.specs.Accrual.{weight_of, carried, factor_of, bounds_of, at_one, Encloses, Narrow, Moderate, Laws}
use Rattle.rules.specs.Reach.{unit}
use Rattle.rules.specs.declared.bounds.Bounds.{Bounds}
use Rattle.rules.specs.declared.observation.Observation.{Observation}
use Rattle.rules.specs.Core.{narrow_held, half_held, double_held}
use Rattle.rules.specs.Sound.{Sound}

abbrev pub Good : YearBase → (k W : ℕ) → ℤ → Bounds → Type 0
Good base k W factor b = Sound (scale base) (scale base ^ k) k W factor b.lo b.hi

-- one step of a rule keeps what the laws need
abbrev pub Keeps : YearBase → (ℕ → ℤ → Observation → ℤ) → (ℕ → Bounds → Observation → Bounds) → Type 0
Keeps base grown widened = (k W : ℕ) (factor : ℤ) (b : Bounds) (o : Observation) → W + o.weight.days ≤ 400 → Good base k W factor b
    → Sound (scale base) (scale base ^ k * scale base) (suc k) (W + o.weight.days) (grown k factor o) (widened k b o).lo (widened k b o).hi

pub start : (base : YearBase) → Good base 0 0 (pos 1) at_one
start base = record {
  x = 1;
  l = unit;
  d = 0;
  M = scale base;
  factor_is = refl;
  lo_is = refl;
  hi_is = refl;
  rest = omega arith;
  count = omega arith;
  held = rw (pow-zero (scale base)) (record { some = omega arith; low = omega arith; high = omega arith; gap = omega arith; top = omega arith; bottom = omega arith });
}

module _ (base : YearBase) (grown : ℕ → ℤ → Observation → ℤ) (widened : ℕ → Bounds → Observation → Bounds) (keeps : Keeps base grown widened) where
  pub good_run : (os : List Observation) (k W n V : ℕ) (factor : ℤ) (b : Bounds) → n ≡ k + length os → V ≡ W + weight_of os → V ≤ 400
      → Good base k W factor b → Good base n V (carried grown k factor os) (carried widened k b os)
  good_run [] k W n V factor b ne ve few s =
      let kn : k ≡ n = omega arith in
      let wv : W ≡ V = omega arith in
      subst (λ (j : ℕ). Good base j V factor b) kn (subst (λ (u : ℕ). Good base k u factor b) wv s)
  good_run (o ∷ os) k W n V factor b ne ve few s =
      let sum = sum_by-cons (λ (p : Observation). p.weight.days) o os in
      good_run os (suc k) (W + o.weight.days) n V (grown k factor o) (widened k b o) (omega arith) (omega arith) few
      (rw (pow-suc (scale base) k) (keeps k W factor b o (omega arith) s))

  pub good : (os : List Observation) → weight_of os ≤ 400 → Good base (length os) (weight_of os) (factor_of grown os) (bounds_of widened os)
  good os few = good_run os 0 0 (length os) (weight_of os) (pos 1) at_one (omega arith) (omega arith) few (start base)

module _ (base : YearBase) (grown : ℕ → ℤ → Observation → ℤ) (widened : ℕ → Bounds → Observation → Bounds) (keeps : Keeps base grown widened) (os : List Observation) (few : weight_of os ≤ 400) where
  there : Good base (length os) (weight_of os) (factor_of grown os) (bounds_of widened os)
  there = good base grown widened keeps os few

  wide : 2 * scale base ≤ 3 * there.M
  wide = omega (arith, there.rest, scale_least base)

  pub encloses_of : Encloses base os (factor_of grown os) (bounds_of widened os)
  encloses_of = record {
    above = rw (there.lo_is, there.factor_is) (omega (arith, ints, there.held.low));
    below = rw (there.hi_is, there.factor_is) (omega (arith, ints, there.held.high));
  }

  pub narrow_of : Narrow os (bounds_of widened os)
  narrow_of =
      let n : there.d ≤ 3 * length os = narrow_held (scale base) (scale base ^ length os) (length os) there.M there.x there.l there.d (omega (arith, scale_least base)) wide there.held in
      rw (there.lo_is, there.hi_is) (omega (arith, ints))

  pub moderate_of : Moderate base os (factor_of grown os)
  moderate_of =
      let h : scale base ^ length os ≤ 2 * there.x = half_held (scale base) (scale base ^ length os) (length os) there.M there.x there.l there.d (omega (arith, scale_least base)) wide there.held in
      let d : there.x ≤ 2 * scale base ^ length os = double_held (scale base) (scale base ^ length os) (length os) there.M there.x there.l there.d (omega (arith, scale_least base)) wide there.held in
      record { half = rw there.factor_is (omega (arith, ints)); double = rw there.factor_is (omega (arith, ints)) }

pub laws_of : (base : YearBase) (grown : ℕ → ℤ → Observation → ℤ) (widened : ℕ → Bounds → Observation → Bounds) → Keeps base grown widened → Laws base grown widened
laws_of base grown widened keeps = record {
  encloses = encloses_of base grown widened keeps;
  narrow = narrow_of base grown widened keeps;
  moderate = moderate_of base grown widened keeps;
}
