-- The reported rate against the exact rate, from a rule's laws and those of rounding alone.
-- Assumes nothing.
use Rattle.std.proofs.Common.{◌≡◌, ℕ, ◌+◌, ◌*◌, ◌^◌, ◌<◌, ◌≤◌, Bool, true, ◌⊎◌, List, [], ◌∷◌, length, ℤ, pos, ◌+ℤ◌, ◌-ℤ◌, ◌*ℤ◌, ◌≤ℤ◌, ◌<ℤ◌, sym, ap, ◌∙◌, inl, inr, mul-le-mul_right, mul-le-mul, mul-lt-mul_of_pos_right, mul-pos, arith}
use borrow.Author.Differences.{up, down, product_is}
use native.Mathlib.Nat.{one-le-pow}
use Rattle.std.proofs.lemmas.Int.{ints, by_lt_z}
use Rattle.std.proofs.lemmas.List.Sums.{sum_by-cons}
use Rattle.std.proofs.lemmas.Bool.Decides.{Decides-int_eq}
use Rattle.quantity.proofs.Bases.{base_most, scale_least}
use Rattle.quantity.specs.Benchmarks.{days_in, scale}
use Rattle.quantity.specs.declared.year.YearBase.{YearBase}
use Rattle.rules.specs.Accrual.{weight_of, Encloses, Narrow}
use Rattle.rules.specs.Rate.{rate_of, exact_rate_of, same, Reports, Faithful}
use Rattle.rules.specs.Reach.{unit}
use Rattle.rules.specs.Rounding.{rounded}
use Rattle.rules.specs.declared.bounds.Bounds.{Bounds}
use Rattle.rules.specs.declared.observation.Observation.{Observation}
use Rattle.rules.specs.declared.report.Report.{Report}
use Rattle.rules.proofs.Nearest.{nearest_mono, nearest_next}

-- the parts of a product by two naturals
parts : (s : ℤ) (n m : ℕ) → (up ((s *ℤ pos n) *ℤ pos m) ≡ up s * n * m) × (down ((s *ℤ pos n) *ℤ pos m) ≡ down s * n * m)
parts s n m =
    let f = product_is s (pos n) in
    let u : up (s *ℤ pos n) * m ≡ (up s * n) * m = ap (λ t. t * m) (omega (arith, f)) in
    let d : down (s *ℤ pos n) * m ≡ (down s * n) * m = ap (λ t. t * m) (omega (arith, f)) in
    (omega (arith, product_is (s *ℤ pos n) (pos m)), omega (arith, product_is (s *ℤ pos n) (pos m)))

-- (b − U) × P − (x − P) × U = b × P − U × x, times N × W
cross_is : (N W P : ℕ) (b x : ℤ)
    → up (((b -ℤ pos unit) *ℤ pos N) *ℤ pos (P * W)) + down (((x -ℤ pos P) *ℤ pos (N * 10 ^ 7)) *ℤ pos (10 ^ 5 * W)) + (down b * P + unit * up x) * (N * W)
    ≡ down (((b -ℤ pos unit) *ℤ pos N) *ℤ pos (P * W)) + up (((x -ℤ pos P) *ℤ pos (N * 10 ^ 7)) *ℤ pos (10 ^ 5 * W)) + (up b * P + unit * down x) * (N * W)
cross_is N W P b x =
    let s = b -ℤ pos unit in
    let t = x -ℤ pos P in
    let e : up s + down b + unit ≡ down s + up b = omega (arith, ints) in
    let f : up t + down x + P ≡ down t + up x = omega (arith, ints) in
    let e' : (up s + down b + unit) * (N * (P * W)) ≡ (down s + up b) * (N * (P * W)) = ap (λ n. n * (N * (P * W))) e in
    let f' : (up t + down x + P) * (N * W) ≡ (down t + up x) * (N * W) = ap (λ n. n * (N * W)) f in
    omega (arith, parts s N (P * W), parts t (N * 10 ^ 7) (10 ^ 5 * W))

low_cross : (N W P : ℕ) (lo x : ℤ) → (lo *ℤ pos P) ≤ℤ (pos unit *ℤ x)
    → (((lo -ℤ pos unit) *ℤ pos N) *ℤ pos (P * W)) ≤ℤ (((x -ℤ pos P) *ℤ pos (N * 10 ^ 7)) *ℤ pos (10 ^ 5 * W))
low_cross N W P lo x h =
    let k : up lo * P + unit * down x ≤ down lo * P + unit * up x = omega (arith, ints) in
    let k' : (up lo * P + unit * down x) * (N * W) ≤ (down lo * P + unit * up x) * (N * W) = mul-le-mul_right (N * W) k in
    omega (arith, ints, cross_is N W P lo x)

high_cross : (N W P : ℕ) (hi x : ℤ) → (pos unit *ℤ x) ≤ℤ (hi *ℤ pos P)
    → (((x -ℤ pos P) *ℤ pos (N * 10 ^ 7)) *ℤ pos (10 ^ 5 * W)) ≤ℤ (((hi -ℤ pos unit) *ℤ pos N) *ℤ pos (P * W))
high_cross N W P hi x h =
    let k : down hi * P + unit * up x ≤ up hi * P + unit * down x = omega (arith, ints) in
    let k' : (down hi * P + unit * up x) * (N * W) ≤ (up hi * P + unit * down x) * (N * W) = mul-le-mul_right (N * W) k in
    omega (arith, ints, cross_is N W P hi x)

-- 3k units make less than one place of rate
next_cross : (N W k : ℕ) (lo hi : ℤ) → N ≤ 366 → 0 < W → k ≤ W → hi ≤ℤ (lo +ℤ pos (3 * k))
    → (((hi -ℤ pos unit) *ℤ pos N) *ℤ pos (10 ^ 5 * W)) <ℤ (((lo -ℤ pos unit) *ℤ pos N) *ℤ pos (10 ^ 5 * W) +ℤ pos (10 ^ 5 * W * (10 ^ 5 * W)))
next_cross N W k lo hi few some count h =
    let s = hi -ℤ pos unit in
    let t = lo -ℤ pos unit in
    let D = 10 ^ 5 * W in
    let a : up s + down t ≤ up t + down s + 3 * k = omega (arith, ints) in
    let n : k * N ≤ W * 366 = mul-le-mul count few in
    let c : (up s + down t) * N < (up t + down s) * N + D = omega (arith, mul-le-mul_right N a) in
    let e : ((up s + down t) * N) * D < ((up t + down s) * N + D) * D = mul-lt-mul_of_pos_right c (omega arith) in
    let l = parts s N D in
    let r = parts t N D in
    omega (arith, ints)

pub weight_count : (os : List Observation) → length os ≤ weight_of os
weight_count [] = omega arith
weight_count (o ∷ os) = omega (arith, sum_by-cons (λ (p : Observation). p.weight.days) o os, weight_count os, o.weight.least)

-- two integers that pass the test of equality
pub same_is : (a b : ℤ) → same a b ≡ true → a ≡ b
same_is a b = (Decides-int_eq a b).0

module _ (base : YearBase) (os : List Observation) (factor : ℤ) (b : Bounds) (some : 0 < weight_of os) (enc : Encloses base os factor b) (nar : Narrow os b) where
  places : 0 < 10 ^ 5 * weight_of os
  places = omega arith

  whole : 0 < scale base ^ length os * weight_of os
  whole = mul-pos (one-le-pow (length os) (scale base) (omega (arith, scale_least base))) some

  low : rate_of base (weight_of os) b.lo ≤ℤ rounded (exact_rate_of base os factor)
  low = nearest_mono _ _ _ _ places whole (low_cross (days_in base) (weight_of os) (scale base ^ length os) b.lo factor enc.above)

  high : rounded (exact_rate_of base os factor) ≤ℤ rate_of base (weight_of os) b.hi
  high = nearest_mono _ _ _ _ whole places (high_cross (days_in base) (weight_of os) (scale base ^ length os) b.hi factor enc.below)

  next : rate_of base (weight_of os) b.hi ≤ℤ (rate_of base (weight_of os) b.lo +ℤ pos 1)
  next = nearest_next _ _ _ _ places places (next_cross (days_in base) (weight_of os) (length os) b.lo b.hi (omega (arith, base_most base)) some (weight_count os) nar)

  -- of a rate that the lower bound gives, and a mark that says whether the upper bound gives the same
  pub settled_exact : (rate : ℤ) (mark : Bool) → rate ≡ rate_of base (weight_of os) b.lo → mark ≡ same (rate_of base (weight_of os) b.hi) (rate_of base (weight_of os) b.lo) → mark ≡ true
      → rounded (exact_rate_of base os factor) ≡ rate
  settled_exact rate mark er em e =
      let equal : rate_of base (weight_of os) b.hi ≡ rate_of base (weight_of os) b.lo = same_is _ _ (sym em ∙ e) in
      omega (arith, ints, low, high)

  pub exact_or_next : (rate : ℤ) → rate ≡ rate_of base (weight_of os) b.lo → (rounded (exact_rate_of base os factor) ≡ rate) ⊎ (rounded (exact_rate_of base os factor) ≡ rate +ℤ pos 1)
  exact_or_next rate er =
      by_lt_z (rate_of base (weight_of os) b.lo) (rounded (exact_rate_of base os factor))
      (λ above. inr (omega (arith, ints, high, next))) (λ equal. inl (omega (arith, ints, low)))

  pub faithful : (p : Report) → Reports base (weight_of os) b p → Faithful base os factor p
  faithful p r = record {
    settled = settled_exact p.rate.places p.settled r.rate r.settled;
    otherwise = exact_or_next p.rate.places r.rate;
  }
