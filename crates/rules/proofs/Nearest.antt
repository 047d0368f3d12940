-- The laws of rounding, by which alone it is known to everything above.
-- Assumes nothing.
use Rattle.std.proofs.Common.{◌≡◌, ℕ, suc, ◌+◌, ◌*◌, ◌^◌, ◌<◌, ◌≤◌, true, ℤ, pos, negsuc, ◌+ℤ◌, ◌-ℤ◌, ◌*ℤ◌, ◌≤ℤ◌, ◌<ℤ◌, ap, mul-le-mul_right, lt_of_mul-lt-mul_right, mul-lt-mul_of_pos_right, arith}
use Rattle.std.specs.Int.RustNames.{unsigned_abs}
use borrow.Author.Differences.{up, down, product_is}
use Rattle.std.proofs.lemmas.Int.{ints}
use Rattle.quantity.proofs.Bases.{base_least}
use Rattle.quantity.specs.Benchmarks.{days_in}
use Rattle.quantity.specs.declared.year.YearBase.{YearBase}
use Rattle.rules.specs.Rounding.{Fraction, floor_div, nearest, rounded, IsNearest}
use Rattle.rules.specs.Reach.{unit, is_in_reach}
use Rattle.rules.specs.Rate.{rate_of, amount_of}
use Rattle.rules.proofs.Reach.{excess_most, interest_most}
use Rattle.rules.specs.Whole.{floor_under, floor_over}

-- z / d ≤ z' / d' + j
floor_apart : (z z' : ℤ) (d d' j : ℕ) → 0 < d → 0 < d' → up z * d' + down z' * d ≤ up z' * d + down z * d' + j * (d * d')
    → up (floor_div z d) + down (floor_div z' d') ≤ up (floor_div z' d') + down (floor_div z d) + j
floor_apart z z' d d' j p p' h =
    let q = floor_div z d in
    let q' = floor_div z' d' in
    let low : (up q * d + down z) * d' ≤ (up z + down q * d) * d' = mul-le-mul_right d' (floor_under z d p) in
    let high : (up z' + down q' * d') * d < (up q' * d' + down z' + d') * d = mul-lt-mul_of_pos_right (floor_over z' d' p') p in
    let less : up q + down q' < up q' + down q + j + 1 = lt_of_mul-lt-mul_right (d * d') (omega arith) in
    omega arith

-- the parts of 2z + d
doubled : (z : ℤ) (d : ℕ) → up (pos 2 *ℤ z +ℤ pos d) + 2 * down z ≡ down (pos 2 *ℤ z +ℤ pos d) + 2 * up z + d
doubled z d = omega (arith, ints)

nearest_apart : (z z' : ℤ) (d d' j : ℕ) → 0 < d → 0 < d' → (z *ℤ pos d') ≤ℤ (z' *ℤ pos d +ℤ pos (j * (d * d'))) → nearest z d ≤ℤ (nearest z' d' +ℤ pos j)
unfolding nearest
nearest_apart z z' d d' j p p' h =
    let a = pos 2 *ℤ z +ℤ pos d in
    let a' = pos 2 *ℤ z' +ℤ pos d' in
    let e : (up a + 2 * down z) * d' ≡ (down a + 2 * up z + d) * d' = ap (λ n. n * d') (doubled z d) in
    let e' : (up a' + 2 * down z') * d ≡ (down a' + 2 * up z' + d') * d = ap (λ n. n * d) (doubled z' d') in
    let k : up z * d' + down z' * d ≤ up z' * d + down z * d' + j * (d * d') = omega (arith, ints) in
    let cross : up a * (2 * d') + down a' * (2 * d) ≤ up a' * (2 * d) + down a * (2 * d') + j * (2 * d * (2 * d')) = omega arith in
    let m = floor_apart a a' (2 * d) (2 * d') j (omega arith) (omega arith) cross in
    omega (arith, ints)

pub nearest_mono : (z z' : ℤ) (d d' : ℕ) → 0 < d → 0 < d' → (z *ℤ pos d') ≤ℤ (z' *ℤ pos d) → nearest z d ≤ℤ nearest z' d'
nearest_mono z z' d d' p p' h = let n = nearest_apart z z' d d' 0 p p' (omega (arith, ints)) in omega (arith, ints)

pub nearest_next : (z z' : ℤ) (d d' : ℕ) → 0 < d → 0 < d' → (z' *ℤ pos d) <ℤ (z *ℤ pos d' +ℤ pos (d * d')) → nearest z' d' ≤ℤ (nearest z d +ℤ pos 1)
nearest_next z z' d d' p p' h = nearest_apart z' z d' d 1 p' p (omega (arith, ints))

-- a number of at most n × d is rounded to one of at most n
pub nearest_most : (n d : ℕ) (z : ℤ) → 0 < d → unsigned_abs z ≤ n * d → unsigned_abs (nearest z d) ≤ n
unfolding nearest
nearest_most n d z p f = size (floor_div a (2 * d)) (floor_under a (2 * d) (omega arith)) (floor_over a (2 * d) (omega arith))
  where
    a : ℤ
    a = pos 2 *ℤ z +ℤ pos d

    size : (q : ℤ) → up q * (2 * d) + down a ≤ up a + down q * (2 * d) → up a + down q * (2 * d) < up q * (2 * d) + down a + 2 * d → unsigned_abs q ≤ n
    size (pos m) u o = let l : m < n + 1 = lt_of_mul-lt-mul_right (2 * d) (omega (arith, ints, doubled z d)) in omega arith
    size (negsuc m) u o = let l : suc m < n + 1 = lt_of_mul-lt-mul_right (2 * d) (omega (arith, ints, doubled z d)) in omega arith

-- what is rounded is nearest
pub nearest_is : (q : Fraction) → 0 < q.den → IsNearest q (rounded q)
unfolding nearest
nearest_is q p =
    let a = pos 2 *ℤ q.num +ℤ pos q.den in
    let d = 2 * q.den in
    let u = floor_under a d (omega arith) in
    let o = floor_over a d (omega arith) in
    let t = doubled q.num q.den in
    let m = product_is (floor_div a d) (pos d) in
    record { above = omega (arith, ints); below = omega (arith, ints) }

-- the rate of a bound in reach
pub rate_most : (base : YearBase) (W : ℕ) (b : ℤ) → is_in_reach b ≡ true → 0 < W → unsigned_abs (rate_of base W b) ≤ 3660000000
rate_most base W b r p = nearest_most 3660000000 (10 ^ 5 * W) ((b -ℤ pos unit) *ℤ pos (days_in base)) (omega (arith)) (omega (arith, excess_most b base r))

pub amount_most : (base : YearBase) (principal days : ℕ) (rate margin : ℤ) → principal ≤ 1000000000 → unsigned_abs (rate +ℤ margin) ≤ 3661000000 → days ≤ 2 ^ 32
    → unsigned_abs (amount_of base principal rate margin days) ≤ 4400000000000000000
amount_most base principal days rate margin p r d =
    nearest_most 4400000000000000000 (days_in base * 10 ^ 7) ((pos principal *ℤ (rate +ℤ margin)) *ℤ pos days) (omega (arith, base_least base)) (omega (arith, interest_most principal days (rate +ℤ margin) p r d, base_least base))
