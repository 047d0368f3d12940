-- Floors and ceilings, by the inequalities that they satisfy.
-- Assumes nothing.
-- An integer z is read as up z − down z, and q × B as two products, which `omega` can add up.
use Rattle.std.specs.Prelude.{◌≡◌, ℕ, ◌+◌, ◌*◌, ◌<◌, ◌≤◌, ℤ, pos, negsuc, ◌+ℤ◌, neg_ℤ, refl}
use Rattle.std.proofs.Common.{ap, div-add-mod', mod-lt, arith}
use borrow.Author.Differences.{up, down, neg_is, sum_is_lem}
use Rattle.std.proofs.lemmas.Int.{ints}
use Rattle.rules.specs.Rounding.{floor_div, ceil_div}

-- q × B ≤ z < q × B + B, for q = ⌊z / B⌋
pub floor_under : (z : ℤ) (B : ℕ) → 0 < B → up (floor_div z B) * B + down z ≤ up z + down (floor_div z B) * B
floor_under (pos a) B p = let split = div-add-mod' a B in omega arith
floor_under (negsuc a) B p = let split = div-add-mod' a B in let small = mod-lt a p in omega arith

pub floor_over : (z : ℤ) (B : ℕ) → 0 < B → up z + down (floor_div z B) * B < up (floor_div z B) * B + down z + B
floor_over (pos a) B p = let split = div-add-mod' a B in let small = mod-lt a p in omega arith
floor_over (negsuc a) B p = let split = div-add-mod' a B in let small = mod-lt a p in omega arith

-- z ≤ q × B < z + B, for q = ⌈z / B⌉
pub ceil_under : (z : ℤ) (B : ℕ) → 0 < B → up z + down (ceil_div z B) * B ≤ up (ceil_div z B) * B + down z
ceil_under z B p =
    let f = floor_div (neg_ℤ z) B in
    let u : up (neg_ℤ f) * B ≡ down f * B = ap (λ n. n * B) (neg_is f).0 in
    let d : down (neg_ℤ f) * B ≡ up f * B = ap (λ n. n * B) (neg_is f).1 in
    omega (arith, floor_under (neg_ℤ z) B p, neg_is z)

pub ceil_over : (z : ℤ) (B : ℕ) → 0 < B → up (ceil_div z B) * B + down z < up z + down (ceil_div z B) * B + B
ceil_over z B p =
    let f = floor_div (neg_ℤ z) B in
    let u : up (neg_ℤ f) * B ≡ down f * B = ap (λ n. n * B) (neg_is f).0 in
    let d : down (neg_ℤ f) * B ≡ up f * B = ap (λ n. n * B) (neg_is f).1 in
    omega (arith, floor_over (neg_ℤ z) B p, neg_is z)

-- x + q, times B
pub sum_times : (x : ℕ) (q : ℤ) (B : ℕ) → up (pos x +ℤ q) * B + down q * B ≡ down (pos x +ℤ q) * B + x * B + up q * B
sum_times x q B = let e : (up (pos x +ℤ q) + down q) * B ≡ (down (pos x +ℤ q) + x + up q) * B = ap (λ n. n * B) (omega (arith, sum_is_lem (pos x) q)) in omega arith

-- an integer is a natural number if it is so times B, up to less than one B
pub natural : (s : ℤ) (B : ℕ) → down s * B < up s * B + B → (m : ℕ) × (s ≡ pos m)
natural (pos n) B h = (n, refl)
natural (negsuc n) B h = absurd (omega arith)

-- x + q is a natural m, and how far q × B is from z, where xB + z = n and q × B > z − B
whole_of : (z q : ℤ) (B x n : ℕ) → pos (x * B) +ℤ z ≡ pos n → up z + down q * B < up q * B + down z + B
    → (m : ℕ) × (pos x +ℤ q ≡ pos m) × (m * B + up z + down q * B ≡ n + down z + up q * B)
whole_of z q B x n e o =
    let whole : x * B + up z ≡ n + down z = omega (arith, ints) in
    let s = sum_times x q B in
    let nat : (m : ℕ) × (pos x +ℤ q ≡ pos m) = natural (pos x +ℤ q) B (omega arith) in
    let mu : up (pos x +ℤ q) * B ≡ nat.0 * B = ap (λ t. up t * B) nat.1 in
    let md : down (pos x +ℤ q) * B ≡ 0 * B = ap (λ t. down t * B) nat.1 in
    (nat.0, nat.1, omega arith)

-- x + ⌊z / B⌋ is the natural ⌊n / B⌋, where xB + z = n
pub record Floor (z : ℤ) (B x n : ℕ) : Type 0 where
  pub m : ℕ
  pub is : pos x +ℤ floor_div z B ≡ pos m
  pub under : m * B ≤ n
  pub over : n < m * B + B

pub floor_of : (z : ℤ) (B x n : ℕ) → 0 < B → pos (x * B) +ℤ z ≡ pos n → Floor z B x n
floor_of z B x n p e =
    let o = floor_over z B p in
    let t = whole_of z (floor_div z B) B x n e o in
    record { m = t.0; is = t.1; under = omega (arith, t.2, floor_under z B p); over = omega (arith, t.2, o) }

-- likewise the ceiling
pub record Ceiling (z : ℤ) (B x n : ℕ) : Type 0 where
  pub m : ℕ
  pub is : pos x +ℤ ceil_div z B ≡ pos m
  pub under : n ≤ m * B
  pub over : m * B < n + B

pub ceil_of : (z : ℤ) (B x n : ℕ) → 0 < B → pos (x * B) +ℤ z ≡ pos n → Ceiling z B x n
ceil_of z B x n p e =
    let u = ceil_under z B p in
    let t = whole_of z (ceil_div z B) B x n e (omega arith) in
    record { m = t.0; is = t.1; under = omega (arith, t.2, u); over = omega (arith, t.2, ceil_over z B p) }
