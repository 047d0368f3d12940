-- Whole numbers near a quotient by a positive number.
-- Assumes nothing.
use Rattle.std.specs.Prelude.{ℕ, ◌*◌, ℤ, pos, ◌+ℤ◌, ◌-ℤ◌, ◌*ℤ◌, neg_ℤ, ◌≤ℤ◌, ◌<ℤ◌}
use Rattle.std.specs.Int.{int_div_euclid}

-- num / den, where den is above 0
pub record Fraction : Type 0 where
  pub num : ℤ
  pub den : ℕ

-- the greatest whole number not above z / d
abbrev pub floor_div : ℤ → ℕ → ℤ
floor_div z d = int_div_euclid z (pos d)

-- the least whole number not below z / d
abbrev pub ceil_div : ℤ → ℕ → ℤ
ceil_div z d = neg_ℤ (floor_div (neg_ℤ z) d)

-- the whole number nearest to z / d; of two, the greater
unfoldable pub nearest : ℤ → ℕ → ℤ
nearest z d = floor_div (pos 2 *ℤ z +ℤ pos d) (2 * d)

abbrev pub rounded : Fraction → ℤ
rounded q = nearest q.num q.den

-- the same as a relation: q − 1/2 < r ≤ q + 1/2, times twice the denominator
pub record IsNearest (q : Fraction) (r : ℤ) : Type 0 where
  pub above : (pos 2 *ℤ q.num -ℤ pos q.den) <ℤ (r *ℤ pos (2 * q.den))
  pub below : (r *ℤ pos (2 * q.den)) ≤ℤ (pos 2 *ℤ q.num +ℤ pos q.den)
