-- The numbers that the bounds of a factor stay between, so that every product of a step fits 64 bits.
-- Assumes nothing.
use Rattle.std.specs.Prelude.{ℕ, ◌+◌, ◌*◌, ◌^◌, Bool, ◌&&◌, ℤ, pos, int_le}

-- U: one, in units of 10^-12
abbrev pub unit : ℕ
unit = 10 ^ 12

-- a factor of two, and 3 units for each of 400 observations
abbrev pub reach : ℕ
reach = 2 * unit + 1200

abbrev pub is_in_reach : ℤ → Bool
is_in_reach bound = int_le (pos 0) bound && int_le bound (pos reach)
