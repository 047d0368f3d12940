-- Which positions a period has.
-- Assumes nothing.
use Rattle.std.specs.Prelude.{ℕ, Bool, ◌&&◌, ℤ, pos, negsuc, int_le, int_lt}

-- position i is one of -64 to n - 1
abbrev pub within : ℕ → ℤ → Bool
within n i = int_le (negsuc 63) i && int_lt i (pos n)
