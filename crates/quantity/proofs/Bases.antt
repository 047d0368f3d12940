-- The year bases, by their limits.
-- Assumes nothing.
use Rattle.std.proofs.Common.{◌≤◌, arith}
use Rattle.quantity.specs.Benchmarks.{days_in, scale}
use Rattle.quantity.specs.declared.year.YearBase.{YearBase}
use Rattle.quantity.specs.declared.year.YearBase.TheVariants.{Days360, Days365}

pub base_least : (base : YearBase) → 360 ≤ days_in base
base_least Days360 = omega arith
base_least Days365 = omega arith

pub base_most : (base : YearBase) → days_in base ≤ 365
base_most Days360 = omega arith
base_most Days365 = omega arith

pub scale_least : (base : YearBase) → 360000000 ≤ scale base
scale_least base = omega (arith, base_least base)
