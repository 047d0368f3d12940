-- The tags of the fields of a fixing file.
-- Assumes nothing.
use Rattle.std.specs.Prelude.{ℕ}
use Rattle.fixings.specs.declared.reader.FieldKind.{FieldKind}
use Rattle.fixings.specs.declared.reader.FieldKind.TheVariants.{Benchmark, Fixing, End}

abbrev pub tag_of : FieldKind → ℕ
tag_of Benchmark = 1
tag_of Fixing = 2
tag_of End = 9
