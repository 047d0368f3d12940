-- The one test over the table, which antt computes.
-- Assumes nothing.
use Rattle.std.proofs.Common.{refl}
use Rattle.calendar.specs.Easter.{moon, century, sunday, late, computus, is_computus, every}
use Rattle.calendar.proofs.easter.table.Goals as goal

pub returns : goal.returns
unfolding moon century sunday late computus is_computus every
returns c = refl
