use Rattle.std.proofs.Common.{refl}
use Rattle.calendar.specs.Easter.{moon, century, sunday, late, computus}
use Rattle.rules.specs.Rounding.{nearest}
use Rattle.vectors.proofs.worked_examples.Goals as goal

pub returns : goal.returns
unfolding nearest moon century sunday late computus
returns c = record { hold = refl; count = refl }
