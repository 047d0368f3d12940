-- Each rule keeps from step to step what the three laws rest on.
-- Assumes nothing.
use Rattle.std.proofs.Common.{refl}
use Rattle.quantity.specs.declared.year.YearBase.{YearBase}
use Rattle.rules.specs.Accrual.{compounded_factor, compounded_bounds, simple_factor, simple_bounds}
use Rattle.rules.specs.Chosen.{chosen_factor, chosen_bounds}
use Rattle.rules.specs.Laws.{keeps_compounded, keeps_simple}
use Rattle.rules.specs.Runs.{Keeps}
use Rattle.rules.specs.declared.rule.Rule.{Rule}
use Rattle.rules.specs.declared.rule.Rule.TheVariants.{Compounded, Simple}

pub compounded_keeps : (base : YearBase) → Keeps base (compounded_factor base) (compounded_bounds base)
compounded_keeps base = keeps_compounded base (compounded_factor base) (λ k x o. refl)

pub simple_keeps : (base : YearBase) → Keeps base (simple_factor base) (simple_bounds base)
simple_keeps base = keeps_simple base (simple_factor base) (λ k x o. refl)

pub chosen_keeps : (r : Rule) (base : YearBase) → Keeps base (chosen_factor r base) (chosen_bounds r base)
chosen_keeps Compounded base = compounded_keeps base
chosen_keeps Simple base = simple_keeps base
