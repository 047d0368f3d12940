-- The rule that a coupon's terms name.
-- Assumes nothing.
use Rattle.std.specs.Prelude.{ℕ, List, ℤ, codes}
use Rattle.quantity.specs.declared.year.YearBase.{YearBase}
use Rattle.rules.specs.Accrual.{compounded_factor, compounded_bounds, simple_factor, simple_bounds}
use Rattle.rules.specs.declared.rule.Rule.{Rule}
use Rattle.rules.specs.declared.rule.Rule.TheVariants.{Compounded, Simple}
use Rattle.rules.specs.declared.bounds.Bounds.{Bounds}
use Rattle.rules.specs.declared.observation.Observation.{Observation}

abbrev pub chosen_factor : Rule → YearBase → ℕ → ℤ → Observation → ℤ
chosen_factor Compounded = compounded_factor
chosen_factor Simple = simple_factor

abbrev pub chosen_bounds : Rule → YearBase → ℕ → Bounds → Observation → Bounds
chosen_bounds Compounded = compounded_bounds
chosen_bounds Simple = simple_bounds

-- the word of a rule
abbrev pub rule_word : Rule → List ℕ
rule_word Compounded = codes "compounded"
rule_word Simple = codes "simple"
