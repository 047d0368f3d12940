-- A run of observations: what its loop gathers is what the rule gives over the whole list.
-- Assumes nothing.
use Rattle.std.proofs.Common.{◌≡◌, ℕ, ◌<◌, ◌≤◌, true, List, length, ℤ, Some, None, Option, subst, arith, MatchOption}
use Rattle.quantity.specs.declared.year.YearBase.{YearBase}
use Rattle.rules.specs.Accrual.{weight_of, factor_of, bounds_of, Encloses, Narrow, Laws}
use Rattle.rules.specs.Rate.{Reports, Faithful, Accrues}
use Rattle.rules.specs.declared.bounds.Bounds.{Bounds}
use Rattle.rules.specs.declared.observation.Observation.{Observation}
use Rattle.rules.specs.declared.report.Report.{Report}
use Rattle.rules.specs.declared.run.Accrual.{Accrual}
use Rattle.rules.specs.Reach.{is_in_reach}
use Rattle.rules.proofs.Exact.{weight_count, faithful}
use Rattle.rules.proofs.Prefix.{tests_in_reach}

-- no rate where there is no weight, and otherwise a faithful one
report_of : (base : YearBase) (os : List Observation) (factor : ℤ) (b : Bounds) (W : ℕ) (r : Option Report) → W ≡ weight_of os → Encloses base os factor b → Narrow os b
    → MatchOption r (W ≡ 0) (λ p. (0 < W) × Reports base W b p)
    → MatchOption r (length os ≡ 0) (λ p. Reports base (weight_of os) b p × Faithful base os factor p)
report_of base os factor b W None e enc nar none = omega (arith, weight_count os)
report_of base os factor b W (Some p) e enc nar given =
    let r = subst (λ (w : ℕ). Reports base w b p) e given.1 in
    (r, faithful base os factor b (omega (arith, given.0)) enc nar p r)

module _ (base : YearBase) (grown : ℕ → ℤ → Observation → ℤ) (widened : ℕ → Bounds → Observation → Bounds) (laws : Laws base grown widened) (os : List Observation) (few : weight_of os ≤ 400) where
  pub reaches : (is_in_reach (bounds_of widened os).lo ≡ true) × (is_in_reach (bounds_of widened os).hi ≡ true)
  reaches = tests_in_reach base os (factor_of grown os) (bounds_of widened os) few (laws.encloses os few) (laws.narrow os few) (laws.moderate os few)

  pub accrues : (a : Accrual) → a.count ≡ length os → a.weight.days ≡ weight_of os → a.bounds ≡ bounds_of widened os
      → MatchOption a.report (a.weight.days ≡ 0) (λ p. (0 < a.weight.days) × Reports base a.weight.days (bounds_of widened os) p)
      → Accrues grown widened base os a
  accrues a count weight bounds report = record {
    count = count;
    weight = weight;
    bounds = bounds;
    encloses = rw bounds (laws.encloses os few);
    narrow = rw bounds (laws.narrow os few);
    moderate = laws.moderate os few;
    report = rw bounds (report_of base os (factor_of grown os) (bounds_of widened os) a.weight.days a.report weight (laws.encloses os few) (laws.narrow os few) report);
  }
