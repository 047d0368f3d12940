use Rattle.std.proofs.Common.{◌≡◌, ◌+◌, take, sym, ap, ◌∙◌, arith, length-take, take_all, refl}
use Rattle.std.proofs.lemmas.Option.{MatchOption-at_some}
use Rattle.std.proofs.lemmas.Bool.{true≢false}
use Rattle.rules.proofs.Kept.{some_of}
use Rattle.quantity.specs.Refusals.{told}
use Rattle.std.proofs.lemmas.Result.{err_from_is_err_and}
use Rattle.rules.specs.Accrual.{weight_of, bounds_of}
use Rattle.rules.proofs.Accrued.{reaches, accrues}
use Rattle.rules.proofs.Exact.{weight_count}
use Rattle.rules.proofs.Prefix.{bounds_next, weight_next}
use Rattle.rules.specs.declared.observation.Observation.{Observation}
use Rattle.std.proofs.lemmas.List.Sums.{sum_by-take-le}
use Rattle.rules.proofs.run.accrued.Goals as goal

pub returns-in_err-weight : goal.returns-in_err-weight
returns-in_err-weight g c =
    let p = err_from_is_err_and c.from_residual.result c.from_residual.ensures.1 in
    let os = c.args.seen.now in
    let i = c.loop-count.count in
    let weight = weight_next os i c.index-seen-count.result c.loop-count-test.true c.index-seen-count.is in
    let heavy = c.in_err-weight.ensures in
    rw p.1 (omega (arith, heavy.0, c.loop-count.invariant.1, weight, sum_by-take-le (λ (o : Observation). o.weight.days) os (i + 1)), ap told p.2 ∙ heavy.1)

pub overflow_cast-count : goal.overflow_cast-count
overflow_cast-count g c =
    let os = c.args.seen.now in
    let i = c.loop-count.count in
    omega (arith, c.loop-count.invariant.1, weight_count (take i os), length-take i os)

pub unwrap-bounds-requires : goal.unwrap-bounds-requires
unwrap-bounds-requires g c =
    let rule = c.args.rule.now in
    let base = c.args.base in
    let os = c.args.seen.now in
    let i = c.loop-count.count in
    let step = g.R.AccrualRule.widened rule base in
    let next = bounds_next step os i c.index-seen-count.result c.loop-count.bounds.bounds c.step.result c.loop-count-test.true c.index-seen-count.is c.loop-count.invariant.0 c.step.ensures in
    let weight = weight_next os i c.index-seen-count.result c.loop-count-test.true c.index-seen-count.is in
    let reach = reaches base (g.R.AccrualRule.grown rule base) step (g.met.R.AccrualRule.laws rule base) (take (i + 1) os) (omega (arith, weight, c.in_ok-weight.ensures, c.loop-count.invariant.1)) in
    some_of _ _ _ c.new.ensures (rw (next, reach.0, reach.1) true≢false)

pub loop-count-preserved : goal.loop-count-preserved
loop-count-preserved g c =
    let os = c.args.seen.now in
    let i = c.loop-count.count in
    let next = bounds_next (g.R.AccrualRule.widened c.args.rule.now c.args.base) os i c.index-seen-count.result c.loop-count.bounds.bounds c.step.result c.loop-count-test.true c.index-seen-count.is c.loop-count.invariant.0 c.step.ensures in
    let weight = weight_next os i c.index-seen-count.result c.loop-count-test.true c.index-seen-count.is in
    (MatchOption-at_some _ _ _ c.unwrap-bounds.ensures c.new.ensures ∙ next, omega (arith, c.in_ok-weight.ensures, c.loop-count.invariant.1, weight))

pub overflow_cast-result : goal.overflow_cast-result
overflow_cast-result g c =
    let os = c.args.seen.now in
    omega (arith, c.loop-count.invariant.1, weight_count os, ap weight_of (take_all _ os c.loop-count-test.false))

pub returns : goal.returns
returns g c =
    let rule = c.args.rule.now in
    let base = c.args.base in
    let os = c.args.seen.now in
    let step = g.R.AccrualRule.widened rule base in
    let all : take c.loop-count.count os ≡ os = take_all _ os c.loop-count-test.false in
    let weight : c.loop-count.weight.days ≡ weight_of os = rw all at c.loop-count.invariant.1 in
    let bounds : c.loop-count.bounds.bounds ≡ bounds_of step os = rw all at c.loop-count.invariant.0 in
    accrues base (g.R.AccrualRule.grown rule base) step (g.met.R.AccrualRule.laws rule base) os (omega arith) _ refl weight (c.bounds.ensures.value ∙ bounds) (rw (sym bounds) c.reported.ensures)
