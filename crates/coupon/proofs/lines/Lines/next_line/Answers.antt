use Rattle.std.proofs.Common.{◌≡◌, ◌≤◌, [], ◌∷◌, ◌++◌, ◌-ℤ◌, arith, w64, SFits, rules}
use Rattle.std.proofs.lemmas.Int.{ints, to_z-of_z}
use Rattle.rules.specs.Rate.{Reports}
use Rattle.coupon.specs.Coupons.{borne}
use Rattle.coupon.specs.Lines.{bounds_at, weight_of}
use Rattle.coupon.proofs.Owned.{bounds_in_reach}
use Rattle.coupon.proofs.Rows.{bounds_push, line_is, weight_push}
use Rattle.coupon.proofs.lines.Lines.next_line.Goals as goal

pub unwrap-moderate-requires : goal.unwrap-moderate-requires
unwrap-moderate-requires c =
    let l = c.args.self.now in
    let ds = borne l ++ c.args.day ∷ [] in
    let few : weight_of ds ≤ 400 = omega (arith, weight_push (borne l) c.args.day, c.total.ensures, c.in_ok-total.ensures, c.in_ok-total.total.most) in
    let bounded : c.step-bounds.result ≡ bounds_at l.terms ds = cc (bounds_push l.terms (borne l) c.args.day) in
    let reach = bounds_in_reach l.terms ds c.step-bounds.result few bounded in
    search rules

pub overflow_sub-result : goal.overflow_sub-result
overflow_sub-result c =
    let sum : SFits w64 c.amount-cumulative.result = search rules in
    let before : SFits w64 c.cumulative.result = search rules in
    simp to_z-of_z (omega (arith, ints, c.amount-cumulative.ensures.small.least, c.amount-cumulative.ensures.small.most, c.cumulative.ensures.small.least, c.cumulative.ensures.small.most))

pub returns-clause-value : goal.returns-clause-value
returns-clause-value c =
    let l = c.args.self.now in
    let t = l.terms in
    let ds = borne l in
    let d = c.args.day in
    let W = c.in_ok-total.total.days in
    let sum = c.amount-cumulative.result in
    let before = c.cumulative.result in
    let weighed : W ≡ weight_of (ds ++ d ∷ []) = omega (arith, c.total.ensures, c.in_ok-total.ensures, weight_push ds d) in
    let bounded : c.step-bounds.result ≡ bounds_at t (ds ++ d ∷ []) = cc (bounds_push t ds d) in
    let rate_fits : SFits w64 c.places.result = search rules in
    let sum_fits : SFits w64 sum = search rules in
    let before_fits : SFits w64 before = search rules in
    let daily_fits : SFits w64 (sum -ℤ before) = omega (arith, ints, c.amount-cumulative.ensures.small.least, c.amount-cumulative.ensures.small.most, c.cumulative.ensures.small.least, c.cumulative.ensures.small.most) in
    let moderate : c.unwrap-moderate.result.bounds ≡ c.step-bounds.result = grind arith in
    let reports : Reports c.year_base-base.result W c.unwrap-moderate.result.bounds c.unwrap-report.result = grind arith in
    let line = line_is t ds d c.year_base-base.result W c.days.result.days c.step-bounds.result c.unwrap-moderate.result.bounds c.places.result c.unwrap-report.result.settled c.days_between-days.result.days sum before
    c.year_base-base.ensures weighed c.days.ensures.value bounded moderate (cc reports.rate) reports.settled c.days_between-days.ensures (cc c.amount-cumulative.ensures.value) c.cumulative.ensures.value in
    simp to_z-of_z line
