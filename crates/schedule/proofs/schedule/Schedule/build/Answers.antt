use Rattle.std.proofs.Common.{◌≡◌, ◌<◌, ◌≤◌, true, Some, None, Err, Option, refl, ap, ◌∙◌, arith, rules}
use Rattle.std.specs.Option.{ok_or}
use Rattle.std.proofs.lemmas.Option.{MatchOption-at_none, MatchOption-at_some}
use Rattle.std.proofs.lemmas.Result.{err_from_is_err_and}
use Rattle.quantity.specs.Refusals.{told}
use Rattle.quantity.specs.declared.refusal.Refusal.TheVariants.{Apart}
use Rattle.schedule.specs.Refusals.{apart}
use Rattle.schedule.proofs.Ranks.{rank_past}
use Rattle.schedule.proofs.Built.{gap_from_stuck, gap_first, scheduled, start_is, last_is}
use Rattle.schedule.proofs.Unique.{unique}
use Rattle.schedule.proofs.schedule.Schedule.build.Goals as goal

refused_with : {T E : Type 0} (o : Option T) (e f : E) → Err e ≡ ok_or o f → e ≡ f
refused_with None e f h = cc
refused_with (Some x) e f h = cc

pub returns-in_err-days-clause-built : goal.returns-in_err-days-clause-built
returns-in_err-days-clause-built g c =
    let good = g.C.Calendar.good c.args.calendar.now in
    let start_good : good c.args.start.number ≡ true = search rules in
    let end_good : good c.args.end.number ≡ true = search rules in
    let after : c.args.start.number < c.args.end.number = search rules in
    let stuck = MatchOption-at_none _ _ c.in_err-days.ensures.ok_part c.fill.ensures in
    let p = err_from_is_err_and c.from_residual.result c.from_residual.ensures.1 in
    rw p.1 (
      record {
        reason = apart;
        number_is = ap told (p.2 ∙ refused_with c.fill.result _ Apart c.in_err-days.ensures.value);
        true_here = gap_from_stuck good c.args.start.number c.args.end.number c.count-n.result c.count-n.ensures.ranked stuck;
        smallest = gap_first good c.args.start.number c.args.end.number (omega arith) (omega arith) start_good end_good;
      },
      refl,
    )

pub invariant_of-self : goal.invariant_of-self
invariant_of-self g c =
    let good = g.C.Calendar.good c.args.calendar.now in
    let f = (MatchOption-at_some _ _ _ c.in_ok-days.ensures.ok_part c.fill.ensures) in
    let start_good : good c.args.start.number ≡ true = search rules in
    let end_good : good c.args.end.number ≡ true = search rules in
    let after : c.args.start.number < c.args.end.number = search rules in
    let few : c.count-n.result ≤ 400 = omega arith in
    let start = start_is good c.args.start.number c.args.end c.count-n.result c.in_ok-days.days few start_good end_good c.count-n.ensures.ranked f in
    let last = last_is good c.args.start.number c.args.end c.count-n.result c.in_ok-days.days few start_good end_good c.count-n.ensures.ranked f in record { some = omega (arith, rank_past good c.args.start.number c.args.end.number start_good (omega arith), c.count-n.ensures.ranked); few = few; rises = (λ k h. (f.steps k h).earlier); close = (λ k h. (f.steps k h).near); span = omega (arith, start, last) }

pub returns : goal.returns
returns g c =
    let good = g.C.Calendar.good c.args.calendar.now in
    let start_good : good c.args.start.number ≡ true = search rules in
    let end_good : good c.args.end.number ≡ true = search rules in
    let after : c.args.start.number < c.args.end.number = search rules in
    let built = scheduled good c.args.start c.args.end _ (omega arith) (omega arith) start_good end_good c.count-n.ensures.ranked (MatchOption-at_some _ _ _ c.in_ok-days.ensures.ok_part c.fill.ensures) in
    record { built = built; only = λ s h. unique good c.args.start c.args.end s _ h built }
