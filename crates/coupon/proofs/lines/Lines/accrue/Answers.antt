use Rattle.std.proofs.Common.{ap, ◌∙◌, arith}
use Rattle.coupon.specs.Coupons.{borne, held}
use Rattle.coupon.specs.Lines.{all_modest, weight_of}
use Rattle.coupon.proofs.Admitted.{due_within, light_within}
use Rattle.coupon.proofs.Owned.{count_of}
use Rattle.coupon.proofs.Rows.{days_pushed, exact_push, modest_push, weight_push}
use Rattle.coupon.proofs.lines.Lines.accrue.Goals as goal

pub invariant_of-self : goal.invariant_of-self
invariant_of-self g c =
    let a = c.args.self.now in
    let d = c.in_ok-day.day in
    let l = c.in_ok-line.line in
    let made = c.in_ok-line.ensures.value in
    let items = c.push_reserved.ensures.items in
    let light = light_within (weight_of (borne a)) d c.in_ok-line.ensures.judged in
    let pushed = ap weight_of (days_pushed a.terms (held a) a.exact l d _ made items) in
    let count = count_of a in
    let within = due_within a.terms (borne a) (g.P.Observations.meaning c.args.pile.now) d c.in_ok-day.ensures in
    record {
      exact = exact_push a.terms (held a) a.exact l d _ made items;
      light = omega (arith, weight_push (borne a) d);
      modest = ap all_modest items ∙ modest_push (held a) l a.modest c.in_ok-line.ensures.modest;
      within = omega arith;
      room = omega arith;
    }
