use Rattle.std.proofs.Common.{refl, ap, ◌∙◌, arith}
use Rattle.std.proofs.lemmas.List.{take-map}
use Rattle.coupon.specs.Coupons.{held}
use Rattle.coupon.specs.Lines.{all_modest, day_of}
use Rattle.coupon.proofs.Rows.{exact_cut, modest_take, weight_cut}
use Rattle.coupon.proofs.lines.Lines.wind_back.Goals as goal

pub invariant_of-self-clause-exact : goal.invariant_of-self-clause-exact
invariant_of-self-clause-exact c = let a = c.args.self.now in exact_cut a.terms (held a) a.exact c.in_ok-count.count _ c.truncate.ensures.items

pub invariant_of-self-clause-light : goal.invariant_of-self-clause-light
invariant_of-self-clause-light c = let a = c.args.self.now in omega (arith, weight_cut c.in_ok-count.count (held a) _ c.truncate.ensures.items, a.light)

pub invariant_of-self-clause-modest : goal.invariant_of-self-clause-modest
invariant_of-self-clause-modest c = let a = c.args.self.now in ap all_modest c.truncate.ensures.items ∙ modest_take c.in_ok-count.count (held a) a.modest

pub returns-clause-left : goal.returns-clause-left
returns-clause-left c = (refl, rw c.in_ok-count.ensures (cc (take-map day_of c.in_ok-count.count (held c.args.self.now))))
