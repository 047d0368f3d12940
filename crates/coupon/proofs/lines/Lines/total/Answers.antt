use Rattle.std.proofs.Common.{◌≡◌, refl, arith, rules}
use Rattle.coupon.specs.Coupons.{borne}
use Rattle.coupon.specs.Lines.{weight_of}
use Rattle.coupon.specs.declared.line.Line.{Line}
use Rattle.coupon.proofs.Owned.{read_last}
use Rattle.coupon.proofs.lines.Lines.total.Goals as goal

pub unwrap-requires : goal.unwrap-requires
unwrap-requires c =
    let l = c.args.self.now in
    let light = l.light in
    let read : c.map_or-days.result.days ≡ weight_of (borne l) = read_last l (λ (x : Line). x.total.days) weight_of (λ _ _. refl) c.last.result c.map_or-days.result.days c.last.ensures (search rules) in
    grind arith

pub returns : goal.returns
returns c =
    let l = c.args.self.now in
    let read : c.map_or-days.result.days ≡ weight_of (borne l) = read_last l (λ (x : Line). x.total.days) weight_of (λ _ _. refl) c.last.result c.map_or-days.result.days c.last.ensures (search rules) in
    grind arith
