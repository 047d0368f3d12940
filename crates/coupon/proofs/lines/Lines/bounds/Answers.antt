use Rattle.std.proofs.Common.{refl, rules}
use Rattle.coupon.specs.Lines.{bounds_at}
use Rattle.coupon.specs.declared.line.Line.{Line}
use Rattle.coupon.proofs.Owned.{read_last}
use Rattle.coupon.proofs.lines.Lines.bounds.Goals as goal

pub returns : goal.returns
returns c =
    let l = c.args.self.now in
    read_last l (λ (x : Line). x.bounds) (bounds_at l.terms) (λ _ _. refl) c.last.result c.map_or.result c.last.ensures (search rules)
