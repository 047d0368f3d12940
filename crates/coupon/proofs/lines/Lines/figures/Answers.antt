use Rattle.std.proofs.Common.{Some, rules}
use Rattle.coupon.specs.Lines.{figures_of}
use Rattle.coupon.specs.declared.line.Line.{Line}
use Rattle.coupon.proofs.Owned.{read_last}
use Rattle.coupon.proofs.Rows.{figures_in, figures_pushed}
use Rattle.coupon.proofs.lines.Lines.figures.Goals as goal

pub returns : goal.returns
returns c =
    let l = c.args.self.now in
    read_last l (λ (x : Line). Some (figures_in l.terms x)) (figures_of l.terms) (figures_pushed l.terms) c.last.result c.map.result c.last.ensures (search rules)
