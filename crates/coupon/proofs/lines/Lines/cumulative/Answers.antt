use Rattle.std.proofs.Common.{w64, SFits, rules}
use Rattle.std.proofs.lemmas.Int.{to_z-of_z}
use Rattle.coupon.specs.Coupons.{held}
use Rattle.coupon.specs.Lines.{cumulative_of}
use Rattle.coupon.specs.declared.line.Line.{Line}
use Rattle.coupon.proofs.Owned.{read_last}
use Rattle.coupon.proofs.Rows.{cumulative_pushed, modest_read}
use Rattle.coupon.proofs.lines.Lines.cumulative.Goals as goal

pub returns : goal.returns
returns c =
    let l = c.args.self.now in
    let fits : SFits w64 c.map_or.result = search rules in
    simp to_z-of_z record {
      value = read_last l (λ (x : Line). x.cumulative) (cumulative_of l.terms) (cumulative_pushed l.terms) c.last.result c.map_or.result c.last.ensures (search rules);
      small = modest_read (held l) c.last.result c.map_or.result l.modest c.last.ensures (search rules);
    }
