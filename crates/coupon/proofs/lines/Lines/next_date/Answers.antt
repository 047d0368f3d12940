use Rattle.std.proofs.Common.{sym, rules}
use Rattle.coupon.specs.Lines.{next_date}
use Rattle.coupon.specs.declared.line.Line.{Line}
use Rattle.coupon.proofs.Owned.{read_last}
use Rattle.coupon.proofs.Rows.{next_push}
use Rattle.coupon.proofs.lines.Lines.next_date.Goals as goal

pub returns : goal.returns
returns c =
    let l = c.args.self.now in
    read_last l (λ (x : Line). x.day.next) (next_date l.terms.start) (λ ps d. sym (next_push l.terms.start ps d)) c.last.result c.map_or.result c.last.ensures (search rules)
