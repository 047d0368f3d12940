use Rattle.std.proofs.Common.{arith}
use Rattle.coupon.proofs.Owned.{count_few}
use Rattle.coupon.proofs.lines.Lines.count.Goals as goal

pub overflow_cast-result : goal.overflow_cast-result
overflow_cast-result c = record { fits = omega (arith, count_few c.args.self.now) }

pub returns-clause-few : goal.returns-clause-few
returns-clause-few c = omega (arith, count_few c.args.self.now)
