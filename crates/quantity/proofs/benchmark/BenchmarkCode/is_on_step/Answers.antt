use Rattle.std.proofs.Common.{arith}
use Rattle.std.proofs.lemmas.Grind.{common_steps}
use Rattle.quantity.specs.Benchmarks.{is_on_step}
use Rattle.quantity.proofs.benchmark.BenchmarkCode.is_on_step.Goals as goal

pub returns : goal.returns
unfolding is_on_step
returns c = grind (arith, common_steps)
