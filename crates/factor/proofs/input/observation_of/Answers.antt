use Rattle.std.proofs.Common.{rules}
use Rattle.factor.proofs.input.observation_of.Goals as goal

pub returns-in_err-days : goal.returns-in_err-days
returns-in_err-days c = search rules
