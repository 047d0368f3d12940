use Rattle.std.proofs.Common.{refl}
use Rattle.account.specs.Replies.{line_answer}
use Rattle.account.specs.Tally.{holds, read}
use Rattle.account.proofs.Made.{read_done, refused_phase}
use Rattle.account.proofs.account.Account.line.Goals as goal

pub returns-in_err-transition : goal.returns-in_err-transition
returns-in_err-transition c = refused_phase (read c.args.i.value) c.args.self.now line_answer (λ _. refl) c.from_residual.result _ c.from_residual.ensures.1 c.in_err-transition.ensures

pub returns : goal.returns
returns c = read_done (read c.args.i.value) c.args.self.now line_answer (λ _. refl) holds c.in_ok-transition.field-0 _ (λ _. refl) refl refl c.in_ok-transition.ensures c.line.result c.line.ensures
