use Rattle.std.proofs.Common.{sym}
use Rattle.fixings.proofs.Rates.{rate_at_none, rate_at_some}
use Rattle.fixings.proofs.file.FixingFileSource.rate.Goals as goal

pub returns-in_err-i : goal.returns-in_err-i
returns-in_err-i c = rw (c.from_residual.ensures, ← c.as_slice-fixings.ensures.value) (sym (rate_at_none _ _ c.in_err-i.ensures))

pub returns : goal.returns
returns c = rw (← c.as_slice-fixings.ensures.value) (sym (rate_at_some _ _ _ _ c.in_ok-i.ensures))
