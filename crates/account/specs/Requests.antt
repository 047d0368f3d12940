-- A request as the call that the tally is fed, and what is answered to it.
-- Assumes nothing.
use Rattle.std.specs.Prelude.{Ok, Err, Result}
use Rattle.quantity.specs.Refusals.{told}
use Rattle.pile.specs.Piles.{Pile}
use Rattle.account.specs.declared.request.Reply.{Reply}
use Rattle.account.specs.declared.request.Reply.TheVariants.{Accrued, Agrees, WoundBack, NowDue, Withdrawn, Receipted, Holds, Stands}
use Rattle.account.specs.declared.request.TurnedDown.{TurnedDown}
use Rattle.account.specs.declared.request.TurnedDown.TheVariants.{Refused, GivenBack}
use Rattle.account.specs.declared.request.Request.{Request}
use Rattle.account.specs.declared.request.Request.TheVariants.{Accrue, Check, WindBack, Close, Withdraw, Pay, Read, Status}
use Rattle.account.specs.Tally.{Answer, Call, accrue, accrued, agrees, check, close, given_back, holds, now_due, pay, read, receipted, refused, stands, status, wind_back, withdraw, withdrawn, wound_back}

-- a pile goes in by its meaning at that call, a due by its figures
abbrev pub call_of : {P : Type 0} → (P → Pile) → Request P → Call
call_of meaning (Accrue p) = accrue (meaning p.now)
call_of meaning (Check p) = check (meaning p.now)
call_of meaning (WindBack j) = wind_back j.value
call_of meaning Close = close
call_of meaning (Withdraw d) = withdraw d.figures
call_of meaning (Pay d) = pay d.figures
call_of meaning (Read i) = read i.value
call_of meaning Status = status

abbrev pub answer_of : Result Reply TurnedDown → Answer
answer_of (Ok Accrued) = accrued
answer_of (Ok (Agrees p)) = agrees p
answer_of (Ok WoundBack) = wound_back
answer_of (Ok (NowDue d)) = now_due d.figures
answer_of (Ok Withdrawn) = withdrawn
answer_of (Ok (Receipted r)) = receipted r.figures
answer_of (Ok (Holds l)) = holds l
answer_of (Ok (Stands s)) = stands s
answer_of (Err (Refused e)) = refused (told e)
answer_of (Err (GivenBack r)) = given_back (told r.refusal) r.due.figures
