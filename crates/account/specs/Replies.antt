-- What each call's result answers.
-- Assumes nothing.
use Rattle.std.specs.Prelude.{Ok, Err, Result}
use Rattle.quantity.specs.Refusals.{told}
use Rattle.quantity.specs.declared.position.Position.{Position}
use Rattle.quantity.specs.declared.refusal.Refusal.{Refusal}
use Rattle.coupon.specs.declared.line.Line.{Line}
use Rattle.account.specs.declared.due.Due.{Due}
use Rattle.account.specs.declared.due.Receipt.{Receipt}
use Rattle.account.specs.declared.due.Returned.{Returned}
use Rattle.account.specs.declared.request.Status.{Status}
use Rattle.account.specs.Tally.{Answer, accrued, agrees, wound_back, now_due, withdrawn, receipted, holds, stands, refused, given_back}

-- a value as its answer, and a refusal as it is told
abbrev pub replied : {T : Type 0} → (T → Answer) → Result T Refusal → Answer
replied f (Ok x) = f x
replied f (Err e) = refused (told e)

-- the same where a due that is turned down is handed back
abbrev pub due_replied : {T : Type 0} → (T → Answer) → Result T Returned → Answer
due_replied f (Ok x) = f x
due_replied f (Err r) = given_back (told r.refusal) r.due.figures

abbrev pub accrue_answer : Result (Unit {0}) Refusal → Answer
accrue_answer r = replied (λ _. accrued) r

abbrev pub check_answer : Result Position Refusal → Answer
check_answer r = replied agrees r

abbrev pub wind_back_answer : Result (Unit {0}) Refusal → Answer
wind_back_answer r = replied (λ _. wound_back) r

abbrev pub close_answer : Result Due Refusal → Answer
close_answer r = replied (λ (d : Due). now_due d.figures) r

abbrev pub withdraw_answer : Result (Unit {0}) Returned → Answer
withdraw_answer r = due_replied (λ _. withdrawn) r

abbrev pub pay_answer : Result Receipt Returned → Answer
pay_answer r = due_replied (λ (p : Receipt). receipted p.figures) r

abbrev pub line_answer : Result Line Refusal → Answer
line_answer r = replied holds r

abbrev pub status_answer : Result Status Refusal → Answer
status_answer r = replied stands r
