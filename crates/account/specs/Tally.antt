-- The tally of an account's calls: a phase and the standing days. It is fed the terms, then each call's arguments.
-- Assumes nothing.
use Rattle.std.specs.Prelude.{◌≡◌, refl, Bool, true, false, not, cond, ◌&&◌, List, [], ◌∷◌, ◌++◌, map, length, ℤ, Some, None, Ok, Err, Option, Result, ◌==◌, nat_le}
use Rattle.quantity.specs.Refusals.{Told, plain}
use Rattle.quantity.specs.declared.fault.Fault.{Fault}
use Rattle.quantity.specs.declared.position.Position.{Position}
use Rattle.rules.specs.Rate.{same}
use Rattle.pile.specs.Piles.{Pile}
use Rattle.coupon.specs.Days.{day_at}
use Rattle.coupon.specs.Lines.{bounds_at, figures_of, lines_of}
use Rattle.coupon.specs.Verdicts.{admitted, beyond, checked, front, line_at, refusal_of}
use Rattle.coupon.specs.declared.day.Day.{Day}
use Rattle.coupon.specs.declared.figures.Figures.{Figures}
use Rattle.coupon.specs.declared.line.Line.{Line}
use Rattle.coupon.specs.declared.terms.Terms.{Terms}
use Rattle.account.specs.declared.phase.Phase.{Phase}
use Rattle.account.specs.declared.phase.Phase.TheVariants.{Accruing, Closed, Paid}
use Rattle.account.specs.declared.phase.Kind.{Kind}
use Rattle.account.specs.declared.phase.Kind.TheVariants.{Accrue, Check, WindBack, Close, Withdraw, Pay, Read}
use Rattle.account.specs.declared.request.Status.{Status}
use Rattle.account.specs.Phases.{in_phase}

-- a call with its arguments: a pile by its meaning at that call, a due by its figures
pub data Call : Type 0 where
  accrue : Pile → Call
  check : Pile → Call
  wind_back : ℤ → Call
  close : Call
  withdraw : Figures → Call
  pay : Figures → Call
  read : ℤ → Call
  status : Call

abbrev pub kind_of : Call → Kind
kind_of (accrue m) = Accrue
kind_of (check m) = Check
kind_of (wind_back j) = WindBack
kind_of close = Close
kind_of (withdraw f) = Withdraw
kind_of (pay f) = Pay
kind_of (read i) = Read
kind_of status = Read

pub record Tally : Type 0 where
  pub phase : Phase
  pub standing : List Day

-- what is answered to a call; a refusal hands an offered due back
pub data Answer : Type 0 where
  accrued : Answer
  agrees : Position → Answer
  wound_back : Answer
  now_due : Figures → Answer
  withdrawn : Answer
  receipted : Figures → Answer
  holds : Line → Answer
  stands : Status → Answer
  refused : Told → Answer
  given_back : Told → Figures → Answer

-- whether two settled marks are the same
abbrev pub same_mark : Bool → Bool → Bool
same_mark true b = b
same_mark false b = not b

pub mark_self : (b : Bool) → same_mark b b ≡ true
mark_self true = refl
mark_self false = refl

-- whether a due's figures are those that the rules give
abbrev pub same_figures : Figures → Option Figures → Bool
same_figures f None = false
same_figures f (Some g) =
    (f.note == g.note)
    && (f.start.number == g.start.number
    && (f.end.number == g.end.number
    && (same f.reported g.reported
    && (same_mark f.settled g.settled
    && same f.cumulative g.cumulative))))

-- the figures of a coupon with a line for each of its days, or 19
abbrev pub or_incomplete : Option Figures → Result Figures Told
or_incomplete (Some f) = Ok f
or_incomplete None = Err (plain 19)

abbrev pub closing : Terms → List Day → Result Figures Told
closing t ds = cond (nat_le t.n (length ds)) (or_incomplete (figures_of t ds)) (Err (plain 19))

abbrev pub answering : {A : Type 0} → (A → Answer) → Result A Told → Result Answer Told
answering f (Ok x) = Ok (f x)
answering f (Err e) = Err e

abbrev pub unless_some : Answer → Option Told → Result Answer Told
unless_some x None = Ok x
unless_some x (Some e) = Err e

-- what a call comes to on the standing days, in a phase that allows it
abbrev pub ruling : Terms → Tally → Call → Result Answer Told
ruling t s (accrue m) = answering (λ _. accrued) (admitted t s.standing m)
ruling t s (check m) = answering agrees (checked t s.standing m)
ruling t s (wind_back j) = unless_some wound_back (beyond s.standing j)
ruling t s close = answering now_due (closing t s.standing)
ruling t s (withdraw f) = cond (same_figures f (figures_of t s.standing)) (Ok withdrawn) (Err (plain 20))
ruling t s (pay f) = cond (same_figures f (figures_of t s.standing)) (Ok (receipted f)) (Err (plain 20))
ruling t s (read i) = answering holds (line_at (lines_of t s.standing) i)
ruling t s status = Ok (stands (record { phase = s.phase; k = length s.standing; n = t.n; bounds = bounds_at t s.standing }))

abbrev pub outcome : Terms → Tally → Call → Result Answer Told
outcome t s c = in_phase s.phase (kind_of c) (ruling t s c)

-- why a call is turned down, on the terms, the tally and its arguments alone
abbrev pub judge : Terms → Tally → Call → Option Told
judge t s c = refusal_of (outcome t s c)

abbrev pub denied : Call → Told → Answer
denied (accrue m) e = refused e
denied (check m) e = refused e
denied (wind_back j) e = refused e
denied close e = refused e
denied (withdraw f) e = given_back e f
denied (pay f) e = given_back e f
denied (read i) e = refused e
denied status e = refused e

abbrev pub answer_by : Call → Result Answer Told → Answer
answer_by c (Ok x) = x
answer_by c (Err e) = denied c e

abbrev pub answer : Terms → Tally → Call → Answer
answer t s c = answer_by c (outcome t s c)

abbrev pub appended : List Day → Result Day Fault → List Day
appended ds (Ok d) = ds ++ d ∷ []
appended ds (Err f) = ds

-- the tally after a call that goes through
abbrev pub carried : Tally → Call → Tally
carried s (accrue m) = record { phase = s.phase; standing = appended s.standing (day_at m (length s.standing)) }
carried s (check m) = s
carried s (wind_back j) = record { phase = s.phase; standing = front j s.standing }
carried s close = record { phase = Closed; standing = s.standing }
carried s (withdraw f) = record { phase = Accruing; standing = s.standing }
carried s (pay f) = record { phase = Paid; standing = s.standing }
carried s (read i) = s
carried s status = s

-- what is turned down alters nothing
abbrev pub unless_refused : {A : Type 0} → Option Told → A → A → A
unless_refused None x y = x
unless_refused (Some e) x y = y

abbrev pub advance : Terms → Tally → Call → Tally
advance t s c = unless_refused (judge t s c) (carried s c) s

-- the tally of a list of calls since the opening
abbrev pub begun : Tally
begun = record { phase = Accruing; standing = [] }

abbrev pub tally_from : Terms → Tally → List Call → Tally
tally_from t s [] = s
tally_from t s (c ∷ cs) = tally_from t (advance t s c) cs

abbrev pub tally : Terms → List Call → Tally
tally t cs = tally_from t begun cs

-- for each standing day, the pile as it was when it gave that day
abbrev pub given_by : List Pile → Call → List Pile
given_by ms (accrue m) = ms ++ m ∷ []
given_by ms (check m) = ms
given_by ms (wind_back j) = front j ms
given_by ms close = ms
given_by ms (withdraw f) = ms
given_by ms (pay f) = ms
given_by ms (read i) = ms
given_by ms status = ms

abbrev pub givers_from : Terms → Tally → List Pile → List Call → List Pile
givers_from t s ms [] = ms
givers_from t s ms (c ∷ cs) = givers_from t (advance t s c) (unless_refused (judge t s c) (given_by ms c) ms) cs

abbrev pub givers : Terms → List Call → List Pile
givers t cs = givers_from t begun [] cs

-- the holder's calls: one accrue over each of them, in order
abbrev pub replay : Terms → List Call → List Call
replay t cs = map accrue (givers t cs)
