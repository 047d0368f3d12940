-- What is told of a refusal: its number, and its values.
-- Assumes nothing.
use Rattle.std.specs.Prelude.{ℕ, List, [], ◌∷◌, ℤ, pos, Some, None, Ok, Err, Option, Result}
use Rattle.quantity.specs.declared.fault.Cause.{Cause}
use Rattle.quantity.specs.declared.fault.Cause.TheVariants.{Outside, NoFixing}
use Rattle.quantity.specs.declared.refusal.Refusal.{Refusal}
use Rattle.quantity.specs.declared.refusal.Refusal.TheVariants.{Malformed, OutOfRange, TooMany, NotRising, Posted, NotPosted, Period, NotGood, Apart, OutOfLimits, Faulted, UnknownStep, WrongPhase, AllAccrued, OtherPeriod, TooHeavy, BeyondLines, NotAllAccrued, OtherFigures}

pub record Told : Type 0 where
  pub number : ℕ
  pub values : List ℤ

-- a refusal that is told by its number alone
abbrev pub plain : ℕ → Told
plain n = record { number = n; values = [] }

-- refusal 1: the offset of the field
abbrev pub at_field : ℕ → Told
at_field offset = record { number = 1; values = pos offset ∷ [] }

-- refusals 11 and 12: the position, the observed date for 12, and the number of layers above
abbrev pub faulted : Cause → ℤ → ℕ → Told
faulted Outside i above = record { number = 11; values = i ∷ pos above ∷ [] }
faulted (NoFixing d) i above = record { number = 12; values = i ∷ pos d.number ∷ pos above ∷ [] }

abbrev pub told : Refusal → Told
told (Malformed offset) = at_field offset
told OutOfRange = plain 2
told TooMany = plain 3
told NotRising = plain 4
told Posted = plain 5
told NotPosted = plain 6
told Period = plain 7
told NotGood = plain 8
told Apart = plain 9
told OutOfLimits = plain 10
told (Faulted f) = faulted f.cause f.position.value f.above
told UnknownStep = plain 13
told WrongPhase = plain 14
told AllAccrued = plain 15
told OtherPeriod = plain 16
told TooHeavy = plain 17
told BeyondLines = plain 18
told NotAllAccrued = plain 19
told OtherFigures = plain 20

-- what an answer refuses, if anything
abbrev pub refused : {T : Type 0} → Result T Refusal → Option Told
refused (Ok x) = None
refused (Err e) = Some (told e)

-- an answer, with its refusal as it is told
abbrev pub answered : {T : Type 0} → Result T Refusal → Result T Told
answered (Ok x) = Ok x
answered (Err e) = Err (told e)
