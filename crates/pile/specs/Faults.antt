-- Faults, and how they pass up through layers.
-- Assumes nothing.
use Rattle.std.specs.Prelude.{◌+◌, min, ℤ, Ok, Err, Result}
use Rattle.quantity.specs.declared.fault.Fault.{Fault}
use Rattle.quantity.specs.declared.fault.Cause.TheVariants.{Outside}

-- a position that the pile asked does not have
abbrev pub outside : ℤ → Fault
outside i = record { cause = Outside; position = record { value = i }; above = 0 }

-- one more layer above, counted up to 255
abbrev pub raised : Fault → Fault
raised f = record { cause = f.cause; position = f.position; above = min 255 (f.above + 1) }

-- an answer as the layer above passes it up
abbrev pub lifted : {T : Type 0} → Result T Fault → Result T Fault
lifted (Ok x) = Ok x
lifted (Err f) = Err (raised f)
