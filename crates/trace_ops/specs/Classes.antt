-- Kinds of operations, from what is known of each.
use Rattle.std.specs.Prelude.{Bool, true, false}
use Rattle.trace_ops.specs.declared.code.OpCode.{OpCode}
use Rattle.trace_ops.specs.declared.code.OpCode.TheVariants as code
use Rattle.trace_ops.specs.declared.facts.Takes.{Takes}
use Rattle.trace_ops.specs.declared.facts.Takes.TheVariants as takes
use Rattle.trace_ops.specs.declared.facts.Cites.{Cites}
use Rattle.trace_ops.specs.declared.facts.Cites.TheVariants as cites
use Rattle.trace_ops.specs.declared.facts.Part.{Part}
use Rattle.trace_ops.specs.declared.facts.Part.TheVariants as part
use Rattle.trace_ops.specs.Facts.{takes_of, cites_of, part_of}

abbrev pub pure_part : Part → Cites → Bool
pure_part part.Plain cites.Nothing = true
pure_part _ _ = false

-- its result follows from its arguments alone
abbrev pub is_pure : OpCode → Bool
is_pure operation = pure_part (part_of operation) (cites_of operation)

abbrev pub guarding : Part → Bool
guarding part.Guard = true
guarding part.OverflowGuard = true
guarding _ = false

-- it may leave the trace
abbrev pub is_guard : OpCode → Bool
is_guard operation = guarding (part_of operation)

abbrev pub called : Takes → Bool
called takes.Called = true
called _ = false

-- it calls a function of the host
abbrev pub is_call : OpCode → Bool
is_call operation = called (takes_of operation)

-- it makes an object
abbrev pub is_allocation : OpCode → Bool
is_allocation code.New = true
is_allocation code.NewWithVtable = true
is_allocation code.NewArrayClear = true
is_allocation _ = false

abbrev pub overflowing : Part → Bool
overflowing part.Overflowing = true
overflowing _ = false

-- it sets the overflow that the guard behind it reads
abbrev pub is_overflowing : OpCode → Bool
is_overflowing operation = overflowing (part_of operation)

abbrev pub reading_overflow : Part → Bool
reading_overflow part.OverflowGuard = true
reading_overflow _ = false

-- it reads the overflow of the operation before it
abbrev pub reads_overflow : OpCode → Bool
reads_overflow operation = reading_overflow (part_of operation)

abbrev pub plain : Part → Bool
plain part.Plain = true
plain part.Overflowing = true
plain _ = false

-- it is no guard, jump or finish
abbrev pub is_plain : OpCode → Bool
is_plain operation = plain (part_of operation)
