-- A value by the addresses that were found.
use Rattle.std.specs.Prelude.{ℕ, ℤ, List, Option, Some, None}
use Rattle.trace_ops.specs.declared.trace.Kind.{Kind}
use Rattle.trace_ops.specs.declared.trace.Kind.TheVariants as kind
use Rattle.trace_meaning.specs.declared.value.Value.{Value}
use Rattle.trace_meaning.specs.declared.value.Value.TheVariants as v
use Rattle.arena_objects.specs.Walked.{number_in}
use Rattle.arena_objects.specs.ReadBack.{reference_to}

-- an integer, or else a reference to the object that is found at the address
abbrev pub value_by : List ℕ → Option Kind → ℤ → Value
value_by found None w = v.Int w
value_by found (Some kind.Int) w = v.Int w
value_by found (Some kind.Ref) w = reference_to (number_in w found)
