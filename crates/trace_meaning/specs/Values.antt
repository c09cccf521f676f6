-- Values, and how they compare.
use Rattle.std.specs.Prelude.{◌==◌, Bool, true, false, List, filter, pos}
use Rattle.trace_ops.specs.declared.trace.Kind.{Kind}
use Rattle.trace_ops.specs.declared.trace.Kind.TheVariants as kind
use Rattle.trace_meaning.specs.declared.value.Value.{Value}
use Rattle.trace_meaning.specs.declared.value.Value.TheVariants as v

abbrev pub kind_of_value : Value → Kind
kind_of_value (v.Int z) = kind.Int
kind_of_value v.Null = kind.Ref
kind_of_value (v.Obj n) = kind.Ref

-- what a new field or item holds
abbrev pub zero_of : Kind → Value
zero_of kind.Int = v.Int (pos 0)
zero_of kind.Ref = v.Null

abbrev pub is_reference : Value → Bool
is_reference (v.Int z) = false
is_reference v.Null = true
is_reference (v.Obj n) = true

-- the references among the arguments of a call, in order
abbrev pub references : List Value → List Value
references vs = filter is_reference vs

-- one object, or null twice
abbrev pub same_reference : Value → Value → Bool
same_reference v.Null v.Null = true
same_reference (v.Obj m) (v.Obj n) = m == n
same_reference _ _ = false
