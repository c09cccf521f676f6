-- Which guards pass.
use Rattle.std.specs.Prelude.{ℕ, ◌==◌, Bool, true, false, not, List, [], ◌∷◌, Option, Some, None, slice_get, ℤ, pos}
use Rattle.std.specs.Option.{option_map}
use Rattle.std.specs.Ordering.{int_eq}
use Rattle.trace_ops.specs.declared.code.OpCode.{OpCode}
use Rattle.trace_ops.specs.declared.code.OpCode.TheVariants as code
use Rattle.trace_ops.specs.declared.trace.Arg.{Arg}
use Rattle.trace_ops.specs.declared.trace.Arg.TheVariants.{Class}
use Rattle.trace_ops.specs.declared.table.ShapeOf.{ShapeOf}
use Rattle.trace_ops.specs.declared.table.ShapeOf.TheVariants as shape
use Rattle.trace_meaning.specs.declared.value.Value.{Value}
use Rattle.trace_meaning.specs.declared.value.Value.TheVariants as v
use Rattle.trace_meaning.specs.declared.value.Object.{Object}
use Rattle.trace_meaning.specs.Values.{same_reference}
use Rattle.trace_meaning.specs.World.{World}

abbrev pub is_zero : ℤ → Bool
is_zero a = int_eq a (pos 0)

-- whether a word is 0
abbrev pub is_zero_word : List Value → Option Bool
is_zero_word (v.Int a ∷ []) = Some (is_zero a)
is_zero_word _ = None

abbrev pub are_equal : List Value → Option Bool
are_equal (v.Int a ∷ v.Int b ∷ []) = Some (int_eq a b)
are_equal (v.Null ∷ v.Null ∷ []) = Some (same_reference v.Null v.Null)
are_equal (v.Null ∷ v.Obj n ∷ []) = Some (same_reference v.Null (v.Obj n))
are_equal (v.Obj m ∷ v.Null ∷ []) = Some (same_reference (v.Obj m) v.Null)
are_equal (v.Obj m ∷ v.Obj n ∷ []) = Some (same_reference (v.Obj m) (v.Obj n))
are_equal _ = None

abbrev pub is_null : List Value → Option Bool
is_null (v.Null ∷ []) = Some true
is_null (v.Obj n ∷ []) = Some false
is_null _ = None

-- the size whose vtable is cited
abbrev pub class_in : List Arg → Option ℕ
class_in (x ∷ Class s ∷ []) = Some s
class_in _ = None

abbrev pub is_structure_of : ℕ → ShapeOf → Bool
is_structure_of size (shape.Size s) = s == size
is_structure_of size (shape.Array a) = false

abbrev pub object_has_class : ℕ → Option Object → Option Bool
object_has_class size None = None
object_has_class size (Some o) = Some (is_structure_of size o.of)

-- whether an object is of a size; an array is of none, and null has no class
abbrev pub has_class : List Object → Option ℕ → List Value → Option Bool
has_class objects (Some size) (v.Obj n ∷ []) = object_has_class size (slice_get objects n)
has_class objects _ _ = None

abbrev pub has_class_or_null : List Object → Option ℕ → List Value → Option Bool
has_class_or_null objects (Some size) (v.Null ∷ []) = Some false
has_class_or_null objects (Some size) (v.Obj n ∷ []) = object_has_class size (slice_get objects n)
has_class_or_null objects _ _ = None

abbrev pub negated : Option Bool → Option Bool
negated x = option_map not x

-- whether a guard passes; none where it goes wrong
abbrev pub passes_with : OpCode → List Arg → List Value → List Object → Bool → Option Bool
passes_with code.GuardTrue args vs objects overflow = negated (is_zero_word vs)
passes_with code.GuardFalse args vs objects overflow = is_zero_word vs
passes_with code.GuardValue args vs objects overflow = are_equal vs
passes_with code.GuardNonnull args vs objects overflow = negated (is_null vs)
passes_with code.GuardIsnull args vs objects overflow = is_null vs
passes_with code.GuardClass args vs objects overflow = has_class objects (class_in args) vs
passes_with code.GuardNonnullClass args vs objects overflow = has_class_or_null objects (class_in args) vs
passes_with code.GuardNoOverflow args vs objects overflow = Some (not overflow)
passes_with code.GuardOverflow args vs objects overflow = Some overflow
passes_with code.GuardNoException args vs objects overflow = Some true
passes_with _ args vs objects overflow = None

abbrev pub passes : OpCode → List Arg → List Value → World → Option Bool
passes operation args vs w = passes_with operation args vs w.objects w.overflow
