-- The objects of an arena, read back from its words.
use Rattle.std.specs.Prelude.{◌≡◌, ℕ, zero, suc, ◌+◌, ◌<◌, ℤ, pos, List, [], ◌∷◌, Option, Some, None, length, map, slice_get, IsSome}
use Rattle.trace_ops.specs.declared.trace.Kind.{Kind}
use Rattle.trace_ops.specs.declared.trace.Kind.TheVariants as kind
use Rattle.trace_ops.specs.declared.table.Table.{Table}
use Rattle.trace_meaning.specs.declared.value.Value.{Value}
use Rattle.trace_meaning.specs.declared.value.Value.TheVariants as v
use Rattle.trace_meaning.specs.declared.value.Object.{Object}
use Rattle.trace_meaning.specs.Kinds.{kind_of_part}
use Rattle.target_base.specs.Arena.{Arena, arena_word}
use Rattle.arena_objects.specs.Layout.{part_offset}
use Rattle.arena_objects.specs.declared.walk.Found.{Found}
use Rattle.arena_objects.specs.Walk.{objects_found, object_at}

abbrev pub or_zero : Option ℤ → ℤ
or_zero None = pos 0
or_zero (Some w) = w

-- a reference that is no object's address is null
abbrev pub reference_to : Option ℕ → Value
reference_to None = v.Null
reference_to (Some k) = v.Obj k

abbrev pub value_of : Table → Arena → Option Kind → ℤ → Value
value_of t arena None w = v.Int w
value_of t arena (Some kind.Int) w = v.Int w
value_of t arena (Some kind.Ref) w = reference_to (object_at t arena w)

abbrev pub part_in : Table → Arena → Found → ℕ → Value
part_in t arena f i = value_of t arena (kind_of_part t f.of i) (or_zero (arena_word arena (f.at + part_offset f.of i)))

-- so many parts, from part i on
abbrev pub parts_from : Table → Arena → Found → ℕ → ℕ → List Value
parts_from t arena f i zero = []
parts_from t arena f i (suc n) = part_in t arena f i ∷ parts_from t arena f (suc i) n

abbrev pub object_in : Table → Arena → Found → Object
object_in t arena f = record { of = f.of; parts = parts_from t arena f 0 f.parts }

unfoldable pub objects_in : Table → Arena → List Object
objects_in t arena = map (object_in t arena) (objects_found t arena)

-- each part is known to be an integer or a reference
abbrev pub KindsAreKnown : Table → List Object → Type 0
KindsAreKnown t objects = (n i : ℕ) (o : Object) → slice_get objects n ≡ Some o → i < length o.parts → IsSome (kind_of_part t o.of i)
