-- Objects: how they begin, where their parts lie, and what reads and writes of them do.
use Rattle.std.specs.Prelude.{ℕ, ◌==◌, Bool, true, false, ◌&&◌, if◌then◌else◌, List, [], ◌∷◌, ◌++◌, Option, Some, None, length, slice_get, slice_set, option_and_then, map, replicate, ℤ, pos, negsuc, position, nat_lt}
use Rattle.std.specs.Option.{option_map}
use Rattle.trace_ops.specs.declared.piece.Spot.{Spot}
use Rattle.trace_ops.specs.declared.piece.Spot.TheVariants as spot
use Rattle.trace_ops.specs.declared.table.Table.{Table}
use Rattle.trace_ops.specs.declared.table.ShapeOf.{ShapeOf}
use Rattle.trace_ops.specs.declared.table.ShapeOf.TheVariants as shape
use Rattle.trace_ops.specs.declared.table.SizeRow.{SizeRow}
use Rattle.trace_ops.specs.declared.table.FieldRow.{FieldRow}
use Rattle.trace_ops.specs.declared.table.ArrayRow.{ArrayRow}
use Rattle.trace_meaning.specs.declared.value.Value.{Value}
use Rattle.trace_meaning.specs.declared.value.Value.TheVariants as v
use Rattle.trace_meaning.specs.declared.value.Object.{Object}
use Rattle.trace_meaning.specs.Values.{zero_of}
use Rattle.trace_meaning.specs.World.{World}

-- New objects

abbrev pub listed : Option SizeRow → List ℕ
listed None = []
listed (Some row) = row.fields

-- the fields of a size, in order
abbrev pub fields_of : Table → ℕ → List ℕ
fields_of t size = listed (slice_get t.sizes size)

abbrev pub zero_field : Option FieldRow → Value
zero_field None = v.Int (pos 0)
zero_field (Some row) = zero_of row.kind

abbrev pub zero_item : Option ArrayRow → Value
zero_item None = v.Int (pos 0)
zero_item (Some row) = zero_of row.kind

-- a new structure: each field is 0 or null
abbrev pub zeroed : Table → ℕ → Object
zeroed t size = record { of = shape.Size size; parts = map (λ f. zero_field (slice_get t.fields f)) (fields_of t size) }

-- a new array of so many items, each 0 or null
abbrev pub cleared : Table → ℕ → ℕ → Object
cleared t array n = record { of = shape.Array array; parts = replicate n (zero_item (slice_get t.arrays array)) }

-- Where parts lie

-- a field of a size lies where the size lists it
abbrev pub field_place : Table → ShapeOf → ℕ → Option ℕ
field_place t (shape.Size size) field = position (λ f. f == field) (fields_of t size)
field_place t (shape.Array array) field = None

-- an item of an array, at an index that isn't below 0
abbrev pub index_of : ℤ → Option ℕ
index_of (pos i) = Some i
index_of (negsuc i) = None

abbrev pub item_place : ShapeOf → ℕ → ℤ → Option ℕ
item_place (shape.Array a) array i = if a == array then index_of i else None
item_place (shape.Size s) array i = None

abbrev pub place_of : Table → ShapeOf → Spot → Option ℕ
place_of t of (spot.Field field) = field_place t of field
place_of t of (spot.Item array i) = item_place of array i

-- Reads. Null, an object of another size or array, and an index that isn't below the length have nothing to read

abbrev pub part_of_object : Table → Spot → Object → Option Value
part_of_object t at o = option_and_then (slice_get o.parts) (place_of t o.of at)

abbrev pub read_in : Table → Spot → Value → List Object → Option Value
read_in t at (v.Obj n) objects = option_and_then (part_of_object t at) (slice_get objects n)
read_in t at (v.Int z) objects = None
read_in t at v.Null objects = None

abbrev pub read : Table → Spot → Value → World → Option Value
read t at base w = read_in t at base w.objects

-- the length of an array of this row
abbrev pub is_array : ℕ → ShapeOf → Bool
is_array array (shape.Array a) = a == array
is_array array (shape.Size s) = false

abbrev pub items_in : ℕ → Object → Option ℕ
items_in array o = if is_array array o.of then Some (length o.parts) else None

abbrev pub length_in : ℕ → Value → List Object → Option ℕ
length_in array (v.Obj n) objects = option_and_then (items_in array) (slice_get objects n)
length_in array (v.Int z) objects = None
length_in array v.Null objects = None

abbrev pub length_at : ℕ → Value → World → Option ℕ
length_at array base w = length_in array base w.objects

-- Writes

abbrev pub immutable : Option FieldRow → Bool
immutable None = false
immutable (Some row) = row.immutable

-- an immutable field of a prebuilt object
abbrev pub is_frozen : Table → Spot → ℕ → Bool
is_frozen t (spot.Field field) n = nat_lt n (length t.prebuilts) && immutable (slice_get t.fields field)
is_frozen t (spot.Item array i) n = false

-- the object with another value at a place
abbrev pub with_part : Object → ℕ → Value → Object
with_part o i value = record o { parts = slice_set o.parts i value }

abbrev pub within : Object → ℕ → Option ℕ
within o i = if nat_lt i (length o.parts) then Some i else None

-- where a spot lies within an object
abbrev pub place_within : Table → Spot → Object → Option ℕ
place_within t at o = option_and_then (within o) (place_of t o.of at)

abbrev pub written : Table → Spot → Value → Object → Option Object
written t at value o = option_map (λ i. with_part o i value) (place_within t at o)

-- the objects with another one in place of one of them
abbrev pub with_object : ℕ → World → Object → World
with_object n w o = record w { objects = slice_set w.objects n o }

abbrev pub write_unfrozen : Bool → Table → Spot → ℕ → Value → World → Option World
write_unfrozen true t at n value w = None
write_unfrozen false t at n value w = option_map (with_object n w) (option_and_then (written t at value) (slice_get w.objects n))

-- what can't be read can't be written, nor can an immutable field of a prebuilt object
abbrev pub write : Table → Spot → Value → Value → World → Option World
write t at (v.Obj n) value w = write_unfrozen (is_frozen t at n) t at n value w
write t at (v.Int z) value w = None
write t at v.Null value w = None

-- one more object, which gets the next number
abbrev pub with_new : Object → World → World
with_new o w = record w { objects = w.objects ++ o ∷ [] }
