-- The objects of an arena, found from its start.
use Rattle.std.specs.Prelude.{ℕ, zero, suc, ◌+◌, ◌*◌, ℤ, pos, negsuc, List, [], ◌∷◌, Option, Some, None, length, nat_le, nat_eq, slice_get, if◌then◌else◌}
use Rattle.std.specs.Option.{option_map}
use Rattle.std.specs.Int.{w64, cast_unsigned}
use Rattle.trace_ops.specs.declared.table.Table.{Table}
use Rattle.trace_ops.specs.declared.table.ShapeOf.{ShapeOf}
use Rattle.trace_ops.specs.declared.table.ShapeOf.TheVariants.{Size, Array}
use Rattle.trace_meaning.specs.declared.value.Object.{Object}
use Rattle.trace_meaning.specs.Objects.{fields_of}
use Rattle.target_base.specs.Arena.{Arena, arena_word}
use Rattle.arena_objects.specs.declared.walk.Found.{Found}
use Rattle.arena_objects.specs.Layout.{words_ahead, words_in}

abbrev pub words_found : Found → ℕ
words_found f = words_ahead f.of + f.parts

-- the shape of a header number; numbers begin with 1
abbrev pub shape_of : Table → Option ℤ → Option ShapeOf
shape_of t None = None
shape_of t (Some (pos zero)) = None
shape_of t (Some (pos (suc k))) = slice_get t.shapes k
shape_of t (Some (negsuc k)) = None

-- as many parts as a size has fields, or as an array's length says, which is read unsigned
abbrev pub parts_at : Table → Arena → ℕ → ShapeOf → Option ℕ
parts_at t arena a (Size s) = Some (length (fields_of t s))
parts_at t arena a (Array b) = option_map (cast_unsigned w64) (arena_word arena (a + 8))

-- where all its bytes are taken
abbrev pub if_taken : Arena → Found → Option Found
if_taken arena f = if nat_le (f.at + 8 * words_found f) (0x10000000 + arena.taken) then Some f else None

abbrev pub found_with : Arena → ℕ → ShapeOf → Option ℕ → Option Found
found_with arena a s None = None
found_with arena a s (Some n) = if_taken arena (record { at = a; of = s; parts = n })

abbrev pub found_of : Table → Arena → ℕ → Option ShapeOf → Option Found
found_of t arena a None = None
found_of t arena a (Some s) = found_with arena a s (parts_at t arena a s)

-- the object that begins at an address, if one does
abbrev pub begins_at : Table → Arena → ℕ → Option Found
begins_at t arena a = found_of t arena a (shape_of t (arena_word arena a))

-- the objects from an address on, at most so many; the walk goes on behind each, and ends where none begins
abbrev pub onward : (ℕ → List Found) → Option Found → List Found
onward walk None = []
onward walk (Some f) = f ∷ walk (f.at + 8 * words_found f)

abbrev pub walk : ℕ → Table → Arena → ℕ → List Found
walk zero t arena a = []
walk (suc n) t arena a = onward (walk n t arena) (begins_at t arena a)

-- each has at least 8 bytes, so these are all of them
unfoldable pub objects_found : Table → Arena → List Found
objects_found t arena = walk arena.taken t arena 0x10000000

-- the number of the object at an address, counted from n
abbrev pub number_from : ℕ → ℤ → List Found → Option ℕ
number_from n (pos a) [] = None
number_from n (pos a) (f ∷ fs) = if nat_eq f.at a then Some n else number_from (suc n) (pos a) fs
number_from n (negsuc a) fs = None

-- the number of the object of which a word is the address
abbrev pub object_at : Table → Arena → ℤ → Option ℕ
object_at t arena w = number_from 0 w (objects_found t arena)

-- the objects of a list, as they are found from an address on
abbrev pub as_found : ℕ → List Object → List Found
as_found a [] = []
as_found a (o ∷ os) = record { at = a; of = o.of; parts = length o.parts } ∷ as_found (a + 8 * words_in o) os
