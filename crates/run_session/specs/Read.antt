-- Words and parts of objects, read by the addresses that were found.
use Rattle.std.specs.Prelude.{ℕ, ◌+◌, Bool, false, nat_lt, ◌||◌, is_some, ℤ, pos, negsuc, List, Option, Some, None}
use Rattle.std.specs.Option.{option_map}
use Rattle.std.specs.Ordering.{int_eq}
use Rattle.trace_ops.specs.declared.table.Table.{Table}
use Rattle.target_base.specs.Arena.{Arena, arena_word}
use Rattle.trace_meaning.specs.declared.value.Value.{Value}
use Rattle.trace_ops.specs.Kinds.{kind_of_field}
use Rattle.trace_meaning.specs.Objects.{field_place}
use Rattle.arena_objects.specs.declared.walk.Found.{Found}
use Rattle.arena_objects.specs.Layout.{part_offset}
use Rattle.arena_objects.specs.ReadBack.{or_zero}
use Rattle.arena_objects.specs.Walk.{begins_at}
use Rattle.arena_objects.specs.Walked.{number_in}
use Rattle.arena_world.specs.View.{value_by}

-- null, or an address that was found
abbrev pub is_known : List ℕ → ℤ → Bool
is_known found w = int_eq w (pos 0) || is_some (number_in w found)

-- the object that begins at the address in a word
abbrev pub begins_by : Table → Arena → ℤ → Option Found
begins_by t arena (pos a) = begins_at t arena a
begins_by t arena (negsuc n) = None

-- the field of an object that was found, by its place
abbrev pub field_read : Table → Arena → List ℕ → Found → ℕ → ℕ → Value
field_read t arena found f field i = value_by found (kind_of_field t field) (or_zero (arena_word arena (f.at + part_offset f.of i)))

-- what a field holds, where it is one of the object
abbrev pub field_by : Table → Arena → List ℕ → ℕ → Option Found → Option Value
field_by t arena found field None = None
field_by t arena found field (Some f) = option_map (field_read t arena found f field) (field_place t f.of field)

-- a place is one of so many parts
abbrev pub is_within : ℕ → Option ℕ → Bool
is_within parts None = false
is_within parts (Some i) = nat_lt i parts
