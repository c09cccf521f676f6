-- Which answers fit a call, where references are words of an arena.
use Rattle.std.specs.Prelude.{ℕ, Bool, true, false, not, ◌&&◌, ℤ, pos, negsuc, List, Option, Some, None, length, slice_get, int_le}
use Rattle.std.specs.Ordering.{int_eq}
use Rattle.std.specs.List.{list_all}
use Rattle.trace_ops.specs.declared.table.Table.{Table}
use Rattle.trace_ops.specs.declared.table.ShapeOf.TheVariants.{Size}
use Rattle.trace_ops.specs.declared.table.FieldRow.{FieldRow}
use Rattle.trace_ops.specs.declared.table.CallRow.{CallRow}
use Rattle.trace_meaning.specs.declared.call.AnswerStore.{AnswerStore}
use Rattle.trace_meaning.specs.declared.call.Answer.{Answer}
use Rattle.trace_meaning.specs.Answers.{same_result, kind_given, is_named, may_be_stored, is_declared}
use Rattle.target_base.specs.Arena.{Arena, arena_word}
use Rattle.arena_objects.specs.Layout.{header_of}
use Rattle.arena_world.specs.Prebuilt.{prebuilt_addresses, last_of}

-- the word at an address that is a word
abbrev pub loaded : Arena → ℤ → Option ℤ
loaded arena (pos a) = arena_word arena a
loaded arena (negsuc n) = None

abbrev pub is_header : ℕ → Option ℤ → Bool
is_header n None = false
is_header n (Some w) = int_eq w (pos n)

-- an object with this header, in which the field may be written: not where that is immutable and the object stands no
-- further than the last prebuilt one
abbrev pub is_base_word : ℕ → ℤ → Bool → Arena → Option ℤ → Bool
is_base_word header last immutable arena None = false
is_base_word header last immutable arena (Some w) = is_header header (loaded arena w) && not (immutable && int_le w last)

abbrev pub store_fits_in : Table → CallRow → List ℤ → Arena → AnswerStore → Option FieldRow → Bool
store_fits_in t row refs arena s None = false
store_fits_in t row refs arena s (Some field) =
    may_be_stored t (length refs) field.kind s.value
    && is_base_word (header_of t (Size field.size)) (last_of (prebuilt_addresses t)) field.immutable arena (slice_get refs s.arg)
    && is_declared row.writes s.field

-- a store of a value of the field's kind, into a field that the call declares, of an object of the field's size
abbrev pub store_fits_word : Table → CallRow → List ℤ → Arena → AnswerStore → Bool
store_fits_word t row refs arena s = store_fits_in t row refs arena s (slice_get t.fields s.field)

-- whether an answer fits a call with these words as its references
abbrev pub fits_words : Table → CallRow → List ℤ → Arena → Answer → Bool
fits_words t row refs arena a = same_result (kind_given a.gives) row.result && is_named t (length refs) a.gives && list_all (store_fits_word t row refs arena) a.stores
