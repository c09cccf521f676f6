-- What the rows of a resume table rebuild, over machine words: tagged numbers in place of values.
use Rattle.std.specs.Prelude.{ℕ, zero, suc, ◌-◌, ◌/◌, ◌%◌, ◌==◌, nat_lt, ℤ, pos, negsuc, List, [], ◌∷◌, map, Option, Some, None, length, reverse, slice_get, if◌then◌else◌}
use Rattle.std.specs.Option.{option_map}
use Rattle.trace_ops.specs.declared.trace.BoxId.{BoxId}
use Rattle.trace_ops.specs.declared.trace.Kind.{Kind}
use Rattle.trace_ops.specs.declared.trace.Kind.TheVariants as kind
use Rattle.trace_ops.specs.declared.trace.Arg.{Arg}
use Rattle.trace_ops.specs.declared.trace.Arg.TheVariants as arg
use Rattle.trace_ops.specs.declared.table.Table.{Table}
use Rattle.trace_meaning.specs.declared.value.Value.{Value}
use Rattle.trace_meaning.specs.declared.state.RecFrame.{RecFrame}
use Rattle.target_base.specs.Arena.{Arena}
use Rattle.target_base.specs.declared.place.Place.{Place}
use Rattle.arena_objects.specs.ReadBack.{or_zero}
use Rattle.arena_objects.specs.Spots.{spot_offset}
use Rattle.arena_objects.specs.Walked.{addresses_found}
use Rattle.resume_numbering.specs.declared.rows.FrameRow.{FrameRow}
use Rattle.resume_numbering.specs.declared.rows.VirtualRow.{VirtualRow}
use Rattle.resume_numbering.specs.declared.rows.PendingRow.{PendingRow}
use Rattle.resume_numbering.specs.declared.rows.GuardRow.{GuardRow}
use Rattle.resume_numbering.specs.declared.rows.ResumeTable.{ResumeTable}
use Rattle.resume_rebuild.specs.Rebuilding.{Sources, Extent, Filled, Stored, sources, arena_after, entry_in, box_word, arg_word, value_as}

-- the integer with this index modulo 2^30
abbrev pub small_integer : ℕ → ℤ
small_integer x = if nat_lt x 536870912 then pos x else negsuc (1073741823 - x)

-- the words of the constants come from the arena before
abbrev pub words_of_consts : Sources → List Arg → List ℤ
words_of_consts known consts = map (arg_word known) consts

abbrev pub tagged_word : Sources → List ℤ → ℕ → ℕ → ℤ
tagged_word known words x tag =
    if tag == 0 then box_word known x else if tag == 1 then small_integer x else if tag == 2 then or_zero (slice_get words x) else or_zero (slice_get known.made x)

abbrev pub tag_word : Sources → List ℤ → ℕ → ℤ
tag_word known words t = tagged_word known words (t / 4) (t % 4)

-- ---- kinds

abbrev pub kind_in : List (BoxId × Place) → ℕ → Option Kind
kind_in places n = option_map (λ (p : BoxId × Place). p.0.kind) (entry_in places n)

abbrev pub kind_of_entry : Option Kind → Kind
kind_of_entry None = kind.Int
kind_of_entry (Some k) = k

abbrev pub kind_of_const : Option Arg → Kind
kind_of_const (Some (arg.Const z)) = kind.Int
kind_of_const _ = kind.Ref

abbrev pub tagged_kind : List (BoxId × Place) → List Arg → ℕ → ℕ → Kind
tagged_kind places consts x tag =
    if tag == 0 then kind_of_entry (kind_in places x) else if tag == 1 then kind.Int else if tag == 2 then kind_of_const (slice_get consts x) else kind.Ref

abbrev pub tag_kind : List (BoxId × Place) → List Arg → ℕ → Kind
tag_kind places consts t = tagged_kind places consts (t / 4) (t % 4)

abbrev pub tag_value : List ℕ → Sources → List Arg → List ℤ → ℕ → Value
tag_value found known consts words n = value_as found (tag_kind known.places consts n) (tag_word known words n)

-- ---- rows

abbrev pub row_extent : VirtualRow → Extent
row_extent row = record { of = row.of; parts = length row.parts }

abbrev pub row_filled : Sources → List ℤ → VirtualRow → Filled
row_filled known words row = record { of = row.of; words = map (tag_word known words) row.parts }

abbrev pub row_stored : Table → Sources → List ℤ → PendingRow → Stored
row_stored t known words row = record { base = tag_word known words row.base; offset = spot_offset t row.spot; word = tag_word known words row.value }

abbrev pub row_frame : List ℕ → Sources → List Arg → List ℤ → FrameRow → RecFrame
row_frame found known consts words row = record { name = row.name; pc = row.pc; slots = map (tag_value found known consts words) row.slots }

-- the rows of these numbers
abbrev pub with_row : {X : Type 0} → Option X → List X → List X
with_row None rows = rows
with_row (Some row) rows = row ∷ rows

abbrev pub rows_at : {X : Type 0} → List X → List ℕ → List X
rows_at rows [] = []
rows_at rows (k ∷ ks) = with_row (slice_get rows k) (rows_at rows ks)

-- ---- frames

-- the rows from one on by parents, the innermost first, at most so many
abbrev pub further : (Option ℕ → List FrameRow) → Option FrameRow → List FrameRow
further rest None = []
further rest (Some row) = row ∷ rest row.parent

abbrev pub found_row : List FrameRow → Option ℕ → Option FrameRow
found_row rows None = None
found_row rows (Some k) = slice_get rows k

abbrev pub chain : ℕ → List FrameRow → Option ℕ → List FrameRow
chain zero rows at = []
chain (suc n) rows at = further (chain n rows) (found_row rows at)

-- each parent is a lower row, so these are all of them
abbrev pub frames_from : List FrameRow → ℕ → List FrameRow
frames_from rows first = chain (length rows) rows (Some first)

-- ---- all of it

abbrev pub extents_at : ResumeTable → GuardRow → List Extent
extents_at table row = map row_extent (rows_at table.virtuals row.virtuals)

abbrev pub sources_at : Table → ResumeTable → GuardRow → List (BoxId × Place) → List ℤ → Arena → Sources
sources_at t table row places frame arena = sources t (extents_at table row) places frame arena

abbrev pub words_at : Table → ResumeTable → GuardRow → List (BoxId × Place) → List ℤ → Arena → List ℤ
words_at t table row places frame arena = words_of_consts (sources_at t table row places frame arena) table.consts

abbrev pub arena_at : Table → ResumeTable → GuardRow → List (BoxId × Place) → List ℤ → Arena → Arena
arena_at t table row places frame arena =
    arena_after t (extents_at table row)
    (map (row_filled (sources_at t table row places frame arena) (words_at t table row places frame arena)) (rows_at table.virtuals row.virtuals))
    (map (row_stored t (sources_at t table row places frame arena) (words_at t table row places frame arena)) row.pending) arena

abbrev pub frames_at : Table → ResumeTable → GuardRow → List (BoxId × Place) → List ℤ → Arena → List RecFrame
frames_at t table row places frame arena =
    reverse (map (row_frame (addresses_found t (arena_at t table row places frame arena)) (sources_at t table row places frame arena) table.consts (words_at t table row places frame arena)) (frames_from table.frames row.frame))
