-- What a failing guard rebuilds, over machine words: from its snapshot, the places of its boxes, the frame words and the arena.
use Rattle.std.specs.Prelude.{ℕ, ◌+◌, ◌*◌, ◌==◌, ℤ, pos, negsuc, List, [], ◌∷◌, map, Option, Some, None, length, slice_get, position, option_and_then, is_some, if◌then◌else◌}
use Rattle.std.specs.Option.{option_map}
use Rattle.target_base.specs.Arena.{Arena, arena_word, with_arena_word}
use Rattle.target_base.specs.declared.place.Place.{Place}
use Rattle.target_base.specs.declared.place.Place.TheVariants.{In, Word}
use Rattle.trace_ops.specs.declared.trace.BoxId.{BoxId}
use Rattle.trace_ops.specs.declared.trace.Kind.{Kind}
use Rattle.trace_ops.specs.declared.trace.Kind.TheVariants as kind
use Rattle.trace_ops.specs.declared.trace.Arg.{Arg}
use Rattle.trace_ops.specs.declared.trace.Arg.TheVariants as arg
use Rattle.trace_ops.specs.declared.table.Table.{Table}
use Rattle.trace_ops.specs.declared.table.ShapeOf.{ShapeOf}
use Rattle.trace_ops.specs.declared.piece.Val.{Val}
use Rattle.trace_ops.specs.declared.piece.Val.TheVariants.{Known, Virtual}
use Rattle.trace_ops.specs.declared.piece.Shape.{Shape}
use Rattle.trace_ops.specs.declared.piece.Pending.{Pending}
use Rattle.trace_ops.specs.declared.piece.OptFrame.{OptFrame}
use Rattle.trace_ops.specs.declared.piece.Snapshot.{Snapshot}
use Rattle.trace_meaning.specs.declared.value.Value.{Value}
use Rattle.trace_meaning.specs.declared.value.Value.TheVariants as v
use Rattle.trace_meaning.specs.declared.state.RecFrame.{RecFrame}
use Rattle.arena_objects.specs.declared.walk.Found.{Found}
use Rattle.arena_objects.specs.Layout.{header_of, words_ahead, part_offset}
use Rattle.arena_objects.specs.Spots.{spot_offset}
use Rattle.arena_objects.specs.Walk.{objects_found}
use Rattle.arena_objects.specs.Walked.{addresses_found, number_in}
use Rattle.arena_objects.specs.ReadBack.{or_zero, reference_to}
use Rattle.arena_objects.specs.Making.{arena_begun}
use Rattle.arena_objects.specs.Laws.{arena_filled}

-- ---- words

-- a register's word is saved in the frame word of its number
abbrev pub saved_at : Place → ℕ
saved_at (In r) = r.0
saved_at (Word w) = w

-- the box of a number and its place
abbrev pub entry_in : List (BoxId × Place) → ℕ → Option (BoxId × Place)
entry_in places n = option_and_then (slice_get places) (position (λ (p : BoxId × Place). p.0.number == n) places)

abbrev pub place_in : List (BoxId × Place) → ℕ → Option Place
place_in places n = option_map (λ (p : BoxId × Place). p.1) (entry_in places n)

abbrev pub word_in : List ℤ → Option Place → ℤ
word_in frame None = pos 0
word_in frame (Some p) = or_zero (slice_get frame (saved_at p))

-- what the words of values are read from: where the boxes stand, and the words of the objects before and of the new ones
pub record Sources : Type 0 where
  pub places : List (BoxId × Place)
  pub frame : List ℤ
  pub before : List ℤ
  pub made : List ℤ

abbrev pub box_word : Sources → ℕ → ℤ
box_word known n = word_in known.frame (place_in known.places n)

-- a class and a function have no word
abbrev pub arg_word : Sources → Arg → ℤ
arg_word known (arg.Of b) = box_word known b.number
arg_word known (arg.Const z) = z
arg_word known arg.Null = pos 0
arg_word known (arg.Ptr k) = or_zero (slice_get known.before k)
arg_word known (arg.Class k) = pos 0
arg_word known (arg.Func k) = pos 0

abbrev pub val_word : Sources → Val → ℤ
val_word known (Known a) = arg_word known a
val_word known (Virtual n) = or_zero (slice_get known.made n)

-- ---- new objects

-- an object to be made, with the words of its parts
pub record Filled : Type 0 where
  pub of : ShapeOf
  pub words : List ℤ

pub record Extent : Type 0 where
  pub of : ShapeOf
  pub parts : ℕ

abbrev pub extent_of : Shape → Extent
extent_of s = record { of = s.of; parts = length s.parts }

abbrev pub words_of_extent : Extent → ℕ
words_of_extent e = words_ahead e.of + e.parts

-- the bytes of all of them
abbrev pub bytes_of_all : List Extent → ℕ
bytes_of_all [] = 0
bytes_of_all (e ∷ es) = 8 * words_of_extent e + bytes_of_all es

-- they stand from an address on, in order: the words of their addresses
abbrev pub addresses_from : ℕ → List Extent → List ℤ
addresses_from a [] = []
addresses_from a (e ∷ es) = pos a ∷ addresses_from (a + 8 * words_of_extent e) es

-- each is made with the header number of its shape, in order
abbrev pub made_with : (ShapeOf → ℕ) → List Extent → Arena → Arena
made_with header [] arena = arena
made_with header (e ∷ es) arena = made_with header es (arena_begun e.of (header e.of) e.parts arena)

abbrev pub made_all : Table → List Extent → Arena → Arena
made_all t es arena = made_with (header_of t) es arena

-- the parts of all of them are filled
abbrev pub filled_all : ℕ → List Filled → Arena → Arena
filled_all a [] arena = arena
filled_all a (f ∷ fs) arena = filled_all (a + 8 * (words_ahead f.of + length f.words)) fs (arena_filled (a + part_offset f.of 0) f.words arena)

-- ---- pending stores

-- a store of a word behind an address; where no word lies, nothing is stored
pub record Stored : Type 0 where
  pub base : ℤ
  pub offset : ℕ
  pub word : ℤ

abbrev pub put_word : ℕ → ℤ → Arena → Arena
put_word a w arena = if is_some (arena_word arena a) then with_arena_word a w arena else arena

abbrev pub stored_at : ℤ → ℕ → ℤ → Arena → Arena
stored_at (pos a) offset w arena = put_word (a + offset) w arena
stored_at (negsuc n) offset w arena = arena

-- in order
abbrev pub stored_all : List Stored → Arena → Arena
stored_all [] arena = arena
stored_all (s ∷ ss) arena = stored_all ss (stored_at s.base s.offset s.word arena)

-- ---- values of slots

-- a word read as a value, by the addresses of the objects that are found: 0, and what is none of them, is null
abbrev pub value_as : List ℕ → Kind → ℤ → Value
value_as found kind.Int w = v.Int w
value_as found kind.Ref w = reference_to (number_in w found)

abbrev pub slot_of_arg : List ℕ → Sources → Arg → Value
slot_of_arg found known (arg.Of b) = value_as found b.kind (box_word known b.number)
slot_of_arg found known (arg.Const z) = v.Int z
slot_of_arg found known a = value_as found kind.Ref (arg_word known a)

abbrev pub slot_value : List ℕ → Sources → Val → Value
slot_value found known (Known a) = slot_of_arg found known a
slot_value found known (Virtual n) = value_as found kind.Ref (val_word known (Virtual n))

-- ---- all of it

abbrev pub filled_of : Sources → Shape → Filled
filled_of known s = record { of = s.of; words = map (val_word known) s.parts }

abbrev pub stored_of : Table → Sources → Pending → Stored
stored_of t known p = record { base = arg_word known p.base; offset = spot_offset t p.spot; word = val_word known p.value }

abbrev pub frame_of : List ℕ → Sources → OptFrame → RecFrame
frame_of found known f = record { name = f.name; pc = f.pc; slots = map (slot_value found known) f.slots }

abbrev pub found_addresses : Table → Arena → List ℤ
found_addresses t arena = map (λ (f : Found). pos f.at) (objects_found t arena)

abbrev pub first_new : Arena → ℕ
first_new arena = 0x10000000 + arena.taken

abbrev pub sources : Table → List Extent → List (BoxId × Place) → List ℤ → Arena → Sources
sources t es places frame arena = record { places = places; frame = frame; before = found_addresses t arena; made = addresses_from (first_new arena) es }

abbrev pub extents_of : Snapshot → List Extent
extents_of snap = map extent_of snap.shapes

-- the objects are made, then filled, then the stores are done
abbrev pub arena_after : Table → List Extent → List Filled → List Stored → Arena → Arena
arena_after t es fs ss arena = stored_all ss (filled_all (first_new arena) fs (made_all t es arena))

abbrev pub sources_of : Table → Snapshot → List (BoxId × Place) → List ℤ → Arena → Sources
sources_of t snap places frame arena = sources t (extents_of snap) places frame arena

abbrev pub rebuilt_arena : Table → Snapshot → List (BoxId × Place) → List ℤ → Arena → Arena
rebuilt_arena t snap places frame arena =
    arena_after t (extents_of snap) (map (filled_of (sources_of t snap places frame arena)) snap.shapes) (map (stored_of t (sources_of t snap places frame arena)) snap.pending) arena

-- the frames, outermost first, read from the arena after rebuilding
abbrev pub rebuilt_frames : Table → Snapshot → List (BoxId × Place) → List ℤ → Arena → List RecFrame
rebuilt_frames t snap places frame arena =
    map (frame_of (addresses_found t (rebuilt_arena t snap places frame arena)) (sources_of t snap places frame arena)) snap.frames

-- the bytes that are asked for
abbrev pub asked_for : Snapshot → ℕ
asked_for snap = bytes_of_all (extents_of snap)
