-- What a return shows, read by its row from saved registers, frame words and the arena.
use Rattle.std.specs.Prelude.{ℕ, ◌-◌, ◌^◌, Bool, true, false, nat_le, min, is_some, ℤ, List, [], ◌∷◌, Option, Some, None, map, option_and_then, slice_get}
use Rattle.std.specs.Option.{option_map}
use Rattle.trace_ops.specs.declared.table.Table.{Table}
use Rattle.trace_ops.specs.declared.trace.Arg.{Arg}
use Rattle.trace_ops.specs.declared.trace.BoxId.{BoxId}
use Rattle.trace_ops.specs.declared.trace.Kind.{Kind}
use Rattle.trace_ops.specs.declared.piece.OptOp.{OptOp}
use Rattle.trace_ops.specs.declared.piece.OptOp.TheVariants as opt
use Rattle.trace_ops.specs.declared.piece.Pending.{Pending}
use Rattle.trace_ops.specs.declared.piece.Piece.{Piece}
use Rattle.trace_ops.specs.declared.piece.Snapshot.{Snapshot}
use Rattle.trace_ops.specs.declared.piece.Spot.{Spot}
use Rattle.target_base.specs.declared.place.Place.{Place}
use Rattle.target_base.specs.Arena.{Arena}
use Rattle.guard_exit.specs.declared.row.ExitRow.{ExitRow}
use Rattle.trace_meaning.specs.declared.value.Value.{Value}
use Rattle.trace_meaning.specs.declared.value.Store.{Store}
use Rattle.trace_meaning.specs.declared.state.RecState.TheVariants as state
use Rattle.trace_meaning.specs.Objects.{place_within}
use Rattle.opt_meaning.specs.Pieces.{ops_at, last_of}
use Rattle.opt_meaning.specs.Rebuilding.{snapshot_in}
use Rattle.arena_objects.specs.Making.{bytes_left}
use Rattle.arena_objects.specs.ReadBack.{objects_in}
use Rattle.arena_objects.specs.Walk.{object_at}
use Rattle.arena_objects.specs.Walked.{addresses_found}
use Rattle.resume_rebuild.specs.Rebuilding.{word_in, arg_word, sources, sources_of, slot_of_arg, rebuilt_arena, rebuilt_frames, asked_for}
use Rattle.x64_machine.specs.Words.{unsigned}
use Rattle.x64_machine.specs.State.{State}
use Rattle.image_runs.specs.Session.{End, Shows, Full, Lost}
use Rattle.session_host.specs.Entries.{or_else, stray_in}

-- ---- words that are none of what they are to be

-- the first box of a reference whose word is neither 0 nor the address of an object
abbrev pub kinds_at : List (BoxId × Place) → List Kind
kinds_at places = map (λ (p : BoxId × Place). p.0.kind) places

abbrev pub words_at : List ℤ → List (BoxId × Place) → List ℤ
words_at frame places = map (λ (p : BoxId × Place). word_in frame (Some p.1)) places

abbrev pub stray_box : Table → State → ExitRow → Option ℤ
stray_box t s row = stray_in t s.arena (kinds_at row.places) (words_at s.frame row.places)

-- the object at an address has the spot
abbrev pub has_spot : Table → Arena → Spot → Option ℕ → Bool
has_spot t arena spot None = false
has_spot t arena spot (Some k) = is_some (option_and_then (place_within t spot) (slice_get (objects_in t arena) k))

-- the first base of a pending store that is no object with its spot
abbrev pub stray_base : Table → Arena → (Arg → ℤ) → List Pending → Option ℤ
stray_base t arena word [] = None
stray_base t arena word (p ∷ ps) = or_else (has_spot t arena p.spot (object_at t arena (word p.base))) (word p.base) (stray_base t arena word ps)

abbrev pub first_stray : Option ℤ → Option ℤ → Option ℤ
first_stray (Some w) later = Some w
first_stray None later = later

-- ---- a finish

abbrev pub store_in : Table → Arena → Store
store_in t arena = record { objects = objects_in t arena }

-- what the last operation of a piece finishes with, where it finishes
abbrev pub finish_of : Option OptOp → Option (Option Arg)
finish_of (Some (opt.Finish value)) = Some value
finish_of _ = None

-- a box at its place, or a constant; a prebuilt object that the walk doesn't reach is null
abbrev pub finish_value : Table → State → ExitRow → Option Arg → Option Value
finish_value t s row value = option_map (slot_of_arg (addresses_found t s.arena) (sources t [] row.places s.frame s.arena)) value

abbrev pub finished_unless : Table → State → ExitRow → Option Arg → Option ℤ → End
finished_unless t s row value (Some w) = Lost (unsigned w)
finished_unless t s row value None = Shows (state.Finished (finish_value t s row value)) (store_in t s.arena)

abbrev pub finished_at : Table → State → ExitRow → Option Arg → End
finished_at t s row value = finished_unless t s row value (stray_box t s row)

-- ---- a guard

-- the words that lead to objects: the row's boxes, then the bases of pending stores
abbrev pub stray_at : Table → State → ExitRow → Snapshot → Option ℤ
stray_at t s row snap =
    first_stray (stray_box t s row) (stray_base t s.arena (arg_word (sources_of t snap row.places s.frame s.arena)) snap.pending)

abbrev pub exited : Table → State → ExitRow → ℕ → Snapshot → End
exited t s row n snap =
    Shows (state.Exited row.id.trace n (rebuilt_frames t snap row.places s.frame s.arena)) (store_in t (rebuilt_arena t snap row.places s.frame s.arena))

abbrev pub exited_if : Bool → Table → State → ExitRow → ℕ → Snapshot → End
exited_if true t s row n snap = exited t s row n snap
exited_if false t s row n snap = Full (min (asked_for snap) (2 ^ 64 - 1)) (bytes_left s.arena)

-- frames and objects are rebuilt, where the bytes of the virtual objects are left
abbrev pub exited_unless : Table → State → ExitRow → ℕ → Snapshot → Option ℤ → End
exited_unless t s row n snap (Some w) = Lost (unsigned w)
exited_unless t s row n snap None = exited_if (nat_le (asked_for snap) (bytes_left s.arena)) t s row n snap

abbrev pub exited_at : Table → State → ExitRow → ℕ → Snapshot → End
exited_at t s row n snap = exited_unless t s row n snap (stray_at t s row snap)

-- ---- a row

-- by the guard's snapshot, or by the finish, of the piece that the row names; none where the piece has no such operation
abbrev pub shown_by : Table → List Piece → ExitRow → Option ℕ → State → Option End
shown_by t ps row None s = option_map (finished_at t s row) (finish_of (last_of (ops_at ps row.id)))
shown_by t ps row (Some n) s = option_map (exited_at t s row n) (snapshot_in (ops_at ps row.id) n)

abbrev pub shown_of : Table → List Piece → ExitRow → State → Option End
shown_of t ps row s = shown_by t ps row row.guard s
