-- Rebuilding over words is what rebuilding means.
use Rattle.std.specs.Prelude.{◌≡◌, ℕ, ◌+◌, ◌*◌, ◌≤◌, ℤ, Some, List, Option, length}
use Rattle.std.specs.List.{AllZip}
use Rattle.trace_ops.specs.declared.trace.BoxId.{BoxId}
use Rattle.trace_ops.specs.declared.table.Table.{Table}
use Rattle.trace_ops.specs.declared.piece.Snapshot.{Snapshot}
use Rattle.trace_meaning.specs.declared.value.Value.{Value}
use Rattle.trace_meaning.specs.World.{World}
use Rattle.target_base.specs.Arena.{Arena}
use Rattle.target_base.specs.declared.place.Place.{Place}
use Rattle.arena_objects.specs.Standing.{Stands}
use Rattle.arena_objects.specs.Spots.{ListsItsFields}
use Rattle.trace_ops.specs.Parts.{parts_of}
use Rattle.opt_meaning.specs.Rebuilding.{Rebuilt, rebuilt_from, rebuilt}
use Rattle.resume_rebuild.specs.Rebuilding.{asked_for, rebuilt_arena, rebuilt_frames}
use Rattle.resume_rebuild.specs.Standing.{BoxStands, BoxesStand, CanRebuild}

-- the objects that are meant stand in the arena, and the frames are those that are meant
abbrev pub RebuildsWhatIsMeant : Type 0
RebuildsWhatIsMeant =
    (t : Table) (snap : Snapshot) (box : BoxId → Option Value) (w : World) (places : List (BoxId × Place)) (frame : List ℤ) (arena : Arena) (r : Rebuilt)
    → ListsItsFields t → Stands t w.objects arena → BoxesStand w.objects places frame box → CanRebuild t (length w.objects) snap
    → asked_for snap + arena.taken ≤ 8 * length arena.words → rebuilt_from t box snap w ≡ Some r
    → Stands t r.objects (rebuilt_arena t snap places frame arena) × (rebuilt_frames t snap places frame arena ≡ r.frames)

-- the same from the values of the boxes of `parts`, each of which stands at its place as the word of its value
abbrev pub RebuildsFromParts : Type 0
RebuildsFromParts =
    (t : Table) (snap : Snapshot) (vs : List Value) (w : World) (places : List (BoxId × Place)) (frame : List ℤ) (arena : Arena) (r : Rebuilt)
    → ListsItsFields t → Stands t w.objects arena → AllZip (BoxStands w.objects places frame) (parts_of snap) vs → CanRebuild t (length w.objects) snap
    → asked_for snap + arena.taken ≤ 8 * length arena.words → rebuilt t snap vs w ≡ Some r
    → Stands t r.objects (rebuilt_arena t snap places frame arena) × (rebuilt_frames t snap places frame arena ≡ r.frames)

-- so many bytes are taken, and there are as many words as before
abbrev pub Takes : ℕ → Arena → Arena → Type 0
Takes n old new = (new.taken ≡ old.taken + n) × (length new.words ≡ length old.words)

-- a rebuild takes what it asks for
abbrev pub TakesWhatIsAsked : Type 0
TakesWhatIsAsked =
    (t : Table) (snap : Snapshot) (places : List (BoxId × Place)) (frame : List ℤ) (arena : Arena) → Takes (asked_for snap) arena (rebuilt_arena t snap places frame arena)
