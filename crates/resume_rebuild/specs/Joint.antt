-- What the call gives where objects stand, by what is meant.
use Rattle.std.specs.Prelude.{◌≡◌, ℤ, Some, List, length, Result, OnOk}
use Rattle.std.specs.List.{AllZip}
use Rattle.trace_ops.specs.Parts.{parts_of}
use Rattle.trace_ops.specs.declared.trace.BoxId.{BoxId}
use Rattle.trace_ops.specs.declared.piece.Snapshot.{Snapshot}
use Rattle.trace_meaning.specs.declared.value.Value.{Value}
use Rattle.trace_meaning.specs.World.{World}
use Rattle.target_base.specs.Arena.{Arena}
use Rattle.target_base.specs.declared.place.Place.{Place}
use Rattle.arena_objects.specs.Standing.{Stands}
use Rattle.arena_objects.specs.Spots.{ListsItsFields}
use Rattle.arena_objects.specs.declared.making.Full.{Full}
use Rattle.opt_meaning.specs.Rebuilding.{rebuilt}
use Rattle.opt_meaning.specs.Rebuilding as meant
use Rattle.resume_rebuild.specs.Rebuilding.{asked_for, rebuilt_arena, rebuilt_frames}
use Rattle.resume_rebuild.specs.Standing.{BoxStands, CanRebuild}
use Rattle.resume_rebuild.specs.Reserved.{Holding, Gives}

-- where it answers Ok, the objects that are meant stand and the frames that are meant are kept
abbrev pub GivesWhatIsMeant : Type 0
GivesWhatIsMeant =
    (snap : Snapshot) (vs : List Value) (w : World) (places : List (BoxId × Place)) (frame : List ℤ) (old new : Arena) (before after : Holding) (result : Result (Unit {0}) Full) (r : meant.Rebuilt)
    → ListsItsFields before.table → Stands before.table w.objects old → AllZip (BoxStands w.objects places frame) (parts_of snap) vs → CanRebuild before.table (length w.objects) snap → rebuilt before.table snap vs w ≡ Some r
    → Gives (asked_for snap) (rebuilt_arena before.table snap places frame old) (rebuilt_frames before.table snap places frame old) old new before after result
    → OnOk result (Stands before.table r.objects new × (after.frames ≡ r.frames))
