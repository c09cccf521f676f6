-- Rebuilding at a guard: over the snapshot for which the table stands.
use Rattle.std.specs.Prelude.{◌≡◌, ℕ, ℤ, List, Some, Result, map, slice_get}
use Rattle.std.specs.List.{All}
use Rattle.trace_ops.specs.Parts.{boxes_of}
use Rattle.trace_ops.specs.Sound.{AreApart}
use Rattle.trace_ops.specs.declared.trace.BoxId.{BoxId}
use Rattle.trace_ops.specs.declared.trace.Arg.TheVariants as arg
use Rattle.trace_ops.specs.declared.piece.Val.{Val}
use Rattle.trace_ops.specs.declared.piece.Val.TheVariants.{Known}
use Rattle.trace_ops.specs.declared.piece.OptFrame.{OptFrame}
use Rattle.trace_ops.specs.declared.piece.Snapshot.{Snapshot}
use Rattle.target_base.specs.Arena.{Arena}
use Rattle.target_base.specs.declared.place.Place.{Place}
use Rattle.resume_numbering.specs.declared.rows.ResumeTable.{ResumeTable}
use Rattle.resume_numbering.specs.Reading.{StandsAt}
use Rattle.arena_objects.specs.declared.making.Full.{Full}
use Rattle.resume_rebuild.specs.Rebuilding.{asked_for, rebuilt_arena, rebuilt_frames}
use Rattle.resume_rebuild.specs.Rows.{kind_in}
use Rattle.resume_rebuild.specs.Reserved.{Holding, Gives}

-- a box is of the kind that its number has among the places
abbrev pub IsPlaced : List (BoxId × Place) → Val → Type 0
IsPlaced places (Known (arg.Of b)) = kind_in places b.number ≡ Some b.kind
IsPlaced places _ = Unit {0}

-- the boxes of slots are
abbrev pub ArePlaced : List (BoxId × Place) → Snapshot → Type 0
ArePlaced places snap = All (λ (f : OptFrame). All (IsPlaced places) f.slots) snap.frames

-- the arena and the frames are those that the snapshot rebuilds
abbrev pub RebuildsAt : ResumeTable → ℕ → List (BoxId × Place) → List ℤ → Arena → Arena → Holding → Holding → Result (Unit {0}) Full → Type 0
RebuildsAt table guard places frame old new before after result =
    (snap : Snapshot) → StandsAt table guard snap → ArePlaced places snap
    → Gives (asked_for snap) (rebuilt_arena before.table snap places frame old) (rebuilt_frames before.table snap places frame old) old new before after result

-- the box has a place
abbrev pub HasEach : List (BoxId × Place) → BoxId → Type 0
HasEach places b = (i : ℕ) × (place : Place) × (slice_get places i ≡ Some (b, place))

-- where no number stands twice and each box of a snapshot has a place
abbrev pub PlacesTellKinds : Type 0
PlacesTellKinds =
    (places : List (BoxId × Place)) (snap : Snapshot) → AreApart (map (λ (p : BoxId × Place). p.0.number) places) → All (HasEach places) (boxes_of snap) → ArePlaced places snap
