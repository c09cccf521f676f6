-- What is known where a formed piece is left at one of its guards: all that rebuilding there asks for.
use Rattle.std.specs.Prelude.{◌≡◌, ℕ, ◌≤◌, Some, Option, List, length, map, slice_get}
use Rattle.std.specs.List.{All}
use Rattle.trace_ops.specs.Constants.{ArgHasWord}
use Rattle.trace_ops.specs.InRange.{IsTableInRange}
use Rattle.trace_ops.specs.Parts.{parts_of}
use Rattle.trace_ops.specs.Snapshots.{IsSnapshotSound, NamesSnapshot}
use Rattle.trace_ops.specs.Sound.{AreApart, IsFormed, constants_in}
use Rattle.trace_ops.specs.declared.trace.BoxId.{BoxId}
use Rattle.trace_ops.specs.declared.trace.TraceSet.{TraceSet}
use Rattle.trace_ops.specs.declared.table.Table.{Table}
use Rattle.trace_ops.specs.declared.piece.Piece.{Piece}
use Rattle.trace_ops.specs.declared.piece.PieceId.{PieceId}
use Rattle.trace_ops.specs.declared.piece.Snapshot.{Snapshot}
use Rattle.target_base.specs.declared.place.Place.{Place}
use Rattle.arena_objects.specs.Spots.{ListsItsFields}
use Rattle.resume_numbering.specs.declared.rows.ResumeTable.{ResumeTable}
use Rattle.resume_numbering.specs.Lawful.{IsLawful}
use Rattle.resume_numbering.specs.Numbered.{IsNumbered}
use Rattle.resume_numbering.specs.Reading.{HasRow, StandsAt}
use Rattle.resume_numbering.specs.Uses.{Guarded, guarded}
use Rattle.resume_rebuild.specs.Guarding.{ArePlaced, HasEach}
use Rattle.resume_rebuild.specs.Known.{ShapesAreKnown}
use Rattle.resume_rebuild.specs.Standing.{CanRebuild}

-- the guard can be rebuilt from the table, over so many objects or more
pub record MayRebuild (t : Table) (table : ResumeTable) (g : Guarded) (places : List (BoxId × Place)) (objects : ℕ) : Type 0 where
  pub lawful : IsLawful table
  pub row : HasRow table g.guard
  pub stands : StandsAt table g.guard g.snap
  pub shapes : ShapesAreKnown t table g.guard
  pub placed : ArePlaced places g.snap
  pub can : CanRebuild t objects g.snap
  pub fields : ListsItsFields t

-- so it is by the table of a formed piece, where each box of the snapshot has a place, no number stands twice, and the
-- integers in the snapshot are words
abbrev pub FormedPiecesRebuild : Type 0
FormedPiecesRebuild =
    (set : TraceSet) (label_of : PieceId → Option (List BoxId)) (p : Piece) (table : ResumeTable) (k : ℕ) (g : Guarded) (places : List (BoxId × Place)) (objects : ℕ)
    → IsTableInRange set.table → IsFormed set label_of p → IsNumbered table p → slice_get (guarded p.ops) k ≡ Some g
    → All ArgHasWord (constants_in g.snap) → length set.table.prebuilts ≤ objects
    → AreApart (map (λ (q : BoxId × Place). q.0.number) places) → All (HasEach places) (parts_of g.snap)
    → MayRebuild set.table table g places objects

-- a sound snapshot that names rows of the table, and whose integers are words, can be rebuilt over its prebuilt objects and more
abbrev pub SoundSnapshotsRebuild : Type 0
SoundSnapshotsRebuild =
    (t : Table) (snap : Snapshot) (objects : ℕ) → IsTableInRange t → IsSnapshotSound t snap → NamesSnapshot t snap
    → All ArgHasWord (constants_in snap) → length t.prebuilts ≤ objects → CanRebuild t objects snap
