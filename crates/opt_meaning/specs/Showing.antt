-- What ends of pieces show, beside those of their traces.
use Rattle.std.specs.Prelude.{◌≡◌, ℕ, ◌≤◌, Some, List, [], length, map}
use Rattle.std.specs.Option.{IsSomeAnd}
use Rattle.std.specs.List.{AllZip}
use Rattle.trace_ops.specs.declared.trace.Frame.{Frame}
use Rattle.trace_ops.specs.declared.trace.Op.{Op}
use Rattle.trace_ops.specs.declared.trace.TraceSet.{TraceSet}
use Rattle.trace_ops.specs.declared.table.Table.{Table}
use Rattle.trace_ops.specs.declared.piece.OptFrame.{OptFrame}
use Rattle.trace_ops.specs.declared.piece.Snapshot.{Snapshot}
use Rattle.trace_ops.specs.declared.piece.PieceId.{PieceId}
use Rattle.trace_ops.specs.declared.piece.Entry.{Entry}
use Rattle.trace_meaning.specs.declared.value.Value.{Value}
use Rattle.trace_meaning.specs.declared.state.RecFrame.{RecFrame}
use Rattle.trace_meaning.specs.Legs.{Leave, Over}
use Rattle.trace_meaning.specs.Recorded.{ops_at}
use Rattle.trace_meaning.specs.Observed.{guard_in}
use Rattle.heap_shape.specs.Shown.{FrameShown, values_in, Shown, shown, recorded_shown}
use Rattle.heap_shape.specs.Listing.{listing}
use Rattle.heap_shape.specs.Roots.{roots}
use Rattle.opt_meaning.specs.Pieces.{PiecesNow}
use Rattle.trace_meaning.specs.World.{World, events, bytes_in}
use Rattle.trace_meaning.specs.Kept.{allocated}
use Rattle.opt_meaning.specs.Rebuilding.{Rebuilt, rebuilt, snapshot_in}
use Rattle.opt_meaning.specs.Observed.{pieces_state, pieces_objects, pieces_calls}
use Rattle.opt_meaning.specs.Admits.{Admits, IsEntryOf, entry_for}
use Rattle.opt_meaning.specs.Composing.{EndedAlike, IsWrong}
use Rattle.opt_meaning.specs.Meeting.{Made, made_at, pieces_of, joined}

-- what a run of pieces shows, with what it has rebuilt
abbrev pub pieces_shown : TraceSet → List Made → PiecesNow → Shown
pieces_shown set ms now = shown set.table (pieces_state set (pieces_of ms) now) (pieces_objects set (pieces_of ms) now) (pieces_calls now)

abbrev pub kept_frame_shown : OptFrame → FrameShown
kept_frame_shown f = (f.name, f.pc, length f.slots)

abbrev pub recorded_frame_shown : Frame → FrameShown
recorded_frame_shown f = (f.name, f.pc, length f.slots)

-- frames of the same names, places and numbers of slots
abbrev pub AreFramesOf : List Frame → List OptFrame → Type 0
AreFramesOf recorded kept = map kept_frame_shown kept ≡ map recorded_frame_shown recorded

-- the guard's entry is what its snapshot says, over frames like those of the recorded guard
abbrev pub FitsGuard : TraceSet → ℕ → ℕ → Entry → Snapshot → Type 0
FitsGuard set p n e snap = IsEntryOf snap e × IsSomeAnd (guard_in (ops_at set p) n) (λ (op : Op). AreFramesOf op.snapshot snap.frames)

abbrev pub SnapshotsFit : TraceSet → List Made → Type 0
SnapshotsFit set ms =
    (q : PieceId) (m : Made) → made_at ms q ≡ Some m → (n : ℕ) (e : Entry) → entry_for m.guards n ≡ Some e
    → IsSomeAnd (snapshot_in m.piece.ops n) (FitsGuard set q.trace n e)

-- a frame that was made of one of a snapshot
pub record IsFrameOf (f : OptFrame) (g : RecFrame) : Type 0 where
  pub name : g.name ≡ f.name
  pub pc : g.pc ≡ f.pc
  pub slots : length g.slots ≡ length f.slots

-- from each pair that the entry of a snapshot admits, rebuilding never goes wrong, and its listing is the recorded one
abbrev pub RebuiltSame : Type 0
RebuiltSame =
    (t : Table) (snap : Snapshot) (e : Entry) → IsEntryOf snap e
    → (vs : List Value) (w : World) (us : List Value) (u : World) → Admits t e vs w us u
    → (r : Rebuilt) × (rebuilt t snap us u ≡ Some r)
    × (listing r.objects (roots (length t.prebuilts) (events u.log) (values_in r.frames)) ≡ listing w.objects (roots (length t.prebuilts) (events w.log) vs))
    × AllZip IsFrameOf snap.frames r.frames
    × (allocated (length t.prebuilts) r.objects ≤ bytes_in t w)

-- what ends alike shows the same, where what is rebuilt does
abbrev pub EndsShowAlike : Type 0
EndsShowAlike =
    RebuiltSame → (set : TraceSet) (ms : List Made) (p : ℕ) (l : Leave) (q : PieceId) (x : Leave) → SnapshotsFit set ms → EndedAlike set.table (joined ms) p l q x → ¬ IsWrong l
    → recorded_shown set (Over p l) ≡ pieces_shown set ms (Over q x)
