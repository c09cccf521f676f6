-- What the optimised pieces of a set are, and what their runs then promise.
use Rattle.std.specs.Prelude.{◌≡◌, ℕ, ◌+◌, ◌*◌, ◌≤◌, ◌⊎◌, List, [], ◌∷◌, Some, length, map, slice_get}
use Rattle.std.specs.List.{All, Contains}
use Rattle.trace_ops.specs.declared.trace.BoxId.{BoxId}
use Rattle.trace_ops.specs.declared.trace.Origin.TheVariants as origin
use Rattle.trace_ops.specs.declared.trace.Trace.{Trace}
use Rattle.trace_ops.specs.declared.trace.TraceSet.{TraceSet}
use Rattle.trace_ops.specs.declared.piece.Half.TheVariants as half
use Rattle.trace_ops.specs.declared.piece.PieceId.{PieceId}
use Rattle.trace_ops.specs.declared.piece.Entry.{Entry}
use Rattle.trace_ops.specs.Lawful.{AreDistinct}
use Rattle.trace_ops.specs.InRange.{IsInRange}
use Rattle.trace_ops.specs.WellFormed.{IsWellFormed}
use Rattle.trace_ops.specs.Constants.{HasWords}
use Rattle.trace_meaning.specs.declared.call.Answer.{Answer}
use Rattle.trace_meaning.specs.declared.value.Value.{Value}
use Rattle.trace_meaning.specs.Cuts.{Cuts}
use Rattle.trace_meaning.specs.Legs.{Leave, Over, begins, run}
use Rattle.trace_meaning.specs.Laws.{most_operations}
use Rattle.trace_meaning.specs.Recorded.{RecordedNow, recorded, inputs_of, first_world}
use Rattle.trace_meaning.specs.Sound.{HasWord, AnswersWords}
use Rattle.trace_meaning.specs.Starting.{Starts}
use Rattle.heap_shape.specs.Shown.{recorded_shown}
use Rattle.opt_meaning.specs.Admits.{plain_entry}
use Rattle.opt_meaning.specs.Composing.{IsWrong}
use Rattle.opt_meaning.specs.Meeting.{Made, Meet, made_at, pieces_of}
use Rattle.opt_meaning.specs.Pieces.{PiecesNow, pieces}
use Rattle.opt_meaning.specs.Showing.{SnapshotsFit, pieces_shown}

-- What the pieces are

-- each cut is at one of these bridges
abbrev pub AreAt : List ℕ → Cuts → Type 0
AreAt bridges cuts = All (λ (c : ℕ × ℕ). Contains bridges c.0) cuts

-- nothing is known where the piece begins, and it has a box for each input of the trace, of its kind
abbrev pub BeginsPlainly : TraceSet → ℕ → Entry → Type 0
BeginsPlainly set p e =
    (bs : List BoxId) × (e ≡ plain_entry bs) × AreDistinct bs
    × (map (λ (b : BoxId). b.kind) bs ≡ map (λ (b : BoxId). b.kind) (inputs_of (slice_get set.traces p)))

-- the piece with which a loop begins
abbrev pub first_piece : ℕ → PieceId
first_piece p = record { trace = p; half = half.Pre }

-- The pieces of all loops and of these bridges: whichever of the bridges are attached, and whenever, each piece does what its
-- trace does and is entered as others lead to it; guards have the frames that were recorded; each loop begins plainly.
pub record AreMade (set : TraceSet) (bridges : List ℕ) (ms : List Made) : Type 0 where
  pub meet : (cuts : Cuts) → AreAt bridges cuts → Meet set ms cuts
  pub fit : SnapshotsFit set ms
  pub loops : (p : ℕ) (t : Trace) → slice_get set.traces p ≡ Some t → t.origin ≡ origin.Loop → (m : Made) × (made_at ms (first_piece p) ≡ Some m) × BeginsPlainly set p m.entry

-- What they promise

-- the operations of all pieces
abbrev pub operations : List Made → ℕ
operations [] = 0
operations (m ∷ ms) = length m.piece.ops + operations ms

-- inputs of a loop, and what the host is to answer
pub record IsStart (set : TraceSet) (p : ℕ) (inputs : List Value) (answers : List Answer) : Type 0 where
  pub starts : Starts set p inputs
  pub words : All HasWord inputs
  pub answers_words : All AnswersWords answers

-- the recorded run and the run of the pieces after so many operations
abbrev pub trace_after : TraceSet → Cuts → ℕ → List Value → List Answer → ℕ → RecordedNow
trace_after set cuts p inputs answers n = run (recorded set cuts) n (begins (recorded set cuts) p inputs (first_world set.table answers))

abbrev pub pieces_after : TraceSet → List Made → Cuts → ℕ → List Value → List Answer → ℕ → PiecesNow
pieces_after set ms cuts p inputs answers n = run (pieces set (pieces_of ms) cuts) n (begins (pieces set (pieces_of ms) cuts) (first_piece p) inputs (first_world set.table answers))

-- For every loop, all inputs and answers and all cuts: where the recorded run has ended and isn't wrong, the pieces have
-- ended and show the same; where the pieces have ended, the recorded run is wrong, or has ended and shows the same.
pub record Promise (set : TraceSet) (bridges : List ℕ) (ms : List Made) : Type 0 where
  pub forward : (p : ℕ) (inputs : List Value) (answers : List Answer) (cuts : Cuts) → IsStart set p inputs answers → AreAt bridges cuts
      → (n r : ℕ) (l : Leave) → trace_after set cuts p inputs answers n ≡ Over r l → ¬ IsWrong l
      → (m : ℕ) → (n + 1) * operations ms ≤ m
      → (q : PieceId) × (x : Leave) × (pieces_after set ms cuts p inputs answers m ≡ Over q x) × (recorded_shown set (Over r l) ≡ pieces_shown set ms (Over q x))
  pub backward : (p : ℕ) (inputs : List Value) (answers : List Answer) (cuts : Cuts) → IsStart set p inputs answers → AreAt bridges cuts
      → (m : ℕ) (q : PieceId) (x : Leave) → pieces_after set ms cuts p inputs answers m ≡ Over q x
      → (n : ℕ) → 2 * (m + 1) * most_operations set ≤ n
      → (r : ℕ) × (l : Leave) × (trace_after set cuts p inputs answers n ≡ Over r l) × (IsWrong l ⊎ (recorded_shown set (Over r l) ≡ pieces_shown set ms (Over q x)))

abbrev pub MadePiecesPromise : Type 0
MadePiecesPromise =
    (set : TraceSet) (bridges : List ℕ) (ms : List Made) → IsInRange set → IsWellFormed set → HasWords set → AreMade set bridges ms → Promise set bridges ms
