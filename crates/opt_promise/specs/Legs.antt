-- What the optimised pieces of a set promise leg by leg: how both end, and which calls both have had.
use Rattle.std.specs.Prelude.{◌≡◌, ℕ, ◌*◌, ◌≤◌, ◌⊎◌, List, length}
use Rattle.trace_ops.specs.declared.trace.TraceSet.{TraceSet}
use Rattle.trace_ops.specs.declared.piece.PieceId.{PieceId}
use Rattle.trace_ops.specs.InRange.{IsInRange}
use Rattle.trace_ops.specs.WellFormed.{IsWellFormed}
use Rattle.trace_ops.specs.Constants.{HasWords}
use Rattle.trace_meaning.specs.declared.call.Answer.{Answer}
use Rattle.trace_meaning.specs.declared.value.Value.{Value}
use Rattle.trace_meaning.specs.Cuts.{Cuts}
use Rattle.trace_meaning.specs.Legs.{Leave, Over, At, Ended, Leg, legs}
use Rattle.trace_meaning.specs.Laws.{most_operations}
use Rattle.trace_meaning.specs.Observed.{world_of}
use Rattle.trace_meaning.specs.Recorded.{first_world}
use Rattle.opt_meaning.specs.Composing.{EndedAlike, IsWrong}
use Rattle.opt_meaning.specs.Laws.{BegunBy, IsWrongNow}
use Rattle.opt_meaning.specs.Meeting.{Made, pieces_of, joined}
use Rattle.opt_meaning.specs.Observed.{pieces_world}
use Rattle.opt_meaning.specs.Pieces.{pieces}
use Rattle.opt_promise.specs.Promise.{AreAt, AreMade, IsStart, first_piece, trace_after, pieces_after}

-- the pieces after so many legs
abbrev pub legs_after : TraceSet → List Made → Cuts → ℕ → List Value → List Answer → ℕ → Leg PieceId
legs_after set ms cuts p inputs answers n = legs (pieces set (pieces_of ms) cuts) n (At (first_piece p) inputs (first_world set.table answers))

-- Where the recorded run has ended after n operations and isn't wrong, n legs of pieces have ended alike; where c legs have ended,
-- the recorded run is wrong or has ended alike after c times as many operations as the longest trace has; and by so many operations
-- of it for each one of the pieces it is wrong, or has had their calls.
pub record LegPromise (set : TraceSet) (bridges : List ℕ) (ms : List Made) : Type 0 where
  pub forward : (p : ℕ) (inputs : List Value) (answers : List Answer) (cuts : Cuts) → IsStart set p inputs answers → AreAt bridges cuts
      → (n r : ℕ) (l : Leave) → trace_after set cuts p inputs answers n ≡ Over r l → ¬ IsWrong l
      → (q : PieceId) × (x : Leave) × (legs_after set ms cuts p inputs answers n ≡ Ended q x) × EndedAlike set.table (joined ms) r l q x
  pub backward : (p : ℕ) (inputs : List Value) (answers : List Answer) (cuts : Cuts) → IsStart set p inputs answers → AreAt bridges cuts
      → (c : ℕ) (q : PieceId) (x : Leave) → legs_after set ms cuts p inputs answers c ≡ Ended q x
      → (n : ℕ) → c * most_operations set ≤ n
      → (r : ℕ) × (l : Leave) × (trace_after set cuts p inputs answers n ≡ Over r l) × (IsWrong l ⊎ EndedAlike set.table (joined ms) r l q x)
  pub calls : (p : ℕ) (inputs : List Value) (answers : List Answer) (cuts : Cuts) → IsStart set p inputs answers → AreAt bridges cuts
      → (m n : ℕ) → m * most_operations set ≤ n
      → IsWrongNow (trace_after set cuts p inputs answers n)
      ⊎ BegunBy (length set.table.prebuilts) (world_of (trace_after set cuts p inputs answers n)).log (pieces_world (pieces_after set ms cuts p inputs answers m)).log

abbrev pub MadePiecesPromiseLegs : Type 0
MadePiecesPromiseLegs =
    (set : TraceSet) (bridges : List ℕ) (ms : List Made) → IsInRange set → IsWellFormed set → HasWords set → AreMade set bridges ms → LegPromise set bridges ms
