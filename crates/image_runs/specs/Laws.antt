-- What holds of runs on an image, whatever selection and the host are.
use Rattle.std.specs.Prelude.{◌≡◌, ◌≢◌, ℕ, ◌+◌, ◌-◌, ◌*◌, ◌^◌, ◌<◌, ◌≤◌, ◌⊎◌, Bool, List, [], ◌∷◌, ◌++◌, length, map, slice_set, slice_index_or, None}
use Rattle.trace_ops.specs.declared.trace.TraceSet.{TraceSet}
use Rattle.trace_ops.specs.declared.piece.Piece.{Piece}
use Rattle.trace_ops.specs.declared.piece.PieceId.{PieceId}
use Rattle.x64_encode.specs.Listing.{Listing, IsWhole}
use Rattle.x64_machine.specs.State.{State, Acted}
use Rattle.x64_machine.specs.Step.{MachineStep}
use Rattle.trace_meaning.specs.World.{World}
use Rattle.trace_meaning.specs.Legs.{Leave, Waits, Misfits, Wrong, run, Leg, Ended, legs}
use Rattle.trace_meaning.specs.Cuts.{Cuts}
use Rattle.trace_meaning.specs.Observed.{world_left}
use Rattle.opt_meaning.specs.Step.{opt_step}
use Rattle.opt_meaning.specs.Pieces.{pieces, PiecesNow}
use Rattle.guard_exit.specs.declared.row.ExitRow.{ExitRow}
use Rattle.asm_select.specs.Slots.{Jumps, HaveRows}
use Rattle.image_runs.specs.Printed.{Part, Printed, with_part}
use Rattle.image_runs.specs.Counted.{CountsFailure}
use Rattle.image_runs.specs.Session.{Calls, End, Waiting, Misfitting, Full, Activation, Event, Session, SessionStep, SessionRun, with_cut}
use Rattle.image_runs.specs.Listed.{places_of, IsAtPlace, GoWrong}
use Rattle.image_runs.specs.Selection.{Model, ended}
use Rattle.image_runs.specs.Image.{Image, code_in, RowsAre, IsHere, IsClosed, IsImage}
use Rattle.image_runs.specs.Standing.{Way, Walking}
use Rattle.image_runs.specs.Runs.{PieceProgram, Steady, Grows, world_now, world_leg, IsLegHere}
use Rattle.image_runs.specs.Runs as runs
use Rattle.image_runs.specs.Kept.{AreUpTo, first_of, Ready, Settled, Kept}
use Rattle.image_runs.specs.Following.{AnswersMakeNone, Begun, first_leg, Beside, Shown, Refused, IsActive}
use Rattle.image_runs.specs.Attached.{widened, AreKept, Grown}
use Rattle.image_runs.specs.Attachment.{Attaches}
use Rattle.image_runs.specs.Patched.{IsPart}
use Rattle.image_runs.specs.Undone.{kept_bridges, undone, Undoes}
use Rattle.image_runs.specs.Sessions.{ImageStands, SessionStands, IsBuilt}

-- ---- one instruction, and one event

-- no instruction of a path that is the same for all displacements counts a failure
abbrev pub PathsCountNone : Type 0
PathsCountNone =
    (g : Image) (rows : List ExitRow) (s w t : State) (us : List State)
    → HaveRows g.by g.slots → length (code_in g) < 2 ^ 32 → RowsAre g rows → Way g.slots (w ∷ us) s t → CountsFailure (code_in g) rows s → ⊥

-- no operation of a piece counts a failure, and a piece begins in the world that it is given
abbrev pub OperationsCountNone : Type 0
OperationsCountNone = (set : TraceSet) (ps : List Piece) (cuts : Cuts) → Steady (pieces set ps cuts)

-- in front of an operation, the operations without instructions are passed
abbrev pub OperationsSettle : Model → Type 0
OperationsSettle m =
    (g : Image) (bs : List ℕ) (rows : List ExitRow) (cuts : Cuts) (x : PiecesNow) (c : Calls) (s : State) (todo : ℕ)
    → IsImage m g bs rows → Walking m g x c s [] todo → Settled m g (pieces m.set m.pieces cuts) x c s todo

-- an instruction keeps the machine beside the pieces, and counts a failure exactly where they do
abbrev pub InstructionKeeps : Model → Type 0
InstructionKeeps m =
    (g : Image) (bs : List ℕ) (rows : List ExitRow) (cuts : Cuts) (x : PiecesNow) (c : Calls) (s : State) (todo : ℕ) (done : Acted)
    → IsImage m g bs rows → map first_of cuts ≡ bs → AreUpTo (world_now (pieces m.set m.pieces cuts) x).failures cuts → Ready m g x c s todo → MachineStep (code_in g) s done
    → Kept m g (pieces m.set m.pieces cuts) rows x c s todo done

-- an event keeps an activation beside its pieces
abbrev pub EventKeeps : Model → Type 0
EventKeeps m =
    (g : Image) (bs : List ℕ) (rows : List ExitRow) (b : Begun) (old new : Activation)
    → AnswersMakeNone m.host → IsImage m g bs rows → IsActive m g bs b old → Event m.host (code_in g) rows old new → IsActive m g bs b new

-- ---- attachments

-- where pieces are added, and a bridge is attached after k failures, nothing changes in a run with no more failures
abbrev pub RunsStayAlike : Model → Type 0
RunsStayAlike m =
    (ps : List Piece) (g : Image) (bs : List ℕ) (cuts : Cuts) (bridge k n : ℕ) (x : PiecesNow)
    → AreKept m ps g bs → IsClosed m g bs → map first_of cuts ≡ bs → runs.IsHere (IsHere g) x → (world_now (pieces m.set m.pieces cuts) (run (pieces m.set m.pieces cuts) n x)).failures ≤ k
    → run (pieces m.set ps (cuts ++ (bridge, k) ∷ [])) n x ≡ run (pieces m.set m.pieces cuts) n x

-- the same by legs
abbrev pub LegsStayAlike : Model → Type 0
LegsStayAlike m =
    (ps : List Piece) (g : Image) (bs : List ℕ) (cuts : Cuts) (bridge k n : ℕ) (x : Leg PieceId)
    → AreKept m ps g bs → IsClosed m g bs → map first_of cuts ≡ bs → IsLegHere (IsHere g) x → (world_leg (legs (pieces m.set m.pieces cuts) n x)).failures ≤ k
    → legs (pieces m.set ps (cuts ++ (bridge, k) ∷ [])) n x ≡ legs (pieces m.set m.pieces cuts) n x

-- an attachment keeps every activation beside its pieces
abbrev pub AttachmentKeeps : Model → Type 0
AttachmentKeeps m =
    (ps : List Piece) (g h : Image) (bs : List ℕ) (b : Begun) (bridge : ℕ) (act : Activation)
    → AreKept m ps g bs → Grown g h → IsClosed m g bs → IsHere g b.piece → IsActive m g bs b act → IsActive (widened m ps) h (bs ++ bridge ∷ []) b (with_cut bridge act)

-- and keeps the image
abbrev pub AttachmentIsImage : Model → Type 0
AttachmentIsImage m =
    (ps : List Piece) (g h : Image) (bs : List ℕ) (bridge : ℕ) (rows news : List ExitRow)
    → IsImage m g bs rows → Attaches m ps g h bs bridge rows news → IsImage (widened m ps) h (bs ++ bridge ∷ []) (rows ++ news)

-- its bytes are the old ones and the appended ones, with four bytes changed a copy of the guard
abbrev pub PartIsCode : Type 0
PartIsCode = (g h : Image) (grown : Grown g h) (x : Part) → IsPart g h grown x → code_in h ≡ with_part (code_in g) x

-- with chosen attachments undone, the image is that of the others
abbrev pub UndoneIsImage : Model → Type 0
UndoneIsImage m =
    (g : Image) (bs : List ℕ) (rows : List ExitRow) (keeps : ℕ → Bool) (by : Jumps)
    → IsImage m g bs rows → Undoes m g bs keeps by → IsImage m (undone g by) (kept_bridges keeps bs) rows

-- decoding the code of an image reaches its end with no rest
abbrev pub CodeIsWhole : Model → Type 0
CodeIsWhole m = (g : Image) (bs : List ℕ) (rows : List ExitRow) → IsImage m g bs rows → IsWhole (code_in g)

-- the places of its listing are those of its slots
abbrev pub ImageIsListed : Model → Type 0
ImageIsListed m = (g : Image) (bs : List ℕ) (rows : List ExitRow) → IsImage m g bs rows → Listing (code_in g) (places_of g)

-- and stay so where slots are appended
abbrev pub PlacesStay : Type 0
PlacesStay = (g h : Image) → Grown g h → (more : List ℕ) × (places_of h ≡ places_of g ++ more)

-- ---- sessions

-- what is made by compiling and by attachments stands at every moment
abbrev pub BuiltStands : Model → Type 0
BuiltStands m = (ps : ℕ → List Piece) (g : ℕ → Image) (im : Printed) → IsBuilt m ps g im → ImageStands m ps g im

-- a start, an event or an attachment keeps all activations beside their pieces
abbrev pub StepKeeps : Model → Type 0
StepKeeps m =
    (ps : ℕ → List Piece) (g : ℕ → Image) (im : Printed) (s t : Session)
    → AnswersMakeNone m.host → ImageStands m ps g im → SessionStands m ps g im s → SessionStep m.host im s t → SessionStands m ps g im t

-- and so does any list of them
abbrev pub RunKeeps : Model → Type 0
RunKeeps m =
    (ps : ℕ → List Piece) (g : ℕ → Image) (im : Printed) (s t : Session)
    → AnswersMakeNone m.host → ImageStands m ps g im → SessionStands m ps g im s → SessionRun m.host im s t → SessionStands m ps g im t

-- an event of one activation leaves every other as it is
abbrev pub OthersStay : Type 0
OthersStay = (all : List Activation) (i k : ℕ) (new any : Activation) → k ≢ i → slice_index_or (slice_set all i new) k any ≡ slice_index_or all k any

-- ---- bounds

-- Forward: where the pieces have ended after n legs, an activation that has made n + 1 times as many instructions as the code is
-- long has ended, unless the pieces are wrong.
abbrev pub ForwardBound : Model → Type 0
ForwardBound m =
    (g : Image) (bs : List ℕ) (rows : List ExitRow) (b : Begun) (act : Activation) (n : ℕ) (q : PieceId) (l : Leave)
    → AnswersMakeNone m.host → IsImage m g bs rows → IsActive m g bs b act → act.end ≡ None
    → legs (pieces m.set m.pieces act.cuts) n (first_leg b) ≡ Ended q l → (n + 1) * length (code_in g) ≤ act.machine.instructions → (w : World) × (l ≡ Wrong w)

-- Backward: what has ended after m instructions has ended in the pieces after each n from m + 1 legs on.
abbrev pub ShownBackward : Model → Type 0
ShownBackward m =
    (g : Image) (b : Begun) (act : Activation) (end : End) (z : Shown m g b act end) (n : ℕ)
    → act.machine.instructions + 1 ≤ n → legs (pieces m.set m.pieces act.cuts) n (first_leg b) ≡ Ended z.pl.id (ended z.leave)

-- so has what waits for an answer
abbrev pub WaitsBackward : Model → Type 0
WaitsBackward m =
    (g : Image) (b : Begun) (act : Activation) (z : Refused m g b act Waiting) (n : ℕ)
    → act.machine.instructions + 1 ≤ n → (w : World) × (legs (pieces m.set m.pieces act.cuts) n (first_leg b) ≡ Ended z.piece (Waits w)) × m.called w act.calls

-- and what had an answer that doesn't fit
abbrev pub MisfitsBackward : Model → Type 0
MisfitsBackward m =
    (g : Image) (b : Begun) (act : Activation) (call : ℕ) (z : Refused m g b act (Misfitting call)) (n : ℕ)
    → act.machine.instructions + 1 ≤ n → (w : World) × (legs (pieces m.set m.pieces act.cuts) n (first_leg b) ≡ Ended z.piece (Misfits w)) × m.called w act.calls × (call ≡ length w.log - 1)

-- where the arena is full, it is so beside the pieces
abbrev pub FullBeside : Model → Type 0
FullBeside m = (g : Image) (b : Begun) (act : Activation) (asked left : ℕ) (z : Refused m g b act (Full asked left)) → m.fills z.env.world (opt_step m.set.table z.op z.env) act.machine asked left

-- ---- calls, and the instruction pointer

-- a going activation has had the calls of its pieces where they are
abbrev pub GoingCalls : Model → Type 0
GoingCalls m = (g : Image) (b : Begun) (act : Activation) (z : Beside m g b act) → m.called (world_now (pieces m.set m.pieces act.cuts) z.x) act.calls

-- and so has one that shows its end
abbrev pub ShownCalls : Model → Type 0
ShownCalls m = (g : Image) (b : Begun) (act : Activation) (end : End) (z : Shown m g b act end) → m.called (world_left (ended z.leave)) act.calls

-- a going activation stands at a place of the listing, where selection follows the instruction pointer and the pieces aren't wrong
abbrev pub PointerIsPlace : Model → Type 0
PointerIsPlace m =
    (g : Image) (bs : List ℕ) (rows : List ExitRow) (b : Begun) (act : Activation)
    → AnswersMakeNone m.host → IsImage m g bs rows → IsActive m g bs b act → act.end ≡ None → m.followed
    → IsAtPlace g act.machine ⊎ GoWrong (pieces m.set m.pieces act.cuts) b
