-- What holds of every run of pieces, beside the runs of their traces.
use Rattle.std.specs.Prelude.{◌≡◌, ℕ, ◌+◌, ◌*◌, ◌≤◌, ◌⊎◌, List, ◌++◌, Some, length, map, slice_get}
use Rattle.std.specs.List.{All, AllByRecursion}
use Rattle.trace_ops.specs.declared.trace.BoxId.{BoxId}
use Rattle.trace_ops.specs.declared.trace.TraceSet.{TraceSet}
use Rattle.trace_ops.specs.declared.table.Table.{Table}
use Rattle.trace_ops.specs.declared.piece.PieceId.{PieceId}
use Rattle.trace_ops.specs.declared.piece.Piece.{Piece}
use Rattle.trace_ops.specs.declared.piece.Entry.{Entry}
use Rattle.trace_ops.specs.Lawful.{AreDistinct}
use Rattle.trace_ops.specs.InRange.{IsInRange}
use Rattle.trace_meaning.specs.declared.call.Answer.{Answer}
use Rattle.trace_meaning.specs.declared.value.Value.{Value}
use Rattle.trace_meaning.specs.Values.{kind_of_value}
use Rattle.trace_meaning.specs.World.{World, Logged, bytes_in}
use Rattle.trace_meaning.specs.Cuts.{Cuts}
use Rattle.trace_meaning.specs.Legs.{Leave, Program, In, Over, Leg, At, Ended, begins, run, legs}
use Rattle.trace_meaning.specs.Growing.{IsLonger, extents, leg_world, RunsGrow}
use Rattle.trace_meaning.specs.RunLaws.{IsShort, RunLaws}
use Rattle.trace_meaning.specs.Recorded.{RecordedNow, recorded, ops_at, inputs_of, first_world}
use Rattle.trace_meaning.specs.Starting.{Starts}
use Rattle.heap_shape.specs.Visiting.{AreWithin, IsClosed}
use Rattle.heap_shape.specs.Roots.{roots_of_call}
use Rattle.opt_meaning.specs.Pieces.{PiecesNow, pieces, piece_at}
use Rattle.opt_meaning.specs.Observed.{pieces_world, pieces_bytes}
use Rattle.trace_meaning.specs.Observed.{world_of, world_left, bytes_of}
use Rattle.opt_meaning.specs.Along.{SameCalls, BeginsCalls}
use Rattle.opt_meaning.specs.Agrees.{HasPrebuilts}
use Rattle.opt_meaning.specs.Admits.{Admits, plain_entry}
use Rattle.trace_ops.specs.Constants.{HasWords}
use Rattle.trace_meaning.specs.Sound.{HasWord, AnswersWords, CanBegin, LegsCanBegin}
use Rattle.opt_meaning.specs.Meeting.{Made, Meet, EndsOnce, pieces_of, joined}
use Rattle.opt_meaning.specs.Composing.{Joined, Composes, Paired, EndedAlike, IsWrong}

-- the pieces do what the recorded traces do, both under the same cuts
abbrev pub PiecesCompose : TraceSet → List Piece → Cuts → Joined ℕ PieceId → Type 0
PiecesCompose set ps cuts k = Composes set.table (recorded set cuts) (pieces set ps cuts) k (CanBegin set)

-- pieces that meet do
abbrev pub MeetingPiecesCompose : Type 0
MeetingPiecesCompose = (set : TraceSet) (ms : List Made) (cuts : Cuts) → LegsCanBegin set cuts → Meet set ms cuts → PiecesCompose set (pieces_of ms) cuts (joined ms)

-- what holds of every run of any code, and that runs only add
abbrev pub PiecesRun : Type 0
PiecesRun = (set : TraceSet) (ps : List Piece) (cuts : Cuts) → RunLaws (pieces set ps cuts) × RunsGrow (pieces set ps cuts)

-- Legs

-- legs that are paired stay so
abbrev pub LegsStayPaired : Type 0
LegsStayPaired =
    (set : TraceSet) (ps : List Piece) (cuts : Cuts) (k : Joined ℕ PieceId) → PiecesCompose set ps cuts k
    → (n : ℕ) (x : Leg ℕ) (y : Leg PieceId) → Paired set.table k (CanBegin set) x y → Paired set.table k (CanBegin set) (legs (recorded set cuts) n x) (legs (pieces set ps cuts) n y)

-- the legs of pieces that end once
abbrev pub PiecesAreShort : Type 0
PiecesAreShort = (set : TraceSet) (ps : List Piece) (cuts : Cuts) (s : ℕ) → 1 ≤ s → ((q : PieceId) (p : Piece) → piece_at ps q ≡ Some p → EndsOnce p.ops × (length p.ops ≤ s)) → IsShort (pieces set ps cuts) s

-- operations add calls behind those that were made, and change none of these
abbrev pub PiecesKeepCalls : Type 0
PiecesKeepCalls = (set : TraceSet) (ps : List Piece) (cuts : Cuts) (x : PiecesNow) (n : ℕ) → IsLonger (pieces_world x).log (pieces_world (run (pieces set ps cuts) n x)).log

-- where the recorded run has ended and isn't wrong, the run of pieces has ended alike
abbrev pub EndsForward : Type 0
EndsForward =
    (set : TraceSet) (ps : List Piece) (cuts : Cuts) (k : Joined ℕ PieceId) → PiecesCompose set ps cuts k
    → (s : ℕ) → IsShort (pieces set ps cuts) s
    → (p : ℕ) (vs : List Value) (w : World) (q : PieceId) (us : List Value) (u : World) → Paired set.table k (CanBegin set) (At p vs w) (At q us u)
    → (n r : ℕ) (l : Leave) → run (recorded set cuts) n (begins (recorded set cuts) p vs w) ≡ Over r l → ¬ IsWrong l
    → (m : ℕ) → (n + 1) * s ≤ m → (x : PieceId) × (y : Leave) × (run (pieces set ps cuts) m (begins (pieces set ps cuts) q us u) ≡ Over x y) × EndedAlike set.table k r l x y

-- where the run of pieces has ended, the recorded run is wrong or has ended alike
abbrev pub EndsBackward : Type 0
EndsBackward =
    (set : TraceSet) (ps : List Piece) (cuts : Cuts) (k : Joined ℕ PieceId) → PiecesCompose set ps cuts k
    → (h : ℕ) → IsShort (recorded set cuts) h
    → (p : ℕ) (vs : List Value) (w : World) (q : PieceId) (us : List Value) (u : World) → Paired set.table k (CanBegin set) (At p vs w) (At q us u)
    → (m : ℕ) (x : PieceId) (y : Leave) → run (pieces set ps cuts) m (begins (pieces set ps cuts) q us u) ≡ Over x y
    → (n : ℕ) → 2 * (m + 1) * h ≤ n → (r : ℕ) × (l : Leave) × (run (recorded set cuts) n (begins (recorded set cuts) p vs w) ≡ Over r l) × (IsWrong l ⊎ EndedAlike set.table k r l x y)

-- Calls, also in mid-leg

-- the calls of the piece are the first ones of the trace
pub record BegunBy (prebuilts : ℕ) (rec opt : List Logged) : Type 0 where
  pub first : List Logged
  pub later : List Logged
  pub splits : rec ≡ first ++ later
  pub same : SameCalls prebuilts first opt

abbrev pub IsWrongNow : RecordedNow → Type 0
IsWrongNow (In p rest s) = ⊥
IsWrongNow (Over p l) = IsWrong l

-- the run of pieces has had the calls that the recorded run has had, also where that is wrong
abbrev pub CallsForward : Type 0
CallsForward =
    (set : TraceSet) (ps : List Piece) (cuts : Cuts) (k : Joined ℕ PieceId) → PiecesCompose set ps cuts k
    → (s : ℕ) → IsShort (pieces set ps cuts) s
    → (p : ℕ) (vs : List Value) (w : World) (q : PieceId) (us : List Value) (u : World) → Paired set.table k (CanBegin set) (At p vs w) (At q us u)
    → (n m : ℕ) → n * s ≤ m
    → BeginsCalls (length set.table.prebuilts) (world_of (run (recorded set cuts) n (begins (recorded set cuts) p vs w))).log (pieces_world (run (pieces set ps cuts) m (begins (pieces set ps cuts) q us u))).log

-- the recorded run is wrong, or has had the calls that the run of pieces has had
abbrev pub CallsBackward : Type 0
CallsBackward =
    (set : TraceSet) (ps : List Piece) (cuts : Cuts) (k : Joined ℕ PieceId) → PiecesCompose set ps cuts k
    → (h : ℕ) → IsShort (recorded set cuts) h
    → (p : ℕ) (vs : List Value) (w : World) (q : PieceId) (us : List Value) (u : World) → Paired set.table k (CanBegin set) (At p vs w) (At q us u)
    → (m n : ℕ) → m * h ≤ n
    → IsWrongNow (run (recorded set cuts) n (begins (recorded set cuts) p vs w))
    ⊎ BegunBy (length set.table.prebuilts) (world_of (run (recorded set cuts) n (begins (recorded set cuts) p vs w))).log (pieces_world (run (pieces set ps cuts) m (begins (pieces set ps cuts) q us u))).log

-- In legs of pieces

-- where the recorded run has ended after n operations and isn't wrong, n legs of pieces have ended alike
abbrev pub LegsForward : Type 0
LegsForward =
    (set : TraceSet) (ps : List Piece) (cuts : Cuts) (k : Joined ℕ PieceId) → PiecesCompose set ps cuts k
    → (p : ℕ) (vs : List Value) (w : World) (q : PieceId) (us : List Value) (u : World) → Paired set.table k (CanBegin set) (At p vs w) (At q us u)
    → (n r : ℕ) (l : Leave) → run (recorded set cuts) n (begins (recorded set cuts) p vs w) ≡ Over r l → ¬ IsWrong l
    → (x : PieceId) × (y : Leave) × (legs (pieces set ps cuts) n (At q us u) ≡ Ended x y) × EndedAlike set.table k r l x y

-- where c legs of pieces have ended, the recorded run is wrong or has ended alike after c times so many operations
abbrev pub LegsBackward : Type 0
LegsBackward =
    (set : TraceSet) (ps : List Piece) (cuts : Cuts) (k : Joined ℕ PieceId) → PiecesCompose set ps cuts k
    → (h : ℕ) → IsShort (recorded set cuts) h
    → (p : ℕ) (vs : List Value) (w : World) (q : PieceId) (us : List Value) (u : World) → Paired set.table k (CanBegin set) (At p vs w) (At q us u)
    → (c : ℕ) (x : PieceId) (y : Leave) → legs (pieces set ps cuts) c (At q us u) ≡ Ended x y
    → (n : ℕ) → c * h ≤ n → (r : ℕ) × (l : Leave) × (run (recorded set cuts) n (begins (recorded set cuts) p vs w) ≡ Over r l) × (IsWrong l ⊎ EndedAlike set.table k r l x y)

-- what has been called by a place in leg c + 1 of the pieces, the recorded run has called after (c + 1) times so many
-- operations, or it is wrong
abbrev pub LegCallsBackward : Type 0
LegCallsBackward =
    (set : TraceSet) (ps : List Piece) (cuts : Cuts) (k : Joined ℕ PieceId) → PiecesCompose set ps cuts k
    → (h : ℕ) → IsShort (recorded set cuts) h
    → (p : ℕ) (vs : List Value) (w : World) (q : PieceId) (us : List Value) (u : World) → Paired set.table k (CanBegin set) (At p vs w) (At q us u)
    → (c : ℕ) (log : List Logged) → IsLonger log (leg_world (legs (pieces set ps cuts) (c + 1) (At q us u))).log
    → (n : ℕ) → (c + 1) * h ≤ n
    → IsWrongNow (run (recorded set cuts) n (begins (recorded set cuts) p vs w))
    ⊎ BegunBy (length set.table.prebuilts) (world_of (run (recorded set cuts) n (begins (recorded set cuts) p vs w))).log log

-- Bytes

-- of a pair that an entry admits, the piece has allocated no more than the trace
abbrev pub AdmittedBytes : Type 0
AdmittedBytes = (t : Table) (e : Entry) (vs : List Value) (w : World) (us : List Value) (u : World) → Admits t e vs w us u → bytes_in t u ≤ bytes_in t w

-- where that holds: what a run of pieces has allocated, the recorded run has, or it is wrong
abbrev pub BytesBackward : Type 0
BytesBackward =
    AdmittedBytes → (set : TraceSet) (ps : List Piece) (cuts : Cuts) (k : Joined ℕ PieceId) → PiecesCompose set ps cuts k
    → (h : ℕ) → IsShort (recorded set cuts) h
    → (p : ℕ) (vs : List Value) (w : World) (q : PieceId) (us : List Value) (u : World) → Paired set.table k (CanBegin set) (At p vs w) (At q us u)
    → (m n : ℕ) → m * h ≤ n
    → IsWrongNow (run (recorded set cuts) n (begins (recorded set cuts) p vs w))
    ⊎ (pieces_bytes set (run (pieces set ps cuts) m (begins (pieces set ps cuts) q us u)) ≤ bytes_of set (run (recorded set cuts) n (begins (recorded set cuts) p vs w)))

-- and what ends alike has allocated no more
abbrev pub EndedBytes : Type 0
EndedBytes = AdmittedBytes → (t : Table) (k : Joined ℕ PieceId) (p : ℕ) (l : Leave) (q : PieceId) (x : Leave) → EndedAlike t k p l q x → ¬ IsWrong l → bytes_in t (world_left x) ≤ bytes_in t (world_left l)

-- operations add objects behind those that there are, and these keep their shapes and numbers of parts
abbrev pub PiecesKeepObjects : Type 0
PiecesKeepObjects = (set : TraceSet) (ps : List Piece) (cuts : Cuts) (x : PiecesNow) (n : ℕ) → IsLonger (extents (pieces_world x)) (extents (pieces_world (run (pieces set ps cuts) n x)))

-- The identity

-- each object that a part or a call names is there
pub record AreThere (w : World) : Type 0 where
  pub parts : IsClosed w.objects
  pub calls : AllByRecursion (λ (x : Logged). AreWithin (length w.objects) (roots_of_call x.event)) w.log

-- what begins with the same inputs in the same world is a pair that the plain entry admits
abbrev pub PlainAdmitsItself : Type 0
PlainAdmitsItself =
    (t : Table) (bs : List BoxId) (vs : List Value) (w : World) → AreDistinct bs → map kind_of_value vs ≡ map (λ (b : BoxId). b.kind) bs
    → HasPrebuilts t w → AreThere w → AreWithin (length w.objects) vs → Admits t (plain_entry bs) vs w vs w

-- a loop's first piece, whose entry is plain, starts at a pair with the loop
abbrev pub StartsArePaired : Type 0
StartsArePaired =
    (set : TraceSet) (start : ℕ) (inputs : List Value) (answers : List Answer) (k : Joined ℕ PieceId) (q : PieceId) (bs : List BoxId)
    → IsInRange set → HasWords set → Starts set start inputs → All HasWord inputs → All AnswersWords answers
    → k.trace q ≡ start → k.entry q ≡ plain_entry bs → AreDistinct bs → map (λ (b : BoxId). b.kind) bs ≡ map (λ (b : BoxId). b.kind) (inputs_of (slice_get set.traces start))
    → Paired set.table k (CanBegin set) (At start inputs (first_world set.table answers)) (At q inputs (first_world set.table answers))
