-- The host serves the pieces, and its starts begin them.
use Rattle.std.specs.Prelude.{◌≡◌, ℕ, ◌+◌, ◌-◌, ◌^◌, ◌<◌, ◌≤◌, List, [], ◌∷◌, Option, Some, None, length, map, min, slice_get}
use Rattle.std.specs.List.{All}
use Rattle.std.specs.Option.{IsSomeAnd}
use Rattle.trace_ops.specs.Constants.{HasWords}
use Rattle.trace_ops.specs.InRange.{IsInRange, IsTableInRange}
use Rattle.trace_ops.specs.declared.trace.BoxId.{BoxId}
use Rattle.trace_ops.specs.declared.trace.Trace.{Trace}
use Rattle.trace_ops.specs.declared.trace.TraceSet.{TraceSet}
use Rattle.trace_ops.specs.Words.{IsWord}
use Rattle.trace_ops.specs.declared.piece.Piece.{Piece}
use Rattle.trace_ops.specs.declared.piece.PieceId.{PieceId}
use Rattle.trace_ops.specs.declared.piece.OptOp.{OptOp}
use Rattle.trace_ops.specs.declared.piece.Snapshot.{Snapshot}
use Rattle.trace_ops.specs.Parts.{parts_of, boxes_of_arg}
use Rattle.trace_ops.specs.declared.trace.Arg.{Arg}
use Rattle.trace_ops.specs.declared.trace.Arg.TheVariants.{Ptr}
use Rattle.trace_ops.specs.declared.piece.OptOp.TheVariants as opt
use Rattle.target_base.specs.declared.place.Place.{Place}
use Rattle.target_base.specs.Arena.{Arena}
use Rattle.guard_exit.specs.declared.row.ExitRow.{ExitRow}
use Rattle.trace_meaning.specs.declared.state.RecState.TheVariants as state
use Rattle.trace_meaning.specs.Kinds.{ObjectsHold}
use Rattle.trace_meaning.specs.Legs.{Fails, Finishes}
use Rattle.trace_meaning.specs.Observed.{first_value}
use Rattle.trace_meaning.specs.World.{World}
use Rattle.opt_meaning.specs.Rebuilding.{Rebuilt, rebuilt, snapshot_of, snapshot_in}
use Rattle.arena_objects.specs.Layout.{address_of, word_of}
use Rattle.arena_objects.specs.Standing.{Stands}
use Rattle.arena_objects.specs.Starting.{first_objects}
use Rattle.arena_objects.specs.Making.{bytes_left}
use Rattle.resume_rebuild.specs.Rebuilding.{asked_for}
use Rattle.resume_rebuild.specs.Standing.{CanRebuild}
use Rattle.asm_select.specs.Valued.{MayHold}
use Rattle.target_base.specs.declared.place.Place.TheVariants.{Word}
use Rattle.trace_meaning.specs.declared.value.Value.{Value}
use Rattle.trace_meaning.specs.declared.call.Answer.{Answer}
use Rattle.trace_meaning.specs.Recorded.{first_world}
use Rattle.opt_meaning.specs.Pieces.{ops_at, label_at, begin_at, last_of, preamble}
use Rattle.x64_machine.specs.State.{State}
use Rattle.asm_select.specs.Slots.{Slot, Put}
use Rattle.asm_select.specs.Chosen.{Where, Setting}
use Rattle.asm_select.specs.Reached.{PrebuiltsStand}
use Rattle.asm_select.specs.Ended.{AreParts}
use Rattle.asm_select.specs.Exited.{entry_instr}
use Rattle.image_runs.specs.Session.{Calls, End, Shows, Full, no_calls}
use Rattle.image_runs.specs.Reached.{Comes}
use Rattle.image_runs.specs.Following.{AnswersMakeNone}
use Rattle.image_model.specs.Ready.{AreKinded, StaysReady}
use Rattle.image_model.specs.Modelled.{HoldsAt, GoneAt}
use Rattle.image_model.specs.Laws.{HostServes}
use Rattle.session_host.specs.Hosting.{host_of}

-- Over a table in range the host serves each operation that asks it.
abbrev pub HostsServe : Type 0
HostsServe = (set : TraceSet) (ps : List Piece) (arena_bytes : ℕ) → IsTableInRange set.table → HostServes (host_of set ps arena_bytes) set.table

-- an answer makes no instruction
abbrev pub AnswersAreQuiet : Type 0
AnswersAreQuiet = (set : TraceSet) (ps : List Piece) (arena_bytes : ℕ) → AnswersMakeNone (host_of set ps arena_bytes)

-- the boxes of a label have the places of the inputs
abbrev pub IsAtInputs : Setting → List BoxId → Type 0
IsAtInputs st label = (k : ℕ) (b : BoxId) → slice_get label k ≡ Some b → st.at b.number ≡ Word (16 + k)

-- a started machine comes over a loop's first instruction to its first piece, which begins with the inputs and the first world
abbrev pub StartsHold : Type 0
StartsHold =
    (set : TraceSet) (whole ps : List Piece) (settings : PieceId → Setting) (arena_bytes trace entry : ℕ) (inputs : List Value) (given : List Answer) (ys : List Slot) (s : State)
    → IsInRange set → HasWords set → 65536 ≤ arena_bytes → arena_bytes ≤ 2 ^ 24
    → (settings (preamble trace)).table ≡ set.table → length (label_at ps (preamble trace)) ≡ length inputs → IsAtInputs (settings (preamble trace)) (label_at ps (preamble trace))
    → StaysReady set.table (ops_at whole (preamble trace)) (begin_at ps (preamble trace) inputs (first_world set.table given))
    → (host_of set ps arena_bytes).starts trace entry inputs s
    → Comes ⊥ entry (Put entry_instr ∷ ys) s ys (λ t. HoldsAt (settings (preamble trace)) (ops_at whole (preamble trace)) 0 (begin_at ps (preamble trace) inputs (first_world set.table given)) (no_calls given) t)

-- What a started machine has: the words of its inputs, and an arena in which the prebuilt objects stand. The inputs are of the kinds
-- of their loop's, each object among them is there, and the prebuilt objects hold what they should.
pub record HasStarted (set : TraceSet) (trace : ℕ) (inputs : List Value) (s : State) : Type 0 where
  pub few : length inputs ≤ 64
  pub words : All IsWord (map (word_of (address_of (first_objects set.table))) inputs)
  pub parts : AreParts (length (first_objects set.table)) inputs
  pub stands : Stands set.table (first_objects set.table) s.arena
  pub prebuilts : PrebuiltsStand set.table (first_objects set.table)
  pub kinded : IsSomeAnd (slice_get set.traces trace) (λ (t : Trace). (given : List Answer) → AreKinded set.table (map (λ (b : BoxId). Some b.kind) t.inputs) inputs (first_world set.table given))

abbrev pub StartsStand : Type 0
StartsStand =
    (set : TraceSet) (ps : List Piece) (arena_bytes trace entry : ℕ) (inputs : List Value) (s : State)
    → IsInRange set → HasWords set → 65536 ≤ arena_bytes → arena_bytes ≤ 2 ^ 24 → (host_of set ps arena_bytes).starts trace entry inputs s → HasStarted set trace inputs s

-- ---- returns

-- a box with its place
abbrev pub placed_at : Where → BoxId → BoxId × Place
placed_at at b = (b, at b.number)

-- the row of a guard of a piece, whose boxes have these places
pub record IsRowOf (st : Setting) (q : PieceId) (n : ℕ) (snap : Snapshot) (row : ExitRow) : Type 0 where
  pub id : row.id ≡ q
  pub guard : row.guard ≡ Some n
  pub places : row.places ≡ map (placed_at st.at) (parts_of snap)
  pub hold : (b : ℕ) → MayHold (st.at b)

-- the end shows what was rebuilt, or is full where more bytes are asked for than are left
pub record ShowsRebuilt (q : PieceId) (n : ℕ) (snap : Snapshot) (r : Rebuilt) (arena : Arena) (end : End) : Type 0 where
  pub shown : asked_for snap ≤ bytes_left arena → end ≡ Shows (state.Exited q.trace n r.frames) (record { objects = r.objects })
  pub full : bytes_left arena < asked_for snap → end ≡ Full (min (asked_for snap) (2 ^ 64 - 1)) (bytes_left arena)

-- behind the stub of a guard that has failed, a return shows what the guard rebuilds from the values with which its piece is left
abbrev pub ExitsShow : Type 0
ExitsShow =
    (set : TraceSet) (whole ps : List Piece) (settings : PieceId → Setting) (arena_bytes : ℕ) (q : PieceId) (j n : ℕ) (op : OptOp) (snap : Snapshot) (vs : List Value) (w : World) (c : Calls) (s : State) (row : ExitRow) (r : Rebuilt) (end : End)
    → IsTableInRange set.table → (settings q).table ≡ set.table → slice_get (ops_at whole q) j ≡ Some op → snapshot_of n op ≡ Some snap → snapshot_in (ops_at ps q) n ≡ Some snap → IsRowOf (settings q) q n snap row
    → CanRebuild set.table (length w.objects) snap → rebuilt set.table snap vs w ≡ Some r → ObjectsHold set.table r.objects
    → GoneAt (settings q) (ops_at whole q) j (Fails n vs w) c s → (host_of set ps arena_bytes).shows row c s end → ShowsRebuilt q n snap r s.arena end

-- the box that a finish shows
abbrev pub finished_boxes : Option Arg → List BoxId
finished_boxes None = []
finished_boxes (Some a) = boxes_of_arg a

-- the row of a piece's finish
pub record IsFinishRow (st : Setting) (q : PieceId) (value : Option Arg) (row : ExitRow) : Type 0 where
  pub id : row.id ≡ q
  pub guard : row.guard ≡ None
  pub places : row.places ≡ map (placed_at st.at) (finished_boxes value)
  pub hold : (b : ℕ) → MayHold (st.at b)

-- behind the stub of a finish, a return shows the value with which its piece is left, and the objects that there are
abbrev pub FinishesShow : Type 0
FinishesShow =
    (set : TraceSet) (whole ps : List Piece) (settings : PieceId → Setting) (arena_bytes : ℕ) (q : PieceId) (j : ℕ) (value : Option Arg) (vs : List Value) (w : World) (c : Calls) (s : State) (row : ExitRow) (end : End)
    → IsTableInRange set.table → (settings q).table ≡ set.table → slice_get (ops_at whole q) j ≡ Some (opt.Finish value) → last_of (ops_at ps q) ≡ Some (opt.Finish value) → IsFinishRow (settings q) q value row
    → ((k : ℕ) → value ≡ Some (Ptr k) → k < length set.table.prebuilts)
    → GoneAt (settings q) (ops_at whole q) j (Finishes vs w) c s → (host_of set ps arena_bytes).shows row c s end → end ≡ Shows (state.Finished (first_value vs)) (record { objects = w.objects })
