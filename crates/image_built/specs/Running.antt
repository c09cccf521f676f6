-- Any list of events over the printed image of compiled loops: each activation runs as the pieces of its loop.
use Rattle.std.specs.Prelude.{◌≡◌, ◌⊎◌, ℕ, ◌+◌, ◌-◌, ◌*◌, ◌≤◌, List, [], ◌∷◌, length, map, Some, None, Option, slice_get}
use Rattle.std.specs.List.{All}
use Rattle.trace_ops.specs.declared.trace.TraceSet.{TraceSet}
use Rattle.trace_ops.specs.declared.piece.PieceId.{PieceId}
use Rattle.trace_ops.specs.declared.piece.OptOp.{OptOp}
use Rattle.trace_ops.specs.declared.piece.Piece.{Piece}
use Rattle.trace_ops.specs.declared.piece.OptTrace.{OptTrace}
use Rattle.trace_meaning.specs.World.{World}
use Rattle.trace_ops.specs.declared.piece.Snapshot.{Snapshot}
use Rattle.trace_ops.specs.declared.piece.OptOp.TheVariants as opt
use Rattle.trace_ops.specs.declared.trace.Arg.{Arg}
use Rattle.trace_meaning.specs.declared.value.Value.{Value}
use Rattle.trace_meaning.specs.Legs.{Leave, Fails, Finishes, Waits, Misfits, Wrong, In, run, Leg, Ended, legs}
use Rattle.trace_meaning.specs.Observed.{world_left}
use Rattle.trace_meaning.specs.Cuts.{Cuts}
use Rattle.opt_meaning.specs.Step.{Opt, opt_step}
use Rattle.opt_meaning.specs.Pieces.{PiecesNow, pieces, all_pieces, ops_at, last_of}
use Rattle.opt_meaning.specs.Rebuilding.{snapshot_of, snapshot_in}
use Rattle.x64_machine.specs.State.{State}
use Rattle.guard_exit.specs.declared.row.ExitRow.{ExitRow}
use Rattle.asm_select.specs.Chosen.{Setting}
use Rattle.bridge_patch.specs.Image.{Imaged}
use Rattle.image_runs.specs.Printed.{Printed, code_at, bridges_at}
use Rattle.image_runs.specs.Session.{Host, End, Full, Waiting, Misfitting, Activation, Session, SessionRun}
use Rattle.image_runs.specs.Selection.{ended}
use Rattle.image_runs.specs.Runs.{world_now}
use Rattle.image_runs.specs.Kept.{first_of}
use Rattle.image_runs.specs.Following.{AnswersMakeNone, begun_of, first_now, first_leg, guard_of}
use Rattle.image_runs.specs.Listed.{GoWrong}
use Rattle.image_model.specs.Modelled.{SameCalls, Fills, GoneAt}
use Rattle.image_model.specs.Laws.{HostServes}
use Rattle.session_host.specs.Laws.{IsRowOf, IsFinishRow}
use Rattle.image_built.specs.Built.{settings_from}
use Rattle.image_built.specs.Attached.{Attached, IsPrintedWith, pieces_in, settings_with}
use Rattle.image_built.specs.Laws.{Compiled, Keeps, HostStarts, IsPrinted}

-- nothing is started yet
abbrev pub no_session : Session
no_session = record { parts = 0; activations = [] }

-- the pieces, under these attachments, after so many operations of an activation's loop, and after so many legs
abbrev pub now_after : TraceSet → List Piece → Cuts → Activation → ℕ → PiecesNow
now_after set ps cuts act n = run (pieces set ps cuts) n (first_now (pieces set ps cuts) (begun_of set.table act))

abbrev pub leg_after : TraceSet → List Piece → Cuts → Activation → ℕ → Leg PieceId
leg_after set ps cuts act n = legs (pieces set ps cuts) n (first_leg (begun_of set.table act))

-- the pieces have ended so after each number of legs from one more than the activation's instructions on
abbrev pub PiecesEnd : TraceSet → List Piece → Cuts → Activation → PieceId → Leave → Type 0
PiecesEnd set ps cuts act q l = (n : ℕ) → act.machine.instructions + 1 ≤ n → leg_after set ps cuts act n ≡ Ended q l

-- the pieces go wrong, and nothing is said
abbrev pub GoneWrong : TraceSet → List Piece → Cuts → Activation → Type 0
GoneWrong set ps cuts act = GoWrong (pieces set ps cuts) (begun_of set.table act)

-- The row is that of operation j of a piece, at which it was left so: of the guard of this number, which has no other snapshot, with
-- the places of its boxes; or of the finish, which is the last operation.
pub data IsExitOf (st : Setting) (ops : List OptOp) (q : PieceId) (j : ℕ) : Leave → ExitRow → Type 0 where
  Of_guard : (n : ℕ) (vs : List Value) (w : World) (op : OptOp) (snap : Snapshot) (row : ExitRow) → slice_get ops j ≡ Some op → snapshot_of n op ≡ Some snap → snapshot_in ops n ≡ Some snap → IsRowOf st q n snap row → IsExitOf st ops q j (Fails n vs w) row
  Of_finish : (vs : List Value) (w : World) (value : Option Arg) (row : ExitRow) → slice_get ops j ≡ Some (opt.Finish value) → last_of ops ≡ Some (opt.Finish value) → IsFinishRow st q value row → IsExitOf st ops q j (Finishes vs w) row

-- An activation has ended as its pieces have: at a guard or a finish, which the row names, with the same calls; at a call without
-- an answer, or with one that doesn't fit; or where more bytes are asked for than are left.
pub data EndsAlike (host : Host) (set : TraceSet) (whole ps : List Piece) (settings : PieceId → Setting) (cuts : Cuts) (act : Activation) : End → Type 0 where
  -- its words are found where the row says
  By_row : (end : End) (q : PieceId) (j : ℕ) (l : Leave) (row : ExitRow) → row.id ≡ q → row.guard ≡ guard_of l → (settings q).table ≡ set.table → IsExitOf (settings q) (ops_at whole q) q j l row → GoneAt (settings q) (ops_at whole q) j l act.calls act.machine
      → host.shows row act.calls act.machine end → SameCalls (world_left (ended l)) act.calls → PiecesEnd set ps cuts act q (ended l) → EndsAlike host set whole ps settings cuts act end
  Without_answer : (q : PieceId) → ((n : ℕ) → act.machine.instructions + 1 ≤ n → (w : World) × (leg_after set ps cuts act n ≡ Ended q (Waits w)) × SameCalls w act.calls) → EndsAlike host set whole ps settings cuts act Waiting
  With_misfit : (q : PieceId) (call : ℕ) → ((n : ℕ) → act.machine.instructions + 1 ≤ n → (w : World) × (leg_after set ps cuts act n ≡ Ended q (Misfits w)) × SameCalls w act.calls × (call ≡ length w.log - 1)) → EndsAlike host set whole ps settings cuts act (Misfitting call)
  For_want_of_bytes : (q : PieceId) (op : OptOp) (rest : List OptOp) (env : Opt) (n asked left : ℕ) → now_after set ps cuts act n ≡ In q (op ∷ rest) env → Fills set.table env.world (opt_step set.table op env) act.machine asked left
      → EndsAlike host set whole ps settings cuts act (Full asked left)

-- a going activation has had the calls and the failures of its pieces
pub record GoesAlike (set : TraceSet) (ps : List Piece) (cuts : Cuts) (act : Activation) : Type 0 where
  pub operations : ℕ
  pub calls : SameCalls (world_now (pieces set ps cuts) (now_after set ps cuts act operations)) act.calls
  pub failures : (world_now (pieces set ps cuts) (now_after set ps cuts act operations)).failures ≡ act.failures

-- An activation runs as its pieces do, in code of so many bytes, where these bridges are attached.
pub record RunsAlike (host : Host) (set : TraceSet) (whole ps : List Piece) (settings : PieceId → Setting) (bridges : List ℕ) (cuts : Cuts) (bytes : ℕ) (act : Activation) : Type 0 where
  -- its machine was started with its inputs
  pub started : (entry : ℕ) × (s : State) × host.starts act.trace entry act.inputs s
  -- its cuts are at them, in order
  pub attached : map first_of cuts ≡ bridges
  -- forward: what ends after n legs ends within n + 1 times as many instructions as there are bytes
  pub forward : (n : ℕ) (q : PieceId) (l : Leave) → act.end ≡ None → leg_after set ps cuts act n ≡ Ended q l → (n + 1) * bytes ≤ act.machine.instructions → (w : World) × (l ≡ Wrong w)
  -- backward
  pub ends : (end : End) → act.end ≡ Some end → EndsAlike host set whole ps settings cuts act end ⊎ GoneWrong set ps cuts act
  pub goes : act.end ≡ None → GoesAlike set ps cuts act ⊎ GoneWrong set ps cuts act

-- Whatever is started, and whatever events there are, all activations do so. The settings are those of the compiled pieces.
abbrev pub CompiledRuns : Host → (set : TraceSet) (whole ps : List Piece) → (PieceId → Setting) → Printed → Type 0
CompiledRuns host set whole ps settings im =
    (other : PieceId → Setting) (loops : List OptTrace) (image : Imaged) (z : Compiled set loops image) (s : Session)
    → ps ≡ all_pieces loops → settings ≡ settings_from 0 z.made.placed other → HostServes host set.table → HostStarts host set → AnswersMakeNone host → Keeps ps whole → IsPrinted set ps image im → im.parts ≡ []
    → SessionRun host im no_session s → All (RunsAlike host set whole ps settings [] [] (length image.bytes)) s.activations

-- The same where bridges are attached meanwhile: each activation runs as the pieces that are attached by then, under its own cuts.
abbrev pub AttachedRuns : Host → (set : TraceSet) (whole ps : List Piece) → (PieceId → Setting) → Printed → Type 0
AttachedRuns host set whole ps settings im =
    (other : PieceId → Setting) (loops : List OptTrace) (count : ℕ) (z : Attached set loops count) (s : Session)
    → ps ≡ pieces_in (z.placed s.parts) → settings ≡ settings_with set loops count z other → HostServes host set.table → HostStarts host set → AnswersMakeNone host
    → Keeps (pieces_in (z.placed count)) whole → IsPrintedWith set loops count z im
    → SessionRun host im no_session s → All (λ (act : Activation). RunsAlike host set whole ps settings (bridges_at im s.parts) act.cuts (length (code_at im s.parts)) act) s.activations
