-- The relations by which selected code is told: what holds in front of an operation, where it is left, and behind its stub.
use Rattle.std.specs.Prelude.{◌≡◌, ℕ, zero, suc, ◌+◌, ◌*◌, ◌≤◌, ◌<◌, List, [], ◌∷◌, length, drop, Some, slice_get}
use Rattle.trace_ops.specs.declared.table.Table.{Table}
use Rattle.trace_ops.specs.declared.trace.TraceSet.{TraceSet}
use Rattle.trace_ops.specs.declared.piece.Piece.{Piece}
use Rattle.trace_ops.specs.declared.piece.PieceId.{PieceId}
use Rattle.trace_ops.specs.declared.piece.OptOp.{OptOp}
use Rattle.target_base.specs.declared.place.Place.{Place}
use Rattle.trace_meaning.specs.World.{World, events}
use Rattle.trace_meaning.specs.Legs.{Leave, Fails, Jumps, Finishes, Waits, Misfits, Wrong, Turn, On, Off}
use Rattle.trace_meaning.specs.Observed.{world_left}
use Rattle.opt_meaning.specs.Step.{Opt}
use Rattle.opt_meaning.specs.Pieces.{ops_at}
use Rattle.arena_objects.specs.Layout.{words_of}
use Rattle.arena_objects.specs.Making.{bytes_left}
use Rattle.arena_objects.specs.Standing.{Stands}
use Rattle.x64_machine.specs.State.{State}
use Rattle.asm_select.specs.declared.told.Told.{Told}
use Rattle.asm_select.specs.declared.told.Told.TheVariants as tell
use Rattle.asm_select.specs.Valued.{value, IsFit, MayHold}
use Rattle.asm_select.specs.Chosen.{Setting, told_by}
use Rattle.asm_select.specs.Reached.{Holds, PrebuiltsStand, SameArena}
use Rattle.asm_select.specs.Ended.{LeavesWith, AreParts, world_of, values_of}
use Rattle.asm_select.specs.Exited.{saved_at}
use Rattle.image_runs.specs.Session.{Calls, Host}
use Rattle.image_runs.specs.Selection.{Model, ended}
use Rattle.image_model.specs.Ready.{LeavesKinds, StaysReady}

-- what the flags tell in front of an operation, by its place
abbrev pub told_at : Told → List OptOp → ℕ → Told
told_at told ops zero = told
told_at told [] (suc n) = tell.Nothing
told_at told (op ∷ ops) (suc n) = told_at (told_by op ops) ops n

-- the host's calls are those of the world, and the answers that are left, too
pub record SameCalls (w : World) (c : Calls) : Type 0 where
  pub log : c.log ≡ events w.log
  pub answers : c.answers ≡ w.answers

-- in front of operation j
abbrev pub HoldsAt : Setting → List OptOp → ℕ → Opt → Calls → State → Type 0
HoldsAt st ops j env c s = Holds st (told_at tell.Nothing ops j) (drop j ops) env s × SameCalls env.world c × StaysReady st.table (drop j ops) env

-- an operation is left so
pub record IsLeftSo (st : Setting) (op : OptOp) (l : Leave) (t : State) : Type 0 where
  pub fit : IsFit t
  pub arena : Stands st.table (world_of l).objects t.arena
  pub prebuilts : PrebuiltsStand st.table (world_of l).objects
  pub parts : AreParts (length (world_of l).objects) (values_of l)
  pub with : LeavesWith st op l t
  pub kinds : LeavesKinds st.table op l

-- operation j is left so
abbrev pub LeftAt : Setting → List OptOp → ℕ → Leave → Calls → State → Type 0
LeftAt st ops j l c t = (op : OptOp) × (slice_get ops j ≡ Some op) × IsLeftSo st op l t × SameCalls (world_left l) c

-- behind its stub each word is found where the common exit saves it
abbrev pub GoneAt : Setting → List OptOp → ℕ → Leave → Calls → State → Type 0
GoneAt st ops j l c t = (u : State) × LeftAt st ops j l c u × ((p : Place) → MayHold p → saved_at t p ≡ value u p) × SameArena u t

-- More bytes are asked for than are left, and no more than the operation takes.
abbrev pub Fills : Table → World → Turn Opt → State → ℕ → ℕ → Type 0
Fills t w (On after) s asked left = Stands t w.objects s.arena × (left ≡ bytes_left s.arena) × (left < asked) × (8 * words_of w.objects + asked ≤ 8 * words_of after.world.objects)
Fills t w (Off l) s asked left = ⊥

-- a guard that fails for good has had no other calls
pub ended_calls : (l : Leave) (c : Calls) → SameCalls (world_left l) c → SameCalls (world_left (ended l)) c
ended_calls (Fails n vs w) c h = record { log = h.log; answers = h.answers }
ended_calls (Jumps vs w) c h = h
ended_calls (Finishes vs w) c h = h
ended_calls (Waits w) c h = h
ended_calls (Misfits w) c h = h
ended_calls (Wrong w) c h = h

-- The model of pieces of a set whose operations are chosen with these settings. What stands where is told by the whole of the
-- pieces, those of bridges that aren't attached yet among them, so that an attachment changes nothing in it.
abbrev pub model_of : Host → TraceSet → (whole : List Piece) → (PieceId → Setting) → (ps : List Piece) → Model
model_of host set whole settings ps = record {
  set = set;
  pieces = ps;
  host = host;
  followed = ⊥;
  holds = λ q j env c s. HoldsAt (settings q) (ops_at whole q) j env c s;
  left = λ q j l c s. LeftAt (settings q) (ops_at whole q) j l c s;
  gone = λ q j l c s. GoneAt (settings q) (ops_at whole q) j l c s;
  fills = λ w turn s asked left. Fills set.table w turn s asked left;
  called = SameCalls;
  tells = λ q j env c s h. h.1;
  tells_gone = λ q j l c s h. ended_calls l c h.1.3;
}
