-- What one instruction keeps.
use Rattle.std.specs.Prelude.{◌≡◌, ℕ, ◌+◌, ◌≤◌, pos, List, [], ◌∷◌, ◌++◌, length, ◌⊎◌, Option, Some, None}
use Rattle.std.specs.List.{Contains}
use Rattle.x64_machine.specs.declared.state.Stop.TheVariants.{Returned, HostCall}
use Rattle.x64_machine.specs.declared.state.Turn.TheVariants.{Went, Stopped}
use Rattle.x64_machine.specs.State.{State, Acted, acted, stops, reg}
use Rattle.trace_meaning.specs.declared.value.Value.{Value}
use Rattle.trace_meaning.specs.World.{World}
use Rattle.trace_meaning.specs.Legs.{Leave, Wrong, drive, In, Over, next, run, Leg, At, Ended, land, leg}
use Rattle.trace_ops.specs.declared.piece.PieceId.{PieceId}
use Rattle.trace_ops.specs.declared.piece.OptOp.{OptOp}
use Rattle.opt_meaning.specs.Step.{Opt}
use Rattle.trace_meaning.specs.Cuts.{Cuts}
use Rattle.image_runs.specs.Runs.{PieceProgram, world_now}
use Rattle.image_runs.specs.Session.{Calls, End, Answered, Resumes, Stops}
use Rattle.guard_exit.specs.declared.row.ExitRow.{ExitRow}
use Rattle.image_runs.specs.Counted.{CountsFailure}
use Rattle.image_runs.specs.Selection.{Model, Placed, EndsBy, EndsAs, ended, exit_of}
use Rattle.image_runs.specs.Image.{Image, code_in, JumpAt}
use Rattle.opt_meaning.specs.Pieces.{PiecesNow, ops_at}
use Rattle.image_runs.specs.Standing.{Walking, Leaving, Calling, Returning, Stands}

-- every attachment was counted by now
abbrev pub AreUpTo : ℕ → Cuts → Type 0
AreUpTo k [] = Unit {0}
AreUpTo k (cut ∷ cuts) = (cut.1 ≤ k) × AreUpTo k cuts

-- the bridge of a cut
abbrev pub first_of : ℕ × ℕ → ℕ
first_of c = c.0

-- what the leg that the pieces are in leads to
abbrev pub leg_left : PieceProgram → PiecesNow → Leg PieceId
leg_left a (In q rest s) = land a q (drive a.step a.world rest s)
leg_left a (Over q l) = Ended q l

-- where the pieces are in a leg, and how it will be left: whatever a failure then sees
abbrev pub rest_of : PieceProgram → PiecesNow → Option (PieceId × Leave)
rest_of a (In q rest s) = Some (q, drive a.step a.world rest s)
rest_of a (Over q l) = None

-- the leg goes on as it would have, or is over
abbrev pub StaysOpen : PieceProgram → PiecesNow → PiecesNow → Type 0
StaysOpen a x y = (rest_of a y ≡ rest_of a x) ⊎ (rest_of a y ≡ None)

-- 1 where the run is over
abbrev pub over : PiecesNow → ℕ
over (In q rest s) = 0
over (Over q l) = 1

-- A state that stands in front of an instruction: no operation without instructions is ahead.
pub data Ready (m : Model) (g : Image) (x : PiecesNow) (c : Calls) (s : State) (todo : ℕ) : Type 0 where
  Ahead : (w : State) (path : List State) → Walking m g x c s (w ∷ path) todo → Ready m g x c s todo
  Slots : (path : List State) → Leaving m g x c s path todo → Ready m g x c s todo
  Hosts : (path : List State) → Calling m g x c s path todo → Ready m g x c s todo
  Stubs : (path : List State) → Returning m g x c s path todo → Ready m g x c s todo
  Lost : (q : PieceId) (w : World) → x ≡ Over q (Wrong w) → Ready m g x c s todo

-- so many operations without instructions later
pub record Settled (m : Model) (g : Image) (a : PieceProgram) (x : PiecesNow) (c : Calls) (s : State) (todo : ℕ) : Type 0 where
  pub n : ℕ
  pub y : PiecesNow
  pub ran : run a n x ≡ y
  pub leg : leg_left a y ≡ leg_left a x
  pub stays : StaysOpen a x y
  pub failures : (world_now a y).failures ≡ (world_now a x).failures
  pub ready : Ready m g y c s todo

-- the leg goes on, or another one begins, or the run is over
pub data Led (a : PieceProgram) (x y : PiecesNow) (all todo left : ℕ) : Type 0 where
  Within : leg_left a y ≡ leg_left a x → StaysOpen a x y → left + 1 ≤ todo → Led a x y all todo left
  Begins : (q : PieceId) (vs : List Value) (w : World) → leg_left a x ≡ At q vs w → leg_left a y ≡ leg a (At q vs w) → rest_of a y ≡ Some (q, drive a.step a.world (a.ops q) (a.begin q vs w)) → left ≤ all → 1 ≤ todo → Led a x y all todo left
  Ends : (q : PieceId) (l : Leave) → over x ≡ 0 → leg_left a x ≡ Ended q l → y ≡ Over q l → left ≤ 16 → 1 ≤ todo → Led a x y all todo left

-- what an answer of the host leads to
pub data Replied (m : Model) (g : Image) (a : PieceProgram) (x : PiecesNow) (s : State) (todo : ℕ) : Answered → Type 0 where
  Goes_on : (c : Calls) (u : State) (y : PiecesNow) (path : List State) (left : ℕ) → next a x ≡ y → Stands m g y c u path left → leg_left a y ≡ leg_left a x → rest_of a y ≡ rest_of a x → left + 1 ≤ todo
      → (world_now a y).failures ≡ (world_now a x).failures → Replied m g a x s todo (Resumes c u)
  Ends_by : (c : Calls) (end : End) (q : PieceId) (op : OptOp) (rest : List OptOp) (env : Opt) → x ≡ In q (op ∷ rest) env → EndsBy m (a.world env) (a.step op env) c s end → Replied m g a x s todo (Stops c end)

-- One instruction of an activation that stands beside x, which is ready.
pub data Kept (m : Model) (g : Image) (a : PieceProgram) (rows : List ExitRow) (x : PiecesNow) (c : Calls) (s : State) (todo : ℕ) (done : Acted) : Type 0 where
  Plainly : (t : State) (y : PiecesNow) (n : ℕ) (path : List State) (left : ℕ) → done ≡ acted Went t → (CountsFailure (code_in g) rows s → ⊥) → run a n x ≡ y → Stands m g y c t path left
      → Led a x y (length g.slots) todo left → (world_now a y).failures ≡ (world_now a x).failures → Kept m g a rows x c s todo done
  Failing : (t : State) (y : PiecesNow) (path : List State) (left : ℕ) → done ≡ acted Went t → CountsFailure (code_in g) rows s → next a x ≡ y → Stands m g y c t path left
      → Led a x y (length g.slots) todo left → (world_now a y).failures ≡ (world_now a x).failures + 1 → Kept m g a rows x c s todo done
  Asking : (entry : ℕ) (t : State) → done ≡ acted (Stopped (HostCall entry)) t → ((o : Answered) → m.host.answers entry c t o → Replied m g a x t todo o) → Kept m g a rows x c s todo done
  Returning_by : (pl : Placed) (op : OptOp) (before rest : List OptOp) (l : Leave) → done ≡ stops Returned s → Contains g.placed pl → ops_at m.pieces pl.id ≡ before ++ op ∷ rest → EndsAs (exit_of op) l → JumpAt g (pl.key + length before)
      → x ≡ Over pl.id (ended l) → reg s (record { 0 = 0 }) ≡ pos (g.number (pl.key + length before)) → m.gone pl.id (length before) l c s → Kept m g a rows x c s todo done
  Straying : (q : PieceId) (w : World) → x ≡ Over q (Wrong w) → Kept m g a rows x c s todo done
