-- An activation beside the run of its pieces, at every moment.
use Rattle.std.specs.Prelude.{◌≡◌, ℕ, ◌+◌, ◌*◌, ◌≤◌, List, ◌∷◌, Option, Some, None, length, map, ◌⊎◌}
use Rattle.x64_machine.specs.State.{State}
use Rattle.trace_meaning.specs.declared.value.Value.{Value}
use Rattle.trace_meaning.specs.World.{World}
use Rattle.trace_meaning.specs.Legs.{Leave, Fails, Wrong, In, Over, begins, run, Leg, At, drive, leg, legs}
use Rattle.trace_ops.specs.declared.piece.PieceId.{PieceId}
use Rattle.trace_ops.specs.declared.piece.OptOp.{OptOp}
use Rattle.opt_meaning.specs.Step.{Opt, opt_step}
use Rattle.image_runs.specs.Runs.{PieceProgram, world_now}
use Rattle.opt_meaning.specs.Pieces.{pieces, PiecesNow, preamble}
use Rattle.guard_exit.specs.declared.row.ExitRow.{ExitRow}
use Rattle.image_runs.specs.Session.{Calls, End, Resumes, Host, Activation}
use Rattle.image_runs.specs.Selection.{Model, Placed, EndsBy, ended}
use Rattle.image_runs.specs.Image.{Image, code_in}
use Rattle.image_runs.specs.Standing.{Stands}
use Rattle.image_runs.specs.Kept.{AreUpTo, rest_of, leg_left, over, first_of}
use Rattle.trace_ops.specs.declared.table.Table.{Table}
use Rattle.trace_meaning.specs.Recorded.{first_world}

-- of the host: an answer makes no instruction
abbrev pub AnswersMakeNone : Host → Type 0
AnswersMakeNone h = (entry : ℕ) (c d : Calls) (s t : State) → h.answers entry c s (Resumes d t) → t.instructions ≡ s.instructions

-- where the run of pieces began
pub record Begun : Type 0 where
  pub piece : PieceId
  pub values : List Value
  pub world : World

-- a loop begins with its inputs, before any call
abbrev pub begun_of : Table → Activation → Begun
begun_of t act = record { piece = preamble act.trace; values = act.inputs; world = first_world t act.given }

-- the pieces at that moment, by operations and by legs
abbrev pub first_now : PieceProgram → Begun → PiecesNow
first_now a b = begins a b.piece b.values b.world

-- the first leg
abbrev pub first_leg : Begun → Leg PieceId
first_leg b = At b.piece b.values b.world

-- So many operations from the start the pieces are at x, in the leg behind so many whole legs.
pub record Reached (a : PieceProgram) (b : Begun) (x : PiecesNow) (made failures : ℕ) : Type 0 where
  pub operations : ℕ
  pub ran : run a operations (first_now a b) ≡ x
  pub whole : ℕ
  pub piece : PieceId
  pub values : List Value
  pub world : World
  pub begun : legs a whole (first_leg b) ≡ At piece values world
  pub within : leg_left a x ≡ leg a (At piece values world)
  pub stays : (rest_of a x ≡ Some (piece, drive a.step a.world (a.ops piece) (a.begin piece values world))) ⊎ (rest_of a x ≡ None)
  pub backward : whole ≤ made  -- no leg without an instruction
  pub counted : (world_now a x).failures ≤ failures

-- Going: the machine stands beside the pieces. All paths of a leg together are shorter than the code, so so many whole legs
-- and what is still to do in this one give a bound for the instructions so far.
pub record Beside (m : Model) (g : Image) (b : Begun) (act : Activation) : Type 0 where
  pub x : PiecesNow
  pub reached : Reached (pieces m.set m.pieces act.cuts) b x act.machine.instructions act.failures
  pub path : List State
  pub todo : ℕ
  pub stands : Stands m g x act.calls act.machine path todo
  pub exact : (world_now (pieces m.set m.pieces act.cuts) x).failures ≡ act.failures
  pub forward : act.machine.instructions + todo ≤ (reached.whole + 1 + over x) * length (code_in g)

-- the guard that has failed
abbrev pub guard_of : Leave → Option ℕ
guard_of (Fails n vs w) = Some n
guard_of l = None

-- ended by a return: the pieces are over, the row is that of the guard or the finish, and the end is what the row shows
pub record Shown (m : Model) (g : Image) (b : Begun) (act : Activation) (end : End) : Type 0 where
  pub pl : Placed
  pub place : ℕ
  pub leave : Leave
  pub reached : Reached (pieces m.set m.pieces act.cuts) b (Over pl.id (ended leave)) act.machine.instructions act.failures
  pub gone : m.gone pl.id place leave act.calls act.machine
  pub row : ExitRow
  pub row_is : (row.id ≡ pl.id) × (row.guard ≡ guard_of leave)
  pub shows : m.host.shows row act.calls act.machine end

-- ended at a call, as the host answered it
pub record Refused (m : Model) (g : Image) (b : Begun) (act : Activation) (end : End) : Type 0 where
  pub piece : PieceId
  pub op : OptOp
  pub rest : List OptOp
  pub env : Opt
  pub reached : Reached (pieces m.set m.pieces act.cuts) b (In piece (op ∷ rest) env) act.machine.instructions act.failures
  pub ends : EndsBy m env.world (opt_step m.set.table op env) act.calls act.machine end

-- going, or ended as the pieces are, or strayed
pub data Follows (m : Model) (g : Image) (b : Begun) (act : Activation) : Type 0 where
  Goes : act.end ≡ None → Beside m g b act → Follows m g b act
  Shows_end : (end : End) → act.end ≡ Some end → Shown m g b act end → Follows m g b act
  Refuses : (end : End) → act.end ≡ Some end → Refused m g b act end → Follows m g b act
  -- the pieces went wrong, and nothing more is said
  Strays : (q : PieceId) (w : World) → Reached (pieces m.set m.pieces act.cuts) b (Over q (Wrong w)) act.machine.instructions act.failures → Follows m g b act

-- An activation of a session in which these bridges are attached, in order.
pub record IsActive (m : Model) (g : Image) (bs : List ℕ) (b : Begun) (act : Activation) : Type 0 where
  pub follows : Follows m g b act
  pub cuts : map first_of act.cuts ≡ bs
  pub upto : AreUpTo act.failures act.cuts
