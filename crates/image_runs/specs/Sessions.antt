-- Sessions of several activations, and any list of events.
use Rattle.std.specs.Prelude.{◌≡◌, ℕ, ◌+◌, ◌<◌, ◌≤◌, [], length, slice_get, Some, List}
use Rattle.std.specs.List.{All, Contains}
use Rattle.x64_machine.specs.State.{State}
use Rattle.image_runs.specs.Printed.{Part, Printed, code_at, rows_at, bridges_at}
use Rattle.image_runs.specs.Session.{Activation, Session, no_calls}
use Rattle.image_runs.specs.Reached.{Comes}
use Rattle.image_runs.specs.Selection.{Model, Placed, joined, code_of}
use Rattle.image_runs.specs.Image.{Image, code_in, IsHere, IsImage}
use Rattle.trace_ops.specs.declared.piece.Piece.{Piece}
use Rattle.image_runs.specs.Attached.{widened, AreKept, Grown}
use Rattle.image_runs.specs.Attachment.{Attaches}
use Rattle.image_runs.specs.Patched.{IsPart}
use Rattle.image_runs.specs.Following.{begun_of, IsActive}
use Rattle.trace_meaning.specs.declared.value.Value.{Value}
use Rattle.trace_meaning.specs.declared.call.Answer.{Answer}
use Rattle.trace_meaning.specs.Recorded.{first_world}
use Rattle.opt_meaning.specs.Pieces.{begin_at, preamble}

-- A started machine stands in front of its loop's first piece, and comes to its first operation, whose label holds.
pub record Begins (m : Model) (g : Image) (trace : ℕ) (inputs : List Value) (given : List Answer) (s : State) : Type 0 where
  pub pl : Placed
  pub there : Contains g.placed pl
  pub named : pl.id ≡ preamble trace
  pub at : s.at ≡ 0x40000000 + pl.at
  pub enters : Comes m.followed pl.at (code_of pl) s (joined pl.codes) (λ t. m.holds pl.id 0 (begin_at m.pieces pl.id inputs (first_world m.set.table given)) (no_calls given) t)
  pub none : s.instructions ≡ 0

-- so does every machine that is started at an entry
abbrev pub StartsBegin : Model → List Piece → Image → Printed → Type 0
StartsBegin m ps g im =
    (trace entry : ℕ) (inputs : List Value) (given : List Answer) (s : State) → Contains im.entries (trace, entry) → m.host.starts trace entry inputs s
    → Begins (widened m ps) g trace inputs given s

-- The printed image at each moment, and its model: behind j attachments the pieces p j stand in the image g j.
pub record ImageStands (m : Model) (p : ℕ → List Piece) (g : ℕ → Image) (im : Printed) : Type 0 where
  pub code : (j : ℕ) → j ≤ length im.parts → code_at im j ≡ code_in (g j)
  pub image : (j : ℕ) → j ≤ length im.parts → IsImage (widened m (p j)) (g j) (bridges_at im j) (rows_at im j)
  pub kept : (j : ℕ) → j < length im.parts → AreKept (widened m (p j)) (p (j + 1)) (g j) (bridges_at im j)
  pub grown : (j : ℕ) → j < length im.parts → Grown (g j) (g (j + 1))
  pub begins : (j : ℕ) → j ≤ length im.parts → StartsBegin m (p j) (g j) im

-- each activation is beside its pieces
abbrev pub OneStands : Model → (ℕ → List Piece) → (ℕ → Image) → Printed → ℕ → Activation → Type 0
OneStands m p g im j act = IsHere (g j) (preamble act.trace) × IsActive (widened m (p j)) (g j) (bridges_at im j) (begun_of m.set.table act) act

-- all activations do so
pub record SessionStands (m : Model) (p : ℕ → List Piece) (g : ℕ → Image) (im : Printed) (s : Session) : Type 0 where
  pub within : s.parts ≤ length im.parts
  pub each : All (OneStands m p g im s.parts) s.activations

-- The printed image is made by compiling and by its attachments, each of which does what an attachment does.
pub record IsBuilt (m : Model) (p : ℕ → List Piece) (g : ℕ → Image) (im : Printed) : Type 0 where
  pub base : im.base ≡ code_in (g 0)
  pub compiled : IsImage (widened m (p 0)) (g 0) [] im.rows
  pub attached : (j : ℕ) (x : Part) → slice_get im.parts j ≡ Some x
      → (a : Attaches (widened m (p j)) (p (j + 1)) (g j) (g (j + 1)) (bridges_at im j) x.bridge (rows_at im j) x.rows) × IsPart (g j) (g (j + 1)) a.grown x
  pub begins : StartsBegin m (p 0) (g 0) im
