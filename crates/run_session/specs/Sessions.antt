-- What contracts see of a session, and how it stands beside a run of image_runs' events over a printed image.
use Rattle.std.specs.Prelude.{◌≡◌, ℕ, ◌-◌, ◌*◌, List, [], Option, Some, None, length, drop}
use Rattle.std.specs.List.{Contains, AllZip}
use Rattle.trace_ops.specs.declared.trace.TraceSet.{TraceSet}
use Rattle.trace_ops.specs.declared.table.Table.{Table}
use Rattle.trace_meaning.specs.declared.value.Value.{Value}
use Rattle.trace_meaning.specs.declared.value.Store.{Store}
use Rattle.trace_meaning.specs.declared.call.Answer.{Answer}
use Rattle.trace_meaning.specs.declared.call.CallEvent.{CallEvent}
use Rattle.trace_meaning.specs.declared.state.RecFrame.{RecFrame}
use Rattle.trace_meaning.specs.declared.state.RecState.{RecState}
use Rattle.trace_meaning.specs.declared.state.RecState.TheVariants as state
use Rattle.trace_meaning.specs.Cuts.{Cuts}
use Rattle.arena_objects.specs.ReadBack.{objects_in}
use Rattle.arena_objects.specs.Starting.{first_words}
use Rattle.opt_meaning.specs.Pieces.{all_pieces, preamble}
use Rattle.opt_set.specs.Optimised.{Optimised}
use Rattle.set_in_image.specs.Placing.{Placing}
use Rattle.x64_machine.specs.State.{State}
use Rattle.image_runs.specs.Printed.{Printed, code_at, rows_at, bridges_at}
use Rattle.image_runs.specs.Session.{Host, End, Shows, Full, Waiting, Misfitting, Lost, Activation, Session}
use Rattle.bridge_patch.specs.Image.{Imaged, entry_in}
use Rattle.session_host.specs.Hosting.{host_of}
use Rattle.run_session.specs.declared.now.Now.{Now}
use Rattle.run_session.specs.declared.now.Now.TheVariants as now

-- what is seen of an activation: what its start was given and how many of the answers are used; its machine, whose arena has the
-- rebuilt objects once it has exited; calls, failures and cuts so far; where it stands, the frames where it has exited, and the
-- bytes that were allocated, without what was rebuilt
pub record Active : Type 0 where
  pub trace : ℕ
  pub inputs : List Value
  pub answers : List Answer
  pub used : ℕ
  pub machine : State
  pub log : List CallEvent
  pub failures : ℕ
  pub cuts : Cuts
  pub now : Now
  pub frames : List RecFrame
  pub bytes : ℕ

-- and of a session: the set, the pieces of its loops and of the attached bridges, and the image in which they stand
pub record Sessioned : Type 0 where
  pub set : TraceSet
  pub optimised : Optimised
  pub image : Imaged
  pub arena_bytes : ℕ
  pub activations : List Active

-- its host
abbrev pub host_in : Sessioned → Host
host_in s = host_of s.set (all_pieces s.optimised.traces) s.arena_bytes

-- the set with its pieces and their image
abbrev pub placed_in : Sessioned → Placing
placed_in s = record { set = s.set; optimised = s.optimised; image = s.image }

-- ---- where an activation stands

-- the ended states that are shown, with the objects that the arena has then
abbrev pub IsShown : Table → Active → RecState → Store → Type 0
IsShown t a (state.Finished value) store = (a.now ≡ now.Finished value) × (store.objects ≡ objects_in t a.machine.arena)
IsShown t a (state.Exited p n frames) store = (a.now ≡ now.Exited p n) × (a.frames ≡ frames) × (store.objects ≡ objects_in t a.machine.arena)
IsShown t a s store = ⊥

abbrev pub StandsAs : Table → Active → Option End → Type 0
StandsAs t a None = a.now ≡ now.Going
StandsAs t a (Some (Shows s store)) = IsShown t a s store
StandsAs t a (Some (Full asked left)) = a.now ≡ now.ArenaFull asked left
StandsAs t a (Some Waiting) = a.now ≡ now.Waits
StandsAs t a (Some (Misfitting call)) = a.now ≡ now.Misfit call
StandsAs t a (Some (Lost at)) = a.now ≡ now.Wrong at

-- it has exited
abbrev pub HasExited : Active → Type 0
HasExited a = (p : ℕ) × (n : ℕ) × (a.now ≡ now.Exited p n)

-- An activation is the one of a run. That of the run keeps the arena without what was rebuilt, which only an exit does; all else of the machine is the same.
pub record Tells (t : Table) (a : Active) (x : Activation) : Type 0 where
  pub trace : x.trace ≡ a.trace
  pub inputs : x.inputs ≡ a.inputs
  pub given : x.given ≡ a.answers
  pub machine : x.machine ≡ record a.machine { arena = x.machine.arena }
  pub arena : (HasExited a → ⊥) → x.machine.arena ≡ a.machine.arena
  pub bytes : a.bytes ≡ x.machine.arena.taken - 8 * length (first_words t)
  pub log : x.calls.log ≡ a.log
  pub answers : x.calls.answers ≡ drop a.used a.answers
  pub failures : x.failures ≡ a.failures
  pub cuts : x.cuts ≡ a.cuts
  pub frames : (HasExited a → ⊥) → a.frames ≡ []
  pub end : StandsAs t a x.end

-- ---- the printed image and the run

-- the image is a printed one, all of whose parts are attached
pub record IsPrinted (image : Imaged) (im : Printed) : Type 0 where
  pub code : code_at im (length im.parts) ≡ image.bytes
  pub rows : rows_at im (length im.parts) ≡ image.exits
  pub bridges : bridges_at im (length im.parts) ≡ image.attached
  pub entries : (trace entry : ℕ) → Contains im.entries (trace, entry) → entry ≡ entry_in image.pieces (preamble trace)

-- the session is that of a run over the printed image
pub record IsSession (s : Sessioned) (im : Printed) (x : Session) : Type 0 where
  pub printed : IsPrinted s.image im
  pub parts : x.parts ≡ length im.parts
  pub each : AllZip (Tells s.set.table) s.activations x.activations
