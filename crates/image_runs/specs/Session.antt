-- The run of a session over a printed image, one event at a time.
use Rattle.std.specs.Prelude.{◌≡◌, ℕ, ◌+◌, pos, List, [], ◌∷◌, ◌++◌, Option, Some, None, map, slice_get, slice_set}
use Rattle.std.specs.List.{Contains}
use Rattle.x64_machine.specs.declared.state.Stop.TheVariants.{Returned, HostCall, BadAddress, BadCode, UndefinedFlag}
use Rattle.x64_machine.specs.declared.state.Turn.TheVariants.{Went, Stopped}
use Rattle.x64_machine.specs.Words.{unsigned}
use Rattle.x64_machine.specs.State.{State, acted, stops, reg}
use Rattle.x64_machine.specs.Step.{MachineStep}
use Rattle.guard_exit.specs.declared.row.ExitRow.{ExitRow}
use Rattle.image_runs.specs.Printed.{Part, Printed, code_at, rows_at, bridges_at}
use Rattle.trace_meaning.specs.Cuts.{Cuts}
use Rattle.image_runs.specs.Counted.{CountsFailure}
use Rattle.trace_meaning.specs.declared.value.Value.{Value}
use Rattle.trace_meaning.specs.declared.value.Store.{Store}
use Rattle.trace_meaning.specs.declared.call.CallEvent.{CallEvent}
use Rattle.trace_meaning.specs.declared.call.Answer.{Answer}
use Rattle.trace_meaning.specs.declared.state.RecState.{RecState}

-- what the host keeps of an activation: its calls so far, and the answers that are left
pub record Calls : Type 0 where
  pub log : List CallEvent
  pub answers : List Answer

-- How an activation ends: finished or exited, with the objects that the arena then has; where an allocation asks for more bytes
-- than are left; at a call that has no answer, or none that fits; or wrong, where no such end stands.
pub data End : Type 0 where
  Shows : (state : RecState) (store : Store) → End
  Full : (asked left : ℕ) → End
  Waiting : End
  Misfitting : (call : ℕ) → End
  Lost : (at : ℕ) → End

-- how the host answers a call
pub data Answered : Type 0 where
  Resumes : (calls : Calls) (s : State) → Answered
  Stops : (calls : Calls) (end : End) → Answered

-- What is defined elsewhere: the first state of an activation of a trace that is entered at an offset with inputs; the host's
-- answer to a call at an entry; and what a return shows, read by its row over the machine's frame words and arena.
pub record Host : Type 1 where
  pub starts : (trace entry : ℕ) → List Value → State → Type 0
  pub answers : (entry : ℕ) → Calls → State → Answered → Type 0
  pub shows : ExitRow → Calls → State → End → Type 0

-- What a start was given; the machine and the calls so far; the failures that were counted; for each accepted attachment its
-- bridge and the failures before it; and the end, where there is one. The machine stays as it ended.
pub record Activation : Type 0 where
  pub trace : ℕ
  pub inputs : List Value
  pub given : List Answer
  pub machine : State
  pub calls : Calls
  pub failures : ℕ
  pub cuts : Cuts
  pub end : Option End

-- it has ended wrong, by this word
abbrev pub is_wrong_at : Activation → ℕ → Activation
is_wrong_at a at = record a { end = Some (Lost at) }

-- One event of an activation over a code and its rows.
pub data Event (h : Host) (code : List ℕ) (rows : List ExitRow) (a : Activation) : Activation → Type 0 where
  -- an instruction that takes no guard's jump
  Goes : (t : State) → a.end ≡ None → MachineStep code a.machine (acted Went t) → (CountsFailure code rows a.machine → ⊥)
      → Event h code rows a (record a { machine = t })
  -- an instruction that takes a guard's jump counts a failure
  Fails : (t : State) → a.end ≡ None → MachineStep code a.machine (acted Went t) → CountsFailure code rows a.machine
      → Event h code rows a (record a { machine = t; failures = a.failures + 1 })
  -- a call of the host together with its answer
  Calls_on : (entry : ℕ) (t u : State) (calls : Calls) → a.end ≡ None → MachineStep code a.machine (acted (Stopped (HostCall entry)) t)
      → h.answers entry a.calls t (Resumes calls u) → Event h code rows a (record a { machine = u; calls = calls })
  Calls_ends : (entry : ℕ) (t : State) (calls : Calls) (end : End) → a.end ≡ None → MachineStep code a.machine (acted (Stopped (HostCall entry)) t)
      → h.answers entry a.calls t (Stops calls end) → Event h code rows a (record a { machine = t; calls = calls; end = Some end })
  -- a return with the number of a row in rax ends as the row says
  Returns : (row : ExitRow) (end : End) → a.end ≡ None → MachineStep code a.machine (stops Returned a.machine) → Contains rows row
      → reg a.machine (record { 0 = 0 }) ≡ pos row.exit → h.shows row a.calls a.machine end → Event h code rows a (record a { end = Some end })
  -- the other stops, and a return with the number of no row
  NoRow : a.end ≡ None → MachineStep code a.machine (stops Returned a.machine)
      → ((row : ExitRow) → Contains rows row → reg a.machine (record { 0 = 0 }) ≡ pos row.exit → ⊥) → Event h code rows a (is_wrong_at a (unsigned (reg a.machine (record { 0 = 0 }))))
  NoWord : (at : ℕ) → a.end ≡ None → MachineStep code a.machine (stops (BadAddress at) a.machine) → Event h code rows a (is_wrong_at a at)
  NoCode : (at : ℕ) → a.end ≡ None → MachineStep code a.machine (stops (BadCode at) a.machine) → Event h code rows a (is_wrong_at a at)
  NoFlag : (at : ℕ) → a.end ≡ None → MachineStep code a.machine (stops (UndefinedFlag at) a.machine) → Event h code rows a (is_wrong_at a at)
  -- an ended one stays as it is
  Stays : (end : End) → a.end ≡ Some end → Event h code rows a a

-- ---- sessions

-- so many attachments are accepted, and these activations are started
pub record Session : Type 0 where
  pub parts : ℕ
  pub activations : List Activation

-- a bridge is attached now
abbrev pub with_cut : ℕ → Activation → Activation
with_cut bridge a = record a { cuts = a.cuts ++ (bridge, a.failures) ∷ [] }

-- an activation's first cuts: what is attached already, seen from failure 0 on
abbrev pub cuts_at : Printed → ℕ → Cuts
cuts_at im j = map (λ (b : ℕ). (b, 0)) (bridges_at im j)

-- before any call
abbrev pub no_calls : List Answer → Calls
no_calls given = record { log = []; answers = given }

-- an activation as it starts
abbrev pub first : Printed → ℕ → ℕ → List Value → List Answer → State → Activation
first im j trace inputs given s = record {
  trace = trace;
  inputs = inputs;
  given = given;
  machine = s;
  calls = no_calls given;
  failures = 0;
  cuts = cuts_at im j;
  end = None;
}

-- a start, an event of one activation, or an attachment, which each activation keeps
pub data SessionStep (h : Host) (im : Printed) (s : Session) : Session → Type 0 where
  Start : (trace entry : ℕ) (inputs : List Value) (given : List Answer) (m : State) → Contains im.entries (trace, entry) → h.starts trace entry inputs m
      → SessionStep h im s (record s { activations = s.activations ++ first im s.parts trace inputs given m ∷ [] })
  Step : (i : ℕ) (a b : Activation) → slice_get s.activations i ≡ Some a → Event h (code_at im s.parts) (rows_at im s.parts) a b
      → SessionStep h im s (record s { activations = slice_set s.activations i b })
  Attach : (x : Part) → slice_get im.parts s.parts ≡ Some x
      → SessionStep h im s (record { parts = s.parts + 1; activations = map (with_cut x.bridge) s.activations })

-- any list of events
pub data SessionRun (h : Host) (im : Printed) : Session → Session → Type 0 where
  Done : (s : Session) → SessionRun h im s s
  Then : (s t u : Session) → SessionStep h im s t → SessionRun h im t u → SessionRun h im s u
