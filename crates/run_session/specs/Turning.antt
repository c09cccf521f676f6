-- What an event makes of an activation, by the turn of its machine.
use Rattle.std.specs.Prelude.{◌≡◌, ℕ, ◌+◌, ◌≤◌, Bool, List}
use Rattle.trace_ops.specs.declared.piece.Piece.{Piece}
use Rattle.trace_ops.specs.declared.table.Table.{Table}
use Rattle.trace_ops.specs.declared.trace.TraceSet.{TraceSet}
use Rattle.guard_exit.specs.declared.row.ExitRow.{ExitRow}
use Rattle.x64_machine.specs.declared.state.Stop.TheVariants.{Returned, HostCall, BadAddress, BadCode, UndefinedFlag}
use Rattle.x64_machine.specs.declared.state.Turn.{Turn}
use Rattle.x64_machine.specs.declared.state.Turn.TheVariants.{Went, Stopped}
use Rattle.x64_machine.specs.State.{one_if}
use Rattle.image_runs.specs.Session.{Activation, Event}
use Rattle.session_host.specs.Hosting.{host_of}
use Rattle.run_session.specs.declared.active.Active.{Active as Kept}
use Rattle.run_session.specs.declared.now.Now.{Now}
use Rattle.run_session.specs.declared.now.Now.TheVariants as now
use Rattle.run_session.specs.Given.{HostAnswers}
use Rattle.run_session.specs.Returning.{ReturnsSo}
use Rattle.run_session.specs.Sessions.{Active, Tells}

-- behind a turn: a failure is counted where the instruction took a guard's jump; the host answers; a return shows what it shows
abbrev pub Settles : Table → List Piece → List ExitRow → Turn → Bool → Kept → Kept → Now → Type 0
Settles t ps rows Went counts old new x = (x ≡ now.Going) × (new ≡ record old { failures = old.failures + one_if counts })
Settles t ps rows (Stopped Returned) counts old new x = ReturnsSo t ps rows old new x
Settles t ps rows (Stopped (HostCall entry)) counts old new x = HostAnswers t entry old new x
Settles t ps rows (Stopped (BadAddress at)) counts old new x = (x ≡ now.Wrong at) × (new ≡ old)
Settles t ps rows (Stopped (BadCode at)) counts old new x = (x ≡ now.Wrong at) × (new ≡ old)
Settles t ps rows (Stopped (UndefinedFlag at)) counts old new x = (x ≡ now.Wrong at) × (new ≡ old)

-- whatever activation of a run it is, it makes one event and is that of the run again
abbrev pub MakesEvent : TraceSet → List Piece → List ℕ → List ExitRow → Active → Active → Type 0
MakesEvent set ps code rows a b =
    (bytes : ℕ) (x : Activation) → Tells set.table a x → (y : Activation) × Event (host_of set ps bytes) code rows x y × Tells set.table b y

-- what the start was given stays, and so do the cuts
pub record KeepsGiven (a b : Active) : Type 0 where
  pub trace : b.trace ≡ a.trace
  pub inputs : b.inputs ≡ a.inputs
  pub answers : b.answers ≡ a.answers
  pub cuts : b.cuts ≡ a.cuts

-- at most one instruction is made, and one where it goes on
pub record MakesOne (old new : ℕ) (x : Now) : Type 0 where
  pub most : new ≤ old + 1
  pub going : x ≡ now.Going → new ≡ old + 1
