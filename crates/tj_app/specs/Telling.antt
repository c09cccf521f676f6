-- What an input tells: a set of traces, and the lines of its session.
use Rattle.std.specs.Prelude.{◌≡◌, ◌⊎◌, ℕ, Option, Some, None, Result, Ok, List}
use Rattle.trace_ops.specs.declared.trace.TraceSet.{TraceSet}
use Rattle.trace_text.specs.Sections.{session_part}
use Rattle.trace_check.specs.Faults.{IsChecked}
use Rattle.session_text.specs.declared.session.SessionText.{SessionText}
use Rattle.session_text.specs.declared.fault.Reason.{Reason}
use Rattle.session_text.specs.declared.fault.SessionFault.{SessionFault}
use Rattle.session_text.specs.declared.fault.SessionFault.TheVariants as session
use Rattle.session_text.specs.Faults.{Fails}
use Rattle.session_text.specs.Reading.{session_at}
use Rattle.session_text.specs.Attaching.{session_of_all}
use Rattle.tj_app.specs.declared.refusal.Fault.{Fault}
use Rattle.tj_app.specs.declared.refusal.Fault.TheVariants as fault
use Rattle.tj_app.specs.declared.unbuilt.Unbuilt.{Unbuilt}
use Rattle.tj_app.specs.declared.words.Command.{Command}
use Rattle.tj_app.specs.Checking.{StandsFor, IsBad}
use Rattle.tj_app.specs.Unbuilt.{first_need, name_of}

-- the lines of a session over a set; an input without them has the session that attaches every bridge
abbrev pub session_in : TraceSet → Option (List ℕ × ℕ) → Result SessionText SessionFault
session_in set None = Ok (session_of_all set)
session_in set (Some (text, first)) = session_at set first text

-- The input stands for a set that is well formed and not too heavy, and for the lines of a session over it.
pub record Tells (input : List ℕ) (set : TraceSet) (session : SessionText) : Type 0 where
  pub stands : StandsFor input set
  pub checked : IsChecked set
  pub told : session_in set (session_part input) ≡ Ok session

-- a refusal of the session's lines, as the program tells it
abbrev pub session_fault : SessionFault → Fault
session_fault (session.SessionBad line reason) = fault.SessionBad line reason
session_fault (session.Limit what count) = fault.Limit what count
session_fault session.OutOfMemory = fault.Memory

-- the first refusal of the lines of a session; or memory was wanting
abbrev pub IsRefusedSession : TraceSet → Option (List ℕ × ℕ) → Fault → Type 0
IsRefusedSession set part f = (why : SessionFault) × Fails why (session_in set part) × (f ≡ session_fault why)

-- the set is well formed and not too heavy, and this is the first refusal of the session's lines; or memory was wanting
abbrev pub IsBadSession : List ℕ → Fault → Type 0
IsBadSession input f =
    (set : TraceSet) × StandsFor input set × IsChecked set × IsRefusedSession set (session_part input) f

-- why an input is refused by every command that reads one
abbrev pub IsUnread : List ℕ → Fault → Type 0
IsUnread input f = IsBad input f ⊎ IsBadSession input f

-- the command, or the input that is right, needs something that isn't built, and this is the first of it
abbrev pub IsUnbuilt : Command → List ℕ → Fault → Type 0
IsUnbuilt command input f =
    (set : TraceSet) × (s : SessionText) × Tells input set s × ((what : Unbuilt) × (first_need command s ≡ Some what) × (f ≡ fault.NotBuilt (name_of what)))

-- why a command other than `check` refuses an input
abbrev pub IsUntold : Command → List ℕ → Fault → Type 0
IsUntold command input f = IsBad input f ⊎ (IsBadSession input f ⊎ IsUnbuilt command input f)

-- nothing that isn't built is needed
abbrev pub IsBuilt : Command → List ℕ → TraceSet → SessionText → Type 0
IsBuilt command input set session = Tells input set session × (first_need command session ≡ None)
