-- What the calls of a session are, over the events of its activations.
use Rattle.std.specs.Prelude.{◌≡◌, ◌≢◌, ℕ, zero, suc, ◌+◌, ◌*◌, ◌^◌, ◌≤◌, ◌<◌, ◌⊎◌, List, [], ◌∷◌, ◌++◌, length, map, slice_get, slice_set, Option, Some, Result, Ok, Err}
use Rattle.std.specs.List.{Contains}
use Rattle.trace_ops.specs.declared.table.What.TheVariants as what
use Rattle.trace_ops.specs.declared.trace.TraceSet.{TraceSet}
use Rattle.trace_meaning.specs.declared.value.Value.{Value}
use Rattle.trace_meaning.specs.declared.call.Answer.{Answer}
use Rattle.trace_meaning.specs.Starting.{Starts}
use Rattle.opt_meaning.specs.declared.costs.Counts.{Counts}
use Rattle.image_runs.specs.Printed.{Printed, code_at, rows_at}
use Rattle.x64_machine.specs.State.{State}
use Rattle.image_runs.specs.Session.{Host, End, Activation, Session, Event, SessionRun, first}
use Rattle.run_session.specs.declared.now.Now.{Now}
use Rattle.run_session.specs.declared.now.Now.TheVariants as now
use Rattle.run_session.specs.declared.now.StartFault.{StartFault}
use Rattle.run_session.specs.declared.now.StartFault.TheVariants as fault
use Rattle.run_session.specs.Sessions.{Active, Sessioned, IsSession, host_in}
use Rattle.run_session.specs.Turning.{MakesOne, KeepsGiven}

-- so many events of one activation, one behind the other
pub data Events (h : Host) (im : Printed) (i : ℕ) : ℕ → Session → Session → Type 0 where
  Done : (s : Session) → Events h im i zero s s
  Then : (n : ℕ) (s u : Session) (a b : Activation) → slice_get s.activations i ≡ Some a → Event h (code_at im s.parts) (rows_at im s.parts) a b
      → Events h im i n (record s { activations = slice_set s.activations i b }) u → Events h im i (suc n) s u

-- all but one activation, the set, the pieces and the image are as before
pub record OthersStay (i : ℕ) (old new : Sessioned) : Type 0 where
  pub set : new.set ≡ old.set
  pub optimised : new.optimised ≡ old.optimised
  pub image : new.image ≡ old.image
  pub arena_bytes : new.arena_bytes ≡ old.arena_bytes
  pub count : length new.activations ≡ length old.activations
  pub others : (j : ℕ) → j ≢ i → slice_get new.activations j ≡ slice_get old.activations j

-- ---- step and run

-- one event of an activation
abbrev pub StepsOnce : ℕ → Sessioned → Sessioned → Type 0
StepsOnce i old new =
    (im : Printed) (s : Session) → IsSession old im s → (a : Activation) × (b : Activation) × (slice_get s.activations i ≡ Some a) × Event (host_in old) (code_at im s.parts) (rows_at im s.parts) a b
    × IsSession new im (record s { activations = slice_set s.activations i b })

-- the activation of this number is so
abbrev pub Shows : ℕ → Sessioned → (Active → Type 0) → Type 0
Shows i s P = (a : Active) × (slice_get s.activations i ≡ Some a) × P a

abbrev pub IsNow : ℕ → Sessioned → Now → Type 0
IsNow i s x = Shows i s (λ (a : Active). a.now ≡ x)

-- what its start was given stays
abbrev pub GivenStays : ℕ → Sessioned → Sessioned → Type 0
GivenStays i old new = (a b : Active) → slice_get old.activations i ≡ Some a → slice_get new.activations i ≡ Some b → KeepsGiven a b

-- where it has ended, all is as before
abbrev pub EndedStays : ℕ → Sessioned → Sessioned → Type 0
EndedStays i old new = (a : Active) → slice_get old.activations i ≡ Some a → a.now ≢ now.Going → new ≡ old

-- at most one instruction more was made, and one where the activation goes on
abbrev pub MakesInstruction : ℕ → Sessioned → Sessioned → Now → Type 0
MakesInstruction i old new x =
    (a b : Active) → slice_get old.activations i ≡ Some a → slice_get new.activations i ≡ Some b → MakesOne a.machine.instructions b.machine.instructions x

-- so many instructions more are at most 2^63
abbrev pub MayMake : ℕ → ℕ → Sessioned → Type 0
MayMake i n s = (a : Active) → slice_get s.activations i ≡ Some a → a.machine.instructions + n ≤ 2 ^ 63

-- at most so many instructions more were made
abbrev pub MakesAtMost : ℕ → ℕ → Sessioned → Sessioned → Type 0
MakesAtMost i most old new =
    (x y : Active) → slice_get old.activations i ≡ Some x → slice_get new.activations i ≡ Some y → y.machine.instructions ≤ x.machine.instructions + most

-- where it goes on, exactly so many were
abbrev pub MakesAll : ℕ → ℕ → Sessioned → Sessioned → Now → Type 0
MakesAll i most old new result =
    result ≡ now.Going → (x y : Active) → slice_get old.activations i ≡ Some x → slice_get new.activations i ≡ Some y → y.machine.instructions ≡ x.machine.instructions + most

-- what it has cost: the machine's counts, and the bytes that allocations and answers took
pub record AreCounts (a : Active) (c : Counts) : Type 0 where
  pub instructions : c.instructions ≡ a.machine.instructions
  pub loads : c.loads ≡ a.machine.loads
  pub stores : c.stores ≡ a.machine.stores
  pub bytes : c.bytes ≡ a.bytes

-- the activation of this number has ended in the run
pub record HasEnded (i : ℕ) (s : Session) : Type 0 where
  pub it : Activation
  pub there : slice_get s.activations i ≡ Some it
  pub end : End
  pub ended : it.end ≡ Some end

-- Events until an end, or until so many were made. They are a run of the session, in which the activation has then ended, too.
abbrev pub RunsUpTo : ℕ → ℕ → Sessioned → Sessioned → Now → Type 0
RunsUpTo i limit old new result =
    (im : Printed) (s : Session) → IsSession old im s
    → (n : ℕ) × (t : Session) × Events (host_in old) im i n s t × IsSession new im t × (n ≤ limit) × ((result ≢ now.Going) ⊎ (n ≡ limit))
    × (HasEnded i t ⊎ (n ≡ limit)) × SessionRun (host_in old) im s t

-- the limit of a run: (n + 1) times the code's length
abbrev pub most_made : ℕ → Sessioned → ℕ
most_made n s = (n + 1) * length s.image.bytes

-- ---- start

-- a start of a loop with inputs that fit, as the last activation
abbrev pub StartsWith : ℕ → List Value → List Answer → Sessioned → Sessioned → Type 0
StartsWith trace inputs answers old new =
    (im : Printed) (s : Session) → IsSession old im s → (entry : ℕ) → Contains im.entries (trace, entry) → (m : State) × (host_in old).starts trace entry inputs m
    × IsSession new im (record s { activations = s.activations ++ first im s.parts trace inputs answers m ∷ [] })

-- whether inputs fit, and there are few activations and answers
abbrev pub StartRefused : ℕ → List Value → List Answer → Sessioned → StartFault → Type 0
StartRefused trace inputs answers s fault.BadInput = Starts s.set trace inputs → ⊥
StartRefused trace inputs answers s (fault.Limit what.Activations n) = Starts s.set trace inputs × (16 ≤ length s.activations) × (n ≡ 17)
StartRefused trace inputs answers s (fault.Limit what.Answers n) = Starts s.set trace inputs × (length s.activations < 16) × (4096 < length answers) × (n ≡ 4097)
StartRefused trace inputs answers s (fault.Limit w n) = ⊥
StartRefused trace inputs answers s fault.OutOfMemory = Unit {0}

-- the earlier activations are as before
abbrev pub EarlierStay : Sessioned → Sessioned → Type 0
EarlierStay old new = (j : ℕ) → j < length old.activations → slice_get new.activations j ≡ slice_get old.activations j

-- an activation at its start: what it was given, nothing made, called, counted or rebuilt, and each attached bridge is seen from failure 0 on
pub record IsFresh (trace : ℕ) (inputs : List Value) (answers : List Answer) (attached : List ℕ) (a : Active) : Type 0 where
  pub trace_is : a.trace ≡ trace
  pub inputs_are : a.inputs ≡ inputs
  pub answers_are : a.answers ≡ answers
  pub used : a.used ≡ 0
  pub instructions : a.machine.instructions ≡ 0
  pub log : a.log ≡ []
  pub failures : a.failures ≡ 0
  pub cuts : a.cuts ≡ map (λ (b : ℕ). (b, 0)) attached
  pub now : a.now ≡ now.Going
  pub frames : a.frames ≡ []
  pub bytes : a.bytes ≡ 0

-- nothing but one activation more, behind the others, which is at its start and has made no instruction
pub record IsStart (trace : ℕ) (inputs : List Value) (answers : List Answer) (old new : Sessioned) (i : ℕ) : Type 0 where
  pub fit : Starts old.set trace inputs
  pub number : i ≡ length old.activations
  pub few : i < 16
  pub answers_few : length answers ≤ 4096
  pub set : new.set ≡ old.set
  pub optimised : new.optimised ≡ old.optimised
  pub image : new.image ≡ old.image
  pub arena_bytes : new.arena_bytes ≡ old.arena_bytes
  pub count : length new.activations ≡ length old.activations + 1
  pub starts : StartsWith trace inputs answers old new
  pub quiet : Shows i new (λ (a : Active). a.machine.instructions ≡ 0)
  pub fresh : Shows i new (IsFresh trace inputs answers old.image.attached)
  pub earlier : EarlierStay old new

abbrev pub Started : ℕ → List Value → List Answer → Sessioned → Sessioned → Result ℕ StartFault → Type 0
Started trace inputs answers old new (Ok i) = IsStart trace inputs answers old new i
Started trace inputs answers old new (Err f) = StartRefused trace inputs answers old f × (new ≡ old)
