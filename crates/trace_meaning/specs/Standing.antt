-- Where a runner stands, as a run of the definitions.
use Rattle.std.specs.Prelude.{◌≡◌, ℕ, ◌+◌, ◌≤◌, Option, List, length, drop}
use Rattle.trace_ops.specs.declared.trace.BoxId.{BoxId}
use Rattle.trace_ops.specs.declared.trace.Op.{Op}
use Rattle.trace_ops.specs.declared.trace.TraceSet.{TraceSet}
use Rattle.trace_meaning.specs.declared.value.Value.{Value}
use Rattle.trace_meaning.specs.declared.state.RecState.{RecState}
use Rattle.trace_meaning.specs.declared.state.RecState.TheVariants as state
use Rattle.trace_meaning.specs.declared.cursor.Cursor.{Cursor}
use Rattle.trace_meaning.specs.declared.performing.Done.{Done as Outcome}
use Rattle.trace_meaning.specs.declared.performing.Done.TheVariants as outcome
use Rattle.trace_meaning.specs.Kept.{IsOf}
use Rattle.trace_meaning.specs.Legs.{Fails, Finishes, Waits, Misfits, Wrong, In, Over, Turn, On, Off, next}
use Rattle.trace_meaning.specs.Cuts.{Cuts}
use Rattle.trace_meaning.specs.Recorded.{Rec, RecordedNow, ops_at, recorded, recorded_result}
use Rattle.trace_meaning.specs.Observed.{state_of}

-- a state, with what else is known where the run is inside a trace or has left it
abbrev pub standing : RecState → ℕ → List Op → Rec → List Value → RecordedNow
standing state.Going p rest s left = In p rest s
standing (state.Finished x) p rest s left = Over p (Finishes left s.world)
standing (state.Exited q n frames) p rest s left = Over p (Fails n left s.world)
standing state.Waits p rest s left = Over p (Waits s.world)
standing (state.Misfit call) p rest s left = Over p (Misfits s.world)
standing state.Wrong p rest s left = Over p (Wrong s.world)

-- the boxes and all else that an operation sees
abbrev pub rec_of : Cursor → Rec
rec_of c = record { boxes = c.boxes.values.entries; guards = c.guards; world = c.world.world }

abbrev pub rest_of : TraceSet → Cursor → List Op
rest_of set c = drop c.at (ops_at set c.trace)

abbrev pub now_of : TraceSet → Cursor → RecordedNow
now_of set c = standing c.state c.trace (rest_of set c) (rec_of c) c.left.items

-- what holds of a runner of a set
pub record IsStanding (set : TraceSet) (c : Cursor) : Type 0 where
  pub table : IsOf set.table c.world
  pub few : length set.traces ≤ 256
  pub short : (p : ℕ) → length (ops_at set p) ≤ 8192
  pub within : c.at ≤ length (ops_at set c.trace)
  pub guards : c.guards ≤ c.at
  pub shown : c.state ≡ state_of set (now_of set c)

-- a set, its cuts, and where a run of it stands
pub record Run : Type 0 where
  pub set : TraceSet
  pub cuts : Cuts
  pub now : RecordedNow

-- one operation more
abbrev pub stepped : Run → Run
stepped r = record r { now = next (recorded r.set r.cuts) r.now }

-- what a plain operation leads to: it goes on, or ends the run
abbrev pub turned : ℕ → List Op → Turn Rec → RecordedNow
turned p rest (On s) = In p rest s
turned p rest (Off l) = Over p l

-- what came of a plain operation at this place of a trace, in a world that it has changed
abbrev pub settled : TraceSet → ℕ → ℕ → Rec → Option BoxId → Outcome → RecordedNow
settled set p at s to (outcome.Gave x) = turned p (drop (at + 1) (ops_at set p)) (recorded_result to s x s.world)
settled set p at s to outcome.Bad = Over p (Wrong s.world)
settled set p at s to outcome.Waited = Over p (Waits s.world)
settled set p at s to (outcome.Misfitted n) = Over p (Misfits s.world)
