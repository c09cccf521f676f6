-- What shows of a run: its state, its objects, its calls and the bytes that it has allocated.
use Rattle.std.specs.Prelude.{ℕ, ◌-◌, List, [], ◌∷◌, Option, Some, None, length, slice_get, take, drop, filter}
use Rattle.trace_ops.specs.declared.trace.Frame.{Frame}
use Rattle.trace_ops.specs.declared.trace.Op.{Op}
use Rattle.trace_ops.specs.declared.trace.TraceSet.{TraceSet}
use Rattle.trace_ops.specs.Classes.{is_guard}
use Rattle.trace_meaning.specs.declared.value.Value.{Value}
use Rattle.trace_meaning.specs.declared.value.Store.{Store}
use Rattle.trace_meaning.specs.declared.call.CallEvent.{CallEvent}
use Rattle.trace_meaning.specs.declared.state.RecFrame.{RecFrame}
use Rattle.trace_meaning.specs.declared.state.RecState.{RecState}
use Rattle.trace_meaning.specs.declared.state.RecState.TheVariants as state
use Rattle.trace_meaning.specs.World.{World, events, bytes_in}
use Rattle.trace_meaning.specs.Legs.{Leave, Fails, Jumps, Finishes, Waits, Misfits, Wrong, In, Over}
use Rattle.trace_meaning.specs.Recorded.{RecordedNow, ops_at}

-- the frames of a guard, outermost first, each with as many of the values as it has slots
abbrev pub frames_with : List Frame → List Value → List RecFrame
frames_with [] vs = []
frames_with (f ∷ fs) vs = record { name = f.name; pc = f.pc; slots = take (length f.slots) vs } ∷ frames_with fs (drop (length f.slots) vs)

abbrev pub frames_of_guard : Option Op → List Value → List RecFrame
frames_of_guard None vs = []
frames_of_guard (Some op) vs = frames_with op.snapshot vs

-- guard n of some operations, from 0
abbrev pub guard_in : List Op → ℕ → Option Op
guard_in ops n = slice_get (filter (λ (op : Op). is_guard op.code) ops) n

abbrev pub frames_at : TraceSet → ℕ → ℕ → List Value → List RecFrame
frames_at set p n vs = frames_of_guard (guard_in (ops_at set p) n) vs

abbrev pub first_value : List Value → Option Value
first_value vs = slice_get vs 0

-- how a run that was left so has ended in a trace; a jump ends no run
abbrev pub ended : TraceSet → ℕ → Leave → RecState
ended set p (Fails n vs w) = state.Exited p n (frames_at set p n vs)
ended set p (Finishes vs w) = state.Finished (first_value vs)
ended set p (Waits w) = state.Waits
ended set p (Misfits w) = state.Misfit (length w.log - 1)
ended set p (Wrong w) = state.Wrong
ended set p (Jumps vs w) = state.Wrong

abbrev pub state_of : TraceSet → RecordedNow → RecState
state_of set (In p rest s) = state.Going
state_of set (Over p l) = ended set p l

abbrev pub world_left : Leave → World
world_left (Fails n vs w) = w
world_left (Jumps vs w) = w
world_left (Finishes vs w) = w
world_left (Waits w) = w
world_left (Misfits w) = w
world_left (Wrong w) = w

abbrev pub world_of : RecordedNow → World
world_of (In p rest s) = s.world
world_of (Over p l) = world_left l

abbrev pub store_of : RecordedNow → Store
store_of now = record { objects = (world_of now).objects }

-- the calls so far
abbrev pub calls_of : RecordedNow → List CallEvent
calls_of now = events (world_of now).log

-- the bytes allocated so far
abbrev pub bytes_of : TraceSet → RecordedNow → ℕ
bytes_of set now = bytes_in set.table (world_of now)

-- The roots of an end, in order: the prebuilt objects; of each call its arguments, what it saw and what it gave; then
-- the finish value or the slots of the frames, outermost first

abbrev pub given_root : Option Value → List Value
given_root None = []
given_root (Some x) = x ∷ []
