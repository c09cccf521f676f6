-- What an activation on the printed image promises, beside the recorded run of the trace that it was started for.
use Rattle.std.specs.Prelude.{◌≡◌, ℕ, ◌+◌, ◌-◌, ◌*◌, ◌^◌, ◌<◌, ◌≤◌, ◌⊎◌, List, [], Option, Some, None, length, min}
use Rattle.trace_ops.specs.declared.table.Table.{Table}
use Rattle.trace_ops.specs.declared.trace.TraceSet.{TraceSet}
use Rattle.trace_meaning.specs.declared.call.CallEvent.{CallEvent}
use Rattle.trace_meaning.specs.declared.state.RecState.TheVariants as state
use Rattle.trace_meaning.specs.Cuts.{Cuts}
use Rattle.trace_meaning.specs.Laws.{most_operations}
use Rattle.trace_meaning.specs.Legs.{Leave, Over}
use Rattle.trace_meaning.specs.Observed.{world_of}
use Rattle.trace_meaning.specs.Recorded.{RecordedNow}
use Rattle.trace_meaning.specs.World.{Logged, events}
use Rattle.heap_shape.specs.Shown.{Shown, shown, recorded_shown}
use Rattle.opt_meaning.specs.Composing.{IsWrong}
use Rattle.opt_meaning.specs.Laws.{BegunBy, IsWrongNow}
use Rattle.opt_promise.specs.Promise.{trace_after}
use Rattle.arena_objects.specs.Making.{bytes_left}
use Rattle.image_runs.specs.Session.{Calls, End, Shows, Full, Waiting, Misfitting, Lost, Activation}

-- the recorded run of an activation's trace, from its inputs, with the answers that it was given, after so many operations
abbrev pub trace_of : TraceSet → Cuts → Activation → ℕ → RecordedNow
trace_of set cuts act n = trace_after set cuts act.trace act.inputs act.given n

-- What an end shows, with the calls so far: its kind, its guard, frames and values, the calls and the cells, numbered by the listing.
-- Where more bytes are asked for than are left nothing is shown, and a lost machine shows nothing.
abbrev pub end_shown : Table → Calls → End → Option Shown
end_shown t c (Shows s store) = Some (shown t s store.objects c.log)
end_shown t c Waiting = Some (shown t state.Waits [] c.log)
end_shown t c (Misfitting call) = Some (shown t (state.Misfit call) [] c.log)
end_shown t c (Full asked left) = None
end_shown t c (Lost at) = None

-- How an activation has ended, which has made m instructions.
pub data EndsRightly (set : TraceSet) (cuts : Cuts) (act : Activation) : End → Type 0 where
  -- within m + 1 times as many operations as the longest trace has, the recorded run has ended, isn't wrong, and shows the same
  As_trace : (end : End) (n r : ℕ) (l : Leave) → n ≤ (act.machine.instructions + 1) * most_operations set → trace_of set cuts act n ≡ Over r l → ¬ IsWrong l → end_shown set.table act.calls end ≡ Some (recorded_shown set (Over r l))
      → EndsRightly set cuts act end
  -- the arena has fewer bytes left than a new object takes
  Wants_bytes : (asked left : ℕ) → left ≡ bytes_left act.machine.arena → left < asked → EndsRightly set cuts act (Full asked left)
  -- or than the objects take that a failed guard rebuilds; the recorded run has ended
  Wants_bytes_to_show : (wanted n r : ℕ) (l : Leave) → bytes_left act.machine.arena < wanted → n ≤ (act.machine.instructions + 1) * most_operations set → trace_of set cuts act n ≡ Over r l → ¬ IsWrong l
      → EndsRightly set cuts act (Full (min wanted (2 ^ 64 - 1)) (bytes_left act.machine.arena))
  -- the recorded run goes wrong, and nothing is said
  Of_wrong_trace : (end : End) (n r : ℕ) (l : Leave) → trace_of set cuts act n ≡ Over r l → IsWrong l → EndsRightly set cuts act end

-- these calls, each beside one that was recorded, begin the recorded ones
pub record HaveBeenMade (prebuilts : ℕ) (recorded : List Logged) (calls : List CallEvent) : Type 0 where
  pub log : List Logged
  pub same : calls ≡ events log
  pub begun : BegunBy prebuilts recorded log

-- Of a trace under an activation's cuts, on code of so many bytes.
pub record KeepsToItsTrace (set : TraceSet) (cuts : Cuts) (bytes : ℕ) (act : Activation) : Type 0 where
  -- forward: where the recorded run has ended after n operations and isn't wrong, what has made n + 1 times as many instructions as
  -- there are bytes has ended
  pub forward : (n r : ℕ) (l : Leave) → trace_of set cuts act n ≡ Over r l → ¬ IsWrong l → (n + 1) * bytes ≤ act.machine.instructions → (end : End) × (act.end ≡ Some end)
  -- backward: what has ended shows what its trace shows
  pub ended : (end : End) → act.end ≡ Some end → EndsRightly set cuts act end
  -- what goes on has made calls that the recorded run makes, in their order, unless that is wrong
  pub going : act.end ≡ None → (m : ℕ) × ((n : ℕ) → m * most_operations set ≤ n
      → IsWrongNow (trace_of set cuts act n) ⊎ HaveBeenMade (length set.table.prebuilts) (world_of (trace_of set cuts act n)).log act.calls.log)
