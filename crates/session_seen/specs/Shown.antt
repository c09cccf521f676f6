-- What is shown of an activation: its state and what it has cost, as text.
use Rattle.std.specs.Prelude.{ℕ, ◌-◌, ◌*◌, Option, Some, None, List, [], ◌++◌, length}
use Rattle.trace_ops.specs.declared.table.Table.{Table}
use Rattle.trace_ops.specs.declared.trace.TraceSet.{TraceSet}
use Rattle.trace_meaning.specs.declared.value.Object.{Object}
use Rattle.trace_meaning.specs.declared.state.RecFrame.{RecFrame}
use Rattle.trace_meaning.specs.declared.state.RecState.{RecState}
use Rattle.trace_meaning.specs.declared.state.RecState.TheVariants as state
use Rattle.arena_objects.specs.ReadBack.{objects_in}
use Rattle.arena_objects.specs.Starting.{first_words}
use Rattle.opt_meaning.specs.declared.costs.Counts.{Counts}
use Rattle.image_runs.specs.Session.{End, Shows, Full, Waiting, Misfitting, Lost, Activation}
use Rattle.seen_text.specs.declared.seen.Seen.{Seen}
use Rattle.seen_text.specs.declared.seen.Seen.TheVariants as seen
use Rattle.seen_text.specs.States.{seen_text}
use Rattle.seen_text.specs.Counted.{counts_text}

-- an end that is shown is a finish or an exit
abbrev pub state_seen : RecState → Seen
state_seen (state.Finished value) = seen.Finished value
state_seen (state.Exited p n frames) = seen.Exited p n
state_seen s = seen.Going

abbrev pub end_seen : Option End → Seen
end_seen None = seen.Going
end_seen (Some (Shows s store)) = state_seen s
end_seen (Some (Full asked left)) = seen.Full asked left
end_seen (Some Waiting) = seen.Waits
end_seen (Some (Misfitting call)) = seen.Misfit call
end_seen (Some (Lost at)) = seen.Wrong (Some at)

abbrev pub frames_of : RecState → List RecFrame
frames_of (state.Exited p n frames) = frames
frames_of s = []

-- the frames of an exit
abbrev pub frames_seen : Option End → List RecFrame
frames_seen (Some (Shows s store)) = frames_of s
frames_seen (Some (Full asked left)) = []
frames_seen (Some Waiting) = []
frames_seen (Some (Misfitting call)) = []
frames_seen (Some (Lost at)) = []
frames_seen None = []

-- the objects of an end that is shown; else those of the arena
abbrev pub objects_seen : Table → Activation → Option End → List Object
objects_seen t x (Some (Shows s store)) = store.objects
objects_seen t x (Some (Full asked left)) = objects_in t x.machine.arena
objects_seen t x (Some Waiting) = objects_in t x.machine.arena
objects_seen t x (Some (Misfitting call)) = objects_in t x.machine.arena
objects_seen t x (Some (Lost at)) = objects_in t x.machine.arena
objects_seen t x None = objects_in t x.machine.arena

-- the machine's counts, and the bytes that were taken behind the prebuilt objects
abbrev pub costs_of : Table → Activation → Counts
costs_of t x = record {
  instructions = x.machine.instructions;
  bytes = x.machine.arena.taken - 8 * length (first_words t);
  loads = x.machine.loads;
  stores = x.machine.stores;
}

-- its state with frames, calls and cells, and the counts line
abbrev pub activation_text : TraceSet → List ℕ → Activation → List ℕ
activation_text set name x =
    seen_text name set (end_seen x.end) (frames_seen x.end) x.calls.log (objects_seen set.table x x.end) ++ counts_text (costs_of set.table x)
