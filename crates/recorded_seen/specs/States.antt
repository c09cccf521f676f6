-- What is seen of a recorded run.
use Rattle.std.specs.Prelude.{ℕ, None, List, []}
use Rattle.trace_ops.specs.declared.trace.TraceSet.{TraceSet}
use Rattle.trace_meaning.specs.declared.state.RecFrame.{RecFrame}
use Rattle.trace_meaning.specs.declared.state.RecState.{RecState}
use Rattle.trace_meaning.specs.declared.state.RecState.TheVariants as state
use Rattle.trace_meaning.specs.Recorded.{RecordedNow}
use Rattle.trace_meaning.specs.Observed.{state_of, calls_of, world_of}
use Rattle.seen_text.specs.declared.seen.Seen.{Seen}
use Rattle.seen_text.specs.declared.seen.Seen.TheVariants as seen
use Rattle.seen_text.specs.States.{seen_text as activation_text}

-- the state that is shown; a recorded run that goes wrong has no address
abbrev pub shown : RecState → Seen
shown state.Going = seen.Going
shown (state.Finished x) = seen.Finished x
shown (state.Exited p n frames) = seen.Exited p n
shown state.Waits = seen.Waits
shown (state.Misfit call) = seen.Misfit call
shown state.Wrong = seen.Wrong None

-- the frames of an exit
abbrev pub frames_of : RecState → List RecFrame
frames_of state.Going = []
frames_of (state.Finished x) = []
frames_of (state.Exited p n frames) = frames
frames_of state.Waits = []
frames_of (state.Misfit call) = []
frames_of state.Wrong = []

-- what is observed of a run of a set, with the names of the first
unfoldable pub seen_text : List ℕ → TraceSet → TraceSet → RecordedNow → List ℕ
seen_text name names set now = activation_text name names (shown (state_of set now)) (frames_of (state_of set now)) (calls_of now) (world_of now).objects
