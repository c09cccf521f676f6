-- What holds of every run.
use Rattle.std.specs.Prelude.{◌≡◌, ◌↔◌, ℕ, ◌+◌, ◌-◌, ◌<◌, ◌≤◌, true, List, [], ◌∷◌, ◌++◌, Some, IsSome, length, map, max}
use Rattle.std.specs.List.{All}
use Rattle.trace_ops.specs.declared.trace.Trace.{Trace}
use Rattle.trace_ops.specs.declared.trace.TraceSet.{TraceSet}
use Rattle.trace_ops.specs.WellFormed.{IsWellFormed}
use Rattle.trace_meaning.specs.declared.value.Value.{Value}
use Rattle.trace_meaning.specs.declared.call.Answer.{Answer}
use Rattle.trace_meaning.specs.World.{World}
use Rattle.trace_meaning.specs.Cuts.{Cuts, Sees, is_bridge_of, seen_bridge}
use Rattle.trace_meaning.specs.Legs.{Waits, Misfits, Over, run}
use Rattle.trace_meaning.specs.Recorded.{RecordedNow, ops_at, recorded, recorded_run, prebuilt_object, first_world}
use Rattle.trace_meaning.specs.Observed.{world_of}
use Rattle.trace_meaning.specs.Growing.{IsLonger, extent, extents, StepsGrow}
use Rattle.trace_meaning.specs.RunLaws.{MakesLeg, IsShort, RunLaws}
use Rattle.trace_meaning.specs.Sound.{HasWord, AnswersWords, CanBegin}
use Rattle.trace_meaning.specs.Starting.{Starts}
use Rattle.trace_ops.specs.InRange.{IsInRange}
use Rattle.trace_ops.specs.Constants.{HasWords}

-- What only grows

-- operations add calls behind those that were made, and change none of these
abbrev pub CallsAreKept : Type 0
CallsAreKept = (set : TraceSet) (cuts : Cuts) (x : RecordedNow) (n : ℕ) → IsLonger (world_of x).log (world_of (run (recorded set cuts) n x)).log

-- operations add objects behind those that there are, and these keep their shapes and numbers of parts
abbrev pub ObjectsAreKept : Type 0
ObjectsAreKept = (set : TraceSet) (cuts : Cuts) (x : RecordedNow) (n : ℕ) → IsLonger (extents (world_of x)) (extents (world_of (run (recorded set cuts) n x)))

abbrev pub NoFewerObjects : Type 0
NoFewerObjects = (set : TraceSet) (cuts : Cuts) (x : RecordedNow) (n : ℕ) → length (world_of x).objects ≤ length (world_of (run (recorded set cuts) n x)).objects

-- the objects of the table are the first ones in every run
abbrev pub PrebuiltsStayFirst : Type 0
PrebuiltsStayFirst =
    (set : TraceSet) (start : ℕ) (inputs : List Value) (answers : List Answer) (cuts : Cuts) (n : ℕ)
    → IsLonger (map (λ row. extent (prebuilt_object row)) set.table.prebuilts) (extents (world_of (recorded_run set start inputs answers cuts n)))

-- Answers

-- how many calls have taken an answer: all, but not the one at which a run waits, or whose answer doesn't fit
abbrev pub calls_answered : RecordedNow → ℕ
calls_answered (Over p (Waits w)) = length w.log - 1
calls_answered (Over p (Misfits w)) = length w.log - 1
calls_answered now = length (world_of now).log

-- the answers are those that calls have taken, one a call, and those that are left
abbrev pub AnswersAreCounted : Type 0
AnswersAreCounted =
    (set : TraceSet) (start : ℕ) (inputs : List Value) (answers : List Answer) (cuts : Cuts) (n : ℕ)
    → (used : List Answer)
    × (answers ≡ used ++ (world_of (recorded_run set start inputs answers cuts n)).answers)
    × (length used ≡ calls_answered (recorded_run set start inputs answers cuts n))

-- Legs

-- the greatest number of operations of a trace of the set
abbrev pub longest : List Trace → ℕ
longest [] = 0
longest (t ∷ ts) = max (length t.ops) (longest ts)

abbrev pub most_operations : TraceSet → ℕ
most_operations set = longest set.traces

-- each leg of a well-formed set is at most that many operations, or one where there is no trace
abbrev pub LegsAreShort : Type 0
LegsAreShort = (set : TraceSet) (cuts : Cuts) (most : ℕ) → IsWellFormed set → 1 ≤ most → most_operations set ≤ most → IsShort (recorded set cuts) most

-- recorded runs are as any runs, and only add
abbrev pub RecordedRuns : Type 0
RecordedRuns = (set : TraceSet) (cuts : Cuts) → RunLaws (recorded set cuts) × StepsGrow (recorded set cuts)

-- a leg of a trace is at most as many operations as the trace has, and goes wrong by one more where it doesn't end
abbrev pub LegsAreRuns : Type 0
LegsAreRuns = (set : TraceSet) (cuts : Cuts) (p : ℕ) (vs : List Value) (w : World) → MakesLeg (recorded set cuts) p vs w (length (ops_at set p) + 1)

abbrev pub WellFormedLegsAreRuns : Type 0
WellFormedLegsAreRuns =
    (set : TraceSet) (cuts : Cuts) (p : ℕ) (vs : List Value) (w : World)
    → IsWellFormed set → p < length set.traces → MakesLeg (recorded set cuts) p vs w (length (ops_at set p))

-- Bridges

-- what a failure goes into is a bridge of the guard that it sees
abbrev pub SeenIsBridge : Type 0
SeenIsBridge =
    (traces : List Trace) (cuts : Cuts) (p n k b : ℕ) → seen_bridge traces cuts p n k ≡ Some b → (is_bridge_of traces p n b ≡ true) × Sees cuts k b

-- a failure goes into a bridge exactly where it sees one of the guard
abbrev pub SeesWhereThereIsOne : Type 0
SeesWhereThereIsOne =
    (traces : List Trace) (cuts : Cuts) (p n k : ℕ) → IsSome (seen_bridge traces cuts p n k) ↔ ((b : ℕ) × (is_bridge_of traces p n b ≡ true) × Sees cuts k b)

-- Starts

-- a run of a set in range whose constants are words starts where its loop can begin
abbrev pub StartsCanBegin : Type 0
StartsCanBegin =
    (set : TraceSet) (start : ℕ) (inputs : List Value) (answers : List Answer) → IsInRange set → HasWords set → All HasWord inputs → All AnswersWords answers
    → Starts set start inputs → CanBegin set start inputs (first_world set.table answers)
