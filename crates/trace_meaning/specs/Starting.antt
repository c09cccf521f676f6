-- From where a run starts.
use Rattle.std.specs.Prelude.{◌≡◌, ℕ, ◌<◌, ◌≤◌, List, map, length, slice_get}
use Rattle.std.specs.List.{All}
use Rattle.std.specs.Option.{IsSomeAnd}
use Rattle.trace_ops.specs.declared.trace.BoxId.{BoxId}
use Rattle.trace_ops.specs.declared.trace.Origin.TheVariants.{Loop}
use Rattle.trace_ops.specs.declared.trace.Trace.{Trace}
use Rattle.trace_ops.specs.declared.trace.TraceSet.{TraceSet}
use Rattle.trace_ops.specs.declared.table.Table.{Table}
use Rattle.trace_meaning.specs.declared.value.Value.{Value}
use Rattle.trace_meaning.specs.declared.value.Value.TheVariants as v
use Rattle.trace_meaning.specs.declared.call.Answer.{Answer}
use Rattle.trace_meaning.specs.Values.{kind_of_value}
use Rattle.trace_meaning.specs.Cuts.{Cuts}
use Rattle.trace_meaning.specs.Recorded.{started}
use Rattle.trace_meaning.specs.Standing.{Run}

-- at most 256 traces, each of at most 8192 operations
pub record IsSmall (set : TraceSet) : Type 0 where
  pub few : length set.traces ≤ 256
  pub short : All (λ (t : Trace). length t.ops ≤ 8192) set.traces

-- an object is a prebuilt one
abbrev pub IsPrebuiltOrNone : Table → Value → Type 0
IsPrebuiltOrNone t (v.Int z) = Unit {0}
IsPrebuiltOrNone t v.Null = Unit {0}
IsPrebuiltOrNone t (v.Obj n) = n < length t.prebuilts

abbrev pub StartsLoop : Table → List Value → Trace → Type 0
StartsLoop t inputs trace = (trace.origin ≡ Loop) × (map kind_of_value inputs ≡ map (λ (b : BoxId). b.kind) trace.inputs) × All (IsPrebuiltOrNone t) inputs

-- the trace is a loop, inputs of its kinds are given, and each object among them is a prebuilt one
abbrev pub Starts : TraceSet → ℕ → List Value → Type 0
Starts set start inputs = IsSomeAnd (slice_get set.traces start) (StartsLoop set.table inputs)

-- the run at its start
abbrev pub begun : TraceSet → ℕ → List Value → List Answer → Cuts → Run
begun set start inputs answers cuts = record { set = set; cuts = cuts; now = started set start inputs answers cuts }
