-- The constants of a set are machine words. Definitions speak of whole numbers, so it is said where code is to follow.
use Rattle.std.specs.List.{All}
use Rattle.trace_ops.specs.declared.trace.Arg.{Arg}
use Rattle.trace_ops.specs.declared.trace.Arg.TheVariants as arg
use Rattle.trace_ops.specs.declared.trace.Frame.{Frame}
use Rattle.trace_ops.specs.declared.trace.Op.{Op}
use Rattle.trace_ops.specs.declared.trace.Trace.{Trace}
use Rattle.trace_ops.specs.declared.trace.TraceSet.{TraceSet}
use Rattle.trace_ops.specs.declared.table.Initial.{Initial}
use Rattle.trace_ops.specs.declared.table.Initial.TheVariants as initial
use Rattle.trace_ops.specs.declared.table.PrebuiltRow.{PrebuiltRow}
use Rattle.trace_ops.specs.Words.{IsWord}

-- an argument, where it is a constant integer, is a word
abbrev pub ArgHasWord : Arg → Type 0
ArgHasWord (arg.Const z) = IsWord z
ArgHasWord _ = Unit {0}

-- a part of a prebuilt object, where it is an integer, is a word
abbrev pub InitialHasWord : Initial → Type 0
InitialHasWord (initial.Int z) = IsWord z
InitialHasWord _ = Unit {0}

-- the integers in the arguments and in the snapshots of all traces, and those of prebuilt objects, are words
pub record HasWords (set : TraceSet) : Type 0 where
  pub args : All (λ (t : Trace). All (λ (op : Op). All ArgHasWord op.args) t.ops) set.traces
  pub slots : All (λ (t : Trace). All (λ (op : Op). All (λ (f : Frame). All ArgHasWord f.slots) op.snapshot) t.ops) set.traces
  pub initials : All (λ (row : PrebuiltRow). All InitialHasWord row.parts) set.table.prebuilts
