use Rattle.std.proofs.Common.{◌≡◌, drop}
use Rattle.trace_meaning.specs.Observed.{guard_in}
use Rattle.trace_meaning.proofs.frames.guard_in.Given as goal

abbrev pub invariant-loop-op : goal.invariant-loop-op
invariant-loop-op l = guard_in (drop l.op-index l.ops) l.left ≡ guard_in l.ops l.n
