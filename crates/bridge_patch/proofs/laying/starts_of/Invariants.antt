use Rattle.std.proofs.Common.{◌≡◌, ◌++◌, drop}
use Rattle.bridge_patch.specs.Planning.{starts_of}
use Rattle.bridge_patch.proofs.laying.starts_of.Given as goal

abbrev pub invariant-loop-plan : goal.invariant-loop-plan
invariant-loop-plan l = l.starts.items ++ starts_of (drop l.plan-index l.plans) ≡ starts_of l.plans
