use Rattle.trace_meaning.specs.Routes.{AreTargets}
use Rattle.trace_meaning.proofs.routes.targets_of.Given as goal

abbrev pub invariant-loop-k : goal.invariant-loop-k
invariant-loop-k l = AreTargets l.set l.k l.targets.items
