use Rattle.opt_set.specs.Loops.{IsMadeTo}
use Rattle.opt_set.proofs.pieces.OptimisedSet.new.Given as goal

abbrev pub invariant-loop-trace : goal.invariant-loop-trace
invariant-loop-trace l = IsMadeTo l.checked l.trace l.made
