use Rattle.std.proofs.Common.{◌≡◌, drop}
use Rattle.resume_numbering.specs.Fitting.{ops_fit}
use Rattle.resume_numbering.proofs.tests.fitting.ops_fit.Given as goal

abbrev pub invariant-loop-k : goal.invariant-loop-k
invariant-loop-k l = ops_fit l.kinds 0 l.ops ≡ ops_fit l.kinds l.k (drop l.k l.ops)
