use Rattle.resume_numbering.proofs.NumberLemmas.{SoFar}
use Rattle.resume_numbering.proofs.numbering.number_ops.Given as goal

abbrev pub invariant-loop-op : goal.invariant-loop-op
invariant-loop-op l = SoFar l.ops l.op-index l.so_far
