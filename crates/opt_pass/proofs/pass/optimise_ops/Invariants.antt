use Rattle.opt_pass.proofs.Loop.{Reached}
use Rattle.opt_pass.proofs.pass.optimise_ops.Given as goal

abbrev pub invariant-loop-op : goal.invariant-loop-op
invariant-loop-op l = Reached l.table l.inputs l.fn.to l.target l.entry l.ops l.op-index l.pass
