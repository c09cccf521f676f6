use Rattle.trace_ops.proofs.weights.+along.Given as goal

abbrev pub decreases-along : goal.decreases-along
decreases-along l = l.left
