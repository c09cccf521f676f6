use Rattle.std.proofs.Common.{◌≡◌, None, replicate}
use Rattle.opt_set.proofs.pieces.none_made.Given as goal

abbrev pub invariant-loop-place : goal.invariant-loop-place
invariant-loop-place l = l.left.items ≡ replicate l.place None
