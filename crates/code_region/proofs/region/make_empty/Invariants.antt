use Rattle.std.proofs.Common.{◌≡◌, [], replicate}
use Rattle.code_region.proofs.region.make_empty.Given as goal

abbrev pub invariant-loop-k : goal.invariant-loop-k
invariant-loop-k l = l.made.items ≡ replicate l._k []
