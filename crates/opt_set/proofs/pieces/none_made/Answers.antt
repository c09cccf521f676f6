use Rattle.opt_set.proofs.Stepping.{one_replicated}
use Rattle.opt_set.proofs.pieces.none_made.Goals as goal

pub loop-place-preserved : goal.loop-place-preserved
loop-place-preserved c = one_replicated _ _ _ _ c.loop-place.invariant c.in_ok-push.ensures.items
