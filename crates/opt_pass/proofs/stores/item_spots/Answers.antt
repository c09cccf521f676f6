use Rattle.std.proofs.Common.{[], ◌∷◌, ◌++◌, ap, ◌∙◌}
use Rattle.opt_pass.proofs.Filling.{items_more}
use Rattle.opt_pass.proofs.stores.item_spots.Goals as goal

pub loop-k-preserved : goal.loop-k-preserved
loop-k-preserved c = items_more c.loop-k.out.items _ c.args.array c.loop-k.k c.args.count c.loop-k-test.true (c.in_ok-push.ensures.items ∙ ap (λ z. c.loop-k.out.items ++ z ∷ []) c.item_spot.ensures) c.loop-k.invariant
