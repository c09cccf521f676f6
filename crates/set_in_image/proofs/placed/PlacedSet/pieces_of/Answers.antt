use Rattle.std.proofs.Common.{IfOk, subst}
use Rattle.opt_set.specs.Attaching.{IsGranted}
use Rattle.set_in_image.specs.Placing.{Placing}
use Rattle.set_in_image.proofs.placed.PlacedSet.pieces_of.Goals as goal

pub returns-clause-granted : goal.returns-clause-granted
returns-clause-granted c =
    subst (λ (z : Placing). IfOk c.pieces_of.result (λ made. IsGranted z.set z.optimised.attached c.args.bridge)) c.self.view_is c.pieces_of.ensures.granted
