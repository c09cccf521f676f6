use Rattle.std.proofs.Common.{◌≤◌, length, min, arith}
use Rattle.opt_pass.specs.Starting.{entered_val}
use Rattle.opt_pass.proofs.Filling.{fills_all}
use Rattle.opt_pass.proofs.stores.add_fills.Goals as goal

pub returns : goal.returns
returns c =
    let past : min (length c.args.spots.now) (length c.args.parts.now) ≤ c.loop-k.k = omega arith in
    fills_all _ _ _ (entered_val c.args.entering.now) c.args.spots.now c.args.parts.now c.loop-k.k past c.loop-k.invariant
