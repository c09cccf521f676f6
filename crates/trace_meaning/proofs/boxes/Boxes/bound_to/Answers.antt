use Rattle.std.proofs.Common.{◌≤◌, length, min, arith}
use Rattle.trace_meaning.proofs.Binding.{bound_all}
use Rattle.trace_meaning.proofs.boxes.Boxes.bound_to.Goals as goal

pub returns : goal.returns
returns c =
    let past : min (length c.args.boxes.now) (length c.args.values.now) ≤ c.loop-k.k = omega arith in
    bound_all _ _ c.args.boxes.now c.args.values.now c.loop-k.k past c.loop-k.invariant
