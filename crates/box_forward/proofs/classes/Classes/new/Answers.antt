use Rattle.std.proofs.Common.{arith}
use Rattle.box_forward.proofs.ClassLemmas.{forest_new, own_view}
use Rattle.box_forward.proofs.classes.Classes.new.Goals as goal

pub invariant_of-result : goal.invariant_of-result
invariant_of-result c =
    forest_new c.args.boxes c.in_ok-parents.parents.items c.in_ok-sizes.sizes.items c.in_ok-values.values.items (omega arith) c.in_ok-parents.ensures.len c.in_ok-parents.ensures.each c.in_ok-sizes.ensures c.in_ok-values.ensures

pub returns : goal.returns
returns c = own_view c.args.boxes c.in_ok-parents.parents.items c.in_ok-values.values.items c.in_ok-parents.ensures.len c.in_ok-values.ensures
