use Rattle.std.proofs.Common.{◌≡◌, sym, ◌∙◌, arith}
use Rattle.std.proofs.Common.{get_or}
use Rattle.box_forward.proofs.TreeLemmas.{root_fix}
use Rattle.box_forward.proofs.classes.root_of.Goals as goal

pub returns-then-parent-at-clause-root : goal.returns-then-parent-at-clause-root
returns-then-parent-at-clause-root c =
    let own : get_or c.args.parents.now c.loop-left.at 0 ≡ c.loop-left.at = omega (arith, c.if-parent-at.true) in
    sym (root_fix c.loop-left.left c.args.parents.now c.loop-left.at own) ∙ c.loop-left.invariant.found
