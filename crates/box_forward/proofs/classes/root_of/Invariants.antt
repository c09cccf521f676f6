use Rattle.std.proofs.Common.{◌≡◌, ◌<◌, length}
use Rattle.box_forward.specs.Trees.{root}
use Rattle.box_forward.proofs.classes.root_of.Given as goal

abbrev pub invariant-loop-left : goal.invariant-loop-left
invariant-loop-left l = record {
  found : root l.left l.parents l.at ≡ root l.links l.parents l.node;
  within : l.at < length l.parents;
}

abbrev pub decreases-loop-left : goal.decreases-loop-left
decreases-loop-left l = l.left
