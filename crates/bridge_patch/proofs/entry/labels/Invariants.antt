use Rattle.std.proofs.Common.{◌≡◌, ◌++◌, drop}
use Rattle.linear_scan.specs.Placed.{to_at}
use Rattle.bridge_patch.specs.Bridging.{labels_from}
use Rattle.bridge_patch.proofs.entry.labels.Given as goal

abbrev pub invariant-loop-b : goal.invariant-loop-b
invariant-loop-b l = l.label.items ++ labels_from (to_at l.lives) l.call l.base l.b (drop l.b l.guards) ≡ labels_from (to_at l.lives) l.call l.base 0 l.guards
