use Rattle.std.proofs.Common.{◌≡◌, ◌≤◌, ◌+◌, drop}
use Rattle.bridge_patch.specs.Pieces.{exits_in}
use Rattle.bridge_patch.proofs.layout.exits_in.Given as goal

abbrev pub invariant-loop-op : goal.invariant-loop-op
invariant-loop-op l = (l.count + exits_in (drop l.op-index l.ops) ≡ exits_in l.ops) × (l.count ≤ l.op-index)
