use Rattle.std.proofs.Common.{◌≡◌, ◌+◌, ◌*◌, ◌++◌, drop}
use Rattle.bridge_patch.specs.Pieces.{exits_in}
use Rattle.bridge_patch.specs.Planning.{start_listed, targets_from}
use Rattle.bridge_patch.proofs.layout.targets.Given as goal

abbrev pub invariant-loop-op : goal.invariant-loop-op
invariant-loop-op l =
    (l.to.items ++ targets_from (start_listed l.starts) l.stub (drop l.op-index l.ops) ≡ targets_from (start_listed l.starts) l.stubs l.ops)
    × (l.stub + 16 * exits_in (drop l.op-index l.ops) ≡ l.stubs + 16 * exits_in l.ops)
