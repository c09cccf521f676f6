use Rattle.std.proofs.Common.{◌≡◌, ◌+◌, ◌≤◌, drop}
use Rattle.bridge_patch.specs.Bridging.{first_call}
use Rattle.bridge_patch.proofs.entry.first_call.Given as goal

abbrev pub invariant-loop-op : goal.invariant-loop-op
invariant-loop-op l = (l.place + first_call (drop l.op-index l.ops) ≡ first_call l.ops) × (l.place ≤ l.op-index)
