use Rattle.std.proofs.Common.{◌≡◌, drop}
use Rattle.bridge_patch.specs.Planning.{start_listed}
use Rattle.bridge_patch.proofs.layout.start_listed.Given as goal

abbrev pub invariant-loop-start : goal.invariant-loop-start
invariant-loop-start l = start_listed (drop l.start-index l.starts) l.id ≡ start_listed l.starts l.id
