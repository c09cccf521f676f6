use Rattle.std.proofs.Common.{drop}
use Rattle.bridge_patch.specs.Bridging.{copies_by}
use Rattle.bridge_patch.proofs.Patching.{PatchesSoFar}
use Rattle.bridge_patch.proofs.attaching.patches.Given as goal

abbrev pub invariant-loop-row : goal.invariant-loop-row
invariant-loop-row l = PatchesSoFar l.bridge l.code.bytes l.heres (copies_by l.source l.rows) (copies_by l.source (drop l.row-index l.rows)) l.patches.items
