use Rattle.std.proofs.Common.{drop}
use Rattle.bridge_patch.proofs.Displaced.{Displaces}
use Rattle.bridge_patch.proofs.rows.displacements.Given as goal

abbrev pub invariant-loop-i : goal.invariant-loop-i
invariant-loop-i l = Displaces l.jumps l.count (drop l.i l.jumps) l.ats.items
