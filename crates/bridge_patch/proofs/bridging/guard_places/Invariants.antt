use Rattle.std.proofs.Common.{◌≡◌, drop}
use Rattle.bridge_patch.specs.Bridging.{places_by}
use Rattle.bridge_patch.proofs.bridging.guard_places.Given as goal

abbrev pub invariant-loop-row : goal.invariant-loop-row
invariant-loop-row l = places_by l.source l.half (drop l.row-index l.rows) ≡ places_by l.source l.half l.rows
