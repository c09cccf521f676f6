use Rattle.std.proofs.Common.{◌≡◌, ◌++◌, drop, map}
use Rattle.trace_ops.specs.declared.trace.BoxId.{BoxId}
use Rattle.target_base.specs.declared.place.Place.{Place}
use Rattle.bridge_patch.specs.Bridging.{row_places}
use Rattle.bridge_patch.proofs.bridging.row_places.Given as goal

abbrev pub invariant-loop-pair : goal.invariant-loop-pair
invariant-loop-pair l = l.places.items ++ map (λ (x : BoxId × Place). x.1) (drop l.pair-index l.row.places) ≡ row_places l.row
