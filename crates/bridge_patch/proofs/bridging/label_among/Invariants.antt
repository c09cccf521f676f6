use Rattle.std.proofs.Common.{◌≡◌, drop}
use Rattle.bridge_patch.specs.Bridging.{label_among}
use Rattle.bridge_patch.proofs.bridging.label_among.Given as goal

abbrev pub invariant-loop-here : goal.invariant-loop-here
invariant-loop-here l = label_among (drop l.here-index l.heres) l.id ≡ label_among l.heres l.id
