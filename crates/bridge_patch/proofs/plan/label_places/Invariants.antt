use Rattle.std.proofs.Common.{◌≡◌}
use Rattle.bridge_patch.specs.Pieces.{words_from}
use Rattle.bridge_patch.proofs.plan.label_places.Given as goal

abbrev pub invariant-loop-k : goal.invariant-loop-k
invariant-loop-k l = l.places.items ≡ words_from 16 l.k
