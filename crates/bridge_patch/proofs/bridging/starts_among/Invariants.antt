use Rattle.std.proofs.Common.{◌≡◌, ◌++◌, drop}
use Rattle.bridge_patch.specs.Bridging.{starts_among}
use Rattle.bridge_patch.proofs.bridging.starts_among.Given as goal

abbrev pub invariant-loop-here : goal.invariant-loop-here
invariant-loop-here l = l.starts.items ++ starts_among (drop l.here-index l.heres) ≡ starts_among l.heres
