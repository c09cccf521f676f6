use Rattle.std.proofs.Common.{◌≡◌, drop}
use Rattle.bridge_patch.specs.Attached.{begin_among}
use Rattle.bridge_patch.proofs.attaching.begin_among.Given as goal

abbrev pub invariant-loop-here : goal.invariant-loop-here
invariant-loop-here l = begin_among (drop l.here-index l.heres) l.id ≡ begin_among l.heres l.id
