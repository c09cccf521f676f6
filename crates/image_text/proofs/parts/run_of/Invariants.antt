use Rattle.std.proofs.Common.{◌≡◌, ◌+◌, drop}
use Rattle.image_text.specs.Parted.{run_of}
use Rattle.image_text.proofs.parts.run_of.Given as goal

abbrev pub invariant-loop-k : goal.invariant-loop-k
invariant-loop-k l = l.k + run_of l.bridge (drop l.k l.rows) ≡ run_of l.bridge l.rows
