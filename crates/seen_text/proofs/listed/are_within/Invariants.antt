use Rattle.std.proofs.Common.{drop}
use Rattle.heap_shape.specs.Visiting.{AreWithin}
use Rattle.seen_text.proofs.listed.are_within.Given as goal

abbrev pub invariant-loop-value : goal.invariant-loop-value
invariant-loop-value l = AreWithin l.count (drop l.value-index l.values) → AreWithin l.count l.values
