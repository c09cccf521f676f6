use Rattle.std.proofs.Common.{length}
use Rattle.trace_text.specs.Sections.{stops}
use Rattle.trace_text.proofs.Cuts.{IsCut}
use Rattle.trace_text.proofs.cut.cut.Given as goal

abbrev pub invariant-loop-rest : goal.invariant-loop-rest
invariant-loop-rest l = IsCut (stops l.until) l.text l.rest l.count

abbrev pub decreases-loop-rest : goal.decreases-loop-rest
decreases-loop-rest l = length l.rest
