use Rattle.std.proofs.Common.{◌≡◌, length}
use Rattle.trace_text.specs.Meaning.{has_inside}
use Rattle.trace_text.proofs.refusal.has_inside.Given as goal

abbrev pub invariant-loop-rest : goal.invariant-loop-rest
invariant-loop-rest l = has_inside l.bytes l.rest ≡ has_inside l.bytes l.word

abbrev pub decreases-loop-rest : goal.decreases-loop-rest
decreases-loop-rest l = length l.rest
