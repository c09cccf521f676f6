use Rattle.std.proofs.Common.{◌≡◌, drop}
use Rattle.trace_text.specs.Draft.{repeats}
use Rattle.trace_text.proofs.reading.repeats.Given as goal

abbrev pub invariant-loop-value : goal.invariant-loop-value
invariant-loop-value l = repeats (drop l.value-index l.values) l.rest ≡ repeats l.values l.inputs
