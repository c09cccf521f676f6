use Rattle.std.proofs.Common.{◌≡◌, length}
use Rattle.text_lines.specs.Lines.{lines}
use Rattle.descr_table.specs.Reading.{defined_behind, defined_in}
use Rattle.descr_table.proofs.reading.defined_in.Given as goal

abbrev pub invariant-loop-rest : goal.invariant-loop-rest
invariant-loop-rest l = defined_behind l.names (lines l.rest) ≡ defined_in l.text

abbrev pub decreases-loop-rest : goal.decreases-loop-rest
decreases-loop-rest l = length l.rest
