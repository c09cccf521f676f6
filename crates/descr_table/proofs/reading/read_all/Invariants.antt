use Rattle.std.proofs.Common.{length}
use Rattle.text_lines.specs.Lines.{lines}
use Rattle.lists.specs.Refused.{read_lines}
use Rattle.descr_table.specs.Meaning.{nothing}
use Rattle.descr_table.specs.Reading.{read_line}
use Rattle.descr_table.specs.Draft.{table_of, IsDraft}
use Rattle.descr_table.proofs.Steps.{SoFar}
use Rattle.descr_table.proofs.reading.read_all.Given as goal

abbrev pub invariant-loop-rest : goal.invariant-loop-rest
invariant-loop-rest l = SoFar l.defined (read_lines (read_line l.defined) l.first_line (lines l.text) nothing) l.number l.rest (table_of l.draft) × IsDraft l.draft

abbrev pub decreases-loop-rest : goal.decreases-loop-rest
decreases-loop-rest l = length l.rest
