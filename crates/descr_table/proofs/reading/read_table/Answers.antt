use Rattle.std.proofs.Common.{◌≡◌, ℕ, List, Result, subst}
use Rattle.trace_ops.specs.declared.table.Table.{Table}
use Rattle.descr_table.specs.declared.fault.TableFault.{TableFault}
use Rattle.text_lines.specs.Lines.{lines}
use Rattle.lists.specs.Refused.{read_lines}
use Rattle.descr_table.specs.Meaning.{nothing}
use Rattle.descr_table.specs.Reading.{defined_in, read_line, table_at, Gives}
use Rattle.descr_table.proofs.LinesKept.{read_in_range}
use Rattle.descr_table.proofs.Defined.{few_defined}
use Rattle.descr_table.proofs.reading.read_table.Goals as goal

pub read_all-requires-clause-small : goal.read_all-requires-clause-small
read_all-requires-clause-small c = few_defined c.args.text.now c.in-Ok.defined c.args.first_line c.in-Ok.ensures c.requires

gives : (r : Result Table TableFault) (d : List (List ℕ)) (first : ℕ) (text : List ℕ) → d ≡ defined_in text → Gives r (read_lines (read_line d) first (lines text) nothing) → Gives r (table_at first text)
unfolding table_at
gives r d first text e h = let P : List (List ℕ) → Type 0 = λ x. Gives r (read_lines (read_line x) first (lines text) nothing) in subst P e h

pub returns-in-Ok-clause-read : goal.returns-in-Ok-clause-read
returns-in-Ok-clause-read c = gives c.read_all.result c.in-Ok.defined c.args.first_line c.args.text.now c.in-Ok.ensures c.read_all.ensures

pub returns-in-Ok-clause-in_range : goal.returns-in-Ok-clause-in_range
returns-in-Ok-clause-in_range c = read_in_range c.lines_are_spelled.ensures c.read_all.result c.args.first_line c.args.text.now (gives c.read_all.result c.in-Ok.defined c.args.first_line c.args.text.now c.in-Ok.ensures c.read_all.ensures)
