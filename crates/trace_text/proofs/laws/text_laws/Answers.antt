use Rattle.std.proofs.Common.{ℕ, Result, Ok, Err, sym, ap, ◌∙◌}
use Rattle.text_lines.specs.Lines.{lines}
use Rattle.lists.proofs.FirstBad.{first_bad}
use Rattle.trace_ops.specs.declared.trace.TraceSet.{TraceSet}
use Rattle.trace_text.specs.declared.fault.TextFault.{TextFault}
use Rattle.trace_text.specs.Draft.{nothing, read_line, lines_at}
use Rattle.trace_text.proofs.TableOf.{table_of_text}
use Rattle.trace_text.proofs.RangeByTables.{set_in_range}
use Rattle.trace_text.proofs.WordsOfSets.{words_read}
use Rattle.trace_text.proofs.laws.text_laws.Goals as goal

set_in : TraceSet × ℕ → Result (TraceSet × ℕ) TextFault → TraceSet × ℕ
set_in other (Ok x) = x
set_in other (Err e) = other

pub returns-clause-one_set : goal.returns-clause-one_set
unfolding set_in
returns-clause-one_set c = λ text a b is also. ap (set_in a) (sym is ∙ also)

pub returns-clause-table : goal.returns-clause-table
returns-clause-table c = table_of_text

pub returns-clause-in_range : goal.returns-clause-in_range
returns-clause-in_range c = set_in_range (record { spelled = c.lines_are_spelled.ensures; form_takes = c.table_laws.ensures.read; tables_in_range = c.tables_are_read_back.ensures.in_range; tables_back = c.tables_are_read_back.ensures.read_back })

pub returns-clause-first_bad : goal.returns-clause-first_bad
unfolding lines_at
returns-clause-first_bad c = λ names first text e h. first_bad (read_line names) (lines text) first nothing e h

pub returns-clause-words : goal.returns-clause-words
returns-clause-words c = words_read (record { spelled = c.lines_are_spelled.ensures; form_takes = c.table_laws.ensures.read; tables_in_range = c.tables_are_read_back.ensures.in_range; tables_back = c.tables_are_read_back.ensures.read_back }) c.tables_have_words.ensures
