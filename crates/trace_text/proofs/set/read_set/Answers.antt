use Rattle.trace_text.proofs.RangeByTables.{read_in_range}
use Rattle.trace_text.proofs.WordsOfSets.{result_words}
use Rattle.trace_text.proofs.set.read_set.Goals as goal

pub returns-clause-in_range : goal.returns-clause-in_range
returns-clause-in_range c = read_in_range (record { spelled = c.lines_are_spelled.ensures; form_takes = c.table_laws.ensures.read; tables_in_range = c.tables_are_read_back.ensures.in_range; tables_back = c.tables_are_read_back.ensures.read_back }) c.read_bytes.result c.args.bytes.now c.read_bytes.ensures

pub returns-clause-words : goal.returns-clause-words
returns-clause-words c = result_words (record { spelled = c.lines_are_spelled.ensures; form_takes = c.table_laws.ensures.read; tables_in_range = c.tables_are_read_back.ensures.in_range; tables_back = c.tables_are_read_back.ensures.read_back }) c.tables_have_words.ensures c.read_bytes.result c.args.bytes.now c.read_bytes.ensures
