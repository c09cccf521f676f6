use Rattle.descr_table.proofs.LinesKept.{table_in_range}
use Rattle.descr_table.proofs.RoundTrip.{table_back}
use Rattle.descr_table.proofs.laws.tables_are_read_back.Goals as goal

pub returns-clause-in_range : goal.returns-clause-in_range
returns-clause-in_range c = table_in_range c.lines_are_spelled.ensures

pub returns-clause-read_back : goal.returns-clause-read_back
returns-clause-read_back c = table_back c.lines_are_spelled.ensures
