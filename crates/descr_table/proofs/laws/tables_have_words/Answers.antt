use Rattle.descr_table.proofs.InitialWords.{tables_have_words}
use Rattle.descr_table.proofs.laws.tables_have_words.Goals as goal

pub returns : goal.returns
returns c = tables_have_words c.lines_are_spelled.ensures
