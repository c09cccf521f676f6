use Rattle.text_lines.specs.Lines.{lines}
use Rattle.lists.proofs.FirstBad.{first_bad}
use Rattle.descr_table.specs.Meaning.{nothing}
use Rattle.descr_table.specs.Reading.{defined_in, read_line, table_at}
use Rattle.descr_table.proofs.Again.{form_again}
use Rattle.descr_table.proofs.Takes.{form_takes}
use Rattle.descr_table.proofs.laws.table_laws.Goals as goal

pub returns-clause-read : goal.returns-clause-read
returns-clause-read c = form_takes

pub returns-clause-spelled : goal.returns-clause-spelled
returns-clause-spelled c = form_again

pub returns-clause-first_bad : goal.returns-clause-first_bad
unfolding table_at
returns-clause-first_bad c = λ first text e h. first_bad (read_line (defined_in text)) (lines text) first nothing e h
