use Rattle.text_lines.specs.Lines.{lines}
use Rattle.lists.proofs.FirstBad.{first_bad}
use Rattle.session_text.specs.Names.{names_of}
use Rattle.session_text.specs.Reading.{nothing, read_line, lines_at}
use Rattle.session_text.proofs.SpelledLine.{spelled_line}
use Rattle.session_text.proofs.ReadLine.{line_takes}
use Rattle.session_text.proofs.laws.session_laws.Goals as goal

pub returns-clause-read : goal.returns-clause-read
returns-clause-read c = line_takes

pub returns-clause-spelled : goal.returns-clause-spelled
returns-clause-spelled c = spelled_line

pub returns-clause-first_bad : goal.returns-clause-first_bad
unfolding lines_at
returns-clause-first_bad c = λ set first text e h. first_bad (read_line (names_of set) set) (lines text) first nothing e h
