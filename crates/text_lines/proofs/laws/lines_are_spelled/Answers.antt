use Rattle.text_lines.proofs.Integers.{words_spell}
use Rattle.text_lines.proofs.Pieces.{pieces_say}
use Rattle.text_lines.proofs.laws.lines_are_spelled.Goals as goal

pub returns : goal.returns
returns c = record { spelling = words_spell; pieces = pieces_say }
