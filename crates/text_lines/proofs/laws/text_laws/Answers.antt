use Rattle.text_lines.proofs.CutLaws.{lines_joined, lines_without_feed, words_keep, words_are_tokens}
use Rattle.text_lines.proofs.Integers.{integer_ranged, integer_again, integer_is_word}
use Rattle.text_lines.proofs.Written.{words_spaced, plain_spaced, line_then_feed, name_is_word}
use Rattle.text_lines.proofs.laws.text_laws.Goals as goal

pub returns-clause-integer_fits : goal.returns-clause-integer_fits
returns-clause-integer_fits c = λ word z e. record { sfits = integer_ranged word z e }

pub returns-clause-integer_again : goal.returns-clause-integer_again
returns-clause-integer_again c = λ z h. integer_again z h.sfits

pub returns-clause-integer_is_word : goal.returns-clause-integer_is_word
returns-clause-integer_is_word c = λ z h. integer_is_word z h.sfits

pub returns-clause-name_is_word : goal.returns-clause-name_is_word
returns-clause-name_is_word c = name_is_word

pub returns-clause-words_again : goal.returns-clause-words_again
returns-clause-words_again c = words_spaced

pub returns-clause-plain : goal.returns-clause-plain
returns-clause-plain c = plain_spaced

pub returns-clause-line_again : goal.returns-clause-line_again
returns-clause-line_again c = line_then_feed

pub returns-clause-lines_joined : goal.returns-clause-lines_joined
returns-clause-lines_joined c = lines_joined

pub returns-clause-lines_without_feed : goal.returns-clause-lines_without_feed
returns-clause-lines_without_feed c = lines_without_feed

pub returns-clause-words_keep : goal.returns-clause-words_keep
returns-clause-words_keep c = words_keep

pub returns-clause-words_are_tokens : goal.returns-clause-words_are_tokens
returns-clause-words_are_tokens c = words_are_tokens
