use Rattle.std.proofs.Common.{◌≡◌, [], drop}
use Rattle.descr_table.specs.Words.{letters_at}
use Rattle.descr_table.proofs.words.letters_at.Given as goal

abbrev pub invariant-loop-c : goal.invariant-loop-c
invariant-loop-c l = letters_at l.kinds.items (drop l.c-index l.word) ≡ letters_at [] l.word
