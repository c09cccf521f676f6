use Rattle.asm_select.proofs.Preceding.{Preceded}
use Rattle.asm_select.proofs.known_table.starts_of.Given as goal

abbrev pub invariant-loop-k : goal.invariant-loop-k
invariant-loop-k l = Preceded l.rows l.k l.starts.items l.words
