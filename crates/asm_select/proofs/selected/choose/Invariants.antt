use Rattle.asm_select.specs.Drafting.{setting}
use Rattle.asm_select.proofs.Appends.{Kept}
use Rattle.asm_select.proofs.selected.choose.Given as goal

abbrev pub invariant-loop-k : goal.invariant-loop-k
invariant-loop-k l = Kept (setting l.c) l.ops l.k l.told l.draft
