use Rattle.std.proofs.Common.{drop}
use Rattle.code_layout.proofs.Emitted.{Sized}
use Rattle.code_layout.proofs.draft.size_of_all.Given as goal

abbrev pub invariant-loop-instr : goal.invariant-loop-instr
invariant-loop-instr l = Sized l.instrs (drop l.instr-index l.instrs) l.instr-index l.size
