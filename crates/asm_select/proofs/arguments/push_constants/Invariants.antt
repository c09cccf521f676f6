use Rattle.std.proofs.Common.{◌≡◌, ◌++◌, drop}
use Rattle.asm_select.specs.Chosen.{constants_code}
use Rattle.asm_select.specs.Drafting.{setting}
use Rattle.asm_select.proofs.arguments.push_constants.Given as goal

abbrev pub invariant-loop-k : goal.invariant-loop-k
invariant-loop-k l = l.out.items ++ constants_code (setting l.c) (drop l.k l.args) (drop l.k l.targets) ≡ l.initial.out.items ++ constants_code (setting l.c) l.args l.targets
