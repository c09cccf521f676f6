use Rattle.std.proofs.Common.{◌≡◌, ◌++◌, drop}
use Rattle.asm_select.specs.Chosen.{moves_code}
use Rattle.asm_select.proofs.arguments.push_moves.Given as goal

abbrev pub invariant-loop-m : goal.invariant-loop-m
invariant-loop-m l = l.out.items ++ moves_code (drop l.m-index l.moves) ≡ l.initial.out.items ++ moves_code l.moves
