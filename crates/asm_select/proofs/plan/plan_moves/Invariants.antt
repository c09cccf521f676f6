use Rattle.std.proofs.Common.{take}
use Rattle.std.specs.List.{AllZip}
use Rattle.asm_select.specs.Given.{where_in}
use Rattle.asm_select.specs.Drafting.{IsPlanned}
use Rattle.asm_select.proofs.plan.plan_moves.Given as goal

abbrev pub invariant-loop-k : goal.invariant-loop-k
invariant-loop-k l = AllZip (IsPlanned (where_in l.at) l.to) (take l.k l.ops) l.plan.items
