use Rattle.std.proofs.Common.{◌≡◌, ◌++◌, drop}
use Rattle.asm_select.specs.Given.{where_in}
use Rattle.asm_select.specs.Drafting.{pairs_at}
use Rattle.asm_select.proofs.plan.pairs_of.Given as goal

abbrev pub invariant-loop-k : goal.invariant-loop-k
invariant-loop-k l = l.pairs.items ++ pairs_at (where_in l.at) (drop l.k l.args) (drop l.k l.targets) ≡ pairs_at (where_in l.at) l.args l.targets
