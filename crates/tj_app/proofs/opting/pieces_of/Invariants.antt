use Rattle.std.proofs.Common.{ℕ, List, [], drop}
use Rattle.opt_set.specs.Optimised.{IsOptimised}
use Rattle.tj_app.specs.Opting.{Grants}
use Rattle.tj_app.proofs.opting.pieces_of.Given as goal

abbrev pub invariant-loop-line : goal.invariant-loop-line
invariant-loop-line l =
    IsOptimised l.checked l.pieces × ((all : List ℕ) → Grants l.checked l.pieces.attached (drop l.line-index l.lines) all → Grants l.checked [] l.lines all)
