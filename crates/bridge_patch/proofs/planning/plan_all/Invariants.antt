use Rattle.std.proofs.Common.{drop, take}
use Rattle.std.specs.Prelude.{map}
use Rattle.std.specs.Borrow.{Bor}
use Rattle.trace_ops.specs.declared.piece.Piece.{Piece}
use Rattle.bridge_patch.proofs.Planned.{PlansAll}
use Rattle.bridge_patch.proofs.planning.plan_all.Given as goal

abbrev pub invariant-loop-piece : goal.invariant-loop-piece
invariant-loop-piece l =
    PlansAll l.set l.registers l.from (map (λ (b : Bor Piece). b.now) l.pieces) (map (λ (b : Bor Piece). b.now) (take l.piece-index l.pieces)) (map (λ (b : Bor Piece). b.now) (drop l.piece-index l.pieces)) l.plans.items l.at l.exit
