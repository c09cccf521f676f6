use Rattle.std.proofs.Common.{drop, take}
use Rattle.std.specs.Prelude.{map}
use Rattle.std.specs.Borrow.{Bor}
use Rattle.trace_ops.specs.declared.piece.Piece.{Piece}
use Rattle.bridge_patch.proofs.LayingAll.{LaysAll}
use Rattle.bridge_patch.proofs.laying.lay_out_all.Given as goal

abbrev pub invariant-loop-k : goal.invariant-loop-k
invariant-loop-k l =
    LaysAll l.set l.registers (map (λ (b : Bor Piece). b.now) l.pieces) (map (λ (b : Bor Piece). b.now) (take l.k l.pieces)) (map (λ (b : Bor Piece). b.now) (drop l.k l.pieces))
    l.plans.items (take l.k l.plans.items) (drop l.k l.plans.items) l.draft.from l.draft.bytes.items l.exits.items l.heres.items
