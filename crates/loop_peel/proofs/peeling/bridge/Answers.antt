use Rattle.std.proofs.Common.{◌+◌, take, sym, subst}
use Rattle.std.specs.List.{AllByRecursion}
use Rattle.loop_peel.specs.Peeling.{ArePieces, kept_at}
use Rattle.loop_peel.specs.Serving.{CanEnter}
use Rattle.loop_peel.proofs.Entered.{get_is, took_more, kept_enters, guard_same}
use Rattle.loop_peel.proofs.Folded.{kept_step, other_step}
use Rattle.loop_peel.proofs.peeling.bridge.Goals as goal
use Rattle.loop_peel.proofs.peeling.bridge.Goals.{then-left-from+in_ok-add_piece, else-left-from}

pub add_piece-requires-clause-enters : goal.add_piece-requires-clause-enters
add_piece-requires-clause-enters c =
    kept_enters (λ y. CanEnter c.args.checked.now c.args.trace y.1) c.guard_of-from.result c.args.parent.now c.loop-left.left-index c.left-item.result
    (get_is c.args.parent.now c.loop-left.left-index c.left-item.result c.loop-left-test.true c.left-item.is) c.if-left-from.true
    (subst (λ k. AllByRecursion (λ y. CanEnter c.args.checked.now c.args.trace y.1) (kept_at k c.args.parent.now)) (guard_same c.args.checked.now c.set-set.result.now c.args.trace c.guard_of-from.result c.set-set.ensures.value c.guard_of-from.ensures) c.requires.parent)

pub loop-left-preserved : goal.loop-left-preserved
loop-left-preserved c = elim c.if-left-from.branch [
  | then-left-from+in_ok-add_piece w ↦
      subst (λ m. ArePieces c.args.checked.now c.args.trace (kept_at c.guard_of-from.result (take (c.loop-left.left-index + 1) c.args.parent.now)) m.opt.pieces m.at_guards) (sym w.made-is)
      (kept_step c.args.checked.now c.args.trace c.guard_of-from.result c.args.parent.now c.loop-left.left-index c.left-item.result c.loop-left.made w.add_piece.new.made
      (took_more c.args.parent.now c.loop-left.left-index c.left-item.result c.loop-left-test.true c.left-item.is) c.loop-left.invariant w.if-left-from.true w.in_ok-add_piece.ensures)
  | else-left-from w ↦
      subst (λ m. ArePieces c.args.checked.now c.args.trace (kept_at c.guard_of-from.result (take (c.loop-left.left-index + 1) c.args.parent.now)) m.opt.pieces m.at_guards) (sym w.made-is)
      (other_step c.args.checked.now c.args.trace c.guard_of-from.result c.args.parent.now c.loop-left.left-index c.left-item.result c.loop-left.made
      (took_more c.args.parent.now c.loop-left.left-index c.left-item.result c.loop-left-test.true c.left-item.is) c.loop-left.invariant w.if-left-from.false)
]
