use Rattle.std.proofs.Common.{sym, subst}
use Rattle.trace_ops.specs.declared.table.ShapeOf.TheVariants.{Size}
use Rattle.trace_ops.specs.declared.piece.OptOp.TheVariants.{Exit}
use Rattle.trace_ops.specs.Pieces.{used_by}
use Rattle.linear_scan.specs.Living.{HaveNumbersBelow}
use Rattle.linear_scan.proofs.Defined.{defined_more, exit_below}
use Rattle.linear_scan.proofs.tests.exit.Goals as goal

pub returns-clause-defined : goal.returns-clause-defined
returns-clause-defined c =
    let n = c.args.number in
    let below = subst (λ s. HaveNumbersBelow n (used_by (Exit 0 s))) (sym c.in_ok-snap.ensures) (exit_below n 0 (Size 0) c.args.parts.items c.requires.parts) in
    defined_more 1 n c.args.ops.now.items (Exit 0 c.in_ok-snap.snap) c.push.new.self.items c.requires.defined c.requires.boxes c.in_ok-push.ensures.items below
