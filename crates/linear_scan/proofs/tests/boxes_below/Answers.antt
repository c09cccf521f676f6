use Rattle.std.proofs.Common.{◌<◌, ap, sym, subst, arith}
use Rattle.std.specs.List.{flat_map}
use Rattle.trace_ops.specs.declared.trace.BoxId.{BoxId}
use Rattle.trace_ops.specs.Parts.{boxes_of_val}
use Rattle.linear_scan.specs.Living.{HaveNumbersBelow}
use Rattle.linear_scan.proofs.Defined.{values_push}
use Rattle.linear_scan.proofs.tests.boxes_below.Goals as goal

pub loop-k-preserved : goal.loop-k-preserved
loop-k-preserved c =
    let n = c.args.number in
    let low : c.int.result.number < n = omega (arith, ap (λ (b : BoxId). b.number) c.int.ensures, c.loop-k-test.true) in
    subst (λ vals. HaveNumbersBelow n (flat_map boxes_of_val vals)) (sym c.in_ok-push.ensures.items) (values_push n c.loop-k.vals.items c.int.result c.loop-k.invariant low)
