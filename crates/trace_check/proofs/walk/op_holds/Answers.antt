use Rattle.std.proofs.Common.{IsTrue, sym, subst}
use Rattle.trace_check.specs.declared.rule.Rule.{Rule}
use Rattle.trace_check.specs.Faults.{OpHolds}
use Rattle.trace_check.proofs.walk.op_holds.Goals as goal

pub returns-in-KnownBoxes : goal.returns-in-KnownBoxes
returns-in-KnownBoxes c = subst (λ (r : Rule). (IsTrue c.knows_all.result → OpHolds c.args.set.now c.args.i c.args.trace.now c.args.k c.args.op.now r) × (OpHolds c.args.set.now c.args.i c.args.trace.now c.args.k c.args.op.now r → IsTrue c.knows_all.result)) (sym c.in-KnownBoxes.is) c.knows_all.ensures
