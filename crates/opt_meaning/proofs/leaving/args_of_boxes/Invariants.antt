use Rattle.std.proofs.Common.{◌≡◌, ◌++◌, drop, map}
use Rattle.trace_ops.specs.declared.trace.Arg.TheVariants.{Of}
use Rattle.opt_meaning.proofs.leaving.args_of_boxes.Given as goal

abbrev pub invariant-loop-b : goal.invariant-loop-b
invariant-loop-b l = l.args.items ++ map Of (drop l.b-index l.boxes) ≡ map Of l.boxes
