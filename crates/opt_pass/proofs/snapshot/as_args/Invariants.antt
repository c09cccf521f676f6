use Rattle.std.proofs.Common.{◌≡◌, take, map}
use Rattle.trace_ops.specs.declared.trace.Arg.TheVariants.{Of}
use Rattle.opt_pass.proofs.snapshot.as_args.Given as goal

abbrev pub invariant-loop-b : goal.invariant-loop-b
invariant-loop-b l = l.out.items ≡ map Of (take l.b-index l.boxes)
