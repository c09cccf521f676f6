use Rattle.std.proofs.Common.{◌≡◌, drop}
use Rattle.trace_meaning.specs.Routes.{first_due}
use Rattle.trace_meaning.proofs.routes.first_due.Given as goal

abbrev pub invariant-loop-cut : goal.invariant-loop-cut
invariant-loop-cut l = first_due (drop l.cut-index l.cuts) l.failure ≡ first_due l.cuts l.failure
