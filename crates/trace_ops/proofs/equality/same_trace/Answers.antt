use Rattle.std.proofs.Common.{◌≡◌, sym, subst}
use Rattle.std.specs.Bool.{Decides}
use Rattle.trace_ops.proofs.equality.same_trace.Goals as goal
use Rattle.trace_ops.proofs.Same.{trace_decides}

pub returns : goal.returns
returns c = subst (λ r. Decides r (c.args.a.now ≡ c.args.b.now)) (sym c.eq.ensures) (trace_decides c.args.a.now c.args.b.now)
