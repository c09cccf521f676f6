use Rattle.std.proofs.Common.{◌≡◌, length, ap, ◌∙◌, arith}
use Rattle.trace_ops.specs.declared.trace.TraceSet.{TraceSet}
use Rattle.opt_set.proofs.Stepping.{none_yet, all_made}
use Rattle.opt_set.proofs.pieces.OptimisedSet.new.Goals as goal

pub loop-trace-init : goal.loop-trace-init
loop-trace-init c =
    none_yet c.args.checked.now _ c.in_ok-made.made (ap length (c.items-traces.ensures ∙ ap (λ (z : TraceSet). z.traces) c.set.ensures.value))
    c.in_ok-made.ensures.traces c.in_ok-made.ensures.attached c.in_ok-made.ensures.left

pub returns-clause-pieces : goal.returns-clause-pieces
returns-clause-pieces c =
    let all : c.loop-trace.trace ≡ length c.items-traces.result.now = omega (arith, c.loop-trace-test.false, c.loop-trace.auto.trace-end) in
    all_made c.args.checked.now c.loop-trace.trace c.loop-trace.made (all ∙ ap length (c.items-traces.ensures ∙ ap (λ (z : TraceSet). z.traces) c.set.ensures.value)) c.loop-trace.invariant
