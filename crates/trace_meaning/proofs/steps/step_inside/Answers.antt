use Rattle.std.proofs.Common.{◌≡◌, ◌∙◌, sym, slice_get, Some, None}
use Rattle.trace_meaning.specs.Recorded.{ops_at}
use Rattle.trace_meaning.specs.Standing.{rec_of}
use Rattle.trace_meaning.proofs.Settling.{next_at, next_past}
use Rattle.trace_meaning.proofs.steps.step_inside.Goals as goal

pub returns-in_ok-make_step-in-Some-clause-ok : goal.returns-in_ok-make_step-in-Some-clause-ok
returns-in_ok-make_step-in-Some-clause-ok c =
    let found : slice_get (ops_at c.args.set.now c.args.c.now.trace) c.args.c.now.at ≡ Some c.in-Some.op.now = sym c.in-Some.ensures in
    c.in_ok-make_step-in-Some.ensures.ok ∙ sym (next_at c.args.set.now c.args.routes.now.cuts.items c.args.c.now.trace (rec_of c.args.c.now) _ c.args.c.now.at c.in-Some.op.now found)

pub returns-in-None-clause-ok : goal.returns-in-None-clause-ok
returns-in-None-clause-ok c =
    let past : slice_get (ops_at c.args.set.now c.args.c.now.trace) c.args.c.now.at ≡ None = sym c.in-None.ensures in
    c.go_wrong.ensures.now ∙ sym (next_past c.args.set.now c.args.routes.now.cuts.items c.args.c.now.trace (rec_of c.args.c.now) _ c.args.c.now.at past)
