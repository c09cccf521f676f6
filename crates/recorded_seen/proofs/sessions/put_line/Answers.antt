use Rattle.std.proofs.Common.{rules, ◌≡◌, ◌++◌, ap, ◌∙◌}
use Rattle.lists.proofs.Results.{on_ok}
use Rattle.trace_meaning.specs.Starting.{begun}
use Rattle.recorded_seen.proofs.StartLine.{start_text-line_text}
use Rattle.recorded_seen.proofs.sessions.put_line.Goals as goal

pub returns-in_ok-run-in-Start-clause-text : goal.returns-in_ok-run-in-Start-clause-text
returns-in_ok-run-in-Start-clause-text c =
    on_ok c.put_start.result _ _
    (λ e.
    e
    ∙ ap (λ x. c.args.out.now.items ++ x)
    (start_text-line_text c.args.set.now c.args.names.now c.args.operations c.args.cuts.now.items c.args.line.now _ _ _ _ _ _ c.in-Start.is c.activation_name.ensures (let e : c.in_ok-run-in-Start.run' ≡ begun c.args.set.now c.in-Start.trace c.in-Start.inputs c.in-Start.answers c.args.cuts.now.items = search rules in e)))
    c.put_start.ensures
