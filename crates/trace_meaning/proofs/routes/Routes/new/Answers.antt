use Rattle.std.proofs.Common.{◌∙◌, List, ap, filter}
use Rattle.trace_ops.specs.declared.trace.Trace.{Trace}
use Rattle.trace_meaning.specs.Cuts.{Cuts}
use Rattle.trace_meaning.specs.Routes.{leaves}
use Rattle.trace_meaning.proofs.Routing.{targets-found}
use Rattle.trace_meaning.proofs.routes.Routes.new.Goals as goal

pub returns-clause-noted : goal.returns-clause-noted
returns-clause-noted c = record {
  targets = λ p. targets-found c.args.set.now c.in_ok-targets.targets.items p c.in_ok-targets.ensures;
  bridges = λ g.
      c.in_ok-bridges.ensures g
      ∙ ap (λ (traces : List Trace). filter (leaves traces g) c.deref.result.now) c.items.ensures
      ∙ ap (λ (cuts : Cuts). filter (leaves c.args.set.now.traces g) cuts) c.deref.ensures.value;
}
