use Rattle.std.proofs.Common.{◌∙◌, ap}
use Rattle.trace_meaning.specs.Recorded.{RecordedNow}
use Rattle.trace_meaning.specs.Standing.{Run, stepped}
use Rattle.trace_meaning.proofs.run.RecRun.step.Goals as goal

pub returns-clause-ok : goal.returns-clause-ok
returns-clause-ok c =
    let r = c.self.inside in
    ap (λ (n : RecordedNow). (let x : Run = record { set = r.set; cuts = r.routes.cuts.items; now = n } in x)) c.in_ok-step.ensures.ok ∙ ap stepped c.self.view_is
