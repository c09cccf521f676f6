use Rattle.std.proofs.Common.{length, ap, ◌∙◌}
use Rattle.trace_meaning.specs.Recorded.{recorded_run}
use Rattle.trace_meaning.proofs.GrowingRuns.{answered-count, start-grows}
use Rattle.trace_meaning.proofs.laws.answers_are_counted.Goals as goal

pub returns : goal.returns
returns c = λ set start inputs answers cuts n.
    let g = start-grows set start inputs answers cuts n in
    (g.used, g.answers, answered-count (recorded_run set start inputs answers cuts n) (length g.used) (ap length g.log ∙ g.answered))
