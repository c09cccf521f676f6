use Rattle.std.proofs.Common.{ℕ, List, ap, ◌∙◌, ◌++◌}
use Rattle.std.proofs.lemmas.Simd.{map-map}
use Rattle.trace_ops.specs.declared.table.ShapeOf.{ShapeOf}
use Rattle.trace_meaning.specs.Recorded.{recorded, prebuilt_object}
use Rattle.trace_meaning.specs.Observed.{world_of}
use Rattle.trace_meaning.specs.Legs.{run}
use Rattle.trace_meaning.specs.Growing.{extent}
use Rattle.trace_meaning.proofs.GrowingRuns.{calls-kept, objects-kept, no_fewer, start-grows}
use Rattle.trace_meaning.proofs.laws.runs_only_add.Goals as goal

pub returns-clause-calls : goal.returns-clause-calls
returns-clause-calls c = λ set cuts x n. calls-kept set cuts x n

pub returns-clause-objects : goal.returns-clause-objects
returns-clause-objects c = λ set cuts x n. objects-kept set cuts x n

pub returns-clause-number : goal.returns-clause-number
returns-clause-number c = λ set cuts x n. no_fewer extent (world_of x).objects (world_of (run (recorded set cuts) n x)).objects (objects-kept set cuts x n)

pub returns-clause-prebuilts : goal.returns-clause-prebuilts
returns-clause-prebuilts c = λ set start inputs answers cuts n.
    let g = start-grows set start inputs answers cuts n in
    (g.added, g.objects ∙ ap (λ (l : List (ShapeOf × ℕ)). l ++ g.added) (map-map extent prebuilt_object set.table.prebuilts))
