use Rattle.trace_meaning.specs.Recorded.{recorded_run}
use Rattle.trace_meaning.proofs.HoldingRuns.{NowHolds-recorded_run, RunHolds-from_now, ObjectsHold-from_now, LeftRightly-from_now}
use Rattle.trace_meaning.proofs.laws.boxes_keep_kinds.Goals as goal

pub returns-clause-boxes : goal.returns-clause-boxes
returns-clause-boxes c = λ set start inputs answers cuts n range well starts. RunHolds-from_now set (recorded_run set start inputs answers cuts n) (NowHolds-recorded_run c.equality_decides.ensures.box set cuts range well start inputs answers n starts)

pub returns-clause-parts : goal.returns-clause-parts
returns-clause-parts c = λ set start inputs answers cuts n range well starts. ObjectsHold-from_now set (recorded_run set start inputs answers cuts n) (NowHolds-recorded_run c.equality_decides.ensures.box set cuts range well start inputs answers n starts)

pub returns-clause-ends : goal.returns-clause-ends
returns-clause-ends c = λ set start inputs answers cuts n range well starts. LeftRightly-from_now set (recorded_run set start inputs answers cuts n) (NowHolds-recorded_run c.equality_decides.ensures.box set cuts range well start inputs answers n starts)
