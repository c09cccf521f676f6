use Rattle.std.proofs.Common.{sym, subst}
use Rattle.std.specs.List.{All}
use Rattle.trace_ops.specs.declared.piece.Snapshot.{Snapshot}
use Rattle.resume_numbering.specs.Reading.{KindsOfFrame, KindsOfShape, KindsOfStore}
use Rattle.resume_numbering.proofs.ReadingLemmas.{kinds_of_all}
use Rattle.resume_numbering.proofs.reading.read_row.Goals as goal

pub returns-clause-kinds : goal.returns-clause-kinds
returns-clause-kinds c =
    let kinds = c.args.kinds.now in
    let snap : Snapshot = record { frames = c.of.result; shapes = c.of-2.result; pending = c.of-3.result } in
    kinds_of_all kinds snap (subst (All (KindsOfFrame kinds)) (sym c.of.ensures) c.in_ok-frames.ensures.kinds) (subst (All (KindsOfShape kinds)) (sym c.of-2.ensures) c.in_ok-shapes.ensures.kinds) (subst (All (KindsOfStore kinds)) (sym c.of-3.ensures) c.in_ok-pending.ensures.kinds)
