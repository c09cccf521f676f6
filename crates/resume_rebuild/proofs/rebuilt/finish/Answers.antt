use Rattle.std.proofs.Common.{length, sym, subst}
use Rattle.std.specs.List.{All}
use Rattle.resume_numbering.specs.declared.rows.FrameRow.{FrameRow}
use Rattle.resume_rebuild.specs.Room.{HasSpace}
use Rattle.resume_rebuild.proofs.rebuilt.finish.Goals as goal

pub push_frames-requires-clause-wide : goal.push_frames-requires-clause-wide
push_frames-requires-clause-wide c = subst (All (λ (r : FrameRow). All (HasSpace (length r.slots)) c.args.pool.now.items)) (sym c.items-rows-2.ensures) c.requires.wide
