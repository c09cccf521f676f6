use Rattle.std.specs.List.{All}
use Rattle.std.specs.Prelude.{length}
use Rattle.std.specs.Vec.{vec_capacity, vec_len}
use Rattle.resume_numbering.specs.declared.rows.FrameRow.{FrameRow}
use Rattle.resume_rebuild.specs.Read.{sources_read}
use Rattle.resume_rebuild.specs.Room.{HasSpace}
use Rattle.resume_rebuild.specs.Rows.{row_frame}
use Rattle.resume_rebuild.proofs.Chains.{Framing, left_at}
use Rattle.resume_rebuild.proofs.framing.push_frames.Given as goal

abbrev pub invariant-loop-at : goal.invariant-loop-at
invariant-loop-at l = record {
  walk : Framing l.rows (row_frame l.walked.found (sources_read l.read) l.read.consts.now l.read.words.now) l.first (vec_capacity l.frames) l.at l.frames.items (vec_len l.frames) (vec_len l.pool);
  wide : All (λ (row : FrameRow). All (HasSpace (length row.slots)) l.pool.items) l.rows;
}

abbrev pub decreases-loop-at : goal.decreases-loop-at
decreases-loop-at l = left_at l.at
