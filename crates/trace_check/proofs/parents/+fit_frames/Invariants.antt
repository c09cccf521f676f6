use Rattle.std.proofs.Common.{length}
use Rattle.trace_check.proofs.parents.+fit_frames.Given as goal

abbrev pub decreases-fit_frames : goal.decreases-fit_frames
decreases-fit_frames l = length l.frames.now
