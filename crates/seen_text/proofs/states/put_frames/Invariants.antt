use Rattle.std.proofs.Common.{◌≡◌, ◌++◌, drop}
use Rattle.seen_text.specs.States.{frame_lines}
use Rattle.seen_text.proofs.states.put_frames.Given as goal

abbrev pub invariant-loop-k : goal.invariant-loop-k
invariant-loop-k l = l.out.items ++ frame_lines (drop l.k l.frames) l.rest ≡ l.fn.out.items ++ frame_lines l.frames l.refs
