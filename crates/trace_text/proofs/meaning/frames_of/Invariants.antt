use Rattle.std.proofs.Common.{◌≡◌, ◌++◌, drop, map}
use Rattle.trace_text.specs.Meaning.{frame_of}
use Rattle.trace_text.proofs.meaning.frames_of.Given as goal

abbrev pub invariant-loop-frame : goal.invariant-loop-frame
invariant-loop-frame l = l.made.items ++ map (frame_of l.own l.guard) (drop l.frame-index l.frames) ≡ map (frame_of l.own l.guard) l.frames
