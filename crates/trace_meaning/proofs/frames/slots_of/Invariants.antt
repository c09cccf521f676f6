use Rattle.std.proofs.Common.{◌≡◌, ◌++◌, drop}
use Rattle.trace_meaning.specs.Recorded.{slots_of}
use Rattle.trace_meaning.proofs.frames.slots_of.Given as goal

abbrev pub invariant-loop-frame : goal.invariant-loop-frame
invariant-loop-frame l = l.slots.items ++ slots_of (drop l.frame-index l.frames) ≡ slots_of l.frames
