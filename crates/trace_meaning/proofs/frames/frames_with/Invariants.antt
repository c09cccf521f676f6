use Rattle.std.proofs.Common.{◌≡◌, ◌++◌, drop}
use Rattle.trace_meaning.specs.Observed.{frames_with}
use Rattle.trace_meaning.proofs.frames.frames_with.Given as goal

abbrev pub invariant-loop-frame : goal.invariant-loop-frame
invariant-loop-frame l = l.out.items ++ frames_with (drop l.frame-index l.frames) l.rest ≡ frames_with l.frames l.values
