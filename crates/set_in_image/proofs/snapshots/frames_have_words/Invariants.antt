use Rattle.std.proofs.Common.{drop}
use Rattle.std.specs.List.{AllByRecursion}
use Rattle.set_in_image.specs.Snapshots.{FrameHasWords}
use Rattle.set_in_image.proofs.snapshots.frames_have_words.Given as goal

abbrev pub invariant-loop-frame : goal.invariant-loop-frame
invariant-loop-frame l = AllByRecursion FrameHasWords (drop l.frame-index l.frames) → AllByRecursion FrameHasWords l.frames
