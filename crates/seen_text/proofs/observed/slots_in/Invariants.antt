use Rattle.std.proofs.Common.{◌≡◌, take}
use Rattle.seen_text.specs.States.{slots_in}
use Rattle.seen_text.proofs.observed.slots_in.Given as goal

abbrev pub invariant-loop-frame : goal.invariant-loop-frame
invariant-loop-frame l = l.slots.items ≡ slots_in (take l.frame-index l.frames)
