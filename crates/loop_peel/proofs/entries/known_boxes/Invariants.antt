use Rattle.std.proofs.Common.{◌≡◌, take, map}
use Rattle.loop_peel.specs.Peeling.{known_box}
use Rattle.loop_peel.proofs.entries.known_boxes.Given as goal

abbrev pub invariant-loop-b : goal.invariant-loop-b
invariant-loop-b l = l.out.items ≡ map known_box (take l.b-index l.boxes)
