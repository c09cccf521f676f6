use Rattle.std.proofs.Common.{◌≡◌, ◌++◌, drop}
use Rattle.trace_check.specs.Boxes.{repeats}
use Rattle.trace_check.proofs.boxes.Boxes.add_all.Given as goal

abbrev pub invariant-loop-b : goal.invariant-loop-b
invariant-loop-b l = (repeats l.self (drop l.b-index l.boxes) ≡ repeats l.fn.self l.boxes) × (l.self ++ drop l.b-index l.boxes ≡ l.fn.self ++ l.boxes)
