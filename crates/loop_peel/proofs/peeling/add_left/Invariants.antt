use Rattle.std.proofs.Common.{◌≡◌, ◌++◌, drop}
use Rattle.loop_peel.specs.Peeling.{in_half}
use Rattle.loop_peel.proofs.peeling.add_left.Given as goal

abbrev pub invariant-loop-left : goal.invariant-loop-left
invariant-loop-left l = l.at_guards ++ in_half l.half (drop l.left-index l.entries) ≡ l.initial.at_guards ++ in_half l.half l.entries
