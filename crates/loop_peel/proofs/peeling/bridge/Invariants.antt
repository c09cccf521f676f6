use Rattle.std.proofs.Common.{take}
use Rattle.loop_peel.specs.Peeling.{ArePieces, kept_at}
use Rattle.loop_peel.proofs.peeling.bridge.Given as goal

abbrev pub invariant-loop-left : goal.invariant-loop-left
invariant-loop-left l = ArePieces l.checked l.fn.trace (kept_at l.from (take l.left-index l.parent)) l.made.opt.pieces l.made.at_guards
