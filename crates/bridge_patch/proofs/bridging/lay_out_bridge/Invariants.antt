use Rattle.std.proofs.Common.{drop, take}
use Rattle.bridge_patch.proofs.Behind.{LaysBehind}
use Rattle.bridge_patch.proofs.bridging.lay_out_bridge.Given as goal

abbrev pub invariant-loop-piece : goal.invariant-loop-piece
invariant-loop-piece l = LaysBehind l.set l.image l.source l.pieces (take l.piece-index l.pieces) (drop l.piece-index l.pieces) l.draft.from l.exit l.draft.bytes.items l.exits.items l.heres.items
