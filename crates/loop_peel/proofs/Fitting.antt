-- The entries of a piece's guards fit the recorded guards.
use Rattle.loop_peel.specs.Laws.{GuardsFit}
use Rattle.loop_peel.proofs.Guards.{fits_guard}

pub guards_fit : GuardsFit
guards_fit set p h from m i n e is = fits_guard set p m.piece.ops m.guards n e i.guards i.frames is
