use Rattle.opt_meaning.specs.Pieces.{pieces}
use Rattle.opt_meaning.proofs.PiecesGrow.{pieces-steps_grow}
use Rattle.opt_meaning.proofs.laws.pieces_run.Goals as goal

pub returns : goal.returns
returns c = λ set ps cuts. let laws = c.runs_of_programs.ensures (pieces set ps cuts) in (laws, laws.grows (pieces-steps_grow c.operations_only_add.ensures set ps cuts))
