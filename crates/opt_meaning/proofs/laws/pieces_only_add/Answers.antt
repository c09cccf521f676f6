use Rattle.opt_meaning.proofs.PiecesGrow.{run-grows, run-keeps}
use Rattle.opt_meaning.proofs.laws.pieces_only_add.Goals as goal

pub returns-clause-calls : goal.returns-clause-calls
returns-clause-calls c = λ set ps cuts x n. run-grows set ps cuts (c.pieces_run.ensures set ps cuts).1 x n

pub returns-clause-objects : goal.returns-clause-objects
returns-clause-objects c = λ set ps cuts x n. run-keeps set ps cuts (c.pieces_run.ensures set ps cuts).1 x n
