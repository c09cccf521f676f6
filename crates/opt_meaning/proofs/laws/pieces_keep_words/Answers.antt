use Rattle.opt_meaning.proofs.WordRuns.{run-words}
use Rattle.opt_meaning.proofs.laws.pieces_keep_words.Goals as goal

pub returns : goal.returns
returns c = λ set ps cuts few constants x n h. run-words c.operations_keep_words.ensures set ps cuts few constants x n h
