use Rattle.trace_meaning.proofs.WordRuns.{runs-keep_words}
use Rattle.trace_meaning.proofs.laws.runs_keep_words.Goals as goal

pub returns : goal.returns
returns c = λ set start inputs answers cuts n range words k h. runs-keep_words c.equality_decides.ensures.box set cuts range words start inputs answers n k h
