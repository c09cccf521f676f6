use Rattle.std.proofs.Common.{sym}
use Rattle.std.proofs.lemmas.Bool.{eqb-true}
use Rattle.descr_table.proofs.Defined.{ended}
use Rattle.descr_table.proofs.reading.defined_in.Goals as goal

pub returns : goal.returns
returns c = ended c.loop-rest.names _ c.loop-rest.rest.now c.loop-rest.invariant (eqb-true _ _ (sym c.loop-rest-test.ensures))
