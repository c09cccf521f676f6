use Rattle.agreement.proofs.Reading.{apart_is_settled}
use Rattle.agreement.proofs.reads.apart_is_settled.Goals as goal

pub returns : goal.returns
returns c = apart_is_settled
