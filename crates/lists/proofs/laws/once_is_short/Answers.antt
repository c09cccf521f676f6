use Rattle.lists.proofs.Onces.{few_once}
use Rattle.lists.proofs.laws.once_is_short.Goals as goal

pub returns : goal.returns
returns c = few_once
