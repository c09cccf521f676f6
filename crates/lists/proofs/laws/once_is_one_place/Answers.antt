use Rattle.lists.proofs.Onces.{once_place, once_from}
use Rattle.lists.proofs.laws.once_is_one_place.Goals as goal

pub returns : goal.returns
returns c = λ xs. (once_place xs, once_from xs)
