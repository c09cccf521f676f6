use Rattle.lists.proofs.Membership.{has_at, has_get}
use Rattle.lists.proofs.laws.has_is_place.Goals as goal

pub returns : goal.returns
returns c = λ xs x. (has_at xs x, λ k e. has_get xs k x e)
