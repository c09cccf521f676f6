use Rattle.agreement.proofs.Rebuilt.{rebuilt_same}
use Rattle.agreement.proofs.ends.rebuilt_same.Goals as goal

pub returns : goal.returns
returns c = rebuilt_same c.same_heaps_list_alike.ensures c.same_calls_have_the_same_roots.ensures
