use Rattle.opt_meaning.proofs.Shows.{HeapLaws, shows-alike}
use Rattle.opt_meaning.proofs.laws.ends_show_alike.Goals as goal

pub returns : goal.returns
returns c = λ same set ms p l q x fit ended not.
    let laws : HeapLaws = record { listing = c.same_heaps_list_alike.ensures; roots = c.same_calls_have_the_same_roots.ensures; numbers = c.same_calls_have_the_same_numbers.ensures } in
    shows-alike laws c.boxes_keep_their_values.ensures set ms same fit p l q x ended not
