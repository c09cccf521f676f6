use Rattle.std.proofs.lemmas.List.Sorted.{IsNonDecreasingBy-from_sort}
use Rattle.run_session.proofs.Guards.{sorted_places}
use Rattle.run_session.proofs.counting.guard_places.Goals as goal

pub returns : goal.returns
returns c =
    sorted_places c.args.rows.now c.in_ok-places.places.items c.sort.new.self.items c.in_ok-places.ensures c.sort.ensures.permutation
    (IsNonDecreasingBy-from_sort (λ x. x) c.sort.new.self.items c.in_ok-sort.ensures.sorted)
