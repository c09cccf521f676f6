use Rattle.arena_world.proofs.Fitted.{fits_alike}
use Rattle.arena_world.proofs.Answers.{answers_alike}
use Rattle.arena_world.proofs.laws.answers_do_alike.Goals as goal

pub returns-clause-fits : goal.returns-clause-fits
returns-clause-fits c = fits_alike c.loads_find.ensures.headers c.spots_lie.ensures.headers

pub returns-clause-done : goal.returns-clause-done
returns-clause-done c =
    answers_alike
    (record { found = c.loads_find.ensures.parts; writes = c.stores_write.ensures.parts; moves = c.stores_write.ensures.addresses; keeps = c.prebuilts_stand.ensures.words })
    (record { stand = c.allocations_stand.ensures.stand; address = c.allocations_stand.ensures.address; parts = c.allocations_stand.ensures.parts; there = c.bytes_are_taken.ensures.there; apart = c.addresses_are_apart.ensures })
