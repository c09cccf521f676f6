use Rattle.virtuals.proofs.tests.a_cycle_is_made_once.Goals as goal

pub set-requires-clause-value : goal.set-requires-clause-value
set-requires-clause-value g c = c.in_ok-b.ensures.made

pub set-requires-2-clause-value : goal.set-requires-2-clause-value
set-requires-2-clause-value g c = c.set.ensures.live _ (c.in_ok-b.ensures.live _ c.in_ok-a.ensures.made)
