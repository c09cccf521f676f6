use Rattle.seen_text.specs.Counted.{costs_text}
use Rattle.seen_text.proofs.Joined.{joined4}
use Rattle.seen_text.proofs.counted.put_costs.Goals as goal

pub returns : goal.returns
unfolding costs_text
returns c = joined4 _ _ _ _ _ _ _ _ _ c.in_ok-put_told.ensures c.in_ok-put_told-2.ensures c.in_ok-put_told-3.ensures c.in_ok-extend_from_slice.ensures.items
