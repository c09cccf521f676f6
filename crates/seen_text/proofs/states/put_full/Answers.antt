use Rattle.seen_text.specs.States.{full_text}
use Rattle.seen_text.proofs.Joined.{joined3}
use Rattle.seen_text.proofs.states.put_full.Goals as goal

pub returns : goal.returns
unfolding full_text
returns c = joined3 _ _ _ _ _ _ _ c.in_ok-put_told.ensures c.in_ok-put_told-2.ensures c.in_ok-push.ensures.items
