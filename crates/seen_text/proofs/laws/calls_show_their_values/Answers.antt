use Rattle.seen_text.proofs.Showing.{calls_shown}
use Rattle.seen_text.proofs.laws.calls_show_their_values.Goals as goal

pub returns : goal.returns
returns c = calls_shown
