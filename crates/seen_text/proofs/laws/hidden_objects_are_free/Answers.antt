use Rattle.seen_text.proofs.Unlisted.{seen_text-hidden}
use Rattle.seen_text.proofs.laws.hidden_objects_are_free.Goals as goal

pub returns : goal.returns
returns c = seen_text-hidden
