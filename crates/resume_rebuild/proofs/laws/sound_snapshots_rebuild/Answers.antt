use Rattle.resume_rebuild.proofs.Exits.{can_rebuild}
use Rattle.resume_rebuild.proofs.laws.sound_snapshots_rebuild.Goals as goal

pub returns : goal.returns
returns c = λ t snap objects range sound names words many. can_rebuild t objects snap many range sound names words
