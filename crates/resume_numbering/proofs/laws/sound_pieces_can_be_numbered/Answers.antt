use Rattle.resume_numbering.proofs.SoundPieces.{sound_pieces_can}
use Rattle.resume_numbering.proofs.laws.sound_pieces_can_be_numbered.Goals as goal

pub returns : goal.returns
returns c = sound_pieces_can
