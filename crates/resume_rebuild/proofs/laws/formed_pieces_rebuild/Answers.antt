use Rattle.resume_rebuild.proofs.Exits.{formed_pieces_rebuild}
use Rattle.resume_rebuild.proofs.laws.formed_pieces_rebuild.Goals as goal

pub returns : goal.returns
returns c = formed_pieces_rebuild c.equality_decides.ensures.box c.prebuilts_stand.ensures.fields
