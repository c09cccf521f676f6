use Rattle.image_model.proofs.Doing.{piece_does}
use Rattle.image_model.proofs.laws.selected_pieces_do.Goals as goal

pub returns : goal.returns
returns g c = λ x set whole ps settings pl serves z. piece_does c.code_follows.ensures c.calls_follow.ensures (g.T.Hosted.host x) set whole ps settings pl serves z
