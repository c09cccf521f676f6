use Rattle.image_model.proofs.Seams.{stubs_exit}
use Rattle.image_model.proofs.laws.stubs_exit.Goals as goal

pub returns : goal.returns
returns g c = λ x. stubs_exit c.stub_exits.ensures (g.T.Hosted.host x)
