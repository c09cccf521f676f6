use Rattle.std.specs.Prelude.{[]}
use Rattle.image_runs.proofs.Attaching.{attachment_keeps}
use Rattle.image_runs.proofs.Steadying.{pieces_steady}
use Rattle.image_runs.proofs.attachments.attachment_keeps.Goals as goal

pub returns : goal.returns
returns g c = λ x told ps i h bs b bridge act kept grown closed here. attachment_keeps (g.T.Selection.model x told) ps i h bs kept grown closed (pieces_steady (g.T.Selection.model x told).set (g.T.Selection.model x told).pieces []) b here bridge act
