use Rattle.image_runs.proofs.Attachment.{attachment_is_image}
use Rattle.image_runs.proofs.attachments.attachment_is_image.Goals as goal

pub returns : goal.returns
returns g c = λ x told ps i h bs bridge rows news image z. attachment_is_image (g.T.Selection.model x told) ps i h bs bridge rows news image z
