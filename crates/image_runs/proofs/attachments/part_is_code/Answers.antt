use Rattle.image_runs.proofs.Patching.{part_is_code}
use Rattle.image_runs.proofs.attachments.part_is_code.Goals as goal

pub returns : goal.returns
returns c = part_is_code
