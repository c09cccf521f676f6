use Rattle.image_runs.proofs.Steadying.{pieces_steady}
use Rattle.image_runs.proofs.events.operations_count_none.Goals as goal

pub returns : goal.returns
returns c = pieces_steady
