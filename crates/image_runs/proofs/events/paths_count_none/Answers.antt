use Rattle.image_runs.proofs.Ways.{no_failure}
use Rattle.image_runs.proofs.events.paths_count_none.Goals as goal

pub returns : goal.returns
returns c = no_failure c.lower_laws.ensures
