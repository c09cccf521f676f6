use Rattle.loop_peel.proofs.Serves.{entries_serve}
use Rattle.loop_peel.proofs.laws.entries_serve_bridges.Goals as goal

pub returns : goal.returns
returns c = entries_serve
