use Rattle.loop_peel.proofs.Fitting.{guards_fit}
use Rattle.loop_peel.proofs.laws.guards_fit_their_trace.Goals as goal

pub returns : goal.returns
returns c = guards_fit
