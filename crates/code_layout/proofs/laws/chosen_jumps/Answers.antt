use Rattle.code_layout.proofs.Choosing.{chosen_jumps}
use Rattle.code_layout.proofs.laws.chosen_jumps.Goals as goal

pub returns : goal.returns
returns c = chosen_jumps
