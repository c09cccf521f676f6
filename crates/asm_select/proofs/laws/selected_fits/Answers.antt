use Rattle.asm_select.proofs.Fitting.{selected_fits}
use Rattle.asm_select.proofs.laws.selected_fits.Goals as goal

pub returns : goal.returns
returns c = selected_fits c.boxes_live.ensures
