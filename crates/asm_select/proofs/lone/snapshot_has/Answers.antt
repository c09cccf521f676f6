use Rattle.std.proofs.Common.{◌∙◌}
use Rattle.asm_select.proofs.Anys.{snapshot_any}
use Rattle.asm_select.proofs.lone.snapshot_has.Goals as goal

pub returns : goal.returns
returns c = c.parts_have.ensures ∙ snapshot_any c.args.r c.args.snap.now
