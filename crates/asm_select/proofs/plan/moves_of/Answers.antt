use Rattle.asm_select.proofs.Planned.{distinct_differ}
use Rattle.asm_select.proofs.plan.moves_of.Goals as goal

pub moves_to-requires : goal.moves_to-requires
moves_to-requires c = distinct_differ _ _ _ c.requires
