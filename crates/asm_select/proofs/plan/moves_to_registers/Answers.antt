use Rattle.asm_select.specs.Given.{where_in}
use Rattle.asm_select.proofs.Planned.{args_differ}
use Rattle.asm_select.proofs.plan.moves_to_registers.Goals as goal

pub moves_to-requires : goal.moves_to-requires
moves_to-requires c = args_differ (where_in c.args.at.now) c.args.args.now
