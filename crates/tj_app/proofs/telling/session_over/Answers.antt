use Rattle.std.proofs.Common.{arith}
use Rattle.tj_app.proofs.telling.session_over.Goals as goal

pub session_part-requires : goal.session_part-requires
session_part-requires c = omega (arith, c.lines_are_few.ensures c.args.bytes.now, c.requires.within)
