use Rattle.std.proofs.Common.{arith}
use Rattle.text_tests.proofs.sessions.reads_as.Goals as goal

pub read_session-requires : goal.read_session-requires
read_session-requires c = omega (arith, c.lines_are_few.ensures c.args.text.now)
