use Rattle.std.proofs.Common.{arith}
use Rattle.text_tests.proofs.sessions.are_named.Goals as goal

pub session_of-requires : goal.session_of-requires
session_of-requires c = omega (arith, c.lines_are_few.ensures c.args.text.now)
