use Rattle.trace_check.proofs.Walking.{known_more}
use Rattle.trace_check.proofs.walk.add_result.Goals as goal

pub returns-in_ok-add_result-in-Some : goal.returns-in_ok-add_result-in-Some
returns-in_ok-add_result-in-Some c = known_more c.args.trace.now c.args.k c.in-Some.op.now c.args.seen.now c.add_result.new.self c.in-Some.ensures c.requires.seen c.in_ok-add_result-in-Some.ensures
