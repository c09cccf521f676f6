use Rattle.trace_meaning.proofs.Begun.{small-in_range}
use Rattle.trace_meaning.proofs.run.RecRun.new.Goals as goal

pub begin-requires : goal.begin-requires
begin-requires c = small-in_range c.args.checked_set.now c.requires.in_range
