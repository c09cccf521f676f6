use Rattle.std.proofs.Common.{sym, subst}
use Rattle.virtuals.specs.Namings.{Raises}
use Rattle.virtuals.proofs.counting.more.Goals as goal

pub returns-in-Virtual-clause-raises : goal.returns-in-Virtual-clause-raises
returns-in-Virtual-clause-raises c = subst (Raises c.args.counts.now.items c.raise.new.counts.items) (sym c.in-Virtual.is) c.raise.ensures.raises
