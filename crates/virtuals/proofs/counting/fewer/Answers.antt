use Rattle.std.proofs.Common.{[], ◌∷◌, ap, sym, subst, ◌∙◌}
use Rattle.trace_ops.specs.declared.piece.Val.{Val}
use Rattle.virtuals.specs.Namings.{Lowers, counts_without}
use Rattle.virtuals.proofs.counting.fewer.Goals as goal

pub returns-in-Virtual-clause-lowers : goal.returns-in-Virtual-clause-lowers
returns-in-Virtual-clause-lowers c = subst (λ (p : Val). Lowers c.args.counts.now.items c.lower.new.counts.items (p ∷ [])) (sym c.in-Virtual.is) c.lower.ensures.lowers

pub returns-in-Virtual-clause-exactly : goal.returns-in-Virtual-clause-exactly
returns-in-Virtual-clause-exactly c = c.lower.ensures.exactly ∙ ap (λ (p : Val). counts_without p c.args.counts.now.items) (sym c.in-Virtual.is)
