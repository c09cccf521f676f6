use Rattle.std.proofs.Common.{ℕ, sym, subst}
use Rattle.virtuals.specs.Namings.{IsAtLeast}
use Rattle.virtuals.proofs.NamingLemmas.{raises_set, read_is}
use Rattle.virtuals.proofs.counting.raise.Goals as goal

pub returns-clause-raises : goal.returns-clause-raises
returns-clause-raises c = raises_set c.args.counts.now.items c.args.id c.raised.result c.requires (λ n h. c.raised.ensures n (subst (λ (k : ℕ). IsAtLeast k n) (sym (read_is c.args.counts.now.items c.args.id c.index.result.now c.requires c.index.ensures)) h))
