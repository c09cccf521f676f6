use Rattle.std.proofs.Common.{ℕ, ◌+◌, ap, sym, subst, ◌∙◌, slice_set}
use Rattle.virtuals.specs.Namings.{IsAtLeast, lowered_count}
use Rattle.virtuals.proofs.NamingLemmas.{lowers_set, read_is}
use Rattle.virtuals.proofs.counting.lower.Goals as goal

pub returns-clause-lowers : goal.returns-clause-lowers
returns-clause-lowers c = lowers_set c.args.counts.now.items c.args.id c.lowered.result c.requires (λ n h. c.lowered.ensures.least n (subst (λ (k : ℕ). IsAtLeast k (n + 1)) (sym (read_is c.args.counts.now.items c.args.id c.index.result.now c.requires c.index.ensures)) h))

pub returns-clause-exactly : goal.returns-clause-exactly
returns-clause-exactly c =
    ap (slice_set c.args.counts.now.items c.args.id) (c.lowered.ensures.exactly ∙ ap lowered_count (read_is c.args.counts.now.items c.args.id c.index.result.now c.requires c.index.ensures))
