use Rattle.std.proofs.Common.{◌<◌, length, ap, sym, subst, ◌∙◌}
use Rattle.std.proofs.Common.{drop}
use Rattle.parallel_move.specs.Moving.{is_target}
use Rattle.parallel_move.specs.Resting.{Numbered, name, pairs_of}
use Rattle.parallel_move.proofs.RestLemmas.{target_told}
use Rattle.parallel_move.proofs.rest.Rest.is_target.Goals as goal

pub returns : goal.returns
returns c =
    target_told c.self.inside.names.keys (drop c.self.inside.next c.self.inside.pairs.items) c.self.inside.targets.items c.self.inside.sources.items c.self.inside.at.items c.self.inside.holds.items c.self.invariant
    c.args.k c.index.result.now (subst (λ (r : Numbered). c.args.k < length r.names) (sym c.self.view_is) c.requires) c.index.ensures
    ∙ ap (λ (r : Numbered). is_target (name r.names c.args.k) (pairs_of r)) c.self.view_is
