use Rattle.std.proofs.Common.{◌<◌, length, arith}
use Rattle.parallel_move.proofs.NumberLemmas.{rest_after}
use Rattle.parallel_move.proofs.rest.Rest.take_next.Goals as goal

pub invariant_of-self : goal.invariant_of-self
invariant_of-self c =
    let within : c.self.inside.next < length c.self.inside.pairs.items = omega (arith, c.if-self-len.false) in
    rest_after c.self.inside.names.keys c.self.inside.pairs.items c.self.inside.next c.index.result.now c.self.inside.targets.items c.self.inside.sources.items c.self.inside.at.items c.self.inside.holds.items
    c.lower.new.counts.items c.lower-2.new.counts.items within c.index.ensures c.self.invariant c.lower.ensures c.lower-2.ensures
