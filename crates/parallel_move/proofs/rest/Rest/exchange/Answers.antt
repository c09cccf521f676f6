use Rattle.std.proofs.Common.{◌≡◌, ℕ, ◌<◌, List, length, map, drop, get_or, ap, sym, subst, ◌∙◌, arith}
use Rattle.parallel_move.specs.Moving.{exchanged_pair}
use Rattle.parallel_move.specs.Resting.{Numbered, name, named, located, pairs_of, IsRest}
use Rattle.parallel_move.proofs.RestLemmas.{swapped, read_is, rest_exchanged, exchanged_pairs}
use Rattle.parallel_move.proofs.rest.Rest.exchange.Goals as goal

-- what is exchanged in the second table
exchanged_there : (at new holds : List ℕ) (one other f s : ℕ) → one < length holds → other < length holds → f ≡ get_or holds one f → s ≡ get_or holds other s → new ≡ swapped at f s
    → new ≡ swapped at (get_or holds one 0) (get_or holds other 0)
exchanged_there at new holds one other f s ho hp ef es e =
    e ∙ ap (λ (i : ℕ). swapped at i s) (read_is holds one f ho ef) ∙ ap (swapped at (get_or holds one 0)) (read_is holds other s hp es)

pub invariant_of-self : goal.invariant_of-self
invariant_of-self c =
    let one : c.args.one < length c.self.inside.names.keys = subst (λ (r : Numbered). c.args.one < length r.names) (sym c.self.view_is) c.requires.first in
    let other : c.args.other < length c.self.inside.names.keys = subst (λ (r : Numbered). c.args.other < length r.names) (sym c.self.view_is) c.requires.second in
    let at = exchanged_there c.self.inside.at.items c.swap-2.new.list.items c.self.inside.holds.items c.args.one c.args.other c.index-first.result.now c.index-second.result.now
    (omega (arith, one, c.self.invariant.each_held)) (omega (arith, other, c.self.invariant.each_held)) c.index-first.ensures c.index-second.ensures c.swap-2.ensures in
    let rest = rest_exchanged c.self.inside.names.keys (drop c.self.inside.next c.self.inside.pairs.items) c.self.inside.targets.items c.self.inside.sources.items c.self.inside.at.items c.self.inside.holds.items c.args.one c.args.other one other c.self.invariant in
    subst (λ (xs : List ℕ). IsRest c.self.inside.names.keys (drop c.self.inside.next c.self.inside.pairs.items) c.self.inside.targets.items c.self.inside.sources.items xs c.swap.new.list.items) (sym at)
    (subst (IsRest c.self.inside.names.keys (drop c.self.inside.next c.self.inside.pairs.items) c.self.inside.targets.items c.self.inside.sources.items
    (swapped c.self.inside.at.items (get_or c.self.inside.holds.items c.args.one 0) (get_or c.self.inside.holds.items c.args.other 0))) (sym c.swap.ensures) rest)

pub returns-clause-exchanged : goal.returns-clause-exchanged
returns-clause-exchanged c =
    let one : c.args.one < length c.self.inside.names.keys = subst (λ (r : Numbered). c.args.one < length r.names) (sym c.self.view_is) c.requires.first in
    let other : c.args.other < length c.self.inside.names.keys = subst (λ (r : Numbered). c.args.other < length r.names) (sym c.self.view_is) c.requires.second in
    let at = exchanged_there c.self.inside.at.items c.swap-2.new.list.items c.self.inside.holds.items c.args.one c.args.other c.index-first.result.now c.index-second.result.now
    (omega (arith, one, c.self.invariant.each_held)) (omega (arith, other, c.self.invariant.each_held)) c.index-first.ensures c.index-second.ensures c.swap-2.ensures in
    ap (λ (xs : List ℕ). map (named c.self.inside.names.keys) (located xs (drop c.self.inside.next c.self.inside.pairs.items))) at
    ∙ exchanged_pairs c.self.inside.names.keys (drop c.self.inside.next c.self.inside.pairs.items) c.self.inside.targets.items c.self.inside.sources.items c.self.inside.at.items c.self.inside.holds.items c.args.one c.args.other one other c.self.invariant
    ∙ ap (λ (r : Numbered). map (exchanged_pair (name r.names c.args.one) (name r.names c.args.other)) (pairs_of r)) c.self.view_is
