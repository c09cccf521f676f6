use Rattle.std.proofs.Common.{◌≡◌, ℕ, ◌<◌, length, sym, subst, ◌∙◌}
use Rattle.parallel_move.specs.Resting.{CountTargets, CountSources}
use Rattle.parallel_move.proofs.NumberLemmas.{rest_begins, unmoved}
use Rattle.parallel_move.proofs.rest.Rest.new.Goals as goal

pub invariant_of-result : goal.invariant_of-result
invariant_of-result c =
    let count : c.len-count.result ≡ length c.numbered.new.names.keys = c.len-count.ensures.len in
    rest_begins c.numbered.new.names.keys c.in_ok-pairs.pairs.items c.in_ok-targets.targets.items c.in_ok-sources.sources.items c.in_ok-at.at.items c.in_ok-holds.holds.items c.in_ok-pairs.ensures.once c.in_ok-pairs.ensures.below
    (subst (CountTargets c.in_ok-targets.targets.items) c.deref.ensures.value c.in_ok-targets.ensures.counts) (subst (CountSources c.in_ok-sources.sources.items) c.deref-2.ensures.value c.in_ok-sources.ensures.counts)
    (c.in_ok-targets.ensures.len ∙ count) (c.in_ok-sources.ensures.len ∙ count)
    (λ k h. c.in_ok-at.ensures.each k (subst (λ (n : ℕ). k < n) (sym count) h)) (c.in_ok-at.ensures.len ∙ count) (λ k h. c.in_ok-holds.ensures.each k (subst (λ (n : ℕ). k < n) (sym count) h)) (c.in_ok-holds.ensures.len ∙ count)

pub returns : goal.returns
returns c =
    let count : c.len-count.result ≡ length c.numbered.new.names.keys = c.len-count.ensures.len in
    unmoved c.numbered.new.names.keys c.in_ok-at.at.items c.in_ok-pairs.pairs.items (λ k h. c.in_ok-at.ensures.each k (subst (λ (n : ℕ). k < n) (sym count) h)) c.in_ok-pairs.ensures.below ∙ c.in_ok-pairs.ensures.named
