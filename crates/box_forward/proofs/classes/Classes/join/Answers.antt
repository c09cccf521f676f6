use Rattle.std.proofs.Common.{ℕ, ◌<◌, List, length, ap, sym, subst, ◌∙◌}
use Rattle.std.proofs.lemmas.Option.{slice_get_within}
use Rattle.box_forward.specs.Trees.{root}
use Rattle.box_forward.proofs.ClassLemmas.{node_within, joins_both}
use Rattle.box_forward.proofs.classes.Classes.join.Goals as goal

pub root_of-a-requires-clause-node : goal.root_of-a-requires-clause-node
root_of-a-requires-clause-node c =
    subst (λ (xs : List ℕ). c.args.node < length xs) (sym c.deref.ensures.value)
    (node_within c.self.inside.links c.self.inside.parents.items c.self.inside.values.items c.args.self.now c.args.node c.self.view_is (slice_get_within c.args.self.now c.args.node _ c.requires.node.1))

pub root_of-b-requires-clause-node : goal.root_of-b-requires-clause-node
root_of-b-requires-clause-node c =
    subst (λ (xs : List ℕ). c.args.other < length xs) (sym c.deref-2.ensures.value)
    (node_within c.self.inside.links c.self.inside.parents.items c.self.inside.values.items c.args.self.now c.args.other c.self.view_is (slice_get_within c.args.self.now c.args.other _ c.requires.other.1))

pub invariant_of-self : goal.invariant_of-self
invariant_of-self c =
    (joins_both c.self.inside.links c.self.inside.parents.items c.self.inside.sizes.items c.self.inside.values.items c.args.self.now c.self.invariant c.self.view_is c.args.node c.args.other c.requires.node.0 c.requires.other.0
    c.requires.node.1 c.requires.other.1 c.requires.apart c.root_of-a.result c.root_of-b.result
    (c.root_of-a.ensures.root ∙ ap (λ (xs : List ℕ). root c.self.inside.links xs c.args.node) c.deref.ensures.value)
    (c.root_of-b.ensures.root ∙ ap (λ (xs : List ℕ). root c.self.inside.links xs c.args.other) c.deref-2.ensures.value)
    c.link-root.new.parents.items c.link-root.new.sizes.items c.link-root.result c.index-to.result.now c.link-root.ensures.linked c.link-root.ensures.each c.index-to.ensures).0

pub returns : goal.returns
returns c = λ b d h w.
    (joins_both c.self.inside.links c.self.inside.parents.items c.self.inside.sizes.items c.self.inside.values.items c.args.self.now c.self.invariant c.self.view_is c.args.node c.args.other b d h w c.requires.apart
    c.root_of-a.result c.root_of-b.result
    (c.root_of-a.ensures.root ∙ ap (λ (xs : List ℕ). root c.self.inside.links xs c.args.node) c.deref.ensures.value)
    (c.root_of-b.ensures.root ∙ ap (λ (xs : List ℕ). root c.self.inside.links xs c.args.other) c.deref-2.ensures.value)
    c.link-root.new.parents.items c.link-root.new.sizes.items c.link-root.result c.index-to.result.now c.link-root.ensures.linked c.link-root.ensures.each c.index-to.ensures).1
