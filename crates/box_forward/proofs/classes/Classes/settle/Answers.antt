use Rattle.std.proofs.Common.{ℕ, ◌<◌, List, length, ap, sym, subst, ◌∙◌}
use Rattle.std.proofs.lemmas.Option.{slice_get_within}
use Rattle.box_forward.specs.Trees.{root}
use Rattle.box_forward.proofs.ClassLemmas.{node_within, settles}
use Rattle.box_forward.proofs.classes.Classes.settle.Goals as goal

pub root_of-a-requires-clause-node : goal.root_of-a-requires-clause-node
root_of-a-requires-clause-node c =
    subst (λ (xs : List ℕ). c.args.node < length xs) (sym c.deref.ensures.value)
    (node_within c.self.inside.links c.self.inside.parents.items c.self.inside.values.items c.args.self.now c.args.node c.self.view_is (slice_get_within c.args.self.now c.args.node _ c.requires.node.1))

pub invariant_of-self : goal.invariant_of-self
invariant_of-self c =
    (settles c.self.inside.links c.self.inside.parents.items c.self.inside.sizes.items c.self.inside.values.items c.args.self.now c.self.invariant c.self.view_is c.args.node c.requires.node.0 c.requires.node.1 c.root_of-a.result
    (c.root_of-a.ensures.root ∙ ap (λ (xs : List ℕ). root c.self.inside.links xs c.args.node) c.deref.ensures.value) c.args.to c.requires.constant).0

pub returns : goal.returns
returns c = λ b h.
    (settles c.self.inside.links c.self.inside.parents.items c.self.inside.sizes.items c.self.inside.values.items c.args.self.now c.self.invariant c.self.view_is c.args.node b h c.root_of-a.result
    (c.root_of-a.ensures.root ∙ ap (λ (xs : List ℕ). root c.self.inside.links xs c.args.node) c.deref.ensures.value) c.args.to c.requires.constant).1
