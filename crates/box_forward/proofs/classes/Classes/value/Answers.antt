use Rattle.std.proofs.Common.{ℕ, ◌<◌, List, length, ap, sym, subst, ◌∙◌}
use Rattle.box_forward.specs.Trees.{root}
use Rattle.box_forward.proofs.ClassLemmas.{node_within, node_value}
use Rattle.box_forward.proofs.classes.Classes.value.Goals as goal

pub root_of-requires-clause-node : goal.root_of-requires-clause-node
root_of-requires-clause-node c =
    subst (λ (xs : List ℕ). c.args.node < length xs) (sym c.deref.ensures.value)
    (node_within c.self.inside.links c.self.inside.parents.items c.self.inside.values.items c.args.self.now c.args.node c.self.view_is c.requires)

pub returns : goal.returns
returns c =
    node_value c.self.inside.links c.self.inside.parents.items c.self.inside.sizes.items c.self.inside.values.items c.args.self.now c.self.invariant c.self.view_is c.args.node c.root_of.result c.index.result.now c.requires
    (c.root_of.ensures.root ∙ ap (λ (xs : List ℕ). root c.self.inside.links xs c.args.node) c.deref.ensures.value) c.index.ensures
