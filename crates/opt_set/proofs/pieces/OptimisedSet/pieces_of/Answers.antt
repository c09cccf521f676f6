use Rattle.std.proofs.Common.{◌≡◌, Some, None, ap, ◌∙◌, rules}
use Rattle.opt_set.specs.Optimised.{left_of}
use Rattle.opt_set.proofs.Attached.{enters_so, attached_so, one_more_so, room_so}
use Rattle.opt_set.proofs.pieces.OptimisedSet.pieces_of.Goals as goal

pub bridge-requires-clause-parent : goal.bridge-requires-clause-parent
bridge-requires-clause-parent c =
    enters_so c.args.checked.now c.set-set.result.now c.set-set.ensures.value c.args.self.now c.requires.pieces c.set-set.ensures.checked.well_formed c.args.bridge c.requires.bridge
    c.entries_serve_bridges.ensures c.parent_at-parent.result c.parent_at-parent.ensures c.items.result.now (ap Some c.items.ensures ∙ c.in-Some-left_at.ensures)

pub returns-in-Ok-clause-pieces : goal.returns-in-Ok-clause-pieces
returns-in-Ok-clause-pieces c =
    let free : None ≡ left_of c.args.self.now.left (Some c.args.bridge) = search rules in
    attached_so c.args.checked.now c.set-set.result.now c.set-set.ensures.value c.args.self.now c.requires.pieces c.set-set.ensures.checked.well_formed c.args.bridge c.requires.bridge
    c.equality_decides.ensures.piece_id c.parent_at-parent.result c.parent_at-parent.ensures c.items.result.now free (ap Some c.items.ensures ∙ c.in-Some-left_at.ensures)
    c.in-Ok.made.opt c.in-Ok.made.at_guards c.in-Ok.ensures

pub returns-in-Ok-clause-one_more : goal.returns-in-Ok-clause-one_more
returns-in-Ok-clause-one_more c =
    let free : None ≡ left_of c.args.self.now.left (Some c.args.bridge) = search rules in
    one_more_so c.args.checked.now c.set-set.result.now c.set-set.ensures.value c.args.self.now c.requires.pieces c.set-set.ensures.checked.well_formed c.args.bridge c.requires.bridge free
    c.in-Ok.made.opt c.in-Ok.made.at_guards

pub returns-in-Ok-clause-room : goal.returns-in-Ok-clause-room
returns-in-Ok-clause-room c = room_so c.args.checked.now c.set-set.result.now c.set-set.ensures.value c.args.self.now c.requires.pieces c.set-set.ensures.checked.well_formed c.args.bridge c.requires.bridge
