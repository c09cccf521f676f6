use Rattle.std.proofs.Common.{◌∙◌, ℕ, ◌<◌, ◌^◌, Option, List, subst, sym, ap, length}
use Rattle.trace_ops.specs.declared.piece.Piece.{Piece}
use Rattle.bridge_patch.specs.declared.image.PieceHere.{PieceHere}
use Rattle.bridge_patch.specs.Bridged.{source_of}
use Rattle.bridge_patch.specs.Attached.{begin_among}
use Rattle.bridge_patch.specs.Bridging.{CanLay, copies_by}
use Rattle.bridge_patch.proofs.Allowed.{among_contains, can_lay_behind}
use Rattle.bridge_patch.proofs.Within.{rows_within, patches_within, behind_few, begins_few, behind_of, within_of, patches_of}
use Rattle.bridge_patch.proofs.Building.{Laws}
use Rattle.bridge_patch.proofs.Attaches.{ok_changed, ok_grown}
use Rattle.bridge_patch.proofs.image.Image.attach.Goals as goal

pub lay_out_bridge-requires : goal.lay_out_bridge-requires
lay_out_bridge-requires c =
    let h = c.requires in
    let set = c.args.set.now in
    let image = c.args.self.now in
    let can = can_lay_behind c.boxes_live.ensures set image c.args.bridge c.args.opt.now.pieces (λ e. h.fresh (among_contains image.attached c.args.bridge e)) h in
    subst (λ (source : Option (ℕ × ℕ)). CanLay set image source c.items.result.now) (sym c.source_of-source.ensures) (subst (λ (ps : List Piece). CanLay set image (source_of set.traces c.args.bridge) ps) (sym c.items.ensures) can)

pub patches-requires-clause-within : goal.patches-requires-clause-within
patches-requires-clause-within c =
    let h = c.requires in
    let set = c.args.set.now in
    let image = c.args.self.now in
    let source = source_of set.traces c.args.bridge in
    within_of (length c.self.inside.code.bytes) (length image.bytes) c.source_of-source.result source c.deref.result.now image.exits (ap (λ i. length i.bytes) c.self.view_is) c.source_of-source.ensures (c.deref.ensures.value ∙ ap (λ i. i.exits) c.self.view_is)
    (rows_within c.chosen_jumps.ensures set h.placed image c.args.bridge h.image_of)

pub patches-requires-clause-begins : goal.patches-requires-clause-begins
patches-requires-clause-begins c q =
    let h = c.requires in
    let set = c.args.set.now in
    let image = c.args.self.now in
    let can = can_lay_behind c.boxes_live.ensures set image c.args.bridge c.args.opt.now.pieces (λ e. h.fresh (among_contains image.attached c.args.bridge e)) h in
    let behind = behind_of set image c.source_of-source.result (source_of set.traces c.args.bridge) c.items.result.now c.args.opt.now.pieces c.in_ok-laid.laid c.source_of-source.ensures c.items.ensures c.in_ok-laid.ensures in
    subst (λ (ys : List PieceHere). begin_among ys q < 2 ^ 31) (sym c.deref-2.ensures.value) (begins_few set image (source_of set.traces c.args.bridge) c.args.opt.now.pieces c.in_ok-laid.laid q can behind)

pub extend-requires-clause-room : goal.extend-requires-clause-room
extend-requires-clause-room c =
    let h = c.requires in
    let set = c.args.set.now in
    let image = c.args.self.now in
    let can = can_lay_behind c.boxes_live.ensures set image c.args.bridge c.args.opt.now.pieces (λ e. h.fresh (among_contains image.attached c.args.bridge e)) h in
    let behind = behind_of set image c.source_of-source.result (source_of set.traces c.args.bridge) c.items.result.now c.args.opt.now.pieces c.in_ok-laid.laid c.source_of-source.ensures c.items.ensures c.in_ok-laid.ensures in
    behind_few set image (source_of set.traces c.args.bridge) c.args.opt.now.pieces c.in_ok-laid.laid can behind

pub extend-requires-clause-within : goal.extend-requires-clause-within
extend-requires-clause-within c =
    let h = c.requires in
    let set = c.args.set.now in
    let image = c.args.self.now in
    let source = source_of set.traces c.args.bridge in
    let are = patches_of c.args.bridge c.self.inside.code.bytes image.bytes c.deref-2.result.now c.in_ok-laid.laid.pieces.items c.source_of-source.result source c.deref.result.now image.exits c.in_ok-patches.patches
    (ap (λ i. i.bytes) c.self.view_is) c.deref-2.ensures.value c.source_of-source.ensures (c.deref.ensures.value ∙ ap (λ i. i.exits) c.self.view_is) c.in_ok-patches.ensures in
    patches_within (length image.bytes) (length c.in_ok-laid.laid.bytes.items) c.args.bridge image.bytes c.in_ok-laid.laid.pieces.items (copies_by source image.exits) c.in_ok-patches.patches (rows_within c.chosen_jumps.ensures set h.placed image c.args.bridge h.image_of) are

pub returns-clause-changed : goal.returns-clause-changed
returns-clause-changed c =
    let set = c.args.set.now in
    let image = c.args.self.now in
    let source = source_of set.traces c.args.bridge in
    let behind = behind_of set image c.source_of-source.result source c.items.result.now c.args.opt.now.pieces c.in_ok-laid.laid c.source_of-source.ensures c.items.ensures c.in_ok-laid.ensures in
    let are = patches_of c.args.bridge c.self.inside.code.bytes image.bytes c.deref-2.result.now c.in_ok-laid.laid.pieces.items c.source_of-source.result source c.deref.result.now image.exits c.in_ok-patches.patches
    (ap (λ i. i.bytes) c.self.view_is) c.deref-2.ensures.value c.source_of-source.ensures (c.deref.ensures.value ∙ ap (λ i. i.exits) c.self.view_is) c.in_ok-patches.ensures in
    let e = c.extend.ensures in
    ok_changed c.extend.result set c.args.bridge c.args.opt.now.pieces image c.extend.new.self c.in_ok-laid.laid c.in_ok-patches.patches behind are e.bytes e.exits e.pieces e.attached e.changes

pub returns-clause-placed : goal.returns-clause-placed
returns-clause-placed c =
    let h = c.requires in
    let set = c.args.set.now in
    let image = c.args.self.now in
    let source = source_of set.traces c.args.bridge in
    let behind = behind_of set image c.source_of-source.result source c.items.result.now c.args.opt.now.pieces c.in_ok-laid.laid c.source_of-source.ensures c.items.ensures c.in_ok-laid.ensures in
    let are = patches_of c.args.bridge c.self.inside.code.bytes image.bytes c.deref-2.result.now c.in_ok-laid.laid.pieces.items c.source_of-source.result source c.deref.result.now image.exits c.in_ok-patches.patches
    (ap (λ i. i.bytes) c.self.view_is) c.deref-2.ensures.value c.source_of-source.ensures (c.deref.ensures.value ∙ ap (λ i. i.exits) c.self.view_is) c.in_ok-patches.ensures in
    let laws : Laws = record { emitted = c.slots_are_emitted.ensures.emitted; noted = c.slots_are_emitted.ensures.noted; sizes = c.slots_are_emitted.ensures.sizes; labels = c.labels_serve.ensures.labels } in
    let e = c.extend.ensures in
    ok_grown c.boxes_live.ensures c.jumps_are_patched.ensures c.chosen_jumps.ensures laws c.extend.result set c.args.bridge c.args.opt.now.pieces image c.extend.new.self c.in_ok-laid.laid c.in_ok-patches.patches h behind are e.registers e.bytes e.exits e.pieces e.attached
