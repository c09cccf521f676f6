use Rattle.std.proofs.Common.{◌≡◌, ℕ, ◌+◌, ◌∙◌, List, length, drop, take, ap, subst, arith}
use Rattle.trace_ops.specs.declared.piece.Piece.{Piece}
use Rattle.bridge_patch.specs.Pieces.{exits_in}
use Rattle.bridge_patch.specs.Image.{Imaged}
use Rattle.bridge_patch.specs.Planning.{IsPlanned}
use Rattle.bridge_patch.specs.Attached.{entry_code}
use Rattle.bridge_patch.specs.Bridging.{target_places, guards_for, label_for, starts_among}
use Rattle.bridge_patch.proofs.Lists.{front_of, take_of}
use Rattle.bridge_patch.proofs.Building.{Laws}
use Rattle.bridge_patch.proofs.Plans.{can_place}
use Rattle.bridge_patch.proofs.Behind.{LaysBehind, plan_same, behind_more}
use Rattle.bridge_patch.proofs.bridging.lay_out_bridge.Goals as goal

pub bridge_ends-requires-clause-place : goal.bridge_ends-requires-clause-place
bridge_ends-requires-clause-place c =
    let p = c.piece-item.result in
    let all = c.args.pieces.now in
    let i = c.loop-piece.piece-index in
    let h = subst (λ (l : List Piece). LaysBehind c.args.set.now c.args.image.now c.args.source all (take i all) l c.loop-piece.draft.from c.loop-piece.exit c.loop-piece.draft.bytes.items c.loop-piece.exits.items c.loop-piece.heres.items) (front_of all i p (omega arith) c.piece-item.is) c.loop-piece.invariant in
    (c.args.image.now.registers, can_place c.args.set.now p c.args.image.now.registers h.can.0.can)

pub here_of-requires : goal.here_of-requires
here_of-requires c =
    let p = c.piece-item.result in
    let all = c.args.pieces.now in
    let i = c.loop-piece.piece-index in
    let h = subst (λ (l : List Piece). LaysBehind c.args.set.now c.args.image.now c.args.source all (take i all) l c.loop-piece.draft.from c.loop-piece.exit c.loop-piece.draft.bytes.items c.loop-piece.exits.items c.loop-piece.heres.items) (front_of all i p (omega arith) c.piece-item.is) c.loop-piece.invariant in
    c.sound_pieces_can_be_numbered.ensures c.args.set.now h.can.0.can.label_of p h.can.0.can.sound

pub loop-piece-preserved : goal.loop-piece-preserved
loop-piece-preserved c =
    let set = c.args.set.now in
    let image = c.args.image.now in
    let source = c.args.source in
    let p = c.piece-item.result in
    let x = c.in_ok-plan.plan in
    let y = c.in_ok-here_of.field-0 in
    let all = c.args.pieces.now in
    let i = c.loop-piece.piece-index in
    let d = c.loop-piece.draft in
    let e = c.in_ok-ends.ensures in
    let label = label_for image source p in
    let to = target_places image.pieces p.ops in
    let front = entry_code (guards_for image source p) label in
    let at = d.from + c.len-in-loop-piece.result in
    let h = subst (λ (l : List Piece). LaysBehind set image source all (take i all) l d.from c.loop-piece.exit d.bytes.items c.loop-piece.exits.items c.loop-piece.heres.items) (front_of all i p (omega arith) c.piece-item.is) c.loop-piece.invariant in
    let r : c.image.inside.registers ≡ image.registers = ap (λ (m : Imaged). m.registers) c.image.view_is in
    let made = subst (λ (n : ℕ). IsPlanned set p n c.in_ok-ends.ends.label c.in_ok-ends.ends.to c.in_ok-ends.ends.front at c.loop-piece.exit x) r (c.in_ok-plan.ensures {u = tt}) in
    let plan = plan_same set p image.registers c.in_ok-ends.ends.label label c.in_ok-ends.ends.to to c.in_ok-ends.ends.front front at c.loop-piece.exit x e.label e.to e.front made in
    let law : Laws = record { emitted = c.slots_are_emitted.ensures.emitted; noted = c.slots_are_emitted.ensures.noted; sizes = c.slots_are_emitted.ensures.sizes; labels = c.labels_serve.ensures.labels } in
    let starts : c.deref-in-loop-piece.result.now ≡ starts_among image.pieces = c.deref-in-loop-piece.ensures.value ∙ c.in_ok-starts.ensures {u = tt} ∙ ap starts_among (c.deref.ensures.value ∙ ap (λ (m : Imaged). m.pieces) c.image.view_is) in
    let exits : c.loop-piece.exit + c.exits_in.result ≡ c.loop-piece.exit + exits_in p.ops = ap (λ (n : ℕ). c.loop-piece.exit + n) (c.exits_in.ensures ∙ ap exits_in c.items.ensures) in
    let place : at ≡ d.from + length d.bytes.items = omega (arith, c.len-in-loop-piece.ensures) in
    behind_more law set image source all (take i all) (take (i + 1) all) (drop (i + 1) all) d.from c.add_piece.new.draft.from c.loop-piece.exit (c.loop-piece.exit + c.exits_in.result) at d.bytes.items c.add_piece.new.draft.bytes.items
    c.loop-piece.exits.items c.add_piece.new.rows.items c.loop-piece.heres.items c.push.new.self.items c.deref-in-loop-piece.result.now p x y
    h plan place starts (take_of all i p (omega arith) c.piece-item.is) (c.in_ok-push.ensures {u = tt}).items c.in_ok-add_piece.ensures.from exits (c.in_ok-here_of.ensures {u = tt}) c.in_ok-add_piece.ensures.bytes c.in_ok-add_piece.ensures.rows
