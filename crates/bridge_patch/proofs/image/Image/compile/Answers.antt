use Rattle.std.proofs.Common.{◌≡◌, ◌+◌, ◌<◌, ◌^◌, ◌∙◌, List, sym, ap, subst, arith}
use Rattle.std.specs.Prelude.{map}
use Rattle.trace_ops.specs.declared.piece.Piece.{Piece}
use Rattle.opt_meaning.specs.Pieces.{all_pieces}
use Rattle.bridge_patch.specs.Planning.{room_for, can_all}
use Rattle.bridge_patch.specs.Laid.{IsLaid}
use Rattle.bridge_patch.specs.Pieces.{Placed}
use Rattle.bridge_patch.specs.Attached.{IsImageOf}
use Rattle.bridge_patch.proofs.Lists.{take_whole}
use Rattle.bridge_patch.proofs.LayingAll.{now_of}
use Rattle.bridge_patch.proofs.Compiling.{can_lay, image_of, image_of-placed}
use Rattle.bridge_patch.proofs.Compiled.{placed_image}
use Rattle.bridge_patch.proofs.image.Image.compile.Goals as goal

pub lay_out_all-requires : goal.lay_out_all-requires
lay_out_all-requires c =
    let loops = c.args.loops.now in
    let e : map now_of c.deref.result.now ≡ all_pieces loops = ap (map now_of) c.deref.ensures.value ∙ c.loop-one.invariant ∙ ap all_pieces (take_whole c.loop-one.one-index loops c.loop-one-test.false) in
    let k = can_lay c.args.set.now loops c.args.registers c.requires in
    record {
      can = subst (can_all c.args.set.now c.args.registers) (sym e) k.0;
      room = subst (λ (ps : List Piece). 49 + room_for ps < 2 ^ 30) (sym e) k.1;
    }

pub assembled-requires : goal.assembled-requires
assembled-requires c =
    let loops = c.args.loops.now in
    let e : map now_of c.deref.result.now ≡ all_pieces loops = ap (map now_of) c.deref.ensures.value ∙ c.loop-one.invariant ∙ ap all_pieces (take_whole c.loop-one.one-index loops c.loop-one-test.false) in
    let laid = subst (λ (ps : List Piece). IsLaid c.args.set.now c.args.registers ps c.in_ok-laid.laid) e (c.in_ok-laid.ensures {u = tt}) in
    let k = can_lay c.args.set.now loops c.args.registers c.requires in
    omega (arith, laid.short, k.1)

pub returns-clause-image : goal.returns-clause-image
returns-clause-image c =
    let loops = c.args.loops.now in
    let e : map now_of c.deref.result.now ≡ all_pieces loops = ap (map now_of) c.deref.ensures.value ∙ c.loop-one.invariant ∙ ap all_pieces (take_whole c.loop-one.one-index loops c.loop-one-test.false) in
    let laid = subst (λ (ps : List Piece). IsLaid c.args.set.now c.args.registers ps c.in_ok-laid.laid) e (c.in_ok-laid.ensures {u = tt}) in
    image_of c.args.set.now c.args.registers (all_pieces loops) c.in_ok-laid.laid c.in_ok-image.image laid c.in_ok-image.ensures.bytes c.in_ok-image.ensures.pieces c.in_ok-image.ensures.exits

pub returns-clause-placed : goal.returns-clause-placed
returns-clause-placed c =
    let loops = c.args.loops.now in
    let e : map now_of c.deref.result.now ≡ all_pieces loops = ap (map now_of) c.deref.ensures.value ∙ c.loop-one.invariant ∙ ap all_pieces (take_whole c.loop-one.one-index loops c.loop-one-test.false) in
    let laid = subst (λ (ps : List Piece). IsLaid c.args.set.now c.args.registers ps c.in_ok-laid.laid) e (c.in_ok-laid.ensures {u = tt}) in
    let i = c.in_ok-image.ensures in
    (laid.placed, laid.pieces, placed_image c.args.set.now c.args.registers loops c.in_ok-laid.laid c.in_ok-image.image laid c.requires i.registers i.bytes i.pieces i.exits i.attached)

pub returns-clause-both : goal.returns-clause-both
returns-clause-both c =
    let loops = c.args.loops.now in
    let e : map now_of c.deref.result.now ≡ all_pieces loops = ap (map now_of) c.deref.ensures.value ∙ c.loop-one.invariant ∙ ap all_pieces (take_whole c.loop-one.one-index loops c.loop-one-test.false) in
    let laid = subst (λ (ps : List Piece). IsLaid c.args.set.now c.args.registers ps c.in_ok-laid.laid) e (c.in_ok-laid.ensures {u = tt}) in
    let i = c.in_ok-image.ensures in (
      image_of c.args.set.now c.args.registers (all_pieces loops) c.in_ok-laid.laid c.in_ok-image.image laid i.bytes i.pieces i.exits,
      subst (λ (pls : List Placed). IsImageOf c.args.set.now pls c.in_ok-image.image) (sym (image_of-placed c.args.set.now c.args.registers (all_pieces loops) c.in_ok-laid.laid c.in_ok-image.image laid i.bytes i.pieces i.exits))
          (placed_image c.args.set.now c.args.registers loops c.in_ok-laid.laid c.in_ok-image.image laid c.requires i.registers i.bytes i.pieces i.exits i.attached),
    )
