use Rattle.std.proofs.Common.{◌≡◌, ℕ, ◌+◌, ◌∙◌, ◌++◌, List, drop, take, sym, ap, subst, arith}
use Rattle.std.specs.Prelude.{map}
use Rattle.bridge_patch.specs.Planning.{start_listed, starts_of, targets_from, laid_bytes, StartsBelow, IsHereOf}
use Rattle.trace_ops.specs.declared.piece.PieceId.{PieceId}
use Rattle.bridge_patch.specs.declared.plan.Plan.{Plan}
use Rattle.bridge_patch.specs.Pieces.{exits_in}
use Rattle.code_layout.specs.Emitting.{listed}
use Rattle.bridge_patch.proofs.Lists.{take_map, take_of, get_same}
use Rattle.bridge_patch.proofs.Building.{Laws}
use Rattle.bridge_patch.proofs.LayingAll.{begin, next, lays_more, laid_of, now_of, at_next, finish}
use Rattle.bridge_patch.proofs.laying.lay_out_all.Goals as goal

pub loop-k-init : goal.loop-k-init
loop-k-init c =
    let ps = map now_of c.args.pieces.now in
    let found = c.in_ok-plans.ensures.plans in
    begin c.args.set.now c.args.registers ps c.in_ok-plans.plans.items c.in_ok-draft.draft.from found.0 found.1 c.in_ok-draft.draft.bytes.items c.new-exits.result.items c.new-heres.result.items
    c.in_ok-draft.ensures.from c.in_ok-draft.ensures.bytes c.new-exits.ensures.items c.new-heres.ensures.items found.2 c.requires.can c.in_ok-plans.ensures.starts c.requires.room

pub index-requires : goal.index-requires
index-requires c =
    let k = c.loop-k.k in
    let ps = map now_of c.args.pieces.now in
    let plans = c.in_ok-plans.plans.items in
    let f = at_next c.args.set.now c.args.registers ps (map now_of (take k c.args.pieces.now)) c.args.pieces.now k c.index-pieces-k.result plans (take k plans) c.loop-k.draft.from c.loop-k.draft.bytes.items c.loop-k.exits.items c.loop-k.heres.items c.loop-k-test.true c.index-pieces-k.is c.loop-k.invariant in
    omega (arith, f.0)

pub add_piece-requires : goal.add_piece-requires
add_piece-requires c =
    let k = c.loop-k.k in
    let ps = map now_of c.args.pieces.now in
    let plans = c.in_ok-plans.plans.items in
    let x = c.index.result.now in
    let f = at_next c.args.set.now c.args.registers ps (map now_of (take k c.args.pieces.now)) c.args.pieces.now k c.index-pieces-k.result plans (take k plans) c.loop-k.draft.from c.loop-k.draft.bytes.items c.loop-k.exits.items c.loop-k.heres.items c.loop-k-test.true c.index-pieces-k.is c.loop-k.invariant in
    let h = f.1 x c.index.ensures in
    let n = next c.sound_pieces_can_be_numbered.ensures c.args.set.now c.args.registers ps (map now_of (take k c.args.pieces.now)) (map now_of (drop (k + 1) c.args.pieces.now)) plans (take k plans) (drop (k + 1) plans) c.index-pieces-k.result.now x c.loop-k.draft.from c.loop-k.draft.bytes.items c.loop-k.exits.items c.loop-k.heres.items h in
    record {
      ready = n.ready;
      starts = subst StartsBelow (sym (c.deref-in-loop-k.ensures.value ∙ c.in_ok-starts.ensures {u = tt} ∙ ap starts_of c.deref.ensures.value)) h.starts;
      place = n.place;
      room = n.room;
      few = n.few;
    }

pub here_of-requires : goal.here_of-requires
here_of-requires c =
    let k = c.loop-k.k in
    let ps = map now_of c.args.pieces.now in
    let plans = c.in_ok-plans.plans.items in
    let x = c.index.result.now in
    let f = at_next c.args.set.now c.args.registers ps (map now_of (take k c.args.pieces.now)) c.args.pieces.now k c.index-pieces-k.result plans (take k plans) c.loop-k.draft.from c.loop-k.draft.bytes.items c.loop-k.exits.items c.loop-k.heres.items c.loop-k-test.true c.index-pieces-k.is c.loop-k.invariant in
    let h = f.1 x c.index.ensures in
    (next c.sound_pieces_can_be_numbered.ensures c.args.set.now c.args.registers ps (map now_of (take k c.args.pieces.now)) (map now_of (drop (k + 1) c.args.pieces.now)) plans (take k plans) (drop (k + 1) plans) c.index-pieces-k.result.now x c.loop-k.draft.from c.loop-k.draft.bytes.items c.loop-k.exits.items c.loop-k.heres.items h).number

pub loop-k-preserved : goal.loop-k-preserved
loop-k-preserved c =
    let k = c.loop-k.k in
    let bs = c.args.pieces.now in
    let ps = map now_of bs in
    let plans = c.in_ok-plans.plans.items in
    let b = c.index-pieces-k.result in
    let x = c.index.result.now in
    let y = c.in_ok-here_of.field-0 in
    let f = at_next c.args.set.now c.args.registers ps (map now_of (take k bs)) bs k b plans (take k plans) c.loop-k.draft.from c.loop-k.draft.bytes.items c.loop-k.exits.items c.loop-k.heres.items c.loop-k-test.true c.index-pieces-k.is c.loop-k.invariant in
    let h = f.1 x c.index.ensures in
    let law : Laws = record { emitted = c.slots_are_emitted.ensures.emitted; noted = c.slots_are_emitted.ensures.noted; sizes = c.slots_are_emitted.ensures.sizes; labels = c.labels_serve.ensures.labels } in
    let other : c.index-in-loop-k.result.now ≡ x = get_same plans k c.index-in-loop-k.result.now x f.0 c.index-in-loop-k.ensures c.index.ensures in
    let w = subst (λ (z : Plan). IsHereOf b.now z y) other (c.in_ok-here_of.ensures {u = tt}) in
    let bytes = c.in_ok-add_piece.ensures.bytes ∙ ap (λ (l : List (PieceId × ℕ)). c.loop-k.draft.bytes.items ++ laid_bytes x.at (listed (targets_from (start_listed l) x.stubs b.now.ops)) x (exits_in b.now.ops)) (c.deref-in-loop-k.ensures.value ∙ c.in_ok-starts.ensures {u = tt} ∙ ap starts_of c.deref.ensures.value) in
    lays_more law c.args.set.now c.args.registers ps (map now_of (take k bs)) (map now_of (take (k + 1) bs)) (map now_of (drop (k + 1) bs)) plans (take k plans) (take (k + 1) plans) (drop (k + 1) plans) b.now x y
    c.loop-k.draft.from c.add_piece.new.draft.from c.loop-k.draft.bytes.items c.add_piece.new.draft.bytes.items c.loop-k.exits.items c.add_piece.new.rows.items c.loop-k.heres.items c.push.new.self.items
    h (take_map now_of bs k b c.loop-k-test.true c.index-pieces-k.is) (take_of plans k x f.0 c.index.ensures) (c.in_ok-push.ensures {u = tt}).items c.in_ok-add_piece.ensures.from w bytes c.in_ok-add_piece.ensures.rows

pub returns : goal.returns
returns c =
    let plans = c.in_ok-plans.plans.items in
    let done = finish c.args.set.now c.args.registers c.args.pieces.now c.loop-k.k plans c.loop-k.draft.from c.loop-k.draft.bytes.items c.loop-k.exits.items c.loop-k.heres.items c.loop-k-test.false c.loop-k.invariant in
    laid_of c.args.set.now c.args.registers (map now_of c.args.pieces.now) plans c.loop-k.draft.from (record { bytes = c.loop-k.draft.bytes; exits = c.loop-k.exits; pieces = c.loop-k.heres }) done
