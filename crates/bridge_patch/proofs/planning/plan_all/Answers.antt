use Rattle.std.proofs.Common.{◌≡◌, ◌+◌, ◌<◌, ◌∙◌, List, length, take, drop, subst, ap, sym, refl, ◌*◌, arith}
use Rattle.std.specs.Prelude.{map}
use Rattle.std.specs.Borrow.{Bor}
use Rattle.trace_ops.specs.declared.piece.Piece.{Piece}
use Rattle.bridge_patch.specs.Pieces.{exits_in}
use Rattle.bridge_patch.proofs.Lists.{take_map, drop_map}
use Rattle.bridge_patch.proofs.Planned.{PlansAll, plans_more, ends_are, plan_is, short_front, labels_few}
use Rattle.bridge_patch.proofs.Plans.{loop_ends}
use Rattle.bridge_patch.specs.Planning.{IsShortFront}
use Rattle.bridge_patch.proofs.planning.plan_all.Goals as goal

abbrev now_of : Bor Piece → Piece
now_of b = b.now

pub loop_ends-requires : goal.loop_ends-requires
loop_ends-requires c =
    let xs = c.args.pieces.now in
    let i = c.loop-piece.piece-index in
    let x = c.piece-item.result in
    let lt : i < length xs = omega arith in
    let h = subst (λ (l : List Piece). PlansAll c.args.set.now c.args.registers c.args.from (map now_of xs) (map now_of (take i xs)) l c.loop-piece.plans.items c.loop-piece.at c.loop-piece.exit) (drop_map now_of xs i x lt c.piece-item.is) c.loop-piece.invariant in
    let few = labels_few c.args.set.now x.now c.args.registers h.can.0 in
    record { label = few.0; jump = few.1 }

pub planned-requires : goal.planned-requires
planned-requires c =
    let xs = c.args.pieces.now in
    let i = c.loop-piece.piece-index in
    let x = c.piece-item.result in
    let lt : i < length xs = omega arith in
    let h = subst (λ (l : List Piece). PlansAll c.args.set.now c.args.registers c.args.from (map now_of xs) (map now_of (take i xs)) l c.loop-piece.plans.items c.loop-piece.at c.loop-piece.exit) (drop_map now_of xs i x lt c.piece-item.is) c.loop-piece.invariant in
    let e = c.in_ok-ends.ensures in record {
      can = h.can.0;
      ends = ends_are c.args.registers x.now c.in_ok-ends.ends.label c.in_ok-ends.ends.to e.label e.to (loop_ends c.args.set.now x.now c.args.registers h.can.0);
      front = subst IsShortFront (sym e.front) (short_front x.now.id.half);
      room = omega (arith, h.room, h.limit);
    }

pub loop-piece-preserved : goal.loop-piece-preserved
loop-piece-preserved c =
    let xs = c.args.pieces.now in
    let i = c.loop-piece.piece-index in
    let x = c.piece-item.result in
    let lt : i < length xs = omega arith in
    let done = map now_of (take i xs) in
    let h = subst (λ (l : List Piece). PlansAll c.args.set.now c.args.registers c.args.from (map now_of xs) done l c.loop-piece.plans.items c.loop-piece.at c.loop-piece.exit) (drop_map now_of xs i x lt c.piece-item.is) c.loop-piece.invariant in
    let e = c.in_ok-ends.ensures in
    let made = plan_is c.args.set.now c.args.registers x.now c.loop-piece.at c.loop-piece.exit c.in_ok-plan.plan c.in_ok-ends.ends.label c.in_ok-ends.ends.to c.in_ok-ends.ends.front e.label e.to e.front (c.in_ok-plan.ensures {u = tt}) in
    let exits : c.exits_in-exits.result ≡ exits_in x.now.ops = c.exits_in-exits.ensures ∙ ap exits_in c.items.ensures in
    plans_more c.args.set.now c.args.registers c.args.from (map now_of xs) done (map now_of (take (i + 1) xs)) (map now_of (drop (i + 1) xs)) c.loop-piece.plans.items c.push.new.self.items c.loop-piece.at c.loop-piece.exit (c.in_ok-plan.plan.stubs + 16 * c.exits_in-exits.result) (c.loop-piece.exit + c.exits_in-exits.result) c.exits_in-exits.result x.now c.in_ok-plan.plan
    h made (take_map now_of xs i x lt c.piece-item.is) (c.in_ok-push.ensures {u = tt}).items exits refl refl
