use Rattle.std.proofs.Common.{◌≡◌, ◌++◌, ◌∙◌, ap, sym, length}
use Rattle.std.specs.List.{flat_map}
use Rattle.trace_ops.specs.Parts.{boxes_of_frame, boxes_of_shape, boxes_of_pending}
use Rattle.linear_scan.specs.Marking.{mark}
use Rattle.linear_scan.proofs.Marks.{below_parts, length-mark, mark-append}
use Rattle.linear_scan.proofs.marking.mark_snapshot.Goals as goal

pub mark_frames-requires : goal.mark_frames-requires
mark_frames-requires c =
    let s = c.args.snap.now in
    let n = length c.args.tos.now in
    let front = (below_parts n (flat_map boxes_of_frame s.frames ++ flat_map boxes_of_shape s.shapes) (flat_map boxes_of_pending s.pending) c.requires).0 in
    rw c.items.ensures (below_parts n (flat_map boxes_of_frame s.frames) (flat_map boxes_of_shape s.shapes) front).0

pub mark_shapes-requires : goal.mark_shapes-requires
mark_shapes-requires c =
    let s = c.args.snap.now in
    let n = length c.args.tos.now in
    let front = (below_parts n (flat_map boxes_of_frame s.frames ++ flat_map boxes_of_shape s.shapes) (flat_map boxes_of_pending s.pending) c.requires).0 in
    let same : length c.mark_frames.new.tos ≡ n = ap length c.mark_frames.ensures ∙ length-mark c.args.k (flat_map boxes_of_frame c.items.result.now) c.args.tos.now in
    rw same (rw c.items-2.ensures (below_parts n (flat_map boxes_of_frame s.frames) (flat_map boxes_of_shape s.shapes) front).1)

pub mark_stores-requires : goal.mark_stores-requires
mark_stores-requires c =
    let s = c.args.snap.now in
    let n = length c.args.tos.now in
    let rest = (below_parts n (flat_map boxes_of_frame s.frames ++ flat_map boxes_of_shape s.shapes) (flat_map boxes_of_pending s.pending) c.requires).1 in
    let same : length c.mark_frames.new.tos ≡ n = ap length c.mark_frames.ensures ∙ length-mark c.args.k (flat_map boxes_of_frame c.items.result.now) c.args.tos.now in
    let same2 : length c.mark_shapes.new.tos ≡ n = ap length c.mark_shapes.ensures ∙ length-mark c.args.k (flat_map boxes_of_shape c.items-2.result.now) c.mark_frames.new.tos ∙ same in
    rw same2 (rw c.items-3.ensures rest)

pub returns : goal.returns
returns c =
    let s = c.args.snap.now in
    let k = c.args.k in
    let tos = c.args.tos.now in
    let frames = flat_map boxes_of_frame s.frames in
    let shapes = flat_map boxes_of_shape s.shapes in
    let stores = flat_map boxes_of_pending s.pending in
    let a : c.mark_frames.new.tos ≡ mark k frames tos = c.mark_frames.ensures ∙ ap (λ xs. mark k (flat_map boxes_of_frame xs) tos) c.items.ensures in
    let b : c.mark_shapes.new.tos ≡ mark k shapes c.mark_frames.new.tos = c.mark_shapes.ensures ∙ ap (λ xs. mark k (flat_map boxes_of_shape xs) c.mark_frames.new.tos) c.items-2.ensures in
    let d : c.mark_stores.new.tos ≡ mark k stores c.mark_shapes.new.tos = c.mark_stores.ensures ∙ ap (λ xs. mark k (flat_map boxes_of_pending xs) c.mark_shapes.new.tos) c.items-3.ensures in
    d ∙ ap (mark k stores) (b ∙ ap (mark k shapes) a)
    ∙ sym (mark-append k (frames ++ shapes) stores tos ∙ ap (mark k stores) (mark-append k frames shapes tos))
