use Rattle.trace_ops.proofs.WithBoxes.{noted_all, noted_more}
use Rattle.trace_ops.specs.Parts.{boxes_of_pending}
use Rattle.trace_ops.proofs.snapshot_boxes.note_stores.Goals as goal

pub returns : goal.returns
returns c = noted_all boxes_of_pending c.args.stores.now c.loop-store.store-index _ _ c.loop-store-test.false c.loop-store.invariant

pub loop-store-preserved : goal.loop-store-preserved
loop-store-preserved c =
    noted_more boxes_of_pending c.args.stores.now c.loop-store.store-index _ c.loop-store.seen.keys c.note_store.new.seen.keys _ c.loop-store-test.true c.in_ok-note_store.ensures c.loop-store.invariant
