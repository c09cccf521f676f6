use Rattle.std.proofs.Common.{◌≤◌, ◌*◌, length, subst, arith}
use Rattle.trace_ops.specs.declared.table.CallRow.{CallRow}
use Rattle.run_session.proofs.Sheets.{bounded_step, bounded_all}
use Rattle.run_session.proofs.log.most_seen.Goals as goal

pub loop-row-preserved : goal.loop-row-preserved
loop-row-preserved c =
    let one : length c.row-item.result.args * length c.row-item.result.reads ≤ c.larger-most.result = subst (λ n. n ≤ c.larger-most.result) c.seen_by.ensures c.larger-most.ensures.second in
    bounded_step (λ (x : CallRow). length x.args * length x.reads) c.args.rows.now c.loop-row.row-index c.row-item.result c.loop-row.most c.larger-most.result c.loop-row-test.true c.loop-row.invariant c.larger-most.ensures.first c.row-item.is one

pub returns : goal.returns
returns c = bounded_all (λ (x : CallRow). length x.args * length x.reads ≤ c.loop-row.most) c.args.rows.now c.loop-row.row-index (omega (arith, c.loop-row-test.false)) c.loop-row.invariant
