use Rattle.std.proofs.Common.{◌≤◌, length, take}
use Rattle.std.specs.List.{All}
use Rattle.trace_ops.specs.declared.table.CallRow.{CallRow}
use Rattle.run_session.proofs.log.most_args.Given as goal

abbrev pub invariant-loop-row : goal.invariant-loop-row
invariant-loop-row l = All (λ (row : CallRow). length row.args ≤ l.most) (take l.row-index l.rows)
