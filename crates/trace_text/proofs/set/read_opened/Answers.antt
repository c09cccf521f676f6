use Rattle.std.proofs.Common.{sym}
use Rattle.std.proofs.lemmas.Bool.{eqb-true}
use Rattle.trace_text.proofs.Through.{opened_empty}
use Rattle.trace_text.proofs.set.read_opened.Goals as goal

pub returns-then-is_empty : goal.returns-then-is_empty
returns-then-is_empty c = opened_empty c.no_table.result c.args.end c.args.first_line c.args.text.now c.read_traces.result c.no_table.ensures (eqb-true _ _ (sym c.if-is_empty.ensures)) c.read_traces.ensures
