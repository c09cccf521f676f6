use Rattle.trace_meaning.proofs.Performed.{prebuilts-performed, numbered-performed}
use Rattle.trace_meaning.proofs.performing.perform.Goals as goal

pub returns-clause-table : goal.returns-clause-table
returns-clause-table c = prebuilts-performed _ c.in_ok-done.done _ _ c.in_ok-done.ensures.ok

pub returns-clause-numbered : goal.returns-clause-numbered
returns-clause-numbered c = numbered-performed _ c.in_ok-done.done _ _ c.in_ok-done.ensures.ok
