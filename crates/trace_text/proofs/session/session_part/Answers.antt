use Rattle.std.proofs.Common.{sym}
use Rattle.std.proofs.lemmas.Bool.{eqb-true}
use Rattle.trace_text.proofs.Through.{part_of_nothing}
use Rattle.trace_text.proofs.session.session_part.Goals as goal

pub returns-then-is_empty-clause-part : goal.returns-then-is_empty-clause-part
returns-then-is_empty-clause-part c =
    part_of_nothing c.args.bytes.now c.cut-count.result.1.now c.cut-count.ensures.back (eqb-true _ _ (sym c.if-is_empty.ensures))
