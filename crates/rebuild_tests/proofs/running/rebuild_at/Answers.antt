use Rattle.std.proofs.Common.{◌∙◌, refl, sym, subst}
use Rattle.trace_ops.specs.declared.table.Table.{Table}
use Rattle.resume_rebuild.specs.Known.{ShapesAreKnown}
use Rattle.rebuild_tests.proofs.running.rebuild_at.Goals as goal

pub rebuild-requires-clause-shapes : goal.rebuild-requires-clause-shapes
rebuild-requires-clause-shapes c = subst (λ (t : Table). ShapesAreKnown t c.args.table.now 0) (sym (c.in_ok-reserve.ensures.table ∙ c.requires)) (c.if-not-can_rebuild.ensures.shapes refl)
