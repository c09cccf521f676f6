use Rattle.std.proofs.Common.{◌∙◌, ap, sym, slice_get}
use Rattle.rebuild_tests.specs.Simple.{first_has, all_known}
use Rattle.rebuild_tests.proofs.Simply.{simple_lawful, first_row, shapes_known}
use Rattle.rebuild_tests.proofs.simple.can_rebuild.Goals as goal

pub returns : goal.returns
returns c = record {
  lawful = λ e. simple_lawful c.args.table.now (sym c.is_simple.ensures ∙ c.if-not-is_simple.false);
  row = λ e. first_row c.args.table.now c.args.guard (ap (λ gs. first_has c.args.guard (slice_get gs 0)) (sym c.items-2.ensures) ∙ sym c.is_first.ensures ∙ e);
  shapes = λ e. shapes_known c.args.t.now c.args.table.now c.args.guard (ap (all_known c.args.t.now) (sym c.items.ensures) ∙ sym c.all_known.ensures ∙ c.if-not-all_known.false);
}
