use Rattle.std.proofs.Common.{ap, sym, subst, ◌∙◌, arith}
use Rattle.box_forward.specs.Tables.{table_from, IsTable}
use Rattle.box_forward.proofs.TableLemmas.{table_begins, table_new}
use Rattle.box_forward.proofs.forward.Forward.new.Goals as goal

pub invariant_of-result : goal.invariant_of-result
invariant_of-result c = subst (IsTable c.in_ok-classes.classes) (sym c.in_ok-stood.ensures) (table_begins c.args.boxes c.in_ok-classes.classes (omega arith) c.in_ok-classes.ensures)

pub returns : goal.returns
returns c = ap (table_from 0 c.in_ok-classes.classes) c.in_ok-stood.ensures ∙ table_new 0 c.in_ok-classes.classes c.args.boxes
