use Rattle.std.proofs.Common.{rules}
use Rattle.std.proofs.lemmas.Result.{on_ok_weaker}
use Rattle.descr_table.proofs.Rows.{with_field_set, with_field_beyond}
use Rattle.descr_table.proofs.puts.add_field.Goals as goal

pub returns-then-at-sizes : goal.returns-then-at-sizes
returns-then-at-sizes c = with_field_beyond c.args.sizes.now c.args.at c.args.number (search rules)

pub returns : goal.returns
returns c = on_ok_weaker c.push.result (λ e. rw e (with_field_set c.args.sizes.now c.args.at c.args.number _ (search rules) (search rules))) c.push.ensures.ok
