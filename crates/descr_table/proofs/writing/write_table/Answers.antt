use Rattle.std.proofs.Common.{rules, ◌≡◌, ℕ, List, Ok, subst, sym}
use Rattle.descr_table.specs.Reading.{table_at}
use Rattle.descr_table.specs.Writing.{table_text}
use Rattle.descr_table.proofs.RoundTrip.{table_back}
use Rattle.descr_table.proofs.writing.write_table.Goals as goal

pub returns-clause-read_back : goal.returns-clause-read_back
returns-clause-read_back c =
    let e : c.put_prebuilts.new.out.items ≡ table_text c.args.table.now = search rules in
    λ text first again h. subst (λ (written : List ℕ). table_at again written ≡ Ok c.args.table.now) (sym e) (table_back c.lines_are_spelled.ensures first again text c.args.table.now h)
