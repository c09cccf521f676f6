use Rattle.std.proofs.Common.{rules, ◌≡◌, ℕ, List, length, Ok, subst, sym}
use Rattle.trace_text.specs.Sections.{set_at}
use Rattle.trace_text.specs.Writing.{set_text}
use Rattle.trace_text.proofs.RoundTrip.{set_back}
use Rattle.trace_text.proofs.writing.write_set.Goals as goal

pub returns-clause-read_back : goal.returns-clause-read_back
returns-clause-read_back c =
    let e : c.put_traces.new.out.items ≡ set_text c.args.set.now = search rules in
    λ text place h. subst (λ (written : List ℕ). set_at written ≡ Ok (c.args.set.now, length written)) (sym e) (set_back (record { spelled = c.lines_are_spelled.ensures; form_takes = c.table_laws.ensures.read; tables_in_range = c.tables_are_read_back.ensures.in_range; tables_back = c.tables_are_read_back.ensures.read_back }) text (c.args.set.now, place) h)
