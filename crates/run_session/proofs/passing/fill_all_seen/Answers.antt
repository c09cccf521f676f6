use Rattle.std.proofs.Common.{rules, ◌≡◌, ◌++◌, ℤ, pos, slice_index_or}
use Rattle.trace_ops.specs.declared.trace.Kind.{Kind}
use Rattle.trace_ops.specs.declared.trace.Kind.TheVariants as kind
use Rattle.run_session.specs.Answers.{fields_seen, seen_if}
use Rattle.run_session.proofs.Seen.{seen_more}
use Rattle.run_session.proofs.passing.fill_all_seen.Goals as goal

pub loop-k-preserved : goal.loop-k-preserved
loop-k-preserved c =
    let t = c.args.table.now in
    let arena = c.args.arena.now in
    let found = c.args.rebuilt.now.found in
    let reads = c.args.row.now.reads in
    let ks = c.items-kinds.result.now in
    let ws = c.args.words.now in
    let k : Kind = slice_index_or ks c.loop-k.k kind.Int in
    let w : ℤ = slice_index_or ws c.loop-k.k (pos 0) in
    let put : c.fill_seen.new.seen.items ≡ c.loop-k.seen.items ++ seen_if k (fields_seen t arena found reads w) = search rules
    in record {
      items = seen_more t arena found reads ks ws c.loop-k.k k w c.loop-k.seen.items c.fill_seen.new.seen.items _ (search rules) (search rules) (search rules) (search rules) put c.loop-k.invariant.items;
      few = search rules;
      room = search rules;
    }
