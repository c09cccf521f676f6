use Rattle.std.proofs.Common.{◌≡◌, ◌+◌, ◌*◌, List, ◌∷◌, drop, arith, subst}
use Rattle.session_text.specs.declared.session.Line.{Line}
use Rattle.session_seen.specs.Keeping.{most_of_line}
use Rattle.session_seen.proofs.Lining.{Goes, next_fits, next_few, next_starts, left_at, left_none, counted_next, goes_next, goes_last}
use Rattle.session_seen.proofs.lines.put_lines.Goals as goal

pub put_line-requires-clause-fits : goal.put_line-requires-clause-fits
put_line-requires-clause-fits c =
    next_fits c.args.names.now c.args.session.now c.loop-line.session c.args.out.now.items c.loop-line.out.items c.args.lines.now (drop (c.loop-line.line-index + 1) c.args.lines.now) c.line-item.result (c.loop-line.line-index * most_of_line)
    (subst (λ (z : List Line). Goes c.args.names.now c.args.session.now c.loop-line.session c.args.out.now.items c.loop-line.out.items c.args.lines.now z (c.loop-line.line-index * most_of_line)) (left_at c.args.lines.now c.loop-line.line-index c.line-item.result c.loop-line-test.true c.line-item.is) c.loop-line.invariant)

pub put_line-requires-clause-few : goal.put_line-requires-clause-few
put_line-requires-clause-few c =
    next_few c.args.names.now c.args.session.now c.loop-line.session c.args.out.now.items c.loop-line.out.items c.args.lines.now (drop c.loop-line.line-index c.args.lines.now) (c.loop-line.line-index * most_of_line) c.loop-line.invariant

pub put_line-requires-clause-starts : goal.put_line-requires-clause-starts
put_line-requires-clause-starts c =
    next_starts c.args.names.now c.args.session.now c.loop-line.session c.args.out.now.items c.loop-line.out.items c.args.lines.now (drop (c.loop-line.line-index + 1) c.args.lines.now) c.line-item.result (c.loop-line.line-index * most_of_line)
    (subst (λ (z : List Line). Goes c.args.names.now c.args.session.now c.loop-line.session c.args.out.now.items c.loop-line.out.items c.args.lines.now z (c.loop-line.line-index * most_of_line)) (left_at c.args.lines.now c.loop-line.line-index c.line-item.result c.loop-line-test.true c.line-item.is) c.loop-line.invariant)

pub loop-line-preserved : goal.loop-line-preserved
loop-line-preserved c =
    subst (λ n. Goes c.args.names.now c.args.session.now c.put_line.new.session c.args.out.now.items c.put_line.new.out.items c.args.lines.now (drop (c.loop-line.line-index + 1) c.args.lines.now) n) (counted_next c.loop-line.line-index most_of_line)
    (goes_next c.args.names.now c.args.session.now c.loop-line.session c.put_line.new.session c.args.out.now.items c.loop-line.out.items c.put_line.new.out.items c.args.lines.now (drop (c.loop-line.line-index + 1) c.args.lines.now) c.line-item.result (c.loop-line.line-index * most_of_line)
    (subst (λ (z : List Line). Goes c.args.names.now c.args.session.now c.loop-line.session c.args.out.now.items c.loop-line.out.items c.args.lines.now z (c.loop-line.line-index * most_of_line)) (left_at c.args.lines.now c.loop-line.line-index c.line-item.result c.loop-line-test.true c.line-item.is) c.loop-line.invariant)
    c.in_ok-put_line.ensures)

pub returns : goal.returns
returns c =
    goes_last c.args.names.now c.args.session.now c.loop-line.session c.args.out.now.items c.loop-line.out.items c.args.lines.now (c.loop-line.line-index * most_of_line)
    (subst (λ (z : List Line). Goes c.args.names.now c.args.session.now c.loop-line.session c.args.out.now.items c.loop-line.out.items c.args.lines.now z (c.loop-line.line-index * most_of_line)) (left_none c.args.lines.now c.loop-line.line-index c.loop-line-test.false) c.loop-line.invariant)
