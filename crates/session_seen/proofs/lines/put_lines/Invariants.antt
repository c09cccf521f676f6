use Rattle.std.proofs.Common.{◌*◌, drop}
use Rattle.session_seen.specs.Keeping.{most_of_line}
use Rattle.session_seen.proofs.Lining.{Goes}
use Rattle.session_seen.proofs.lines.put_lines.Given as goal

abbrev pub invariant-loop-line : goal.invariant-loop-line
invariant-loop-line l = Goes l.names l.fn.session l.session l.fn.out.items l.out.items l.lines (drop l.line-index l.lines) (l.line-index * most_of_line)
