use Rattle.std.proofs.Common.{◌≡◌, ◌++◌, [], drop}
use Rattle.recorded_seen.specs.Sessions.{lines_text}
use Rattle.recorded_seen.proofs.sessions.put_lines.Given as goal

abbrev pub invariant-loop-line : goal.invariant-loop-line
invariant-loop-line l =
    l.out.items ++ lines_text l.set l.names l.operations l.cuts.items (drop l.line-index l.lines) ≡ l.fn.out.items ++ lines_text l.set l.names l.operations [] l.lines
