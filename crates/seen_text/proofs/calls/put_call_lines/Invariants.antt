use Rattle.std.proofs.Common.{◌≡◌, ◌++◌, drop}
use Rattle.seen_text.specs.Calls.{call_lines}
use Rattle.seen_text.proofs.calls.put_call_lines.Given as goal

abbrev pub invariant-loop-call : goal.invariant-loop-call
invariant-loop-call l = l.out.items ++ call_lines l.table (drop l.call-index l.calls) l.rest ≡ l.fn.out.items ++ call_lines l.table l.calls l.refs
