use Rattle.std.proofs.Common.{◌≡◌, drop}
use Rattle.seen_text.specs.Calls.{behind_calls}
use Rattle.seen_text.proofs.calls.behind_calls.Given as goal

abbrev pub invariant-loop-call : goal.invariant-loop-call
invariant-loop-call l = behind_calls (drop l.call-index l.calls) l.rest ≡ behind_calls l.calls l.refs
