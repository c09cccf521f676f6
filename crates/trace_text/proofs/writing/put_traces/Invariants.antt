use Rattle.std.proofs.Common.{◌≡◌, ◌++◌, take}
use Rattle.std.specs.List.{flat_map}
use Rattle.trace_text.specs.Writing.{trace_lines}
use Rattle.trace_text.proofs.writing.put_traces.Given as goal

abbrev pub invariant-loop-trace : goal.invariant-loop-trace
invariant-loop-trace l = l.out.items ≡ l.fn.out.items ++ flat_map (λ tr. trace_lines l.table tr) (take l.trace-index l.traces)
