use Rattle.std.proofs.Common.{◌≡◌, ◌++◌, take}
use Rattle.seen_text.specs.Values.{more_values}
use Rattle.seen_text.proofs.values.put_more_values.Given as goal

abbrev pub invariant-loop-value : goal.invariant-loop-value
invariant-loop-value l = l.out.items ≡ l.fn.out.items ++ more_values (take l.value-index l.values)
