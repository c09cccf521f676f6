use Rattle.std.specs.List.{flat_map}
use Rattle.trace_ops.specs.Parts.{boxes_of_val}
use Rattle.linear_scan.specs.Living.{HaveNumbersBelow}
use Rattle.linear_scan.proofs.tests.boxes_below.Given as goal

abbrev pub invariant-loop-k : goal.invariant-loop-k
invariant-loop-k l = HaveNumbersBelow l.number (flat_map boxes_of_val l.vals.items)
