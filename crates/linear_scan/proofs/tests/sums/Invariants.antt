use Rattle.std.proofs.Common.{◌≡◌, ◌+◌, length}
use Rattle.std.specs.List.{flat_map}
use Rattle.trace_ops.specs.Pieces.{results_of}
use Rattle.linear_scan.specs.Living.{UsesDefined}
use Rattle.linear_scan.proofs.tests.sums.Given as goal

abbrev pub invariant-loop-number : goal.invariant-loop-number
invariant-loop-number l = record {
  defined : UsesDefined 1 l.ops.items;
  boxes : 1 + length (flat_map results_of l.ops.items) ≡ l.number;
  count : length l.ops.items + 1 ≡ l.number;
}
