use Rattle.std.proofs.Common.{◌≡◌, ◌++◌, ◌+◌, drop}
use Rattle.trace_text.specs.PieceWriting.{more_shapes}
use Rattle.trace_text.proofs.piece_writing.put_more_shapes.Given as goal

abbrev pub invariant-loop-k : goal.invariant-loop-k
invariant-loop-k l = l.out.items ++ more_shapes l.table (l.k + 1) (drop l.k l.shapes) ≡ l.fn.out.items ++ more_shapes l.table 1 l.shapes
