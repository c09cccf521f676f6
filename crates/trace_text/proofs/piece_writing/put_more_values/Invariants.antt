use Rattle.std.proofs.Common.{◌≡◌, ◌++◌, take}
use Rattle.trace_text.specs.PieceWriting.{more_values}
use Rattle.trace_text.proofs.piece_writing.put_more_values.Given as goal

abbrev pub invariant-loop-value : goal.invariant-loop-value
invariant-loop-value l = l.out.items ≡ l.fn.out.items ++ more_values l.table (take l.value-index l.values)
