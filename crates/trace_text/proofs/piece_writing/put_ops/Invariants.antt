use Rattle.std.proofs.Common.{◌≡◌, ◌++◌, take}
use Rattle.std.specs.List.{flat_map}
use Rattle.trace_text.specs.PieceWriting.{piece_op_line}
use Rattle.trace_text.proofs.piece_writing.put_ops.Given as goal

abbrev pub invariant-loop-op : goal.invariant-loop-op
invariant-loop-op l = l.out.items ≡ l.fn.out.items ++ flat_map (λ o. piece_op_line l.set l.trace o) (take l.op-index l.ops)
