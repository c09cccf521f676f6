use Rattle.std.proofs.Common.{◌≡◌, ◌++◌, take}
use Rattle.trace_text.specs.PieceWriting.{more_stores}
use Rattle.trace_text.proofs.piece_writing.put_more_stores.Given as goal

abbrev pub invariant-loop-store : goal.invariant-loop-store
invariant-loop-store l = l.out.items ≡ l.fn.out.items ++ more_stores l.table (take l.store-index l.stores)
