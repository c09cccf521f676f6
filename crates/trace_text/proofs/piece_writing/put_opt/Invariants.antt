use Rattle.std.proofs.Common.{◌≡◌, ◌++◌, take}
use Rattle.std.specs.List.{flat_map}
use Rattle.trace_text.specs.PieceWriting.{opt_lines}
use Rattle.trace_text.proofs.piece_writing.put_opt.Given as goal

abbrev pub invariant-loop-one : goal.invariant-loop-one
invariant-loop-one l = l.out.items ≡ l.fn.out.items ++ flat_map (λ o. opt_lines l.set o) (take l.one-index l.opt)
