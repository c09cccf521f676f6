use Rattle.std.proofs.Common.{◌≡◌, ◌++◌, take}
use Rattle.std.specs.List.{flat_map}
use Rattle.trace_text.specs.PieceWriting.{opt_frame_text}
use Rattle.trace_text.proofs.piece_writing.put_frames.Given as goal

abbrev pub invariant-loop-frame : goal.invariant-loop-frame
invariant-loop-frame l = l.out.items ≡ l.fn.out.items ++ flat_map (λ f. opt_frame_text l.table f) (take l.frame-index l.frames)
