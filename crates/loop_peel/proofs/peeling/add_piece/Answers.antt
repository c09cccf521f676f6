use Rattle.std.proofs.Common.{refl}
use Rattle.loop_peel.proofs.Folded.{adds_both}
use Rattle.loop_peel.proofs.peeling.add_piece.Goals as goal

pub returns : goal.returns
returns c =
    adds_both c.args.checked.now c.args.trace c.args.half c.args.entry.now c.in_ok-piece.field-0 c.in_ok-piece.field-0.piece c.items.result.now _ c.put_left.new.made c.put_piece.new.made
    c.in_ok-piece.ensures refl c.items.ensures c.in_ok-put_left.ensures c.in_ok-put_piece.ensures
