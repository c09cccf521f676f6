use Rattle.set_in_image.proofs.Loops.{can_compile}
use Rattle.set_in_image.proofs.laws.loops_can_compile.Goals as goal

pub returns : goal.returns
returns c = can_compile c.pieces_are_sound.ensures
