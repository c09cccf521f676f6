use Rattle.std.proofs.Common.{length}
use Rattle.image_text.proofs.undoing.+undo_all.Given as goal

-- proposed from what the function passes where it calls itself
abbrev pub decreases-undo_all : goal.decreases-undo_all
decreases-undo_all l = length l.patches.now
