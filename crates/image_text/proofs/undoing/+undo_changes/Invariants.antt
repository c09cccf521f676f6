use Rattle.std.proofs.Common.{length}
use Rattle.image_text.proofs.undoing.+undo_changes.Given as goal

-- proposed from what the function passes where it calls itself
abbrev pub decreases-undo_changes : goal.decreases-undo_changes
decreases-undo_changes l = length l.changes.now
