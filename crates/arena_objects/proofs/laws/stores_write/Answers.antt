use Rattle.arena_objects.proofs.Loads.{parts_are_written, writes_move_nothing, sizes_move_nothing}
use Rattle.arena_objects.proofs.Filling.{filled_stands}
use Rattle.arena_objects.proofs.laws.stores_write.Goals as goal

pub returns : goal.returns
returns c = record { parts = parts_are_written; addresses = writes_move_nothing; sizes = sizes_move_nothing; filled = filled_stands }
