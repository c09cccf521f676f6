use Rattle.arena_objects.proofs.Allocations.{of_push, part_more, allocations_stand, allocations_address}
use Rattle.arena_objects.proofs.laws.allocations_stand.Goals as goal

pub returns : goal.returns
returns c = record { stand = allocations_stand; address = allocations_address; words = of_push; parts = part_more }
