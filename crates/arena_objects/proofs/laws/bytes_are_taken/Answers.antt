use Rattle.arena_objects.proofs.Allocations.{shape_bytes, bytes_are_taken, bytes_are_counted}
use Rattle.arena_objects.proofs.Loads.{total}
use Rattle.arena_objects.proofs.laws.bytes_are_taken.Goals as goal

pub returns : goal.returns
returns c = record { all = bytes_are_taken; there = total; those = shape_bytes; allocated = bytes_are_counted }
