use Rattle.arena_objects.proofs.Walks.{walk_finds, objects_are_numbered, references_are_told}
use Rattle.arena_objects.proofs.Walking.{begins_ends}
use Rattle.arena_objects.proofs.Addresses.{addresses_number}
use Rattle.arena_objects.proofs.ReadBacks.{references_are_read}
use Rattle.arena_objects.proofs.References.{references_compare}
use Rattle.arena_objects.proofs.laws.walk_finds.Goals as goal

pub returns : goal.returns
returns c = record {
  walk = walk_finds;
  numbers = objects_are_numbered;
  references = references_are_told;
  compared = references_compare;
  read = references_are_read;
  taken = begins_ends;
  addresses = addresses_number;
}
