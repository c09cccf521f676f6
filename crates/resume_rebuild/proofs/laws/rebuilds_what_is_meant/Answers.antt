use Rattle.resume_rebuild.proofs.ArenaLaws.{ArenaLaws}
use Rattle.resume_rebuild.proofs.Meaning.{rebuilds_what_is_meant}
use Rattle.resume_rebuild.proofs.Given.{gives_what_is_meant}
use Rattle.resume_rebuild.proofs.Bound.{rebuilds_from_parts}
use Rattle.resume_rebuild.proofs.Placed.{places_tell_kinds}
use Rattle.resume_rebuild.proofs.Taken.{takes_what_is_asked}
use Rattle.resume_rebuild.proofs.laws.rebuilds_what_is_meant.Goals as goal

pub returns : goal.returns
returns c =
    let laws : ArenaLaws = record {
      apart = c.addresses_are_apart.ensures;
      stand = c.allocations_stand.ensures.stand;
      added = c.allocations_stand.ensures.words;
      stay = c.allocations_stand.ensures.parts;
      filled = c.stores_write.ensures.filled;
      sizes = c.stores_write.ensures.sizes;
      written = c.spots_lie.ensures.written;
      there = c.bytes_are_taken.ensures.there;
      walk = c.walk_finds.ensures.walk;
      numbers = c.walk_finds.ensures.numbers;
      told = c.walk_finds.ensures.references;
      found = c.walk_finds.ensures.addresses;
    } in
    let decide = c.equality_decides.ensures.box in
    let binding = c.boxes_keep_their_values.ensures in
    record { meant = rebuilds_what_is_meant laws; parts = rebuilds_from_parts laws decide binding; bytes = takes_what_is_asked; kinds = places_tell_kinds; given = gives_what_is_meant laws decide binding }
