use Rattle.session_host.proofs.Exits.{exits_show}
use Rattle.session_host.proofs.laws.exits_show.Goals as goal

pub returns : goal.returns
returns c =
    exits_show
    (record {
      told = c.walk_finds.ensures.references;
      back = c.objects_are_read_back.ensures;
      kinds = c.prebuilts_stand.ensures.kinds;
      there = c.bytes_are_taken.ensures.there;
      walk = c.walk_finds.ensures.walk;
      lists = c.prebuilts_stand.ensures.fields;
      parts = c.rebuilds_what_is_meant.ensures.parts;
      decide = c.equality_decides.ensures.box;
      binds = c.boxes_keep_their_values.ensures;
    })
