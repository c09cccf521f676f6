use Rattle.session_host.specs.declared.arena_host.ArenaHost.{ArenaHost}
use Rattle.image_shows.proofs.Sessions.{attached_show}
use Rattle.image_shows.proofs.laws.attached_images_show.Goals as goal

pub returns : goal.returns
returns c = λ set whole ps settings im arena_bytes.
    let x : ArenaHost = record { set = set; pieces = whole; arena_bytes = arena_bytes } in
    attached_show set whole ps settings im arena_bytes (record {
      same = c.rebuilt_same.ensures;
      show = c.ends_show_alike.ensures;
      alone = c.roots_are_numbered_alone.ensures;
      runs = c.pieces_run.ensures;
      exits = c.exits_show.ensures;
      finishes = c.finishes_show.ensures;
    }) (record {
      can = c.sound_snapshots_rebuild.ensures;
      decide = c.equality_decides.ensures.box;
      binding = c.boxes_keep_their_values.ensures;
      keep = c.operations_keep_kinds.ensures;
    }) c.made_pieces_promise_legs.ensures c.arena_hosts_do.ensures (c.attached_runs.ensures x set whole ps settings im)
