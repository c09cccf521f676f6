use Rattle.image_built.proofs.Standing.{compiled_stands}
use Rattle.image_built.proofs.laws.compiled_stands.Goals as goal

pub returns : goal.returns
returns g c = λ x. compiled_stands (g.T.Hosted.host x) c.equality_decides.ensures.piece_id c.chosen_jumps.ensures c.chosen_are_short.ensures c.sound_pieces_stay_ready.ensures (record {
  chosen = c.chosen_have_rows.ensures;
  exits = c.exits_have_rows.ensures;
  does = c.selected_pieces_do.ensures x;
  stubs = c.stubs_exit.ensures x;
  jumps = c.jumps_hold.ensures;
  bridges = c.guards_hold.ensures;
})
