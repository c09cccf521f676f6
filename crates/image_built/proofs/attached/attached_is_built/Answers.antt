use Rattle.image_built.proofs.Attachments.{attached_is_built}
use Rattle.image_built.proofs.attached.attached_is_built.Goals as goal

pub returns : goal.returns
returns g c = λ x. attached_is_built (g.T.Hosted.host x) c.equality_decides.ensures.piece_id c.chosen_jumps.ensures c.chosen_are_short.ensures c.sound_pieces_stay_ready.ensures (record {
  chosen = c.chosen_have_rows.ensures;
  exits = c.exits_have_rows.ensures;
  does = c.selected_pieces_do.ensures x;
  stubs = c.stubs_exit.ensures x;
  jumps = c.jumps_hold.ensures;
  bridges = c.guards_hold.ensures;
}) (record {
  holds = c.label_holds.ensures.holds;
  stands = c.label_holds.ensures.stands;
  starts = c.start_fits.ensures;
})
