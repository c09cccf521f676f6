use Rattle.image_built.proofs.Standing.{compiled_begins}
use Rattle.image_built.proofs.laws.compiled_begins.Goals as goal

pub returns : goal.returns
returns g c = λ x. compiled_begins (g.T.Hosted.host x) c.equality_decides.ensures.piece_id c.chosen_jumps.ensures c.chosen_are_short.ensures c.sound_pieces_stay_ready.ensures (record {
  holds = c.label_holds.ensures.holds;
  stands = c.label_holds.ensures.stands;
  starts = c.start_fits.ensures;
})
