use Rattle.image_runs.specs.Selecting.{Selected}
use Rattle.image_built.specs.declared.running.Code.{Code}
use Rattle.image_built.specs.Printing.{printed_rows}
use Rattle.image_built.proofs.Alike.{compiled_runs}
use Rattle.image_built.proofs.running.compiled_runs.Goals as goal

pub returns : goal.returns
returns g c = λ x set whole ps settings im.
    let d : Selected = record { set = set; whole = whole; settings = settings; pieces = ps } in
    let y : Code g.row.T.Denot = record { told = x; rows = printed_rows im } in
    compiled_runs (g.T.Hosted.host x) set whole ps settings im (record {
      names = c.equality_decides.ensures.piece_id;
      jumps = c.chosen_jumps.ensures;
      short = c.chosen_are_short.ensures;
      stays = c.sound_pieces_stay_ready.ensures;
    }) (c.compiled_is_built.ensures y) (record {
      built = c.built_stands.ensures y d;
      keeps = c.sessions_stand.ensures.run y d;
      forward = c.ends_forward.ensures y d;
      shown = c.ends_backward.ensures.shown y d;
      waits = c.ends_backward.ensures.waits y d;
      misfits = c.ends_backward.ensures.misfits y d;
      full = c.ends_backward.ensures.full y d;
      going = c.calls_are_had.ensures.going y d;
      calls = c.calls_are_had.ensures.shown y d;
    })
