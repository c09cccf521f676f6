use Rattle.opt_promise.proofs.Promised.{promised_legs}
use Rattle.opt_promise.proofs.laws.made_pieces_promise_legs.Goals as goal

pub returns : goal.returns
returns c = promised_legs c.legs_match.ensures.forward c.legs_match.ensures.backward c.calls_match.ensures.backward
    c.rebuilt_same.ensures c.ends_match.ensures.forward c.ends_match.ensures.backward c.ends_show_alike.ensures c.legs_are_short.ensures c.meeting_pieces_compose.ensures
    c.starts_are_paired.ensures c.lawful_legs_can_begin.ensures.legs c.recorded_legs_are_runs.ensures.short
