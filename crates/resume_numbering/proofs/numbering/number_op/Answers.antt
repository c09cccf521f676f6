use Rattle.resume_numbering.proofs.NumberLemmas.{one_numbers, none_numbers}
use Rattle.resume_numbering.proofs.numbering.number_op.Goals as goal

pub returns-in_ok-push : goal.returns-in_ok-push
returns-in_ok-push c =
    let e = c.in_ok-row.ensures in
    one_numbers (record { guard = c.in-Some.guard; snap = c.in-Some.snap.now }) c.in_ok-row.row c.args.so_far.now _ _ c.in-Some.ensures c.in_ok-push.ensures.items
    e.guard e.stands e.consts e.frames e.virtuals e.lawful e.frame_count e.virtual_count e.frame_order e.virtual_order e.frames_kept e.virtuals_kept

pub returns-in_default : goal.returns-in_default
returns-in_default c = none_numbers c.args.so_far.now _ c.in_default.ensures c.requires.rows c.requires.frames_kept c.requires.virtuals_kept
