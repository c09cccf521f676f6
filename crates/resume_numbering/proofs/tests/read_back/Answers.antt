use Rattle.std.proofs.Common.{◌∙◌, ap, sym}
use Rattle.resume_numbering.specs.Reading.{place_of}
use Rattle.resume_numbering.proofs.FittingLemmas.{numbered_kinds, placed_row}
use Rattle.resume_numbering.proofs.tests.read_back.Goals as goal

pub frames_of-requires-clause-lawful : goal.frames_of-requires-clause-lawful
frames_of-requires-clause-lawful c = c.in_ok-table.ensures.lawful

pub frames_of-requires-clause-row : goal.frames_of-requires-clause-row
frames_of-requires-clause-row c = placed_row c.in_ok-table.table c.args.guard c.in-Some.field-0 (ap (place_of c.args.guard) (sym c.items.ensures) ∙ sym c.place_of.ensures ∙ c.in-Some.is)

pub frames_of-requires-clause-kinds : goal.frames_of-requires-clause-kinds
frames_of-requires-clause-kinds c = numbered_kinds c.args.piece.now c.in_ok-table.table c.args.kinds.now c.args.guard c.in_ok-table.ensures c.requires.kinds
