use Rattle.std.proofs.Common.{◌∙◌, ap, sym}
use Rattle.resume_numbering.specs.Reading.{place_of}
use Rattle.resume_numbering.proofs.ReadingLemmas.{is_placed, row_is}
use Rattle.resume_numbering.proofs.placed.row_of.Goals as goal

pub returns-in-None-clause-none : goal.returns-in-None-clause-none
returns-in-None-clause-none c = λ has. is_placed c.args.table.now c.args.guard has (ap (place_of c.args.guard) (sym c.items-rows.ensures) ∙ sym c.place_of.ensures ∙ c.in-None.is)

pub returns-in-Some-clause-some : goal.returns-in-Some-clause-some
returns-in-Some-clause-some c =
    row_is c.args.table.now c.args.guard c.in-Some.k c.items-rows.result.now c.index-rows-k.result c.place_of.result c.items-rows.ensures c.place_of.ensures c.in-Some.is c.index-rows-k.is
