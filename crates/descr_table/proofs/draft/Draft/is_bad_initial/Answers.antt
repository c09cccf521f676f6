use Rattle.descr_table.specs.Meaning.{is_bad_initial}
use Rattle.descr_table.proofs.draft.Draft.is_bad_initial.Goals as goal

pub returns-in-Object : goal.returns-in-Object
unfolding is_bad_initial
returns-in-Object c = rw c.in-Object.is c.has_bad_part.ensures
