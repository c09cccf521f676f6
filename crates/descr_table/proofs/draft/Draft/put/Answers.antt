use Rattle.descr_table.specs.Meaning.{form_bytes}
use Rattle.descr_table.proofs.draft.Draft.put.Goals as goal

pub put_object-requires-clause-fits : goal.put_object-requires-clause-fits
unfolding form_bytes
put_object-requires-clause-fits c = rw c.in-Object.is at c.requires.fits

pub put_items-requires-clause-fits : goal.put_items-requires-clause-fits
unfolding form_bytes
put_items-requires-clause-fits c = rw c.in-Items.is at c.requires.fits
