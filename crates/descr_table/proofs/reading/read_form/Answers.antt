use Rattle.std.proofs.Common.{sym, ◌∙◌}
use Rattle.descr_table.specs.Draft.{table_of}
use Rattle.descr_table.proofs.Noted.{none_from, fits, kept}
use Rattle.descr_table.proofs.reading.read_form.Goals as goal

pub put-requires-clause-fits : goal.put-requires-clause-fits
put-requires-clause-fits c = fits c.args.form.now c.args.draft.now.known c.args.defined.now (table_of c.args.draft.now) c.args.draft.now.bytes (sym c.in-Ok.ensures ∙ none_from c.in-Ok.why c.in_default.not-Some) c.requires.is_draft.fits

pub returns-in-Ok-put-clause-kept : goal.returns-in-Ok-put-clause-kept
returns-in-Ok-put-clause-kept c = kept c.args.form.now c.args.defined.now c.args.draft.now c.put.new.self c.requires.is_draft (sym c.in-Ok.ensures ∙ none_from c.in-Ok.why c.in_default.not-Some) c.in-Ok-put.ensures
