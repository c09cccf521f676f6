use Rattle.session_text.proofs.AttachLines.{ok-fits}
use Rattle.session_text.proofs.attaching.session_of_all.Goals as goal

pub returns-clause-fits : goal.returns-clause-fits
returns-clause-fits c = ok-fits c.args.set.now c.all_attached.result c.requires c.all_attached.ensures
