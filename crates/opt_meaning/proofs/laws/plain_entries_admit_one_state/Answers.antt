use Rattle.opt_meaning.proofs.Identity.{admits-itself}
use Rattle.opt_meaning.proofs.laws.plain_entries_admit_one_state.Goals as goal

pub returns : goal.returns
returns c = λ t bs vs w distinct kinds first there within. admits-itself c.boxes_keep_their_values.ensures t bs vs w there distinct kinds first within
