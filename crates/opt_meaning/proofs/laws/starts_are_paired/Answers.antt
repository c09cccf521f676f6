use Rattle.opt_meaning.proofs.Starts.{starts-paired}
use Rattle.opt_meaning.proofs.laws.starts_are_paired.Goals as goal

pub returns : goal.returns
returns c = λ set start inputs answers k q bs range words starts input_words answer_words trace entry distinct kinds.
    starts-paired c.boxes_keep_their_values.ensures c.lawful_legs_can_begin.ensures.starts set start inputs answers range words input_words answer_words starts k q bs trace entry distinct kinds
