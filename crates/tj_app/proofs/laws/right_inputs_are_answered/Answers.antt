use Rattle.tj_app.proofs.Answerable.{answered}
use Rattle.tj_app.proofs.laws.right_inputs_are_answered.Goals as goal

pub returns : goal.returns
returns c = answered c.check_laws.ensures.refused
