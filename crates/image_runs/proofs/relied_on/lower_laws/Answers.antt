use Rattle.image_runs.proofs.relied_on.lower_laws.Goals as goal

pub returns : goal.returns
returns c = record {
  instruction = c.one_instruction.ensures;
  least = c.spellings_are_short.ensures.least;
  outcome = c.steps_have_one_outcome.ensures.step;
  counted = c.instructions_are_counted.ensures;
  stand = c.slots_stand.ensures;
}
