use Rattle.image_runs.proofs.attachments.code_is_whole.Goals as goal

pub returns : goal.returns
returns g c = λ x told i bs rows image. c.slots_are_whole.ensures i.by i.slots image.have
