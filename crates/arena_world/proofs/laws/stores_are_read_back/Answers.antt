use Rattle.arena_world.proofs.laws.stores_are_read_back.Goals as goal

pub returns : goal.returns
returns c = λ t objects arena r st h. c.objects_are_read_back.ensures t objects arena st h (c.prebuilts_stand.ensures.kinds t objects arena r st)
