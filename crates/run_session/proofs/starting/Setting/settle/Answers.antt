use Rattle.run_session.proofs.starting.Setting.settle.Goals as goal

pub returned-requires-clause-reserved : goal.returned-requires-clause-reserved
returned-requires-clause-reserved c = c.requires.kept.room c.requires.going
