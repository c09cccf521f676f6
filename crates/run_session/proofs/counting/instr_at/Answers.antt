use Rattle.run_session.proofs.Guards.{stands_there, none_stands}
use Rattle.run_session.proofs.counting.instr_at.Goals as goal

pub returns-in-None-clause-none : goal.returns-in-None-clause-none
returns-in-None-clause-none g c = none_stands _ _ _ c.spellings_are_short.ensures.most c.fetch-count.ensures.bytes c.in-None.ensures.none

pub returns-in-Some-clause-some : goal.returns-in-Some-clause-some
returns-in-Some-clause-some g c =
    stands_there _ _ _ c.in-Some._len c.in-Some.instr (c.spellings_are_short.ensures.least c.in-Some.instr) c.fetch-count.ensures.bytes c.in-Some.ensures.len c.in-Some.ensures.found
