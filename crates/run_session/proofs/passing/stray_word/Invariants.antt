use Rattle.std.proofs.Common.{◌≡◌, drop}
use Rattle.run_session.specs.Answers.{stray_by}
use Rattle.run_session.proofs.passing.stray_word.Given as goal

abbrev pub invariant-loop-k : goal.invariant-loop-k
invariant-loop-k l = stray_by l.rebuilt.found (drop l.k l.kinds) (drop l.k l.words) ≡ stray_by l.rebuilt.found l.kinds l.words
