use Rattle.std.proofs.Common.{drop}
use Rattle.std.specs.List.{AllByRecursion}
use Rattle.trace_meaning.specs.Sound.{AnswersWords}
use Rattle.run_session.proofs.log.answers_have_words.Given as goal

abbrev pub invariant-loop-answer : goal.invariant-loop-answer
invariant-loop-answer l = AllByRecursion AnswersWords (drop l.answer-index l.answers) → AllByRecursion AnswersWords l.answers
