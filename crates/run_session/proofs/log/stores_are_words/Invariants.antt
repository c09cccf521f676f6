use Rattle.std.proofs.Common.{drop}
use Rattle.std.specs.List.{AllByRecursion}
use Rattle.trace_meaning.specs.declared.call.AnswerStore.{AnswerStore}
use Rattle.trace_meaning.specs.Sound.{GivesWord}
use Rattle.run_session.proofs.log.stores_are_words.Given as goal

abbrev pub invariant-loop-store : goal.invariant-loop-store
invariant-loop-store l = AllByRecursion (λ (s : AnswerStore). GivesWord s.value) (drop l.store-index l.stores) → AllByRecursion (λ (s : AnswerStore). GivesWord s.value) l.stores
