use Rattle.std.proofs.Common.{◌≡◌, ℕ, ◌<◌, ◌++◌, map, drop, Some}
use Rattle.std.specs.Prelude.{slice_get}
use Rattle.trace_meaning.specs.declared.value.Value.{Value}
use Rattle.trace_meaning.specs.Sound.{HasWord}
use Rattle.run_session.specs.Beginning.{input_by}
use Rattle.run_session.proofs.starting.input_words.Given as goal

abbrev pub invariant-loop-input : goal.invariant-loop-input
invariant-loop-input l = record {
  words : l.words.items ++ map (input_by l.host) (drop l.input-index l.inputs) ≡ map (input_by l.host) l.inputs;
  are : (k : ℕ) (x : Value) → k < l.input-index → slice_get l.inputs k ≡ Some x → HasWord x;
}
