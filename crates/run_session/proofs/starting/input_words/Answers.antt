use Rattle.std.proofs.Common.{◌<◌, ◌≤◌, length, map, w64, FitsSigned, rules, arith}
use Rattle.trace_meaning.specs.Sound.{HasWord}
use Rattle.run_session.proofs.Lists.{get_some}
use Rattle.std.proofs.lemmas.Int.{to_z-of_z}
use Rattle.run_session.specs.Beginning.{input_by}
use Rattle.run_session.proofs.Starts.{up_to, pushed}
use Rattle.run_session.proofs.starting.input_words.Goals as goal

pub loop-input-preserved : goal.loop-input-preserved
loop-input-preserved c = record {
  words = (let w = c.input_word.result in let fits : FitsSigned w64 w = search rules in pushed (input_by c.args.host.now) c.args.inputs.now c.loop-input.input-index _ c.loop-input.words.items c.push.new.self.items (map (input_by c.args.host.now) c.args.inputs.now) _ w c.loop-input-test.true c.in_ok-push.ensures.items (to_z-of_z w64 w fits) c.input_word.ensures.value c.loop-input.invariant.words);
  are = up_to (λ k x. HasWord x) c.args.inputs.now c.loop-input.input-index _ c.loop-input-test.true c.loop-input.invariant.are c.input_word.ensures.word;
}

pub returns-clause-are : goal.returns-clause-are
returns-clause-are c k d lt =
    let le : length c.args.inputs.now ≤ c.loop-input.input-index = c.loop-input-test.false in
    let less : k < c.loop-input.input-index = omega (arith, lt, le) in
    c.loop-input.invariant.are k _ less (get_some c.args.inputs.now k d lt)
