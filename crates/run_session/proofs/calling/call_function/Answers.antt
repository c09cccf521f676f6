use Rattle.std.proofs.Common.{rules, ◌≡◌, ℕ, List, Some, None, ℤ, ap, ◌∙◌}
use Rattle.std.specs.Int.{w64}
use Rattle.std.proofs.lemmas.Int.{to_z-of_z}
use Rattle.guard_exit.specs.Codes.{register}
use Rattle.arena_objects.specs.Walked.{number_in, addresses_found}
use Rattle.x64_machine.specs.Words.{unsigned}
use Rattle.x64_machine.specs.State.{reg}
use Rattle.session_host.specs.Answering.{row_of}
use Rattle.run_session.specs.declared.now.Now.TheVariants.{Wrong}
use Rattle.run_session.specs.Answers.{calls_in, stray_by}
use Rattle.run_session.proofs.CallsPassed.{Numbers}
use Rattle.run_session.proofs.CallsFunction.{stray_passed-stray_by, function_by-stray, function_by-passed}
use Rattle.run_session.proofs.calling.call_function.Goals as goal

pub returns-in-Some-stray_word-clause-came : goal.returns-in-Some-stray_word-clause-came
returns-in-Some-stray_word-clause-came c =
    let t = c.args.table.now in
    let s = c.args.machine.now in
    let row = c.in-Some.row.now in
    let found = c.walk.new.self.found in
    let walked : found ≡ addresses_found t s.arena = search rules in
    let same : Numbers t s.arena found = λ w. ap (λ (xs : List ℕ). number_in w xs) walked ∙ c.walk_finds.ensures.addresses t s.arena w in
    let there : row_of t (reg s (register 10)) ≡ Some row = search rules in
    let stray : stray_by found c.items.result.now c.arg_words-words.result ≡ Some c.in-Some-stray_word.word = search rules in
    let passed = stray_passed-stray_by t found row s c.items.result.now c.arg_words-words.result (Some c.in-Some-stray_word.word) same c.items.ensures c.arg_words-words.ensures stray in
    function_by-stray t c.args.function row c.in-Some-stray_word.word c.wrong-in-Some-stray_word.result _ (calls_in c.args.log.now) s there passed (c.wrong-in-Some-stray_word.ensures ∙ ap (λ (w : ℤ). Wrong (unsigned w)) (to_z-of_z w64 c.in-Some-stray_word.word (search rules)))

pub returns-clause-came : goal.returns-clause-came
returns-clause-came c =
    let t = c.args.table.now in
    let s = c.args.machine.now in
    let row = c.in-Some.row.now in
    let found = c.walk.new.self.found in
    let walked : found ≡ addresses_found t s.arena = search rules in
    let same : Numbers t s.arena found = λ w. ap (λ (xs : List ℕ). number_in w xs) walked ∙ c.walk_finds.ensures.addresses t s.arena w in
    let there : row_of t (reg s (register 10)) ≡ Some row = search rules in
    let none : stray_by found c.items.result.now c.arg_words-words.result ≡ None = search rules in
    let passed = stray_passed-stray_by t found row s c.items.result.now c.arg_words-words.result None same c.items.ensures c.arg_words-words.ensures none in
    function_by-passed t c.args.function row c.take_answer.result _ (calls_in c.args.log.now) (calls_in c.take_answer.new.log) s c.take_answer.new.machine there passed c.take_answer.ensures.came
