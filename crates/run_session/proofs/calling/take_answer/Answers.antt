use Rattle.std.proofs.Common.{rules, to_z, of_z, ◌≡◌, ℕ, ◌+◌, List, drop, slice_get, None, pos, sym, ap, ◌∙◌}
use Rattle.std.specs.Int.{w64}
use Rattle.std.proofs.lemmas.Int.{to_z-of_z}
use Rattle.target_base.specs.Arena.{Arena}
use Rattle.trace_meaning.specs.declared.call.Answer.{Answer}
use Rattle.arena_objects.specs.Walked.{number_in}
use Rattle.session_host.specs.Answering.{passed_to}
use Rattle.run_session.specs.Answers.{calls_in}
use Rattle.run_session.specs.Logging.{Logging}
use Rattle.run_session.specs.Outcomes.{calls_of}
use Rattle.run_session.proofs.Makes.{fresh_fits}
use Rattle.run_session.proofs.CallsPassed.{Numbers}
use Rattle.run_session.proofs.CallsAnswered.{event, logged, first_of-None, first_of-Misfit, first_of-Full, first_of-Done}
use Rattle.run_session.proofs.CallsShown.{refs_passed, get_dropped, drop_one, shown_by}
use Rattle.run_session.proofs.CallsRead.{reading}
use Rattle.run_session.proofs.CallsGiven.{given_passed}
use Rattle.run_session.proofs.calling.take_answer.Goals as goal

pub returns-in_default-clause-came : goal.returns-in_default-clause-came
returns-in_default-clause-came c =
    let t = c.args.table.now in
    let s = c.args.machine.now in
    let found = c.args.rebuilt.now.found in
    let row = c.args.passed.now.row.now in
    let f = c.args.passed.now.function in
    let args = c.fill_args.new.args.items in
    let seen = c.fill_all_seen.new.seen.items in
    let same : Numbers t s.arena found = λ w. ap (λ (xs : List ℕ). number_in w xs) c.requires.walked ∙ c.walk_finds.ensures.addresses t s.arena w in
    let shown = shown_by t found f row s c.arena.result.now c.items-kinds.result.now c.args.passed.now.words args seen same (reading t s.arena found c.walk_finds.ensures.taken same) c.items-kinds.ensures c.requires.words c.requires.strays c.fill_args.ensures c.arena.ensures c.fill_all_seen.ensures in
    let kept = ap calls_in c.put.ensures ∙ ap (λ (l : Logging). logged l.calls (event f args seen None) (drop l.used l.answers)) c.sheet-args.ensures.after in
    first_of-None t (passed_to f row s) args seen (calls_in c.args.log.now) (calls_in c.put.new.self) s shown (get_dropped c.args.log.now.answers c.args.log.now.used ∙ sym (ap (λ (l : Logging). slice_get l.answers l.used) c.sheet-args.ensures.after) ∙ c.in_default.ensures.none) kept

pub returns-in-Misfit-clause-came : goal.returns-in-Misfit-clause-came
returns-in-Misfit-clause-came c =
    let t = c.args.table.now in
    let s = c.args.machine.now in
    let found = c.args.rebuilt.now.found in
    let row = c.args.passed.now.row.now in
    let f = c.args.passed.now.function in
    let args = c.fill_args.new.args.items in
    let seen = c.fill_all_seen.new.seen.items in
    let same : Numbers t s.arena found = λ w. ap (λ (xs : List ℕ). number_in w xs) c.requires.walked ∙ c.walk_finds.ensures.addresses t s.arena w in
    let shown = shown_by t found f row s c.arena.result.now c.items-kinds.result.now c.args.passed.now.words args seen same (reading t s.arena found c.walk_finds.ensures.taken same) c.items-kinds.ensures c.requires.words c.requires.strays c.fill_args.ensures c.arena.ensures c.fill_all_seen.ensures in
    let refs = refs_passed f row s c.items-kinds.result.now c.args.passed.now.words _ c.items-kinds.ensures c.requires.words c.references-count.ensures.words in
    let some = get_dropped c.args.log.now.answers c.args.log.now.used ∙ sym (ap (λ (l : Logging). slice_get l.answers l.used) c.sheet-args.ensures.after) ∙ c.in-Some.ensures.some in
    let kept = ap calls_in c.put-in-Misfit.ensures ∙ ap (λ (l : Logging). logged l.calls (event f args seen None) (drop l.used l.answers)) c.sheet-args.ensures.after in
    first_of-Misfit t (passed_to f row s) args seen _ c.in-Some.next.now c.count-call.result (calls_in c.args.log.now) (calls_in c.put-in-Misfit.new.self) s c.answer_with.new.machine shown refs some (search rules) c.in-Misfit.ensures kept

pub returns-in-Full-clause-came : goal.returns-in-Full-clause-came
returns-in-Full-clause-came c =
    let t = c.args.table.now in
    let s = c.args.machine.now in
    let row = c.args.passed.now.row.now in
    let f = c.args.passed.now.function in
    let refs = refs_passed f row s c.items-kinds.result.now c.args.passed.now.words _ c.items-kinds.ensures c.requires.words c.references-count.ensures.words in
    let some = get_dropped c.args.log.now.answers c.args.log.now.used ∙ sym (ap (λ (l : Logging). slice_get l.answers l.used) c.sheet-args.ensures.after) ∙ c.in-Some.ensures.some in
    first_of-Full t (passed_to f row s) _ c.in-Some.next.now c.in-Full.full (calls_in c.args.log.now) (calls_in c.sheet-args.new.self) s c.answer_with.new.machine refs some c.in-Full.ensures (ap calls_in c.sheet-args.ensures.after)

pub returns-in-Done-clause-came : goal.returns-in-Done-clause-came
returns-in-Done-clause-came c =
    let t = c.args.table.now in
    let s = c.args.machine.now in
    let u = c.answer_with.new.machine in
    let found = c.args.rebuilt.now.found in
    let row = c.args.passed.now.row.now in
    let f = c.args.passed.now.function in
    let args = c.fill_args.new.args.items in
    let seen = c.fill_all_seen.new.seen.items in
    let value = c.given-value.result in
    let same : Numbers t s.arena found = λ w. ap (λ (xs : List ℕ). number_in w xs) c.requires.walked ∙ c.walk_finds.ensures.addresses t s.arena w in
    let shown = shown_by t found f row s c.arena.result.now c.items-kinds.result.now c.args.passed.now.words args seen same (reading t s.arena found c.walk_finds.ensures.taken same) c.items-kinds.ensures c.requires.words c.requires.strays c.fill_args.ensures c.arena.ensures c.fill_all_seen.ensures in
    let refs = refs_passed f row s c.items-kinds.result.now c.args.passed.now.words _ c.items-kinds.ensures c.requires.words c.references-count.ensures.words in
    let some = get_dropped c.args.log.now.answers c.args.log.now.used ∙ sym (ap (λ (l : Logging). slice_get l.answers l.used) c.sheet-args.ensures.after) ∙ c.in-Some.ensures.some in
    let z = c.fresh_word-fresh.result in
    let own : to_z w64 (of_z w64 z) ≡ z = to_z-of_z w64 z (fresh_fits z c.arena-2.result.now.taken c.fresh_word-fresh.ensures.value c.fresh_word-fresh.ensures.few) in
    let fresh = own ∙ c.fresh_word-fresh.ensures.value ∙ ap (λ (x : Arena). pos (0x10000000 + x.taken)) c.arena-2.ensures in
    let gave = given_passed t c.args.rebuilt.now.table found f row s u.arena c.arena-in-Done.result.now c.items-kinds.result.now c.args.passed.now.words _ (to_z w64 (of_z w64 z)) c.in-Done.gives value same c.items-kinds.ensures c.requires.words
    c.references-count.ensures.words c.requires.known c.arena-in-Done.ensures fresh c.given-value.ensures.value in
    let e = event f args seen value in
    let kept = ap calls_in c.use_answer.ensures ∙ ap (λ (l : Logging). calls_of l.answers (l.used + 1) l.calls) c.put-in-Done.ensures ∙ ap (λ (l : Logging). logged l.calls e (drop (l.used + 1) l.answers)) c.sheet-args.ensures.after
    ∙ ap (λ (xs : List Answer). logged c.args.log.now.calls e xs) (drop_one c.args.log.now.answers c.args.log.now.used) in
    first_of-Done t (passed_to f row s) args seen _ c.in-Some.next.now c.in-Done.gives value (calls_in c.args.log.now) (calls_in c.use_answer.new.self) s u shown refs some gave c.in-Done.ensures kept
