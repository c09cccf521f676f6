use Rattle.std.proofs.Common.{rules, to_z, of_z, ◌≡◌, ◌+◌, ◌≤◌, ℤ, List, true, negsuc, pos, sym, ap, ◌∙◌, subst, arith}
use Rattle.std.specs.Int.{w64}
use Rattle.std.proofs.lemmas.Int.{to_z-of_z}
use Rattle.target_base.specs.Arena.{Arena}
use Rattle.arena_objects.specs.Making.{bytes_left}
use Rattle.arena_world.specs.Prebuilt.{prebuilt_addresses}
use Rattle.arena_world.specs.Fitting.{fits_words}
use Rattle.arena_world.specs.Answering.{given_word, fresh_bytes, Comes}
use Rattle.x64_machine.specs.State.{State, resumed}
use Rattle.session_host.specs.Entries.{back_of}
use Rattle.run_session.proofs.Makes.{resumes, fresh_fits, answered_goes}
use Rattle.run_session.proofs.calling.answer_with.Goals as goal

pub returns : goal.returns
returns c =
    let t = c.args.table.now in
    let row = c.args.row.now in
    let refs = c.args.references.now in
    let a = c.args.next.now in
    let s = c.args.machine.now in
    let u = c.resume.new.self in
    let own = to_z-of_z w64 c.given_word-word.result (search rules) in
    let back = resumes _ (negsuc 0) s u c.requires.stands c.resume.ensures ∙ ap (λ (x : ℤ). resumed x (negsuc 0) (back_of s) s) own in
    let lent : c.arena_mut.result.now ≡ s.arena = c.arena_mut.ensures.value ∙ ap (λ (x : State). x.arena) back in
    let left : c.bytes_left-left.result ≡ bytes_left s.arena = c.bytes_left-left.ensures.value ∙ ap bytes_left c.arena-2.ensures in
    let room : fresh_bytes t a.gives ≤ bytes_left s.arena = omega (arith, left, c.if-left-asked.false, c.fresh_asked-asked.ensures.value) in
    let fit : fits_words t row refs s.arena a ≡ true = ap (λ (x : Arena). fits_words t row refs x a) (sym c.arena.ensures) ∙ sym c.fits.ensures ∙ c.if-not-fits.false in
    let z = c.fresh_word-fresh.result in
    let same = to_z-of_z w64 z (fresh_fits z c.arena-3.result.now.taken c.fresh_word-fresh.ensures.value c.fresh_word-fresh.ensures.few) in
    let fresh = same ∙ c.fresh_word-fresh.ensures.value ∙ ap (λ (x : Arena). pos (0x10000000 + x.taken)) c.arena-3.ensures in
    let word = c.given_word-word.ensures ∙ ap (λ (ps : List ℤ). given_word ps refs (to_z w64 (of_z w64 z)) a.gives) c.requires.host.prebuilts ∙ ap (λ (w : ℤ). given_word (prebuilt_addresses t) refs w a.gives) fresh in
    answered_goes t row refs a s u c.answer-done.new.arena c.given_word-word.result c.answer-done.result fit room back word (subst (λ (x : Arena). Comes t row refs a x c.answer-done.new.arena c.answer-done.result) lent c.answer-done.ensures)
