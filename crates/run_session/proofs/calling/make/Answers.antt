use Rattle.std.proofs.Common.{◌≡◌, ◌+◌, ◌<◌, ℤ, negsuc, pos, IsErr, ap, ◌∙◌, arith}
use Rattle.std.specs.Int.{w64}
use Rattle.std.proofs.lemmas.Int.{to_z-of_z}
use Rattle.target_base.specs.Arena.{Arena}
use Rattle.arena_objects.specs.Layout.{bytes_for}
use Rattle.arena_objects.specs.Making.{bytes_left, arena_begun}
use Rattle.x64_machine.specs.State.{State, resumed}
use Rattle.session_host.specs.Entries.{back_of}
use Rattle.run_session.proofs.Makes.{ok_goes, resumes, header_is, fresh_fits, made_goes}
use Rattle.run_session.proofs.calling.make.Goals as goal

pub returns-clause-came : goal.returns-clause-came
returns-clause-came c k =
    let s = c.args.machine.now in
    let u = c.resume.new.self in
    let fresh = c.fresh_word-fresh.result in
    let same = to_z-of_z w64 fresh (fresh_fits fresh c.arena-2.result.now.taken c.fresh_word-fresh.ensures.value c.fresh_word-fresh.ensures.few) in
    let back = resumes _ (negsuc 0) s u c.requires.stands c.resume.ensures ∙ ap (λ (x : ℤ). resumed x (negsuc 0) (back_of s) s) same in
    let kept : u.arena ≡ s.arena = ap (λ (x : State). x.arena) back in
    let lent : c.arena_mut.result.now ≡ s.arena = c.arena_mut.ensures.value ∙ kept in
    let parts = c.parts_for-parts.result in
    let left : c.bytes_left-left.result ≡ bytes_left s.arena = c.bytes_left-left.ensures.value ∙ ap bytes_left c.arena.ensures in
    let same : bytes_left c.arena_mut.result.now ≡ bytes_left s.arena = ap bytes_left lent in
    let room : IsErr c.allocate-made.result → ⊥ = λ e.
    (let over : bytes_left c.arena_mut.result.now < bytes_for c.args.shape parts = c.allocate-made.ensures.full.0 e in absurd (omega (arith, over, same, left, c.if-left-asked.false, c.bytes_asked-asked.ensures, c.bytes_left-left.ensures.few)))
    in
    let made = ok_goes c.allocate-made.result room c.allocate-made.ensures.ok ∙ ap (λ (x : Arena). arena_begun c.args.shape c.header_of.result parts x) lent in
    made_goes c.args.table.now c.args.shape c.args.count parts c.bytes_asked-asked.result c.bytes_left-left.result c.header_of.result c.fresh_word-fresh.result k s u c.allocate-made.new.arena
    c.parts_for-parts.ensures c.bytes_asked-asked.ensures left c.if-left-asked.false c.bytes_left-left.ensures.few back (c.fresh_word-fresh.ensures.value ∙ ap (λ (x : Arena). pos (0x10000000 + x.taken)) c.arena-2.ensures)
    (c.header_of.ensures ∙ header_is c.args.table.now c.args.host.now c.args.shape c.requires.range c.requires.host c.requires.shape) made
