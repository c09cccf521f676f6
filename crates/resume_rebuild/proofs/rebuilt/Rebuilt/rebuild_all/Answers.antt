use Rattle.std.proofs.Common.{rules, ◌≡◌, ◌+◌, ◌∙◌, ap, sym, subst}
use Rattle.resume_rebuild.specs.Known.{RowsAreKnown}
use Rattle.resume_rebuild.specs.Rows.{rows_at, arena_at, frames_at}
use Rattle.resume_rebuild.proofs.Joined.{arena_joined, frames_joined}
use Rattle.resume_rebuild.proofs.rebuilt.Rebuilt.rebuild_all.Goals as goal

pub make-requires-clause-known : goal.make-requires-clause-known
make-requires-clause-known c =
    let exit = c.args.exit.now in
    let table : c.args.self.now.table ≡ c.self.inside.table = search rules in
    subst (λ t. RowsAreKnown t (rows_at exit.table.now.virtuals exit.row.now.virtuals)) table c.requires.known

pub returns-clause-arena : goal.returns-clause-arena
returns-clause-arena c =
    let table : c.args.self.now.table ≡ c.self.inside.table = search rules in
    let t = c.self.inside.table in
    let exit = c.args.exit.now in
    let arena = c.args.arena.now in
    let words = c.as_slice-2.ensures.value ∙ c.make.ensures.words in
    let made = c.as_slice-3.ensures.value ∙ c.make.ensures.made in
    let first : 268435456 + c.taken-first.result ≡ 268435456 + arena.taken = ap (λ n. 268435456 + n) c.taken-first.ensures.value in
    arena_joined t exit.table.now exit.row.now exit.places.now exit.frame.now arena c.make.new.arena c.finish.new.arena (268435456 + c.taken-first.result) c.as_slice-2.result.now c.as_slice-3.result.now first words made c.make.ensures.arena c.finish.ensures.arena
    ∙ ap (λ x. arena_at x exit.table.now exit.row.now exit.places.now exit.frame.now arena) (sym table)

pub returns-clause-frames : goal.returns-clause-frames
returns-clause-frames c =
    let table : c.args.self.now.table ≡ c.self.inside.table = search rules in
    let t = c.self.inside.table in
    let exit = c.args.exit.now in
    let arena = c.args.arena.now in
    let words = c.as_slice-2.ensures.value ∙ c.make.ensures.words in
    let made = c.as_slice-3.ensures.value ∙ c.make.ensures.made in
    let first : 268435456 + c.taken-first.result ≡ 268435456 + arena.taken = ap (λ n. 268435456 + n) c.taken-first.ensures.value in
    let after = arena_joined t exit.table.now exit.row.now exit.places.now exit.frame.now arena c.make.new.arena c.finish.new.arena (268435456 + c.taken-first.result) c.as_slice-2.result.now c.as_slice-3.result.now first words made c.make.ensures.arena c.finish.ensures.arena in
    frames_joined t exit.table.now exit.row.now exit.places.now exit.frame.now arena c.finish.new.arena c.finish.new.walked.found c.items.result.now c.as_slice-2.result.now c.as_slice-3.result.now c.finish.new.frames.items c.items.ensures words made after c.finish.ensures.found c.finish.ensures.frames
    ∙ ap (λ x. frames_at x exit.table.now exit.row.now exit.places.now exit.frame.now arena) (sym table)
