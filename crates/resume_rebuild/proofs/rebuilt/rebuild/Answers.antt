use Rattle.std.proofs.Common.{◌≡◌, ◌∙◌, ◌<◌, length, ap, sym, subst}
use Rattle.resume_numbering.specs.declared.rows.GuardRow.{GuardRow}
use Rattle.resume_numbering.specs.Standing.{StandsFor}
use Rattle.resume_numbering.specs.Reading.{place_of}
use Rattle.lists.proofs.Alls.{all_at}
use Rattle.resume_rebuild.specs.Rebuilding.{bytes_of_all, asked_for, rebuilt_arena}
use Rattle.resume_rebuild.specs.Rows.{arena_at, frames_at}
use Rattle.resume_rebuild.specs.Reserved.{Gives}
use Rattle.resume_rebuild.proofs.RowFinding.{is_placed, row_is, row_one}
use Rattle.resume_rebuild.proofs.RowSnaps.{extents_same, arena_same, frames_same}
use Rattle.resume_rebuild.proofs.rebuilt.rebuild.Goals as goal

pub unreachable-requires : goal.unreachable-requires
unreachable-requires c =
    is_placed c.args.table.now c.args.guard c.requires.row (ap (place_of c.args.guard) (sym c.items-rows.ensures) ∙ sym c.place_of.ensures ∙ c.in_default.is)

pub rebuild_row-requires-clause-known : goal.rebuild_row-requires-clause-known
rebuild_row-requires-clause-known c =
    let table = c.args.table.now in
    let guard = c.args.guard in
    c.requires.shapes c.index-rows-k.result (row_is table guard c.in-Some.k c.items-rows.result.now c.index-rows-k.result c.place_of.result c.items-rows.ensures c.place_of.ensures c.in-Some.is c.index-rows-k.is)

pub returns : goal.returns
returns c snap stands placed =
    let table = c.args.table.now in
    let guard = c.args.guard in
    let row = c.index-rows-k.result in
    let places = c.args.places.now in
    let frame = c.args.frame.now in
    let old = c.args.arena.now in
    let new = c.rebuild_row.new.arena in
    let before = c.args.out.now in
    let after = c.rebuild_row.new.self in
    let result = c.rebuild_row.result in
    let t = before.table in
    let is = row_is table guard c.in-Some.k c.items-rows.result.now row c.place_of.result c.items-rows.ensures c.place_of.ensures c.in-Some.is c.index-rows-k.is in
    let same : stands.0 ≡ row = row_one table guard stands.0 row c.requires.lawful stands.1 is in
    let standing : StandsFor table.consts table.frames table.virtuals row snap = subst (λ (r : GuardRow). StandsFor table.consts table.frames table.virtuals r snap) same stands.2 in
    let inside : row.frame < length table.frames = all_at (λ (g : GuardRow). g.frame < length table.frames) table.guards is.place row c.requires.lawful.guard_frames is.stands in
    let one = subst (λ n. Gives n (arena_at t table row places frame old) (frames_at t table row places frame old) old new before after result) (ap bytes_of_all (extents_same t table row snap places frame old standing)) c.rebuild_row.ensures in
    let two = subst (λ a. Gives (asked_for snap) a (frames_at t table row places frame old) old new before after result) (arena_same t table row snap places frame old standing) one in
    subst (λ f. Gives (asked_for snap) (rebuilt_arena t snap places frame old) f old new before after result) (frames_same t table row snap places frame old standing c.requires.lawful.parents_lower inside placed) two
