use Rattle.std.proofs.Common.{◌≡◌, ◌∙◌, length, ap, sym}
use Rattle.std.specs.List.{All}
use Rattle.std.proofs.lemmas.Result.{IfOk-weaker}
use Rattle.trace_ops.specs.declared.piece.Snapshot.{Snapshot}
use Rattle.resume_numbering.specs.declared.rows.GuardRow.{GuardRow}
use Rattle.resume_numbering.specs.declared.rows.PendingRow.{PendingRow}
use Rattle.resume_numbering.specs.Tags.{IsNoVirtual}
use Rattle.resume_numbering.specs.Standing.{StandsFor}
use Rattle.resume_numbering.specs.Reading.{StandsAt, AreOfKind, place_of}
use Rattle.resume_numbering.proofs.ReadingLemmas.{is_placed, row_is, all_at, row_readable, both_ok}
use Rattle.resume_numbering.proofs.UniqueLemmas.{reads_one}
use Rattle.resume_numbering.proofs.reading.frames_of.Goals as goal

pub unreachable-requires : goal.unreachable-requires
unreachable-requires c =
    is_placed c.args.table.now c.args.guard c.requires.row (ap (place_of c.args.guard) (sym c.items-rows.ensures) ∙ sym c.place_of.ensures ∙ c.in_default.is)

pub read_row-requires-clause-readable : goal.read_row-requires-clause-readable
read_row-requires-clause-readable c =
    let row = c.index-rows-k.result in
    let is = row_is c.args.table.now c.args.guard c.in-Some.k c.items-rows.result.now row c.place_of.result c.items-rows.ensures c.place_of.ensures c.in-Some.is c.index-rows-k.is in
    row_readable c.args.table.now (length c.args.kinds.now) is.place row c.requires.lawful is.stands (c.requires.kinds row is)

pub read_row-requires-clause-bases : goal.read_row-requires-clause-bases
read_row-requires-clause-bases c =
    let row = c.index-rows-k.result in
    let is = row_is c.args.table.now c.args.guard c.in-Some.k c.items-rows.result.now row c.place_of.result c.items-rows.ensures c.place_of.ensures c.in-Some.is c.index-rows-k.is in
    all_at (λ (r : GuardRow). All (λ (p : PendingRow). IsNoVirtual p.base) r.pending) c.args.table.now.guards is.place row c.requires.lawful.bases is.stands

pub returns-clause-stands : goal.returns-clause-stands
returns-clause-stands c =
    let row = c.index-rows-k.result in let table = c.args.table.now in
    let is = row_is table c.args.guard c.in-Some.k c.items-rows.result.now row c.place_of.result c.items-rows.ensures c.place_of.ensures c.in-Some.is c.index-rows-k.is in
    IfOk-weaker c.read_row.result (λ snap. StandsFor table.consts table.frames table.virtuals row snap) (λ snap. StandsAt table c.args.guard snap) (λ snap h. (row, is, h)) c.read_row.ensures.stands

pub returns-clause-only : goal.returns-clause-only
returns-clause-only c =
    let row = c.index-rows-k.result in let table = c.args.table.now in let kinds = c.args.kinds.now in
    let is = row_is table c.args.guard c.in-Some.k c.items-rows.result.now row c.place_of.result c.items-rows.ensures c.place_of.ensures c.in-Some.is c.index-rows-k.is in
    let P : Snapshot → Type 0 = λ snap. StandsFor table.consts table.frames table.virtuals row snap in
    IfOk-weaker c.read_row.result (λ snap. P snap × AreOfKind kinds snap) (λ snap. (other : Snapshot) → StandsAt table c.args.guard other → AreOfKind kinds other → other ≡ snap)
    (λ snap h other stands own. reads_one table c.args.guard kinds other snap c.requires.lawful stands own (row, is, h.0) h.1)
    (both_ok c.read_row.result P (AreOfKind kinds) c.read_row.ensures.stands c.read_row.ensures.kinds)
