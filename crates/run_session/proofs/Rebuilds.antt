-- A piece's numbered table rebuilds what its guards show.
use Rattle.std.proofs.Common.{◌≡◌, ℕ, List, [], ◌∷◌, Some, map, refl, ap, sym, ◌∙◌, subst}
use Rattle.std.specs.Prelude.{slice_get}
use Rattle.std.specs.Option.{option_map}
use Rattle.std.specs.List.{All, AllZip, Contains, flat_map}
use Rattle.std.proofs.lemmas.List.Elements.{All-nil, All-cons, All-head, All-tail}
use Rattle.std.proofs.lemmas.Option.{slice_get_within, get_or_from_slice_get, slice_get-map}
use Rattle.lists.proofs.Alls.{all_at}
use Rattle.lists.proofs.Zips.{zip_first, zip_second}
use Rattle.trace_ops.specs.InRange.{IsTableInRange}
use Rattle.trace_ops.specs.Kinds.{NamesShape}
use Rattle.trace_ops.specs.Pieces.{snapshots_of}
use Rattle.trace_ops.specs.Snapshots.{NamesSnapshot}
use Rattle.trace_ops.specs.declared.table.Table.{Table}
use Rattle.trace_ops.specs.declared.table.ShapeOf.{ShapeOf}
use Rattle.trace_ops.specs.declared.table.ShapeOf.TheVariants.{Size, Array}
use Rattle.trace_ops.specs.declared.trace.Arg.{Arg}
use Rattle.trace_ops.specs.declared.piece.Shape.{Shape}
use Rattle.trace_ops.specs.declared.piece.Snapshot.{Snapshot}
use Rattle.trace_ops.specs.declared.piece.OptOp.{OptOp}
use Rattle.trace_ops.specs.declared.piece.OptOp.TheVariants as opt
use Rattle.trace_ops.specs.declared.piece.Piece.{Piece}
use Rattle.resume_numbering.specs.declared.rows.VirtualRow.{VirtualRow}
use Rattle.resume_numbering.specs.declared.rows.ResumeTable.{ResumeTable}
use Rattle.resume_numbering.specs.Numbered.{StandsIn, IsNumbered}
use Rattle.resume_numbering.specs.Reading.{IsRowOf}
use Rattle.resume_numbering.specs.Standing.{VirtualStands}
use Rattle.resume_numbering.specs.Uses.{Guarded, guarded}
use Rattle.resume_rebuild.specs.Known.{IsKnown, RowsAreKnown, ShapesAreKnown}
use Rattle.resume_rebuild.specs.Rows.{with_row, rows_at}
use Rattle.run_session.specs.Keeping.{RebuildsBy}

-- ---- shapes

-- a shape whose row is there is one of the table's
listed : (t : Table) (s : ShapeOf) → IsTableInRange t → NamesShape t s → Contains t.shapes s
listed t (Size k) range h =
    let once = range.each_size_once k h in
    (once.0, slice_get_within t.shapes once.0 (Size k) once.1, get_or_from_slice_get t.shapes once.0 (Size k) (Size k) once.1)
listed t (Array k) range h =
    let once = range.each_array_once k h in
    (once.0, slice_get_within t.shapes once.0 (Array k) once.1, get_or_from_slice_get t.shapes once.0 (Array k) (Array k) once.1)

rows_known : (t : Table) (consts : List Arg) (virtuals : List VirtualRow) (ks : List ℕ) (ss : List Shape) → IsTableInRange t → AllZip (VirtualStands consts virtuals) ks ss → All (λ (s : Shape). NamesShape t s.of) ss → RowsAreKnown t (rows_at virtuals ks)
rows_known t consts virtuals [] ss range h names = All-nil (λ (r : VirtualRow). IsKnown t r.of)
rows_known t consts virtuals (k ∷ ks) [] range h names = absurd h
rows_known t consts virtuals (k ∷ ks) (s ∷ ss) range h names =
    let row = h.0.0 in
    let own : NamesShape t s.of = All-head (λ (x : Shape). NamesShape t x.of) s ss names in
    let one : IsKnown t row.of = subst (IsKnown t) (sym h.0.2) (listed t s.of range own, own) in
    let more = rows_known t consts virtuals ks ss range h.1 (All-tail (λ (x : Shape). NamesShape t x.of) s ss names) in
    subst (λ o. RowsAreKnown t (with_row o (rows_at virtuals ks))) (sym h.0.1) (All-cons (λ (r : VirtualRow). IsKnown t r.of) row (rows_at virtuals ks) one more)

-- the snapshots of guards, in order
snaps_of : (ops : List OptOp) → map (λ (g : Guarded). g.snap) (guarded ops) ≡ flat_map snapshots_of ops
snaps_of [] = refl
snaps_of (opt.Plain code res args descr ∷ ops) = snaps_of ops
snaps_of (opt.Guard code args guard snap ∷ ops) = ap (λ (l : List Snapshot). snap ∷ l) (snaps_of ops)
snaps_of (opt.Exit guard snap ∷ ops) = ap (λ (l : List Snapshot). snap ∷ l) (snaps_of ops)
snaps_of (opt.Jump to args ∷ ops) = snaps_of ops
snaps_of (opt.Finish value ∷ ops) = snaps_of ops

guard_names : (t : Table) (ops : List OptOp) (k : ℕ) (g : Guarded) → All (NamesSnapshot t) (flat_map snapshots_of ops) → slice_get (guarded ops) k ≡ Some g → NamesSnapshot t g.snap
guard_names t ops k g h e =
    let at : slice_get (flat_map snapshots_of ops) k ≡ Some g.snap = ap (λ (l : List Snapshot). slice_get l k) (sym (snaps_of ops)) ∙ slice_get-map (λ (x : Guarded). x.snap) (guarded ops) k ∙ ap (option_map (λ (x : Guarded). x.snap)) e in
    all_at (NamesSnapshot t) (flat_map snapshots_of ops) k g.snap h at

shapes_known : (t : Table) (table : ResumeTable) (p : Piece) (n : ℕ) → IsTableInRange t → IsNumbered table p → All (NamesSnapshot t) (flat_map snapshots_of p.ops) → ShapesAreKnown t table n
shapes_known t table p n range numbered names row is =
    let r = zip_first (StandsIn table.consts table.frames table.virtuals) table.guards (guarded p.ops) numbered.rows is.place row is.stands in
    rows_known t table.consts table.virtuals row.virtuals r.0.snap.shapes range r.2.stands.virtuals_stand (guard_names t p.ops is.place r.0 names r.1).shapes

-- ---- the table

pub rebuilds_by : (t : Table) (table : ResumeTable) (p : Piece) (k : ℕ) (g : Guarded) → IsTableInRange t → IsNumbered table p → All (NamesSnapshot t) (flat_map snapshots_of p.ops) → slice_get (guarded p.ops) k ≡ Some g → RebuildsBy t table g.guard g.snap
rebuilds_by t table p k g range numbered names e =
    let r = zip_second (StandsIn table.consts table.frames table.virtuals) table.guards (guarded p.ops) numbered.rows k g e in
    let is : IsRowOf table g.guard r.0 = record { place = k; stands = r.1; number = r.2.number } in record {
      lawful = numbered.lawful;
      has = (r.0, is);
      stands = (r.0, is, r.2.stands);
      shapes = shapes_known t table p g.guard range numbered names;
    }
