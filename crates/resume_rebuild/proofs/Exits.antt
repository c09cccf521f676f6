-- At a guard of a formed piece all stands that rebuilding asks for.
use Rattle.std.proofs.Common.{◌≡◌, ℕ, zero, suc, ◌+◌, ◌<◌, ◌≤◌, Bool, true, false, ◌||◌, cond, Option, Some, None, List, [], ◌∷◌, ◌++◌, length, map, slice_get, refl, ap, sym, ◌∙◌, subst, arith}
use Rattle.std.specs.Option.{IsSomeAnd}
use Rattle.std.specs.List.{All, AllZip, Contains, flat_map, list_any}
use Rattle.std.proofs.lemmas.List.{length-map}
use Rattle.std.proofs.lemmas.List.Elements.{All-nil, All-cons, All-head, All-tail}
use Rattle.std.proofs.lemmas.Option.{slice_get_within, get_or_from_slice_get, same_Some}
use Rattle.lists.proofs.Alls.{all_at, all_from, all_left, all_right}
use Rattle.lists.proofs.Zips.{zip_second}
use Rattle.trace_ops.specs.Constants.{ArgHasWord}
use Rattle.trace_ops.specs.InRange.{IsTableInRange}
use Rattle.trace_ops.specs.Kinds.{kind_of_val, kind_of_field, HasParts, NamesShape, NamesVal}
use Rattle.trace_ops.specs.Lawful.{IsNumbered as IsBelow, IsShapeLawful, NamesPending}
use Rattle.trace_ops.specs.Parts.{boxes_of, parts_of, with_boxes}
use Rattle.trace_ops.specs.Pieces.{snapshots_of}
use Rattle.trace_ops.specs.Snapshots.{IsSnapshotSound, NamesSnapshot}
use Rattle.trace_ops.specs.Sound.{constants_in_arg, constants_in_val, constants_in}
use Rattle.trace_ops.specs.contracts.trace.BoxIdPartialEq.TheImpl as box_eq
use Rattle.trace_ops.specs.declared.trace.Arg.{Arg}
use Rattle.trace_ops.specs.declared.trace.Arg.TheVariants as arg
use Rattle.trace_ops.specs.declared.trace.BoxId.{BoxId}
use Rattle.trace_ops.specs.declared.table.Table.{Table}
use Rattle.trace_ops.specs.declared.table.SizeRow.{SizeRow}
use Rattle.trace_ops.specs.declared.table.ShapeOf.{ShapeOf}
use Rattle.trace_ops.specs.declared.table.ShapeOf.TheVariants.{Size, Array}
use Rattle.trace_ops.specs.declared.piece.Val.{Val}
use Rattle.trace_ops.specs.declared.piece.Val.TheVariants.{Known, Virtual}
use Rattle.trace_ops.specs.declared.piece.Shape.{Shape}
use Rattle.trace_ops.specs.declared.piece.OptFrame.{OptFrame}
use Rattle.trace_ops.specs.declared.piece.Pending.{Pending}
use Rattle.trace_ops.specs.declared.piece.Snapshot.{Snapshot}
use Rattle.trace_ops.specs.declared.piece.OptOp.{OptOp}
use Rattle.trace_ops.specs.declared.piece.OptOp.TheVariants as o
use Rattle.trace_meaning.specs.Objects.{listed}
use Rattle.trace_meaning.specs.Boxes.{BoxesDecide}
use Rattle.arena_objects.specs.Standing.{HasItsParts}
use Rattle.arena_objects.specs.Starting.{TablesListFields}
use Rattle.resume_numbering.specs.declared.rows.GuardRow.{GuardRow}
use Rattle.resume_numbering.specs.declared.rows.VirtualRow.{VirtualRow}
use Rattle.resume_numbering.specs.Standing.{VirtualStands, StandsFor}
use Rattle.resume_numbering.specs.Numbered.{StandsIn}
use Rattle.resume_numbering.specs.Reading.{IsRowOf}
use Rattle.resume_numbering.specs.Uses.{Guarded, guarded}
use Rattle.resume_rebuild.specs.Exits.{FormedPiecesRebuild}
use Rattle.resume_rebuild.specs.Guarding.{HasEach}
use Rattle.resume_rebuild.specs.Known.{IsKnown, RowsAreKnown}
use Rattle.resume_rebuild.specs.Rows.{with_row, rows_at}
use Rattle.resume_rebuild.specs.Standing.{IsNamed, AreNamed, IsOfTable, CanRebuild}
use Rattle.resume_rebuild.proofs.Placed.{places_tell_kinds}
use Rattle.resume_rebuild.proofs.RowFinding.{row_one}

-- ---- each box of a snapshot is one of its parts

any_holds : BoxesDecide → (P : BoxId → Type 0) (b : BoxId) (kept : List BoxId) → All P kept → list_any (box_eq.ghosts.eq b) kept ≡ true → P b
any_holds decide P b [] h e = absurd (cc)
any_holds decide P b (c ∷ cs) h e = by (box_eq.ghosts.eq b c) refl e (λ g. any_holds decide P b cs (All-tail P c cs h) g)
  where
    by : (t : Bool) → box_eq.ghosts.eq b c ≡ t → (t || list_any (box_eq.ghosts.eq b) cs) ≡ true → (list_any (box_eq.ghosts.eq b) cs ≡ true → P b) → P b
    by true q g rest = subst P (sym ((decide b c).0 q)) (All-head P c cs h)
    by false q g rest = rest g

with_each : BoxesDecide → (P : BoxId → Type 0) (kept bs : List BoxId) → All P (with_boxes kept bs) → All P kept × All P bs
unfolding with_boxes
with_each decide P kept [] h = (h, All-nil P)
with_each decide P kept (b ∷ bs) h = by (list_any (box_eq.ghosts.eq b) kept) refl h (λ g. with_each decide P kept bs g) (λ g. with_each decide P (kept ++ b ∷ []) bs g)
  where
    by : (t : Bool) → list_any (box_eq.ghosts.eq b) kept ≡ t → All P (with_boxes (cond t kept (kept ++ b ∷ [])) bs) → (All P (with_boxes kept bs) → All P kept × All P bs) → (All P (with_boxes (kept ++ b ∷ []) bs) → All P (kept ++ b ∷ []) × All P bs) → All P kept × All P (b ∷ bs)
    by true e g same more =
        let rest = same g in
        (rest.0, All-cons P b bs (any_holds decide P b kept rest.0 e) rest.1)
    by false e g same more =
        let rest = more g in
        (all_left P kept (b ∷ []) rest.0, All-cons P b bs (All-head P b [] (all_right P kept (b ∷ []) rest.0)) rest.1)

-- ---- the snapshot of a guard is one of the piece's

guard_snap : (P : Snapshot → Type 0) (ops : List OptOp) (k : ℕ) (g : Guarded) → All P (flat_map snapshots_of ops) → slice_get (guarded ops) k ≡ Some g → P g.snap
guard_snap P [] k g h e = absurd (cc)
guard_snap P (o.Plain code res args descr ∷ ops) k g h e = guard_snap P ops k g h e
guard_snap P (o.Guard code args guard snap ∷ ops) zero g h e =
    let same : snap ≡ g.snap = ap (λ (x : Guarded). x.snap) (same_Some (record { guard = guard; snap = snap }) g e) in
    subst P same (All-head P snap (flat_map snapshots_of ops) h)
guard_snap P (o.Guard code args guard snap ∷ ops) (suc k) g h e = guard_snap P ops k g (All-tail P snap (flat_map snapshots_of ops) h) e
guard_snap P (o.Exit guard snap ∷ ops) zero g h e =
    let same : snap ≡ g.snap = ap (λ (x : Guarded). x.snap) (same_Some (record { guard = guard; snap = snap }) g e) in
    subst P same (All-head P snap (flat_map snapshots_of ops) h)
guard_snap P (o.Exit guard snap ∷ ops) (suc k) g h e = guard_snap P ops k g (All-tail P snap (flat_map snapshots_of ops) h) e
guard_snap P (o.Jump to args ∷ ops) k g h e = guard_snap P ops k g h e
guard_snap P (o.Finish value ∷ ops) k g h e = guard_snap P ops k g h e

-- ---- shapes

contained : (t : Table) (s : ShapeOf) → IsTableInRange t → NamesShape t s → Contains t.shapes s
contained t (Size k) range h =
    let once = range.each_size_once k h in
    (once.0, slice_get_within t.shapes once.0 (Size k) once.1, get_or_from_slice_get t.shapes once.0 (Size k) (Size k) once.1)
contained t (Array k) range h =
    let once = range.each_array_once k h in
    (once.0, slice_get_within t.shapes once.0 (Array k) once.1, get_or_from_slice_get t.shapes once.0 (Array k) (Array k) once.1)

its_parts : (t : Table) (s : ShapeOf) (vs : List Val) → HasParts t s (map kind_of_val vs) → HasItsParts t s (length vs)
its_parts t (Array a) vs h = tt
its_parts t (Size k) vs h = by (slice_get t.sizes k) h
  where
    by : (o : Option SizeRow) → IsSomeAnd o (λ (row : SizeRow). map kind_of_val vs ≡ map (kind_of_field t) row.fields) → length vs ≡ length (listed o)
    by None g = absurd g
    by (Some row) g = sym (length-map vs kind_of_val) ∙ ap length g ∙ length-map row.fields (kind_of_field t)

shapes_of_table : (t : Table) (ss : List Shape) → IsTableInRange t → All (λ (s : Shape). NamesShape t s.of) ss → All (IsShapeLawful t) ss → All (IsOfTable t) ss
shapes_of_table t [] range names lawful = All-nil (IsOfTable t)
shapes_of_table t (s ∷ ss) range names lawful =
    All-cons (IsOfTable t) s ss
    (contained t s.of range (All-head (λ (x : Shape). NamesShape t x.of) s ss names), its_parts t s.of s.parts (All-head (IsShapeLawful t) s ss lawful).0)
    (shapes_of_table t ss range (All-tail (λ (x : Shape). NamesShape t x.of) s ss names) (All-tail (IsShapeLawful t) s ss lawful))

known_rows : (t : Table) (consts : List Arg) (virtuals : List VirtualRow) (ks : List ℕ) (ss : List Shape) → IsTableInRange t → AllZip (VirtualStands consts virtuals) ks ss → All (λ (s : Shape). NamesShape t s.of) ss → RowsAreKnown t (rows_at virtuals ks)
known_rows t consts virtuals [] ss range h names = All-nil (λ (r : VirtualRow). IsKnown t r.of)
known_rows t consts virtuals (k ∷ ks) [] range h names = absurd h
known_rows t consts virtuals (k ∷ ks) (s ∷ ss) range h names =
    let row = h.0.0 in
    let own : NamesShape t s.of = All-head (λ (x : Shape). NamesShape t x.of) s ss names in
    let one : IsKnown t row.of = subst (IsKnown t) (sym h.0.2) (contained t s.of range own, own) in
    let more = known_rows t consts virtuals ks ss range h.1 (All-tail (λ (x : Shape). NamesShape t x.of) s ss names) in
    subst (λ o. RowsAreKnown t (with_row o (rows_at virtuals ks))) (sym h.0.1) (All-cons (λ (r : VirtualRow). IsKnown t r.of) row (rows_at virtuals ks) one more)

module _ (t : Table) (objects virtuals : ℕ) (many : length t.prebuilts ≤ objects) where
  named_one : (w : Val) → IsBelow virtuals w → NamesVal t w → All ArgHasWord (constants_in_val w) → IsNamed objects virtuals w
  named_one (Known (arg.Of b)) below names words = tt
  named_one (Known (arg.Const z)) below names words = All-head ArgHasWord (arg.Const z) [] words
  named_one (Known arg.Null) below names words = tt
  named_one (Known (arg.Class k)) below names words = tt
  named_one (Known (arg.Func k)) below names words = tt
  named_one (Known (arg.Ptr k)) below names words = (let lt : k < length t.prebuilts = names in omega arith)
  named_one (Virtual k) below names words = below

  named_all : (ws : List Val) → All (IsBelow virtuals) ws → All (NamesVal t) ws → All ArgHasWord (flat_map constants_in_val ws) → AreNamed objects virtuals ws
  named_all [] below names words = All-nil (IsNamed objects virtuals)
  named_all (w ∷ ws) below names words =
      All-cons (IsNamed objects virtuals) w ws
      (named_one w (All-head (IsBelow virtuals) w ws below) (All-head (NamesVal t) w ws names) (all_left ArgHasWord (constants_in_val w) (flat_map constants_in_val ws) words))
      (named_all ws (All-tail (IsBelow virtuals) w ws below) (All-tail (NamesVal t) w ws names) (all_right ArgHasWord (constants_in_val w) (flat_map constants_in_val ws) words))

  -- of each frame or shape, by its values
  named_each : {X : Type 0} (vals : X → List Val) (xs : List X) → All (λ x. All (IsBelow virtuals) (vals x)) xs → All (λ x. All (NamesVal t) (vals x)) xs → All ArgHasWord (flat_map (λ x. flat_map constants_in_val (vals x)) xs) → All (λ x. AreNamed objects virtuals (vals x)) xs
  named_each vals [] below names words = All-nil (λ x. AreNamed objects virtuals (vals x))
  named_each vals (x ∷ xs) below names words =
      All-cons (λ y. AreNamed objects virtuals (vals y)) x xs
      (named_all (vals x) (All-head (λ y. All (IsBelow virtuals) (vals y)) x xs below) (All-head (λ y. All (NamesVal t) (vals y)) x xs names) (all_left ArgHasWord (flat_map constants_in_val (vals x)) (flat_map (λ y. flat_map constants_in_val (vals y)) xs) words))
      (named_each vals xs (All-tail (λ y. All (IsBelow virtuals) (vals y)) x xs below) (All-tail (λ y. All (NamesVal t) (vals y)) x xs names) (all_right ArgHasWord (flat_map constants_in_val (vals x)) (flat_map (λ y. flat_map constants_in_val (vals y)) xs) words))

  named_base : (p : Pending) → NamesPending t p → All ArgHasWord (constants_in_arg p.base ++ constants_in_val p.value) → IsNamed objects virtuals (Known p.base)
  named_base p names words = named_one (Known p.base) tt names.0 (all_left ArgHasWord (constants_in_arg p.base) (constants_in_val p.value) words)

  named_stores : (ps : List Pending) → All (λ (p : Pending). IsBelow virtuals p.value) ps → All (NamesPending t) ps → All ArgHasWord (flat_map (λ (p : Pending). constants_in_arg p.base ++ constants_in_val p.value) ps) → All (λ (p : Pending). IsNamed objects virtuals (Known p.base)) ps × All (λ (p : Pending). IsNamed objects virtuals p.value) ps
  named_stores [] below names words = (All-nil (λ (p : Pending). IsNamed objects virtuals (Known p.base)), All-nil (λ (p : Pending). IsNamed objects virtuals p.value))
  named_stores (p ∷ ps) below names words =
      let own = all_left ArgHasWord (constants_in_arg p.base ++ constants_in_val p.value) (flat_map (λ (q : Pending). constants_in_arg q.base ++ constants_in_val q.value) ps) words in
      let named = All-head (NamesPending t) p ps names in
      let more = named_stores ps (All-tail (λ (q : Pending). IsBelow virtuals q.value) p ps below) (All-tail (NamesPending t) p ps names) (all_right ArgHasWord (constants_in_arg p.base ++ constants_in_val p.value) (flat_map (λ (q : Pending). constants_in_arg q.base ++ constants_in_val q.value) ps) words) in (
        All-cons (λ (q : Pending). IsNamed objects virtuals (Known q.base)) p ps (named_base p named own) more.0,
        All-cons (λ (q : Pending). IsNamed objects virtuals q.value) p ps (named_one p.value (All-head (λ (q : Pending). IsBelow virtuals q.value) p ps below) named.2 (all_right ArgHasWord (constants_in_arg p.base) (constants_in_val p.value) own)) more.1,
      )

pub can_rebuild : (t : Table) (objects : ℕ) (snap : Snapshot) → length t.prebuilts ≤ objects → IsTableInRange t → IsSnapshotSound t snap → NamesSnapshot t snap → All ArgHasWord (constants_in snap) → CanRebuild t objects snap
can_rebuild t objects snap many range sound names words =
    let m = length snap.shapes in
    let frames = flat_map (λ (f : OptFrame). flat_map constants_in_val f.slots) snap.frames in
    let shapes = flat_map (λ (h : Shape). flat_map constants_in_val h.parts) snap.shapes in
    let stores = flat_map (λ (p : Pending). constants_in_arg p.base ++ constants_in_val p.value) snap.pending in
    let most = all_left ArgHasWord (frames ++ shapes) stores words in
    let stored = named_stores t objects m many snap.pending sound.stores_numbered names.stores (all_right ArgHasWord (frames ++ shapes) stores words) in
    record {
      shapes = shapes_of_table t snap.shapes range names.shapes sound.shapes_lawful;
      parts = named_each t objects m many (λ (h : Shape). h.parts) snap.shapes sound.parts_numbered names.parts (all_right ArgHasWord frames shapes most);
      bases = stored.0;
      values = stored.1;
      slots = named_each t objects m many (λ (f : OptFrame). f.slots) snap.frames sound.slots_numbered names.slots (all_left ArgHasWord frames shapes most);
    }

pub formed_pieces_rebuild : BoxesDecide → TablesListFields → FormedPiecesRebuild
formed_pieces_rebuild decide lists set label_of p table k g places objects range formed numbered at words many apart each =
    let t = set.table in
    let sound = guard_snap (IsSnapshotSound t) p.ops k g formed.snapshots_sound at in
    let names = guard_snap (NamesSnapshot t) p.ops k g formed.rows_named.snapshots at in
    let found = zip_second (StandsIn table.consts table.frames table.virtuals) table.guards (guarded p.ops) numbered.rows k g at in
    let row = found.0 in
    let is : IsRowOf table g.guard row = record { place = k; stands = found.1; number = found.2.number } in
    let known = known_rows t table.consts table.virtuals row.virtuals g.snap.shapes range found.2.stands.virtuals_stand names.shapes in
    record {
      lawful = numbered.lawful;
      row = (row, is);
      stands = (row, is, found.2.stands);
      shapes = λ other own. subst (λ (r : GuardRow). RowsAreKnown t (rows_at table.virtuals r.virtuals)) (row_one table g.guard row other numbered.lawful is own) known;
      placed = places_tell_kinds places g.snap apart (with_each decide (HasEach places) [] (boxes_of g.snap) each).1;
      can = can_rebuild t objects g.snap many range sound names words;
      fields = lists t range;
    }
