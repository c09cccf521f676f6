-- What a table that stands for snapshots leads to.
use Rattle.std.proofs.Common.{◌≡◌, ℕ, zero, suc, ◌+◌, ◌*◌, ◌<◌, List, [], ◌∷◌, ◌++◌, Option, Some, None, length, map, slice_get, reverse, refl, ap, sym, subst, ◌∙◌, inl, inr, arith}
use Rattle.std.specs.List.{AllZip, All, AllByRecursion, flat_map}
use Rattle.std.proofs.lemmas.List.{reverse-append}
use Rattle.std.proofs.lemmas.Option.{slice_get_within}
use Rattle.std.proofs.lemmas.List.Elements.{All-from_recursion, All-weaker, All-nil}
use Rattle.trace_ops.specs.declared.trace.Kind.{Kind}
use Rattle.trace_ops.specs.declared.trace.Arg.{Arg}
use Rattle.trace_ops.specs.declared.trace.Arg.TheVariants.{Of, Const, Null, Class, Func, Ptr}
use Rattle.trace_ops.specs.declared.piece.Val.{Val}
use Rattle.trace_ops.specs.declared.piece.Val.TheVariants.{Known, Virtual}
use Rattle.trace_ops.specs.declared.piece.OptFrame.{OptFrame}
use Rattle.trace_ops.specs.declared.piece.Shape.{Shape}
use Rattle.trace_ops.specs.declared.piece.Snapshot.{Snapshot}
use Rattle.trace_ops.specs.declared.piece.Piece.{Piece}
use Rattle.trace_ops.specs.Lawful.{IsNumbered as IsVirtualOf}
use Rattle.trace_ops.specs.Sound.{AreApart, snapshots_in}
use Rattle.resume_numbering.specs.declared.rows.FrameRow.{FrameRow}
use Rattle.resume_numbering.specs.declared.rows.VirtualRow.{VirtualRow}
use Rattle.resume_numbering.specs.declared.rows.PendingRow.{PendingRow}
use Rattle.resume_numbering.specs.declared.rows.GuardRow.{GuardRow}
use Rattle.resume_numbering.specs.declared.rows.ResumeTable.{ResumeTable}
use Rattle.resume_numbering.specs.Tags.{IsConstAt, Reads, IsConstBelow, IsVirtualBelow, IsBoxTagBelow, IsNoVirtual, IsKept}
use Rattle.resume_numbering.specs.Values.{values_in, values_of_store, IsOfKind}
use Rattle.resume_numbering.specs.Standing.{FramesStand, VirtualStands, PendingStands, StandsFor}
use Rattle.resume_numbering.specs.Leading.{parent_in, parent_of, outward, LeadsOnlyTo}
use Rattle.resume_numbering.specs.Uses.{Guarded, guarded}
use Rattle.resume_numbering.specs.Lawful.{IsLawful, IsConstant, StoresKeep}
use Rattle.resume_numbering.specs.Conditions.{CanNumber}
use Rattle.resume_numbering.specs.Numbered.{StandsIn, IsNumbered}
use Rattle.resume_numbering.specs.Numbers.{Tabled}
use Rattle.resume_numbering.proofs.OrderLemmas.{all_left, reads_below}
use Rattle.resume_numbering.proofs.PieceLemmas.{split, CanSnapshot, snapshots_can, guards_are, consts_are, are_kept}

pub unsome : {X : Type 0} (a b : X) → Some a ≡ Some b → a ≡ b
unsome a b h = cc

some_none : {X : Type 0} (a : X) → Some a ≡ None → ⊥
some_none a h = cc

pub zip_where : {X Y : Type 0} (R : X → Y → Type 0) (Q : Y → Type 0) (P : X → Type 0) → ((x : X) (y : Y) → R x y → Q y → P x) → (xs : List X) (ys : List Y) → AllZip R xs ys → AllByRecursion Q ys → AllByRecursion P xs
zip_where R Q P f [] [] h q = tt
zip_where R Q P f [] (y ∷ ys) h q = absurd h
zip_where R Q P f (x ∷ xs) [] h q = absurd h
zip_where R Q P f (x ∷ xs) (y ∷ ys) h q = (f x y h.0 q.0, zip_where R Q P f xs ys h.1 q.1)

pub length-zip : {X Y : Type 0} (R : X → Y → Type 0) (xs : List X) (ys : List Y) → AllZip R xs ys → length xs ≡ length ys
length-zip R [] [] h = refl
length-zip R [] (y ∷ ys) h = absurd h
length-zip R (x ∷ xs) [] h = absurd h
length-zip R (x ∷ xs) (y ∷ ys) h = omega (arith, length-zip R xs ys h.1)

join : {X : Type 0} (P : X → Type 0) (xs ys : List X) → AllByRecursion P xs → AllByRecursion P ys → AllByRecursion P (xs ++ ys)
join P [] ys h k = k
join P (x ∷ xs) ys h k = (h.0, join P xs ys h.1 k)

pub reversed : {X : Type 0} (P : X → Type 0) (xs : List X) → AllByRecursion P xs → AllByRecursion P (reverse xs)
reversed P [] h = tt
reversed P (x ∷ xs) h = subst (AllByRecursion P) (sym (reverse-append (x ∷ []) xs)) (join P (reverse xs) (x ∷ []) (reversed P xs h.1) (h.0, tt))

pub flat_each : {X Y : Type 0} (P : Y → Type 0) (f : X → List Y) (xs : List X) → AllByRecursion P (flat_map f xs) → AllByRecursion (λ x. AllByRecursion P (f x)) xs
flat_each P f [] h = tt
flat_each P f (x ∷ xs) h = let parts = split P (f x) (flat_map f xs) h in (parts.0, flat_each P f xs parts.1)

outward_none : (rows : List FrameRow) (n : ℕ) → outward rows n None ≡ None
outward_none rows zero = refl
outward_none rows (suc n) = outward_none rows n

pub parent_is : (rows : List FrameRow) (at : Option ℕ) (k : ℕ) (row : FrameRow) → at ≡ Some k → slice_get rows k ≡ Some row → parent_of rows at ≡ row.parent
parent_is rows at k row e g = ap (parent_of rows) e ∙ ap parent_in g

module _ (consts : List Arg) (P : ℕ → Type 0) (Q : Val → Type 0) (f : (t : ℕ) (v : Val) → Reads consts t v → Q v → P t) where
  tags : (ts : List ℕ) (vs : List Val) → AllZip (Reads consts) ts vs → AllByRecursion Q vs → All P ts
  tags ts vs h q = All-from_recursion P ts (zip_where (Reads consts) Q P f ts vs h q)

  slots_lead : (rows : List FrameRow) (fs : List OptFrame) (at : Option ℕ) → FramesStand consts rows at fs → AllByRecursion (λ (x : OptFrame). AllByRecursion Q x.slots) fs
      → (n k : ℕ) (row : FrameRow) → outward rows n at ≡ Some k → slice_get rows k ≡ Some row → All P row.slots
  slots_lead rows [] at h q n k row out g = absurd (some_none k (sym out ∙ ap (outward rows n) h ∙ outward_none rows n))
  slots_lead rows (x ∷ fs) at h q zero k row out g =
      let same : h.0 ≡ k = unsome h.0 k (sym h.2 ∙ out) in
      let row_is : h.1 ≡ row = unsome h.1 row (sym h.3 ∙ ap (slice_get rows) same ∙ g) in
      subst (λ (r : FrameRow). All P r.slots) row_is (tags h.1.slots x.slots h.4.slots q.0)
  slots_lead rows (x ∷ fs) at h q (suc n) k row out g =
      slots_lead rows fs h.1.parent h.5 q.1 n k row (ap (outward rows n) (sym (parent_is rows at h.0 h.1 h.2 h.3)) ∙ out) g

  parts_lead : (rows : List VirtualRow) (ks : List ℕ) (ss : List Shape) → AllZip (VirtualStands consts rows) ks ss → AllByRecursion (λ (x : Shape). AllByRecursion Q x.parts) ss
      → (n k : ℕ) (row : VirtualRow) → slice_get ks n ≡ Some k → slice_get rows k ≡ Some row → All P row.parts
  parts_lead rows [] ss h q n k row at g = absurd (some_none k (sym at))
  parts_lead rows (j ∷ ks) [] h q n k row at g = absurd h
  parts_lead rows (j ∷ ks) (s ∷ ss) h q zero k row at g =
      let row_is : h.0.0 ≡ row = unsome h.0.0 row (sym h.0.1 ∙ ap (slice_get rows) (unsome j k at) ∙ g) in
      subst (λ (r : VirtualRow). All P r.parts) row_is (tags h.0.0.parts s.parts h.0.3 q.0)
  parts_lead rows (j ∷ ks) (s ∷ ss) h q (suc n) k row at g = parts_lead rows ks ss h.1 q.1 n k row at g

  pub leads : (frames : List FrameRow) (virtuals : List VirtualRow) (row : GuardRow) (snap : Snapshot) → StandsFor consts frames virtuals row snap → AllByRecursion Q (values_in snap) → LeadsOnlyTo frames virtuals row P
  leads frames virtuals row snap s q =
      let slots : OptFrame → List Val = λ (x : OptFrame). x.slots in
      let parts : Shape → List Val = λ (x : Shape). x.parts in
      let outer = split Q (flat_map slots snap.frames ++ flat_map parts snap.shapes) (flat_map values_of_store snap.pending) q in
      let inner = split Q (flat_map slots snap.frames) (flat_map parts snap.shapes) outer.0 in
      let in_frames = flat_each Q slots snap.frames inner.0 in
      let in_stores = flat_each Q values_of_store snap.pending outer.1 in
      record {
        slots = slots_lead frames (reverse snap.frames) (Some row.frame) s.frames_stand (reversed (λ (x : OptFrame). AllByRecursion Q x.slots) snap.frames in_frames);
        parts = parts_lead virtuals row.virtuals snap.shapes s.virtuals_stand (flat_each Q parts snap.shapes inner.1);
        bases = All-from_recursion (λ (p : PendingRow). P p.base) row.pending (zip_where (PendingStands consts) (λ p. AllByRecursion Q (values_of_store p)) (λ (p : PendingRow). P p.base) (λ x y h k. f x.base (Known y.base) h.0 k.0) row.pending snap.pending s.pending_stand in_stores);
        values = All-from_recursion (λ (p : PendingRow). P p.value) row.pending (zip_where (PendingStands consts) (λ p. AllByRecursion Q (values_of_store p)) (λ (p : PendingRow). P p.value) (λ x y h k. f x.value y.value h.2 k.1.0) row.pending snap.pending s.pending_stand in_stores);
      }

no_virtual_const : (consts : List Arg) (t : ℕ) (a : Arg) → IsConstAt consts t a → IsNoVirtual t
no_virtual_const consts t a h k e = let both : 4 * h.0 + 2 ≡ 4 * k + 3 = sym h.1 ∙ e in absurd (omega (arith, both))

pub known_is_no_virtual : (consts : List Arg) (t : ℕ) (a : Arg) → Reads consts t (Known a) → IsNoVirtual t
known_is_no_virtual consts t (Of b) h k e = let both : 4 * b.number ≡ 4 * k + 3 = sym h ∙ e in absurd (omega (arith, both))
known_is_no_virtual consts t (Const z) (inl h) k e = let both : 4 * h.0 + 1 ≡ 4 * k + 3 = sym h.2 ∙ e in absurd (omega (arith, both))
known_is_no_virtual consts t (Const z) (inr h) k e = no_virtual_const consts t (Const z) h k e
known_is_no_virtual consts t Null h k e = no_virtual_const consts t Null h k e
known_is_no_virtual consts t (Ptr n) h k e = no_virtual_const consts t (Ptr n) h k e
known_is_no_virtual consts t (Class n) h k e = absurd h
known_is_no_virtual consts t (Func n) h k e = absurd h

virtual_below : (consts : List Arg) (n t : ℕ) (v : Val) → Reads consts t v → IsVirtualOf n v → IsVirtualBelow n t
virtual_below consts n t (Known a) h own k e = absurd (known_is_no_virtual consts t a h k e)
virtual_below consts n t (Virtual m) h own k e = let both : 4 * m + 3 ≡ 4 * k + 3 = sym h ∙ e in omega (arith, own, both)

no_box_const : (consts : List Arg) (t : ℕ) (a : Arg) → IsConstAt consts t a → (k : ℕ) → t ≡ 4 * k → ⊥
no_box_const consts t a h k e = let both : 4 * h.0 + 2 ≡ 4 * k = sym h.1 ∙ e in absurd (omega (arith, both))

pub box_below : (consts : List Arg) (kinds : List Kind) (t : ℕ) (v : Val) → Reads consts t v → IsOfKind kinds v → IsBoxTagBelow (length kinds) t
box_below consts kinds t (Known (Of b)) h own k e =
    let both : 4 * b.number ≡ 4 * k = sym h ∙ e in
    omega (arith, slice_get_within kinds b.number b.kind own, both)
box_below consts kinds t (Known (Const z)) (inl h) own k e = let both : 4 * h.0 + 1 ≡ 4 * k = sym h.2 ∙ e in absurd (omega (arith, both))
box_below consts kinds t (Known (Const z)) (inr h) own k e = absurd (no_box_const consts t (Const z) h k e)
box_below consts kinds t (Known Null) h own k e = absurd (no_box_const consts t Null h k e)
box_below consts kinds t (Known (Ptr n)) h own k e = absurd (no_box_const consts t (Ptr n) h k e)
box_below consts kinds t (Known (Class n)) h own k e = absurd h
box_below consts kinds t (Known (Func n)) h own k e = absurd h
box_below consts kinds t (Virtual n) h own k e = let both : 4 * n + 3 ≡ 4 * k = sym h ∙ e in absurd (omega (arith, both))

frame_within : (consts : List Arg) (rows : List FrameRow) (k : ℕ) (fs : List OptFrame) → FramesStand consts rows (Some k) fs → k < length rows
frame_within consts rows k [] h = absurd (some_none k h)
frame_within consts rows k (x ∷ fs) h = subst (λ j. j < length rows) (sym (unsome k h.0 h.2)) (slice_get_within rows h.0 h.1 h.3)

module _ (consts : List Arg) (frames : List FrameRow) (virtuals : List VirtualRow) (P : GuardRow → Type 0) (f : (row : GuardRow) (g : Guarded) → StandsIn consts frames virtuals row g → CanSnapshot g.snap → P row) where
  rows_each : (rows : List GuardRow) (gs : List Guarded) → AllZip (StandsIn consts frames virtuals) rows gs → AllByRecursion CanSnapshot (map (λ (g : Guarded). g.snap) gs) → AllByRecursion P rows
  rows_each [] [] h q = tt
  rows_each [] (g ∷ gs) h q = absurd h
  rows_each (row ∷ rows) [] h q = absurd h
  rows_each (row ∷ rows) (g ∷ gs) h q = (f row g h.0 q.0, rows_each rows gs h.1 q.1)

row_guards : (consts : List Arg) (frames : List FrameRow) (virtuals : List VirtualRow) (rows : List GuardRow) (gs : List Guarded) → AllZip (StandsIn consts frames virtuals) rows gs
    → map (λ (r : GuardRow). r.guard) rows ≡ map (λ (g : Guarded). g.guard) gs
row_guards consts frames virtuals [] [] h = refl
row_guards consts frames virtuals [] (g ∷ gs) h = absurd h
row_guards consts frames virtuals (row ∷ rows) [] h = absurd h
row_guards consts frames virtuals (row ∷ rows) (g ∷ gs) h = ap (λ n. n ∷ map (λ (r : GuardRow). r.guard) rows) h.0.number ∙ ap (λ ns. g.guard ∷ ns) (row_guards consts frames virtuals rows gs h.1)

kept_constant : (a : Arg) → IsKept a → IsConstant a
kept_constant (Of b) h = absurd h
kept_constant (Const z) h = tt
kept_constant Null h = tt
kept_constant (Class k) h = absurd h
kept_constant (Func k) h = absurd h
kept_constant (Ptr k) h = tt

own_virtuals : (consts : List Arg) (frames : List FrameRow) (virtuals : List VirtualRow) (row : GuardRow) (g : Guarded) → StandsIn consts frames virtuals row g → CanSnapshot g.snap
    → LeadsOnlyTo frames virtuals row (IsVirtualBelow (length row.virtuals))
own_virtuals consts frames virtuals row g s can =
    let same : length row.virtuals ≡ length g.snap.shapes = length-zip (VirtualStands consts virtuals) row.virtuals g.snap.shapes s.stands.virtuals_stand in
    subst (λ n. LeadsOnlyTo frames virtuals row (IsVirtualBelow n)) (sym same)
    (leads consts (IsVirtualBelow (length g.snap.shapes)) (IsVirtualOf (length g.snap.shapes)) (virtual_below consts (length g.snap.shapes)) frames virtuals row g.snap s.stands can.virtuals)

pub numbered_lawful : (p : Piece) (table : ResumeTable) → CanNumber p → Tabled table (guarded p.ops) → IsLawful table
numbered_lawful p table can t =
    let consts = table.consts in let frames = table.frames in let virtuals = table.virtuals in
    let snaps = snapshots_can p can in
    let gs = guarded p.ops in
    let kept : All IsKept consts = subst (All IsKept) (sym (t.consts_used ∙ consts_are p)) (are_kept [] (flat_map values_in (snapshots_in p)) (All-nil IsKept)) in
    record {
      guards_once = subst AreApart (sym (row_guards consts frames virtuals table.guards gs t.rows ∙ guards_are p.ops)) can.guards_once;
      parents_lower = t.parents;
      guard_frames = All-from_recursion (λ (r : GuardRow). r.frame < length frames) table.guards
          (rows_each consts frames virtuals (λ (r : GuardRow). r.frame < length frames) (λ row g s q. frame_within consts frames row.frame (reverse g.snap.frames) s.stands.frames_stand) table.guards gs t.rows snaps);
      guard_virtuals = All-from_recursion (λ (r : GuardRow). All (λ k. k < length virtuals) r.virtuals) table.guards
          (rows_each consts frames virtuals (λ (r : GuardRow). All (λ k. k < length virtuals) r.virtuals)
          (λ row g s q. all_left (VirtualStands consts virtuals) (λ k. k < length virtuals) (λ k h v. slice_get_within virtuals k v.0 v.1) row.virtuals g.snap.shapes s.stands.virtuals_stand) table.guards gs t.rows snaps);
      slot_constants = t.frames_kept;
      part_constants = t.virtuals_kept;
      store_constants = All-from_recursion (StoresKeep (length consts)) table.guards
          (rows_each consts frames virtuals (StoresKeep (length consts))
          (λ row g s q. all_left (PendingStands consts) (λ (x : PendingRow). IsConstBelow (length consts) x.base × IsConstBelow (length consts) x.value) (λ x y h. (reads_below consts x.base (Known y.base) h.0, reads_below consts x.value y.value h.2)) row.pending g.snap.pending s.stands.pending_stand) table.guards gs t.rows snaps);
      own_virtuals = All-from_recursion (λ (r : GuardRow). LeadsOnlyTo frames virtuals r (IsVirtualBelow (length r.virtuals))) table.guards
          (rows_each consts frames virtuals (λ (r : GuardRow). LeadsOnlyTo frames virtuals r (IsVirtualBelow (length r.virtuals))) (own_virtuals consts frames virtuals) table.guards gs t.rows snaps);
      constants = All-weaker IsKept IsConstant kept_constant consts kept;
      bases = All-from_recursion (λ (r : GuardRow). All (λ (x : PendingRow). IsNoVirtual x.base) r.pending) table.guards
          (rows_each consts frames virtuals (λ (r : GuardRow). All (λ (x : PendingRow). IsNoVirtual x.base) r.pending)
          (λ row g s q. all_left (PendingStands consts) (λ (x : PendingRow). IsNoVirtual x.base) (λ x y h. known_is_no_virtual consts x.base y.base h.0) row.pending g.snap.pending s.stands.pending_stand) table.guards gs t.rows snaps);
    }

pub is_numbered : (p : Piece) (table : ResumeTable) → CanNumber p → Tabled table (guarded p.ops) → IsNumbered table p
is_numbered p table can t = record {
  lawful = numbered_lawful p table can t;
  rows = t.rows;
  frames_once = t.frames_once;
  virtuals_once = t.virtuals_once;
  consts_once = t.consts_once;
  frames_in_order = t.frame_uses;
  virtuals_in_order = t.virtual_uses;
  consts_in_order = t.consts_used ∙ consts_are p;
  small_tagged = subst (All IsKept) (sym (t.consts_used ∙ consts_are p)) (are_kept [] (flat_map values_in (snapshots_in p)) (All-nil IsKept));
}
