-- The values of the rows of a guard are those of the snapshot for which the table stands.
use Rattle.std.proofs.Common.{◌≡◌, ℕ, ◌+◌, ◌-◌, ◌*◌, ◌/◌, ◌%◌, ◌<◌, ℤ, pos, negsuc, Bool, false, List, [], ◌∷◌, ◌++◌, Option, Some, map, reverse, nat_lt, refl, sym, ap, subst, ◌∙◌, inl, inr, arith, if◌then◌else◌}
use Rattle.std.specs.List.{All, AllZip, AllByRecursion, flat_map}
use Rattle.std.proofs.lemmas.List.Elements.{recursion_from_All, All-head}
use Rattle.trace_ops.specs.declared.trace.BoxId.{BoxId}
use Rattle.trace_ops.specs.declared.trace.Arg.{Arg}
use Rattle.trace_ops.specs.declared.trace.Arg.TheVariants.{Of, Const, Null, Class, Func, Ptr}
use Rattle.trace_ops.specs.declared.piece.Val.{Val}
use Rattle.trace_ops.specs.declared.piece.Val.TheVariants.{Known, Virtual}
use Rattle.trace_ops.specs.declared.piece.OptFrame.{OptFrame}
use Rattle.trace_ops.specs.declared.piece.Shape.{Shape}
use Rattle.trace_ops.specs.declared.piece.Pending.{Pending}
use Rattle.trace_ops.specs.declared.piece.Snapshot.{Snapshot}
use Rattle.trace_ops.specs.Parts.{boxes_of_val}
use Rattle.resume_numbering.specs.declared.rows.FrameRow.{FrameRow}
use Rattle.resume_numbering.specs.declared.rows.VirtualRow.{VirtualRow}
use Rattle.resume_numbering.specs.declared.rows.PendingRow.{PendingRow}
use Rattle.resume_numbering.specs.declared.rows.GuardRow.{GuardRow}
use Rattle.resume_numbering.specs.declared.rows.ResumeTable.{ResumeTable}
use Rattle.resume_numbering.specs.Tags.{Reads, small_index, IsConstAt}
use Rattle.resume_numbering.specs.Values.{values_in, values_of_store}
use Rattle.resume_numbering.specs.Standing.{IsFrame, FramesStand, VirtualStands, PendingStands, StandsFor}
use Rattle.resume_numbering.specs.Boxes.{AreBoxesOf, kind_among, kind_or_integer}
use Rattle.resume_numbering.specs.Placed.{boxes_among, small_integer, or_null, placed_box, tagged_value, placed_value, placed_frame, FramesPlaced, ShapePlaced, StorePlaced, IsPlacedBy, RowsHoldSnapshots}
use Rattle.resume_numbering.proofs.PieceLemmas.{split}
use Rattle.resume_numbering.proofs.LawfulLemmas.{reversed, flat_each}
use Rattle.resume_numbering.proofs.ValueBoxes.{snapshot_from}
use Rattle.resume_numbering.proofs.BoxKinds.{kind_told}
use Rattle.resume_numbering.proofs.UniqueLemmas.{row_one, if_some, below_if}

-- the kind of a box is that of its number
abbrev IsAmong : List BoxId → Val → Type 0
IsAmong boxes (Known (Of b)) = kind_among boxes b.number ≡ Some b.kind
IsAmong boxes _ = Unit {0}

module _ (consts : List Arg) (boxes : List BoxId) where
  tagged : (t x tag : ℕ) → t ≡ 4 * x + tag → tag < 4 → placed_value consts boxes t ≡ tagged_value consts boxes x tag
  tagged t x tag e lt =
      let index : t / 4 ≡ x = omega (arith, e, lt) in
      let rest : t % 4 ≡ tag = omega (arith, e, lt) in
      ap (λ n. tagged_value consts boxes n (t % 4)) index ∙ ap (λ n. tagged_value consts boxes x n) rest

  small_back : (z : ℤ) (x : ℕ) → small_index z ≡ Some x → small_integer x ≡ z
  small_back (pos n) x e =
      let both = if_some (nat_lt n 536870912) n x e in
      ap small_integer (sym both.1) ∙ ap (λ (b : Bool). if b then pos n else negsuc (1073741823 - n)) both.0
  small_back (negsuc n) x e =
      let both = if_some (nat_lt n 536870912) (1073741823 - n) x e in
      let low = below_if n 536870912 both.0 in
      let high : nat_lt (1073741823 - n) 536870912 ≡ false = grind arith in
      let back : 1073741823 - (1073741823 - n) ≡ n = omega (arith, low) in
      ap small_integer (sym both.1) ∙ ap (λ (b : Bool). if b then pos (1073741823 - n) else negsuc (1073741823 - (1073741823 - n))) high ∙ ap negsuc back

  entry_back : (t : ℕ) (a : Arg) → IsConstAt consts t a → placed_value consts boxes t ≡ Known a
  entry_back t a h = tagged t h.0 2 h.1 (omega arith) ∙ ap (λ o. Known (or_null o)) h.2

  value_back : (t : ℕ) (v : Val) → Reads consts t v → IsAmong boxes v → v ≡ placed_value consts boxes t
  value_back t (Known (Of b)) h own =
      let e : t ≡ 4 * b.number + 0 = omega (arith, h) in
      let kind : kind_or_integer (kind_among boxes b.number) ≡ b.kind = ap kind_or_integer own in
      let box : placed_box boxes b.number ≡ b = λ i. record { kind = kind i; number = b.number } in
      sym (tagged t b.number 0 e (omega arith) ∙ ap (λ x. Known (Of x)) box)
  value_back t (Known (Const z)) (inl h) own = sym (tagged t h.0 1 h.2 (omega arith) ∙ ap (λ n. Known (Const n)) (small_back z h.0 h.1))
  value_back t (Known (Const z)) (inr h) own = sym (entry_back t (Const z) h)
  value_back t (Known Null) h own = sym (entry_back t Null h)
  value_back t (Known (Ptr k)) h own = sym (entry_back t (Ptr k) h)
  value_back t (Known (Class k)) h own = absurd h
  value_back t (Known (Func k)) h own = absurd h
  value_back t (Virtual n) h own = sym (tagged t n 3 h (omega arith))

  values_back : (ts : List ℕ) (vs : List Val) → AllZip (Reads consts) ts vs → AllByRecursion (IsAmong boxes) vs → vs ≡ map (placed_value consts boxes) ts
  values_back [] [] h own = refl
  values_back [] (v ∷ vs) h own = absurd h
  values_back (t ∷ ts) [] h own = absurd h
  values_back (t ∷ ts) (v ∷ vs) h own = ap (λ x. x ∷ vs) (value_back t v h.0 own.0) ∙ ap (λ xs. placed_value consts boxes t ∷ xs) (values_back ts vs h.1 own.1)

  frame_back : (row : FrameRow) (f : OptFrame) → IsFrame consts row row.parent f → AllByRecursion (IsAmong boxes) f.slots → f ≡ placed_frame consts boxes row
  frame_back row f h own =
      let name = sym h.name in
      let pc = sym h.pc in
      let slots = values_back row.slots f.slots h.slots own in
      λ i. record { name = name i; pc = pc i; slots = slots i }

  frames_back : (rows : List FrameRow) (at : Option ℕ) (fs : List OptFrame) → FramesStand consts rows at fs → AllByRecursion (λ (f : OptFrame). AllByRecursion (IsAmong boxes) f.slots) fs → FramesPlaced consts boxes rows at fs
  frames_back rows at [] h own = h
  frames_back rows at (f ∷ fs) h own = (h.0, h.1, h.2, h.3, frame_back h.1 f h.4 own.0, frames_back rows h.1.parent fs h.5 own.1)

  shape_back : (rows : List VirtualRow) (k : ℕ) (s : Shape) → VirtualStands consts rows k s → AllByRecursion (IsAmong boxes) s.parts → ShapePlaced consts boxes rows k s
  shape_back rows k s h own =
      let of_is = sym h.2 in
      let parts = values_back h.0.parts s.parts h.3 own in
      (h.0, h.1, λ i. record { of = of_is i; parts = parts i })

  store_back : (row : PendingRow) (p : Pending) → PendingStands consts row p → AllByRecursion (IsAmong boxes) (values_of_store p) → StorePlaced consts boxes row p
  store_back row p h own = (value_back row.base (Known p.base) h.0 own.0, sym h.1, value_back row.value p.value h.2 own.1.0)

  zip_back : {X Y : Type 0} (R S : X → Y → Type 0) (Q : Y → Type 0) → ((x : X) (y : Y) → R x y → Q y → S x y) → (xs : List X) (ys : List Y) → AllZip R xs ys → AllByRecursion Q ys → AllZip S xs ys
  zip_back R S Q f [] [] h own = tt
  zip_back R S Q f [] (y ∷ ys) h own = absurd h
  zip_back R S Q f (x ∷ xs) [] h own = absurd h
  zip_back R S Q f (x ∷ xs) (y ∷ ys) h own = (f x y h.0 own.0, zip_back R S Q f xs ys h.1 own.1)

is_among : (boxes : List BoxId) (v : Val) → All (λ (b : BoxId). kind_among boxes b.number ≡ Some b.kind) (boxes_of_val v) → IsAmong boxes v
is_among boxes (Known (Of b)) h = All-head (λ (x : BoxId). kind_among boxes x.number ≡ Some x.kind) b [] h
is_among boxes (Known (Const z)) h = tt
is_among boxes (Known Null) h = tt
is_among boxes (Known (Class k)) h = tt
is_among boxes (Known (Func k)) h = tt
is_among boxes (Known (Ptr k)) h = tt
is_among boxes (Virtual k) h = tt

all_among : (boxes : List BoxId) (snap : Snapshot) → AreBoxesOf boxes snap → AllByRecursion (IsAmong boxes) (values_in snap)
all_among boxes snap are =
    recursion_from_All (IsAmong boxes) (values_in snap)
    (snapshot_from (λ (b : BoxId). kind_among boxes b.number ≡ Some b.kind) (IsAmong boxes) (is_among boxes) snap (λ k d w. kind_told boxes _ are.numbers_apart (are.each k d w)))

placed : (table : ResumeTable) (boxes : List BoxId) (row : GuardRow) (snap : Snapshot) → StandsFor table.consts table.frames table.virtuals row snap → AreBoxesOf boxes snap → IsPlacedBy table boxes row snap
placed table boxes row s h are =
    let Q = IsAmong boxes in
    let slots : OptFrame → List Val = λ (x : OptFrame). x.slots in
    let parts : Shape → List Val = λ (x : Shape). x.parts in
    let sa = split Q (flat_map slots s.frames ++ flat_map parts s.shapes) (flat_map values_of_store s.pending) (all_among boxes s are) in
    let sb = split Q (flat_map slots s.frames) (flat_map parts s.shapes) sa.0 in
    let P : OptFrame → Type 0 = λ (x : OptFrame). AllByRecursion Q x.slots in
    let consts = table.consts in
    record {
      frames = frames_back consts boxes table.frames (Some row.frame) (reverse s.frames) h.frames_stand (reversed P s.frames (flat_each Q slots s.frames sb.0));
      shapes = zip_back consts boxes (VirtualStands consts table.virtuals) (ShapePlaced consts boxes table.virtuals) (λ (x : Shape). AllByRecursion Q x.parts) (shape_back consts boxes table.virtuals) row.virtuals s.shapes h.virtuals_stand (flat_each Q parts s.shapes sb.1);
      pending = zip_back consts boxes (PendingStands consts) (StorePlaced consts boxes) (λ x. AllByRecursion Q (values_of_store x)) (store_back consts boxes) row.pending s.pending h.pending_stand (flat_each Q values_of_store s.pending sa.1);
    }

pub rows_hold_snapshots : RowsHoldSnapshots
rows_hold_snapshots table guard places row snap lawful is stands are =
    let same : stands.0 ≡ row = row_one table guard stands.0 row lawful stands.1 is in
    placed table (boxes_among places) row snap (subst (λ (r : GuardRow). StandsFor table.consts table.frames table.virtuals r snap) same stands.2) are
