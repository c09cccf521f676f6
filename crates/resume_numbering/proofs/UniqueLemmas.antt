-- A table is read as at most one snapshot.
use Rattle.std.proofs.Common.{◌≡◌, ℕ, zero, suc, ◌+◌, ◌-◌, ◌*◌, ◌<◌, ℤ, pos, negsuc, List, [], ◌∷◌, ◌++◌, Option, Some, None, Bool, true, false, length, map, slice_get, reverse, nat_lt, refl, ap, sym, subst, ◌∙◌, inl, inr, arith}
use Rattle.std.specs.Prelude.{if◌then◌else◌}
use Rattle.std.specs.List.{AllZip, AllByRecursion, Contains, flat_map}
use Rattle.std.specs.Option.{option_map}
use Rattle.std.proofs.lemmas.Option.{slice_get_within, get_or_from_slice_get, slice_get-map}
use Rattle.std.proofs.lemmas.List.Elements.{recursion_from_All}
use Rattle.std.proofs.lemmas.Bool.{ltb-true}
use Rattle.trace_ops.specs.declared.trace.Kind.{Kind}
use Rattle.trace_ops.specs.declared.trace.BoxId.{BoxId}
use Rattle.trace_ops.specs.declared.trace.Arg.{Arg}
use Rattle.trace_ops.specs.declared.trace.Arg.TheVariants.{Of, Const, Null, Class, Func, Ptr}
use Rattle.trace_ops.specs.declared.piece.Val.{Val}
use Rattle.trace_ops.specs.declared.piece.Val.TheVariants.{Known, Virtual}
use Rattle.trace_ops.specs.declared.piece.OptFrame.{OptFrame}
use Rattle.trace_ops.specs.declared.piece.Shape.{Shape}
use Rattle.trace_ops.specs.declared.piece.Pending.{Pending}
use Rattle.trace_ops.specs.declared.piece.Snapshot.{Snapshot}
use Rattle.trace_ops.specs.declared.piece.Piece.{Piece}
use Rattle.trace_ops.specs.Sound.{AreApart}
use Rattle.resume_numbering.specs.declared.rows.FrameRow.{FrameRow}
use Rattle.resume_numbering.specs.declared.rows.VirtualRow.{VirtualRow}
use Rattle.resume_numbering.specs.declared.rows.PendingRow.{PendingRow}
use Rattle.resume_numbering.specs.declared.rows.GuardRow.{GuardRow}
use Rattle.resume_numbering.specs.declared.rows.ResumeTable.{ResumeTable}
use Rattle.resume_numbering.specs.Tags.{Reads, small_index, IsBoxTagBelow}
use Rattle.resume_numbering.specs.Values.{values_in, values_of_store, IsOfKind}
use Rattle.resume_numbering.specs.Standing.{IsFrame, FramesStand, VirtualStands, PendingStands, StandsFor}
use Rattle.resume_numbering.specs.Leading.{LeadsOnlyTo}
use Rattle.resume_numbering.specs.Uses.{Guarded, guarded}
use Rattle.resume_numbering.specs.Lawful.{IsLawful}
use Rattle.resume_numbering.specs.Numbered.{StandsIn, IsNumbered}
use Rattle.resume_numbering.specs.Reading.{IsRowOf, AreOfKind, ReadsOne, CanBeRead, ReadsSnapshots}
use Rattle.resume_numbering.proofs.PieceLemmas.{split}
use Rattle.resume_numbering.proofs.LawfulLemmas.{unsome, reversed, flat_each, leads, box_below}
use Rattle.resume_numbering.proofs.ReadingLemmas.{reverse_back}

-- the four ways in which a number is read
data Form (consts : List Arg) (t : ℕ) (v : Val) : Type 0 where
  boxed : (b : BoxId) → v ≡ Known (Of b) → t ≡ 4 * b.number → Form consts t v
  small : (z : ℤ) (x : ℕ) → v ≡ Known (Const z) → small_index z ≡ Some x → t ≡ 4 * x + 1 → Form consts t v
  entry : (k : ℕ) (a : Arg) → v ≡ Known a → slice_get consts k ≡ Some a → t ≡ 4 * k + 2 → Form consts t v
  virtual : (n : ℕ) → v ≡ Virtual n → t ≡ 4 * n + 3 → Form consts t v

form_of : (consts : List Arg) (t : ℕ) (v : Val) → Reads consts t v → Form consts t v
form_of consts t (Known (Of b)) h = boxed b refl h
form_of consts t (Known (Const z)) (inl h) = small z h.0 refl h.1 h.2
form_of consts t (Known (Const z)) (inr h) = entry h.0 (Const z) refl h.2 h.1
form_of consts t (Known Null) h = entry h.0 Null refl h.2 h.1
form_of consts t (Known (Ptr k)) h = entry h.0 (Ptr k) refl h.2 h.1
form_of consts t (Known (Class k)) h = absurd h
form_of consts t (Known (Func k)) h = absurd h
form_of consts t (Virtual n) h = virtual n refl h

pub if_some : (b : Bool) (m x : ℕ) → (if b then Some m else None) ≡ Some x → (b ≡ true) × (m ≡ x)
if_some true m x e = (refl, unsome m x e)
if_some false m x e = cc

pub below_if : (n m : ℕ) → nat_lt n m ≡ true → n < m
below_if n m e = ltb-true n m e

small_one : (y z : ℤ) (x : ℕ) → small_index y ≡ Some x → small_index z ≡ Some x → y ≡ z
small_one (pos m) (pos n) x e f =
    let a = if_some (nat_lt m 536870912) m x e in let b = if_some (nat_lt n 536870912) n x f in
    ap pos (a.1 ∙ sym b.1)
small_one (pos m) (negsuc n) x e f =
    let a = if_some (nat_lt m 536870912) m x e in let b = if_some (nat_lt n 536870912) (1073741823 - n) x f in
    absurd (omega (arith, below_if m 536870912 a.0, a.1, below_if n 536870912 b.0, b.1))
small_one (negsuc m) (pos n) x e f =
    let a = if_some (nat_lt m 536870912) (1073741823 - m) x e in let b = if_some (nat_lt n 536870912) n x f in
    absurd (omega (arith, below_if m 536870912 a.0, a.1, below_if n 536870912 b.0, b.1))
small_one (negsuc m) (negsuc n) x e f =
    let a = if_some (nat_lt m 536870912) (1073741823 - m) x e in let b = if_some (nat_lt n 536870912) (1073741823 - n) x f in
    let same : m ≡ n = omega (arith, below_if m 536870912 a.0, a.1, below_if n 536870912 b.0, b.1) in
    ap negsuc same

box_one : (kinds : List Kind) (a b : BoxId) → a.number ≡ b.number → slice_get kinds a.number ≡ Some a.kind → slice_get kinds b.number ≡ Some b.kind → a ≡ b
box_one kinds a b e f g =
    let kind : a.kind ≡ b.kind = unsome a.kind b.kind (sym f ∙ ap (slice_get kinds) e ∙ g) in
    λ i. record { kind = kind i; number = e i }

apart : (t x y : ℕ) (p : t ≡ x) (q : t ≡ y) → x ≡ y
apart t x y p q = sym p ∙ q

form_one : (consts : List Arg) (kinds : List Kind) (t : ℕ) (v w : Val) → Form consts t v → Form consts t w → IsOfKind kinds v → IsOfKind kinds w → v ≡ w
form_one consts kinds t v w (boxed b e p) (boxed d f q) kv kw =
    let number : b.number ≡ d.number = omega (arith, apart t (4 * b.number) (4 * d.number) p q) in
    e ∙ ap (λ x. Known (Of x)) (box_one kinds b d number (subst (IsOfKind kinds) e kv) (subst (IsOfKind kinds) f kw)) ∙ sym f
form_one consts kinds t v w (small y x e g p) (small z u f h q) kv kw =
    let same : u ≡ x = omega (arith, apart t (4 * x + 1) (4 * u + 1) p q) in
    e ∙ ap (λ n. Known (Const n)) (small_one y z x g (h ∙ ap Some same)) ∙ sym f
form_one consts kinds t v w (entry k a e g p) (entry j b f h q) kv kw =
    let same : k ≡ j = omega (arith, apart t (4 * k + 2) (4 * j + 2) p q) in
    e ∙ ap Known (unsome a b (sym g ∙ ap (slice_get consts) same ∙ h)) ∙ sym f
form_one consts kinds t v w (virtual n e p) (virtual m f q) kv kw =
    let same : n ≡ m = omega (arith, apart t (4 * n + 3) (4 * m + 3) p q) in
    e ∙ ap Virtual same ∙ sym f
form_one consts kinds t v w (boxed b e p) (small z u f h q) kv kw = absurd (omega (arith, apart t (4 * b.number) (4 * u + 1) p q))
form_one consts kinds t v w (boxed b e p) (entry j d f h q) kv kw = absurd (omega (arith, apart t (4 * b.number) (4 * j + 2) p q))
form_one consts kinds t v w (boxed b e p) (virtual m f q) kv kw = absurd (omega (arith, apart t (4 * b.number) (4 * m + 3) p q))
form_one consts kinds t v w (small y x e g p) (boxed d f q) kv kw = absurd (omega (arith, apart t (4 * x + 1) (4 * d.number) p q))
form_one consts kinds t v w (small y x e g p) (entry j b f h q) kv kw = absurd (omega (arith, apart t (4 * x + 1) (4 * j + 2) p q))
form_one consts kinds t v w (small y x e g p) (virtual m f q) kv kw = absurd (omega (arith, apart t (4 * x + 1) (4 * m + 3) p q))
form_one consts kinds t v w (entry k a e g p) (boxed d f q) kv kw = absurd (omega (arith, apart t (4 * k + 2) (4 * d.number) p q))
form_one consts kinds t v w (entry k a e g p) (small z u f h q) kv kw = absurd (omega (arith, apart t (4 * k + 2) (4 * u + 1) p q))
form_one consts kinds t v w (entry k a e g p) (virtual m f q) kv kw = absurd (omega (arith, apart t (4 * k + 2) (4 * m + 3) p q))
form_one consts kinds t v w (virtual n e p) (boxed d f q) kv kw = absurd (omega (arith, apart t (4 * n + 3) (4 * d.number) p q))
form_one consts kinds t v w (virtual n e p) (small z u f h q) kv kw = absurd (omega (arith, apart t (4 * n + 3) (4 * u + 1) p q))
form_one consts kinds t v w (virtual n e p) (entry j b f h q) kv kw = absurd (omega (arith, apart t (4 * n + 3) (4 * j + 2) p q))

value_one : (consts : List Arg) (kinds : List Kind) (t : ℕ) (v w : Val) → Reads consts t v → Reads consts t w → IsOfKind kinds v → IsOfKind kinds w → v ≡ w
value_one consts kinds t v w h k = form_one consts kinds t v w (form_of consts t v h) (form_of consts t w k)

zip_one : {X Y : Type 0} (R : X → Y → Type 0) (Q : Y → Type 0) → ((x : X) (v w : Y) → R x v → R x w → Q v → Q w → v ≡ w) → (xs : List X) (vs ws : List Y) → AllZip R xs vs → AllZip R xs ws → AllByRecursion Q vs → AllByRecursion Q ws → vs ≡ ws
zip_one R Q f [] [] [] h k a b = refl
zip_one R Q f [] [] (w ∷ ws) h k a b = absurd k
zip_one R Q f [] (v ∷ vs) ws h k a b = absurd h
zip_one R Q f (x ∷ xs) [] ws h k a b = absurd h
zip_one R Q f (x ∷ xs) (v ∷ vs) [] h k a b = absurd k
zip_one R Q f (x ∷ xs) (v ∷ vs) (w ∷ ws) h k a b = ap (λ y. y ∷ vs) (f x v w h.0 k.0 a.0 b.0) ∙ ap (λ ys. w ∷ ys) (zip_one R Q f xs vs ws h.1 k.1 a.1 b.1)

module _ (consts : List Arg) (kinds : List Kind) where
  values_one : (ts : List ℕ) (vs ws : List Val) → AllZip (Reads consts) ts vs → AllZip (Reads consts) ts ws → AllByRecursion (IsOfKind kinds) vs → AllByRecursion (IsOfKind kinds) ws → vs ≡ ws
  values_one = zip_one (Reads consts) (IsOfKind kinds) (value_one consts kinds)

  frame_one : (row : FrameRow) (f g : OptFrame) → IsFrame consts row row.parent f → IsFrame consts row row.parent g → AllByRecursion (IsOfKind kinds) f.slots → AllByRecursion (IsOfKind kinds) g.slots → f ≡ g
  frame_one row f g h k a b =
      let name = sym h.name ∙ k.name in
      let pc = sym h.pc ∙ k.pc in
      let slots = values_one row.slots f.slots g.slots h.slots k.slots a b in
      λ i. record { name = name i; pc = pc i; slots = slots i }

  frames_one : (rows : List FrameRow) (at : Option ℕ) (fs gs : List OptFrame) → FramesStand consts rows at fs → FramesStand consts rows at gs → AllByRecursion (λ (f : OptFrame). AllByRecursion (IsOfKind kinds) f.slots) fs → AllByRecursion (λ (f : OptFrame). AllByRecursion (IsOfKind kinds) f.slots) gs → fs ≡ gs
  frames_one rows at [] [] h k a b = refl
  frames_one rows at [] (g ∷ gs) h k a b = let wrong : None ≡ Some k.0 = sym h ∙ k.2 in cc
  frames_one rows at (f ∷ fs) [] h k a b = let wrong : None ≡ Some h.0 = sym k ∙ h.2 in cc
  frames_one rows at (f ∷ fs) (g ∷ gs) h k a b =
      let place : h.0 ≡ k.0 = unsome h.0 k.0 (sym h.2 ∙ k.2) in
      let row_is : k.1 ≡ h.1 = unsome k.1 h.1 (sym k.3 ∙ ap (slice_get rows) (sym place) ∙ h.3) in
      let other = subst (λ (r : FrameRow). IsFrame consts r r.parent g × FramesStand consts rows r.parent gs) row_is (k.4, k.5) in
      ap (λ x. x ∷ fs) (frame_one h.1 f g h.4 other.0 a.0 b.0) ∙ ap (λ xs. g ∷ xs) (frames_one rows h.1.parent fs gs h.5 other.1 a.1 b.1)

  shape_one : (rows : List VirtualRow) (k : ℕ) (s r : Shape) → VirtualStands consts rows k s → VirtualStands consts rows k r → AllByRecursion (IsOfKind kinds) s.parts → AllByRecursion (IsOfKind kinds) r.parts → s ≡ r
  shape_one rows k s r h j a b =
      let row_is : j.0 ≡ h.0 = unsome j.0 h.0 (sym j.1 ∙ h.1) in
      let other = subst (λ (x : VirtualRow). (x.of ≡ r.of) × AllZip (Reads consts) x.parts r.parts) row_is (j.2, j.3) in
      let of_is = sym h.2 ∙ other.0 in
      let parts = values_one h.0.parts s.parts r.parts h.3 other.1 a b in
      λ i. record { of = of_is i; parts = parts i }

  unknown : (a b : Arg) → Known a ≡ Known b → a ≡ b
  unknown a b e = cc

  store_one : (row : PendingRow) (p q : Pending) → PendingStands consts row p → PendingStands consts row q → AllByRecursion (IsOfKind kinds) (values_of_store p) → AllByRecursion (IsOfKind kinds) (values_of_store q) → p ≡ q
  store_one row p q h k a b =
      let base = unknown p.base q.base (value_one consts kinds row.base (Known p.base) (Known q.base) h.0 k.0 a.0 b.0) in
      let spot = sym h.1 ∙ k.1 in
      let value = value_one consts kinds row.value p.value q.value h.2 k.2 a.1.0 b.1.0 in
      λ i. record { base = base i; spot = spot i; value = value i }

  pub snapshot_one : (frames : List FrameRow) (virtuals : List VirtualRow) (row : GuardRow) (s r : Snapshot) → StandsFor consts frames virtuals row s → StandsFor consts frames virtuals row r → AreOfKind kinds s → AreOfKind kinds r → s ≡ r
  snapshot_one frames virtuals row s r h k a b =
      let Q = IsOfKind kinds in
      let slots : OptFrame → List Val = λ (x : OptFrame). x.slots in
      let parts : Shape → List Val = λ (x : Shape). x.parts in
      let sa = split Q (flat_map slots s.frames ++ flat_map parts s.shapes) (flat_map values_of_store s.pending) (recursion_from_All Q (values_in s) a) in
      let ra = split Q (flat_map slots r.frames ++ flat_map parts r.shapes) (flat_map values_of_store r.pending) (recursion_from_All Q (values_in r) b) in
      let sb = split Q (flat_map slots s.frames) (flat_map parts s.shapes) sa.0 in
      let rb = split Q (flat_map slots r.frames) (flat_map parts r.shapes) ra.0 in
      let P : OptFrame → Type 0 = λ (x : OptFrame). AllByRecursion Q x.slots in
      let inward = frames_one frames (Some row.frame) (reverse s.frames) (reverse r.frames) h.frames_stand k.frames_stand (reversed P s.frames (flat_each Q slots s.frames sb.0)) (reversed P r.frames (flat_each Q slots r.frames rb.0)) in
      let fs = sym (reverse_back s.frames) ∙ ap reverse inward ∙ reverse_back r.frames in
      let ss = zip_one (VirtualStands consts virtuals) (λ (x : Shape). AllByRecursion Q x.parts) (shape_one virtuals) row.virtuals s.shapes r.shapes h.virtuals_stand k.virtuals_stand (flat_each Q parts s.shapes sb.1) (flat_each Q parts r.shapes rb.1) in
      let ps = zip_one (PendingStands consts) (λ x. AllByRecursion Q (values_of_store x)) store_one row.pending s.pending r.pending h.pending_stand k.pending_stand (flat_each Q values_of_store s.pending sa.1) (flat_each Q values_of_store r.pending ra.1) in
      λ i. record { frames = fs i; shapes = ss i; pending = ps i }

contains_at : {X : Type 0} (xs : List X) (i : ℕ) (x : X) → slice_get xs i ≡ Some x → Contains xs x
contains_at xs i x e = (i, slice_get_within xs i x e, get_or_from_slice_get xs i x x e)

apart_place : {X : Type 0} (xs : List X) (i j : ℕ) (x : X) → AreApart xs → slice_get xs i ≡ Some x → slice_get xs j ≡ Some x → i ≡ j
apart_place [] i j x h e f = cc
apart_place (y ∷ ys) zero zero x h e f = refl
apart_place (y ∷ ys) zero (suc j) x h e f = absurd (h.0 (contains_at ys j y (f ∙ ap Some (sym (unsome y x e)))))
apart_place (y ∷ ys) (suc i) zero x h e f = absurd (h.0 (contains_at ys i y (e ∙ ap Some (sym (unsome y x f)))))
apart_place (y ∷ ys) (suc i) (suc j) x h e f = ap suc (apart_place ys i j x h.1 e f)

pub row_one : (table : ResumeTable) (guard : ℕ) (a b : GuardRow) → IsLawful table → IsRowOf table guard a → IsRowOf table guard b → a ≡ b
row_one table guard a b lawful h k =
    let number : GuardRow → ℕ = λ (r : GuardRow). r.guard in
    let first = slice_get-map number table.guards h.place ∙ ap (option_map number) h.stands ∙ ap Some h.number in
    let second = slice_get-map number table.guards k.place ∙ ap (option_map number) k.stands ∙ ap Some k.number in
    let same = apart_place (map number table.guards) h.place k.place guard lawful.guards_once first second in
    unsome a b (sym h.stands ∙ ap (slice_get table.guards) same ∙ k.stands)

pub reads_one : ReadsOne
reads_one table guard kinds a b lawful h own k other =
    let row_is : k.0 ≡ h.0 = row_one table guard k.0 h.0 lawful k.1 h.1 in
    snapshot_one table.consts kinds table.frames table.virtuals h.0 a b h.2 (subst (λ (r : GuardRow). StandsFor table.consts table.frames table.virtuals r b) row_is k.2) own other

zip_at : {X Y : Type 0} (R : X → Y → Type 0) (xs : List X) (ys : List Y) (k : ℕ) (y : Y) → AllZip R xs ys → slice_get ys k ≡ Some y → (x : X) × (slice_get xs k ≡ Some x) × R x y
zip_at R [] [] k y h e = cc
zip_at R [] (z ∷ ys) k y h e = absurd h
zip_at R (x ∷ xs) [] k y h e = absurd h
zip_at R (x ∷ xs) (z ∷ ys) zero y h e = (x, refl, subst (R x) (unsome z y e) h.0)
zip_at R (x ∷ xs) (z ∷ ys) (suc k) y h e = zip_at R xs ys k y h.1 e

own_row : (p : Piece) (table : ResumeTable) (k : ℕ) (g : Guarded) → IsNumbered table p → slice_get (guarded p.ops) k ≡ Some g → (row : GuardRow) × IsRowOf table g.guard row × StandsFor table.consts table.frames table.virtuals row g.snap
own_row p table k g n at =
    let found = zip_at (StandsIn table.consts table.frames table.virtuals) table.guards (guarded p.ops) k g n.rows at in
    (found.0, record { place = k; stands = found.1; number = found.2.number }, found.2.stands)

pub can_be_read : CanBeRead
can_be_read p table kinds k g n at own =
    let row = own_row p table k g n at in
    let kinds_known : LeadsOnlyTo table.frames table.virtuals row.0 (IsBoxTagBelow (length kinds)) =
    leads table.consts (IsBoxTagBelow (length kinds)) (IsOfKind kinds) (box_below table.consts kinds) table.frames table.virtuals row.0 g.snap row.2 (recursion_from_All (IsOfKind kinds) (values_in g.snap) own) in
    (n.lawful, (row.0, row.1), λ r is. subst (λ (x : GuardRow). LeadsOnlyTo table.frames table.virtuals x (IsBoxTagBelow (length kinds))) (row_one table g.guard row.0 r n.lawful row.1 is) kinds_known)

pub reads_snapshots : ReadsSnapshots
reads_snapshots p table kinds k g read n at own stands known = reads_one table g.guard kinds read g.snap n.lawful stands known (own_row p table k g n at) own
