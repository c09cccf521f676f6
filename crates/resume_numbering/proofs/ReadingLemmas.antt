-- Reading a table.
use Rattle.std.proofs.Common.{◌≡◌, ℕ, zero, suc, ◌+◌, ◌*◌, ◌<◌, List, [], ◌∷◌, ◌++◌, Option, Some, None, Bool, true, false, not, cond, nat_lt, ◌==◌, eq-eqb, length, slice_get, take, reverse, refl, ap, sym, subst, ◌∙◌, inr, arith}
use Rattle.std.specs.Prelude.{slice_index_or, position, Result, Ok, Err, IfOk}
use Rattle.std.specs.List.{AllZip, All, AllByRecursion, flat_map, position_or_len}
use Rattle.std.proofs.lemmas.List.{take_more, reverse-append}
use Rattle.std.proofs.lemmas.Option.{slice_get_within, get_or_from_slice_get, slice_get_read}
use Rattle.std.proofs.lemmas.Bool.{lt-ltb, eqb-true}
use Rattle.std.proofs.lemmas.List.Quantifiers.{position-Some}
use Rattle.std.proofs.lemmas.List.Elements.{All-push, All-append, All-nil, All-from_recursion, recursion_from_All}
use Rattle.trace_ops.specs.declared.trace.Kind.{Kind}
use Rattle.trace_ops.specs.declared.trace.Arg.{Arg}
use Rattle.trace_ops.specs.declared.trace.Arg.TheVariants.{Of, Const, Null, Class, Func, Ptr}
use Rattle.trace_ops.specs.declared.piece.Val.{Val}
use Rattle.trace_ops.specs.declared.piece.Val.TheVariants.{Known}
use Rattle.trace_ops.specs.declared.piece.OptFrame.{OptFrame}
use Rattle.trace_ops.specs.declared.piece.Shape.{Shape}
use Rattle.trace_ops.specs.declared.piece.Pending.{Pending}
use Rattle.trace_ops.specs.declared.piece.Snapshot.{Snapshot}
use Rattle.resume_numbering.specs.declared.rows.FrameRow.{FrameRow}
use Rattle.resume_numbering.specs.declared.rows.VirtualRow.{VirtualRow}
use Rattle.resume_numbering.specs.declared.rows.PendingRow.{PendingRow}
use Rattle.resume_numbering.specs.declared.rows.GuardRow.{GuardRow}
use Rattle.resume_numbering.specs.declared.rows.ResumeTable.{ResumeTable}
use Rattle.resume_numbering.specs.Tags.{Reads, IsBoxTagBelow, IsConstBelow}
use Rattle.resume_numbering.specs.Values.{values_of_store, IsOfKind}
use Rattle.resume_numbering.specs.Standing.{HasLowerParents, IsFrame, FramesStand}
use Rattle.resume_numbering.specs.Leading.{parent_of, outward, LeadsOnlyTo}
use Rattle.resume_numbering.specs.Lawful.{IsConstant, IsLawful}
use Rattle.resume_numbering.specs.Reading.{IsRowOf, HasRow, place_of, RowIsReadable, KindsOfFrame, KindsOfShape, KindsOfStore, AreOfKind}
use Rattle.resume_numbering.proofs.TagLemmas.{zip_more}
use Rattle.resume_numbering.proofs.LawfulLemmas.{parent_is, unsome}

pub all_at : {X : Type 0} (P : X → Type 0) (xs : List X) (k : ℕ) (x : X) → All P xs → slice_get xs k ≡ Some x → P x
all_at P xs k x h e = subst P (get_or_from_slice_get xs k x x e) (h k x (slice_get_within xs k x e))

const_reads : (consts : List Arg) (t k : ℕ) (a : Arg) → t ≡ 4 * k + 2 → slice_get consts k ≡ Some a → IsConstant a → Reads consts t (Known a)
const_reads consts t k (Of b) e g h = absurd h
const_reads consts t k (Const z) e g h = inr (k, e, g)
const_reads consts t k Null e g h = (k, e, g)
const_reads consts t k (Class n) e g h = absurd h
const_reads consts t k (Func n) e g h = absurd h
const_reads consts t k (Ptr n) e g h = (k, e, g)

const_kind : (kinds : List Kind) (a : Arg) → IsConstant a → IsOfKind kinds (Known a)
const_kind kinds (Of b) h = absurd h
const_kind kinds (Const z) h = tt
const_kind kinds Null h = tt
const_kind kinds (Class n) h = absurd h
const_kind kinds (Func n) h = absurd h
const_kind kinds (Ptr n) h = tt

pub entry_reads : (consts : List Arg) (t k : ℕ) (a : Arg) → t ≡ 4 * k + 2 → slice_get consts k ≡ Some a → All IsConstant consts → Reads consts t (Known a)
entry_reads consts t k a e g h = const_reads consts t k a e g (all_at IsConstant consts k a h g)

pub entry_kind : (consts : List Arg) (kinds : List Kind) (k : ℕ) (a : Arg) → slice_get consts k ≡ Some a → All IsConstant consts → IsOfKind kinds (Known a)
entry_kind consts kinds k a g h = const_kind kinds a (all_at IsConstant consts k a h g)

pub one_more_read : {X Y : Type 0} (R : X → Y → Type 0) (xs : List X) (ys new : List Y) (i : ℕ) (d : X) (y : Y) → i < length xs → AllZip R (take i xs) ys → R (slice_index_or xs i d) y → new ≡ ys ++ y ∷ [] → AllZip R (take (i + 1) xs) new
one_more_read R xs ys new i d y w h r e =
    subst (AllZip R (take (i + 1) xs)) (sym e) (subst (λ zs. AllZip R zs (ys ++ y ∷ [])) (sym (take_more xs i d w)) (zip_more R (take i xs) ys (slice_index_or xs i d) y h r))

pub one_more_kind : {Y : Type 0} (P : Y → Type 0) (ys new : List Y) (y : Y) → All P ys → P y → new ≡ ys ++ y ∷ [] → All P new
one_more_kind P ys new y h p e = subst (All P) (sym e) (All-push P ys y h p)

outward_next : (rows : List FrameRow) (n : ℕ) (at : Option ℕ) → outward rows (suc n) at ≡ parent_of rows (outward rows n at)
outward_next rows zero at = refl
outward_next rows (suc n) at = outward_next rows n (parent_of rows at)

append_none : {X : Type 0} (xs : List X) → xs ++ [] ≡ xs
append_none [] = refl
append_none (x ∷ xs) = ap (λ ys. x ∷ ys) (append_none xs)

assoc : {X : Type 0} (xs ys zs : List X) → (xs ++ ys) ++ zs ≡ xs ++ (ys ++ zs)
assoc [] ys zs = refl
assoc (x ∷ xs) ys zs = ap (λ ws. x ∷ ws) (assoc xs ys zs)

-- the frames that are read so far, innermost first
pub record Walking (table : ResumeTable) (kinds : List Kind) (start : ℕ) (at : Option ℕ) (fs : List OptFrame) : Type 0 where
  pub steps : ℕ
  pub here : outward table.frames steps (Some start) ≡ at
  pub within : (k : ℕ) → at ≡ Some k → k < length table.frames
  pub stands : (rest : List OptFrame) → FramesStand table.consts table.frames at rest → FramesStand table.consts table.frames (Some start) (fs ++ rest)
  pub are_kinds : All (KindsOfFrame kinds) fs

abbrev pub left_at : Option ℕ → ℕ
left_at None = 0
left_at (Some k) = k + 1

pub walk_from : (table : ResumeTable) (kinds : List Kind) (start : ℕ) → start < length table.frames → Walking table kinds start (Some start) []
walk_from table kinds start w = record {
  steps = 0;
  here = refl;
  within = λ k e. subst (λ n. n < length table.frames) (unsome start k e) w;
  stands = λ rest h. h;
  are_kinds = All-nil (KindsOfFrame kinds);
}

pub walk_on : (table : ResumeTable) (kinds : List Kind) (start k : ℕ) (at : Option ℕ) (fs new : List OptFrame) (row : FrameRow) (f : OptFrame) → IsLawful table → Walking table kinds start at fs → at ≡ Some k → slice_get table.frames k ≡ Some row
    → IsFrame table.consts row row.parent f → KindsOfFrame kinds f → new ≡ fs ++ f ∷ [] → Walking table kinds start row.parent new
walk_on table kinds start k at fs new row f lawful s e g frame own pushed = record {
  steps = suc s.steps;
  here = outward_next table.frames s.steps (Some start) ∙ ap (parent_of table.frames) s.here ∙ parent_is table.frames at k row e g;
  within = λ p parent. omega (arith, lawful.parents_lower k p row g parent, slice_get_within table.frames k row g);
  stands = λ rest h. subst (FramesStand table.consts table.frames (Some start)) (sym (ap (λ xs. xs ++ rest) pushed ∙ assoc fs (f ∷ []) rest)) (s.stands (f ∷ rest) (k, row, e, g, frame, h));
  are_kinds = one_more_kind (KindsOfFrame kinds) fs new f s.are_kinds own pushed;
}

pub walked : (table : ResumeTable) (kinds : List Kind) (start : ℕ) (at : Option ℕ) (fs : List OptFrame) → Walking table kinds start at fs → at ≡ None → FramesStand table.consts table.frames (Some start) fs
walked table kinds start at fs s e = subst (FramesStand table.consts table.frames (Some start)) (append_none fs) (s.stands [] e)

pub reverse_back : {X : Type 0} (xs : List X) → reverse (reverse xs) ≡ xs
reverse_back [] = refl
reverse_back (x ∷ xs) = ap reverse (reverse-append (x ∷ []) xs) ∙ reverse-append (reverse xs) (x ∷ []) ∙ ap (λ ys. x ∷ ys) (reverse_back xs)

all_flat : {X Y : Type 0} (P : Y → Type 0) (f : X → List Y) (xs : List X) → AllByRecursion (λ x. All P (f x)) xs → All P (flat_map f xs)
all_flat P f [] h = All-nil P
all_flat P f (x ∷ xs) h = All-append P (f x) (flat_map f xs) h.0 (all_flat P f xs h.1)

pub kinds_of_all : (kinds : List Kind) (snap : Snapshot) → All (KindsOfFrame kinds) snap.frames → All (KindsOfShape kinds) snap.shapes → All (KindsOfStore kinds) snap.pending → AreOfKind kinds snap
kinds_of_all kinds snap fs ss ps =
    let P = IsOfKind kinds in
    let slots : OptFrame → List Val = λ (x : OptFrame). x.slots in
    let parts : Shape → List Val = λ (x : Shape). x.parts in
    All-append P (flat_map slots snap.frames ++ flat_map parts snap.shapes) (flat_map values_of_store snap.pending)
    (All-append P (flat_map slots snap.frames) (flat_map parts snap.shapes) (all_flat P slots snap.frames (recursion_from_All (λ (x : OptFrame). All P x.slots) snap.frames fs)) (all_flat P parts snap.shapes (recursion_from_All (λ (x : Shape). All P x.parts) snap.shapes ss)))
    (all_flat P values_of_store snap.pending (recursion_from_All (λ x. All P (values_of_store x)) snap.pending (λ k d w. store (slice_index_or snap.pending k d) (ps k d w))))
  where
    store : (p : Pending) → KindsOfStore kinds p → All (IsOfKind kinds) (values_of_store p)
    store p h = All-from_recursion (IsOfKind kinds) (values_of_store p) (h.0, (h.1, tt))

pub row_readable : (table : ResumeTable) (n i : ℕ) (row : GuardRow) → IsLawful table → slice_get table.guards i ≡ Some row → LeadsOnlyTo table.frames table.virtuals row (IsBoxTagBelow n) → RowIsReadable table n row
row_readable table n i row lawful at h =
    let m = length table.consts in
    let stores = all_at (λ (g : GuardRow). All (λ (p : PendingRow). IsConstBelow m p.base × IsConstBelow m p.value) g.pending) table.guards i row lawful.store_constants at in
    record {
      slots = λ j k r out g l d w. (all_at (λ (x : FrameRow). All (IsConstBelow m) x.slots) table.frames k r lawful.slot_constants g l d w, h.slots j k r out g l d w);
      parts = λ j k r e g l d w. (all_at (λ (x : VirtualRow). All (IsConstBelow m) x.parts) table.virtuals k r lawful.part_constants g l d w, h.parts j k r e g l d w);
      bases = λ l d w. ((stores l d w).0, h.bases l d w);
      values = λ l d w. ((stores l d w).1, h.values l d w);
    }

pub at_same : {X : Type 0} (F : ℕ → X → Type 0) (consts cs : List Arg) (xs ys : List X) (i : ℕ) (d : X) → ys ≡ xs → cs ≡ consts → i < length ys → All (F (length consts)) xs → F (length cs) (slice_index_or ys i d)
at_same F consts cs xs ys i d e f w h = subst (λ (c : List Arg). F (length c) (slice_index_or ys i d)) (sym f) (subst (All (F (length consts))) (sym e) h i d w)

pub row_at : {X : Type 0} (xs ys : List X) (i : ℕ) (x : X) → ys ≡ xs → i < length xs → x ≡ slice_index_or ys i x → slice_get xs i ≡ Some x
row_at xs ys i x e w is = slice_get_read xs (length xs) i x refl w (is ∙ ap (λ zs. slice_index_or zs i x) e)

pub left_less : (rows : List FrameRow) (at : Option ℕ) (k : ℕ) (row : FrameRow) → HasLowerParents rows → at ≡ Some k → slice_get rows k ≡ Some row → left_at row.parent < left_at at
left_less rows at k row low e g = subst (λ o. left_at row.parent < left_at o) (sym e) (by row.parent refl)
  where
    by : (o : Option ℕ) → row.parent ≡ o → left_at o < k + 1
    by None h = omega arith
    by (Some p) h = omega (arith, low k p row g h)

hit : {X : Type 0} (p : X → Bool) (xs : List X) (i : ℕ) (x : X) → slice_get xs i ≡ Some x → p x ≡ true → position_or_len p xs < length xs
hit p [] i x e h = cc
hit {X} p (y ∷ ys) i x e h = by (p y) refl i e (λ j g. hit p ys j x g h)
  where
    by : (b : Bool) → p y ≡ b → (j : ℕ) → slice_get (y ∷ ys) j ≡ Some x → ((k : ℕ) → slice_get ys k ≡ Some x → position_or_len p ys < length ys) → cond (not b) (1 + position_or_len p ys) 0 < length (y ∷ ys)
    by true f j g rest = omega arith
    by false f zero g rest = let wrong : false ≡ true = sym f ∙ ap p (unsome y x g) ∙ h in cc
    by false f (suc j) g rest = omega (arith, rest j g)

missed : {X : Type 0} (p : X → Bool) (xs : List X) → position p xs ≡ None → position_or_len p xs < length xs → ⊥
missed p xs e w = by (nat_lt (position_or_len p xs) (length xs)) (lt-ltb (position_or_len p xs) (length xs) w) e
  where
    by : (b : Bool) → b ≡ true → cond b (Some (position_or_len p xs)) None ≡ None → ⊥
    by true f g = cc
    by false f g = cc

pub is_placed : (table : ResumeTable) (guard : ℕ) → HasRow table guard → place_of guard table.guards ≡ None → ⊥
is_placed table guard has e =
    let p : GuardRow → Bool = λ (row : GuardRow). row.guard == guard in
    missed p table.guards e (hit p table.guards has.1.place has.0 has.1.stands (eq-eqb has.0.guard guard has.1.number))

pub place_is : (table : ResumeTable) (guard k : ℕ) (row : GuardRow) → place_of guard table.guards ≡ Some k → row ≡ slice_index_or table.guards k row → IsRowOf table guard row
place_is table guard k row e is =
    let p : GuardRow → Bool = λ (r : GuardRow). r.guard == guard in
    let at = position-Some p table.guards k row e in
    record { place = k; stands = row_at table.guards table.guards k row refl at.0 is; number = eqb-true row.guard guard (ap p is ∙ at.1) }

-- the row at the place that was found in a copy of the rows
pub row_is : (table : ResumeTable) (guard k : ℕ) (rows : List GuardRow) (row : GuardRow) (o : Option ℕ) → rows ≡ table.guards → o ≡ place_of guard rows → o ≡ Some k → row ≡ slice_index_or rows k row → IsRowOf table guard row
row_is table guard k rows row o e placed some is =
    place_is table guard k row (ap (place_of guard) (sym e) ∙ sym placed ∙ some) (is ∙ ap (λ zs. slice_index_or zs k row) e)

pub both_ok : {X Y : Type 0} (r : Result X Y) (P Q : X → Type 0) → IfOk r P → IfOk r Q → IfOk r (λ x. P x × Q x)
both_ok (Ok x) P Q h k = (h, k)
both_ok (Err e) P Q h k = tt
