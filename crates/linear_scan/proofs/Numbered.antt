-- Numbered boxes, and when they live.
use Rattle.std.proofs.Common.{◌≡◌, ℕ, zero, suc, ◌+◌, ◌<◌, ◌≤◌, List, [], ◌∷◌, ◌++◌, map, Some, None, Option, Bool, true, IsTrue, nat_eq, length, slice_get, slice_index, take, refl, ap, sym, subst, ◌∙◌, ◌⊎◌, inl, inr, arith, append_assoc, length-append, if◌then◌else◌, ◌||◌}
use Rattle.std.specs.Prelude.{slice_index_or}
use Rattle.std.specs.List.{Contains, flat_map, list_any, range_with_len}
use Rattle.std.proofs.lemmas.Bool.{cases_Bool}
use Rattle.std.proofs.lemmas.Bool.Decides.{eqb_tells}
use Rattle.std.proofs.lemmas.List.{append-nil}
use Rattle.std.proofs.lemmas.Option.{slice_get-get_or}
use Rattle.trace_ops.specs.declared.trace.BoxId.{BoxId}
use Rattle.trace_ops.specs.declared.piece.OptOp.{OptOp}
use Rattle.trace_ops.specs.declared.piece.Piece.{Piece}
use Rattle.trace_ops.specs.Pieces.{used_by, results_of, defined_by, defined_before}
use Rattle.linear_scan.specs.Living.{HaveNumbersBelow, UsesDefined, starts_from, start_of, end_of, uses_box, last_use}
use Rattle.linear_scan.specs.Numbering.{AreNumbered, AreDefined, BoxesLive}
use Rattle.linear_scan.proofs.Marks.{got_within}
use Rattle.linear_scan.proofs.Recent.{entry_before, mapped, used_late}

-- what a list contains is at some place
place_of : {X : Type 0} (xs : List X) (x : X) → Contains xs x → (i : ℕ) × (slice_get xs i ≡ Some x)
place_of xs x h = (h.0, slice_get-get_or xs h.0 x h.1 ∙ ap Some h.2)

numbered_at : (xs : List BoxId) (s i : ℕ) (b : BoxId) → map (λ (x : BoxId). x.number) xs ≡ range_with_len s (length xs) → slice_get xs i ≡ Some b → b.number ≡ s + i
numbered_at [] s i b h e = cc
numbered_at (x ∷ xs) s zero b h e = omega (arith, head h, ap (λ (o : Option BoxId). number_or o) e)
  where
    head : {xs ys : List ℕ} {m n : ℕ} → m ∷ xs ≡ n ∷ ys → m ≡ n
    head h = cc

    number_or : Option BoxId → ℕ
    number_or None = 0
    number_or (Some y) = y.number
numbered_at (x ∷ xs) s (suc i) b h e = let r = numbered_at xs (s + 1) i b (tail h) e in omega (arith, r)
  where
    tail : {xs ys : List ℕ} {m n : ℕ} → m ∷ xs ≡ n ∷ ys → xs ≡ ys
    tail h = cc

get_before : {X : Type 0} (xs ys : List X) (i : ℕ) (x : X) → slice_get xs i ≡ Some x → slice_get (xs ++ ys) i ≡ Some x
get_before [] ys i x e = cc
get_before (y ∷ xs) ys zero x e = e
get_before (y ∷ xs) ys (suc i) x e = get_before xs ys i x e

get_behind : {X : Type 0} (xs ys : List X) (i : ℕ) → slice_get (xs ++ ys) (length xs + i) ≡ slice_get ys i
get_behind [] ys i = ap (slice_get ys) (omega arith)
get_behind (x ∷ xs) ys i = let one : suc (length xs) + i ≡ suc (length xs + i) = omega arith in ap (slice_get (x ∷ (xs ++ ys))) one ∙ get_behind xs ys i

index_behind : (xs ys : List ℕ) (i : ℕ) → slice_index (xs ++ ys) (length xs + i) ≡ slice_index ys i
index_behind [] ys i = ap (slice_index ys) (omega arith)
index_behind (x ∷ xs) ys i = let one : suc (length xs) + i ≡ suc (length xs + i) = omega arith in ap (slice_index (x ∷ (xs ++ ys))) one ∙ index_behind xs ys i

-- boxes that are among the first n
below_all : (n : ℕ) (bs : List BoxId) → ((b : BoxId) → Contains bs b → b.number < n) → HaveNumbersBelow n bs
below_all n [] h = tt
below_all n (b ∷ bs) h = (h b (0, omega arith, refl), below_all n bs (λ x c. h x (c.0 + 1, omega (arith, c.1), more c.0 b bs x ∙ c.2)))
  where
    more : (k : ℕ) (b : BoxId) (bs : List BoxId) (x : BoxId) → slice_index_or (b ∷ bs) (k + 1) x ≡ slice_index_or bs k x
    more k b bs x = let one : k + 1 ≡ suc k = omega arith in ap (λ n. slice_index_or (b ∷ bs) n x) one

-- from what is defined so far to what all operations use
pub uses_defined : (before : List BoxId) (ops : List OptOp) → map (λ (b : BoxId). b.number) (before ++ flat_map results_of ops) ≡ range_with_len 0 (length (before ++ flat_map results_of ops))
    → ((k : ℕ) (op : OptOp) → slice_get ops k ≡ Some op → (b : BoxId) → Contains (used_by op) b → Contains (before ++ flat_map results_of (take k ops)) b) → UsesDefined (length before) ops
uses_defined before [] h d = tt
uses_defined before (op ∷ ops) h d =
    let first : HaveNumbersBelow (length before) (used_by op) = below_all (length before) (used_by op) (λ b c.
    let at = place_of before b (subst (λ xs. Contains xs b) (append-nil before) (d 0 op refl b c)) in
    omega (arith, numbered_at (before ++ flat_map results_of (op ∷ ops)) 0 at.0 b h (get_before before (flat_map results_of (op ∷ ops)) at.0 b at.1), got_within before at.0 b at.1)) in
    let more = before ++ results_of op in
    let same = append_assoc before (results_of op) (flat_map results_of ops) in
    let rest = uses_defined more ops (subst (λ xs. map (λ (b : BoxId). b.number) xs ≡ range_with_len 0 (length xs)) (sym same) h)
    (λ k o e b c. subst (λ xs. Contains xs b) (sym (append_assoc before (results_of op) (flat_map results_of (take k ops)))) (d (suc k) o e b c)) in
    (first, subst (λ n. UsesDefined n ops) (length-append before (results_of op)) rest)

pub numbered_defined : (piece : Piece) → AreNumbered piece → AreDefined piece → UsesDefined (length piece.label) piece.ops
numbered_defined piece h d = uses_defined piece.label piece.ops h (λ k op e b c. subst (Contains (defined_before piece k)) c.2 (d k op e c.0 b c.1))

-- a label box begins at operation 0
zero_at : {X : Type 0} (xs : List X) (i : ℕ) → slice_index (map {B = ℕ} (λ x. 0) xs) i ≡ 0
zero_at [] i = refl
zero_at (x ∷ xs) zero = refl
zero_at (x ∷ xs) (suc i) = zero_at xs i

label_begins : (piece : Piece) → AreNumbered piece → (b : BoxId) → Contains piece.label b → start_of piece b.number ≡ 0
label_begins piece h b c =
    let at = place_of piece.label b c in
    let w = got_within piece.label at.0 b at.1 in
    let n : b.number ≡ at.0 = omega (arith, numbered_at (defined_by piece) 0 at.0 b h (get_before piece.label (flat_map results_of piece.ops) at.0 b at.1)) in
    ap (start_of piece) n ∙ entry_before (map (λ x. 0) piece.label) (starts_from 0 piece.ops) at.0 (omega (arith, w, mapped 0 piece.label)) ∙ zero_at piece.label at.0

-- the result of operation k is the n-th of all, and begins at k + 1
record IsResult (ops : List OptOp) (k : ℕ) (b : BoxId) (n : ℕ) : Type 0 where
  there : slice_get (flat_map results_of ops) n ≡ Some b
  begins : (s : ℕ) → slice_index (starts_from s ops) n ≡ s + k + 1

result_at : (ops : List OptOp) (k : ℕ) (op : OptOp) (b : BoxId) → slice_get ops k ≡ Some op → Contains (results_of op) b → (n : ℕ) × IsResult ops k b n
result_at [] k op b e c = cc
result_at (o ∷ ops) zero op b e c =
    let at = place_of (results_of o) b (subst (λ x. Contains (results_of x) b) (sym (unsome o op e)) c) in (
      at.0,
      record {
        there = get_before (results_of o) (flat_map results_of ops) at.0 b at.1;
        begins = λ s. entry_before (map (λ x. s + 1) (results_of o)) (starts_from (s + 1) ops) at.0 (omega (arith, got_within (results_of o) at.0 b at.1, mapped (s + 1) (results_of o)))
            ∙ one_at (s + 1) (results_of o) at.0 (got_within (results_of o) at.0 b at.1) ∙ omega arith;
      },
    )
  where
    unsome : (a b : OptOp) → Some a ≡ Some b → a ≡ b
    unsome a b h = cc

    one_at : {X : Type 0} (m : ℕ) (xs : List X) (i : ℕ) → i < length xs → slice_index (map {B = ℕ} (λ x. m) xs) i ≡ m
    one_at m [] i w = absurd (omega arith)
    one_at m (x ∷ xs) zero w = refl
    one_at m (x ∷ xs) (suc i) w = one_at m xs i (omega arith)
result_at (o ∷ ops) (suc k) op b e c =
    let r = result_at ops k op b e c in (
      length (results_of o) + r.0,
      record {
        there = get_behind (results_of o) (flat_map results_of ops) r.0 ∙ r.1.there;
        begins = λ s.
            ap (λ n. slice_index (map (λ x. s + 1) (results_of o) ++ starts_from (s + 1) ops) (n + r.0)) (sym (mapped (s + 1) (results_of o)))
            ∙ index_behind (map (λ x. s + 1) (results_of o)) (starts_from (s + 1) ops) r.0 ∙ r.1.begins (s + 1) ∙ omega arith;
      },
    )

result_begins : (piece : Piece) → AreNumbered piece → (k : ℕ) (op : OptOp) (b : BoxId) → slice_get piece.ops k ≡ Some op → Contains (results_of op) b → start_of piece b.number ≡ k + 1
result_begins piece h k op b e c =
    let r = result_at piece.ops k op b e c in
    let n : b.number ≡ length piece.label + r.0 = omega (arith, numbered_at (defined_by piece) 0 (length piece.label + r.0) b h (get_behind piece.label (flat_map results_of piece.ops) r.0 ∙ r.1.there)) in
    let zeros = map {B = ℕ} (λ x. 0) piece.label in
    ap (start_of piece) (n ∙ ap (λ m. m + r.0) (sym (mapped 0 piece.label))) ∙ index_behind zeros (starts_from 0 piece.ops) r.0 ∙ r.1.begins 0 ∙ omega arith

-- an operation uses what it contains
any_contained : (bs : List BoxId) (b : BoxId) → Contains bs b → list_any (λ (x : BoxId). nat_eq b.number x.number) bs ≡ true
any_contained bs b c = walk bs c.0 (slice_get-get_or bs c.0 b c.1 ∙ ap Some c.2)
  where
    or_of : Bool → Bool → Bool
    or_of x y = x || y

    test : BoxId → Bool
    test x = nat_eq b.number x.number

    walk : (xs : List BoxId) (i : ℕ) → slice_get xs i ≡ Some b → list_any (λ (x : BoxId). nat_eq b.number x.number) xs ≡ true
    walk [] i e = cc
    walk (x ∷ xs) zero e = elim (eqb_tells b.number x.number) [
      | inl u ↦ ap (λ y. or_of y (list_any (λ (x : BoxId). nat_eq b.number x.number) xs)) u.0
      | inr u ↦ absurd (u.1 (ap (λ (o : Option BoxId). number_or o) (sym e)))
    ]
      where
        number_or : Option BoxId → ℕ
        number_or None = 0
        number_or (Some y) = y.number
    walk (x ∷ xs) (suc i) e = elim (cases_Bool (nat_eq b.number x.number)) [
      | inl t ↦ ap (λ y. or_of y (list_any (λ (x : BoxId). nat_eq b.number x.number) xs)) t
      | inr f ↦ ap (λ y. or_of y (list_any (λ (x : BoxId). nat_eq b.number x.number) xs)) f ∙ walk xs i e
    ]

-- the last use is no earlier than any, and is one
last_least : (b none k : ℕ) (ops : List OptOp) → none ≤ k → none ≤ last_use b none k ops
last_least b none k [] le = omega arith
last_least b none k (op ∷ ops) le =
    let marked = last_least b k (k + 1) ops (omega arith) in
    let unmarked = last_least b none (k + 1) ops (omega arith) in
    elim (cases_Bool (uses_box b op)) [
      | inl t ↦ subst (λ (y : Bool). none ≤ last_use b (if y then k else none) (k + 1) ops) (sym t) (omega (arith, le, marked))
      | inr f ↦ subst (λ (y : Bool). none ≤ last_use b (if y then k else none) (k + 1) ops) (sym f) unmarked
    ]

last_after : (b none k : ℕ) (ops : List OptOp) (j : ℕ) (op : OptOp) → slice_get ops j ≡ Some op → uses_box b op ≡ true → k + j ≤ last_use b none k ops
last_after b none k [] j op e u = cc
last_after b none k (o ∷ ops) zero op e u =
    subst (λ (y : Bool). k + 0 ≤ last_use b (if y then k else none) (k + 1) ops) (sym (ap (uses_box b) (unsome o op e) ∙ u)) (omega (arith, last_least b k (k + 1) ops (omega arith)))
  where
    unsome : (a b : OptOp) → Some a ≡ Some b → a ≡ b
    unsome a b h = cc
last_after b none k (o ∷ ops) (suc j) op e u = omega (arith, last_after b (if uses_box b o then k else none) (k + 1) ops j op e u)

last_is : (b none k : ℕ) (ops : List OptOp) → (last_use b none k ops ≡ none) ⊎ ((j : ℕ) × (op : OptOp) × (last_use b none k ops ≡ k + j) × (slice_get ops j ≡ Some op) × (uses_box b op ≡ true))
last_is b none k [] = inl refl
last_is b none k (op ∷ ops) = elim (last_is b (if uses_box b op then k else none) (k + 1) ops) [
  | inl same ↦ elim (cases_Bool (uses_box b op)) [
    | inl t ↦ inr (0, op, same ∙ ap (λ (y : Bool). if y then k else none) t ∙ omega arith, refl, t)
    | inr f ↦ inl (same ∙ ap (λ (y : Bool). if y then k else none) f)
  ]
  | inr h ↦ inr (suc h.0, h.1, omega (arith, h.2), h.3, h.4)
]

last_at_use : (piece : Piece) (b : ℕ) → (end_of piece b ≡ start_of piece b) ⊎ ((op : OptOp) × (slice_get piece.ops (end_of piece b) ≡ Some op) × IsTrue (uses_box b op))
last_at_use piece b = elim (last_is b (start_of piece b) 0 piece.ops) [
  | inl same ↦ inl same
  | inr h ↦ let at : end_of piece b ≡ h.0 = omega (arith, h.2) in inr (h.1, ap (slice_get piece.ops) at ∙ h.3, h.4)
]

pub boxes_live : (piece : Piece) → AreNumbered piece → AreDefined piece → BoxesLive piece
boxes_live piece h d = record {
  label = label_begins piece h;
  result = result_begins piece h;
  used = λ k op b e c.
      let u = any_contained (used_by op) b c in
      (used_late piece (numbered_defined piece h d) b.number k op e u, omega (arith, last_after b.number (start_of piece b.number) 0 piece.ops k op e u));
  last = last_at_use piece;
}
