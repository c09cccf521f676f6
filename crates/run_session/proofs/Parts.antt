-- The boxes of a snapshot, each once with its place: no two have one number, and each has its place.
use Rattle.std.proofs.Common.{◌≡◌, ℕ, zero, suc, ◌+◌, Bool, true, false, cond, ◌||◌, List, [], ◌∷◌, ◌++◌, Some, length, map, take, refl, ap, sym, ◌∙◌, subst, arith, ◌⊎◌, inl, inr}
use Rattle.std.specs.Prelude.{slice_get}
use Rattle.std.specs.List.{All, Contains, flat_map, list_any, range_with_len}
use Rattle.lists.specs.Has.{Has, IsOnce}
use Rattle.lists.proofs.Alls.{all_at}
use Rattle.lists.proofs.Membership.{has_left, has_right, has_cases, has_at, has_map, all_has}
use Rattle.lists.proofs.Onces.{once_push}
use Rattle.lists.proofs.Bools.{true_not_false}
use Rattle.lists.proofs.Options.{some_same}
use Rattle.trace_ops.specs.declared.trace.BoxId.{BoxId}
use Rattle.trace_ops.specs.declared.piece.Snapshot.{Snapshot}
use Rattle.trace_ops.specs.declared.piece.OptOp.{OptOp}
use Rattle.trace_ops.specs.declared.piece.Piece.{Piece}
use Rattle.trace_ops.specs.contracts.trace.BoxIdPartialEq.TheImpl as box_eq
use Rattle.trace_ops.specs.Parts.{boxes_of, with_boxes, parts_of}
use Rattle.trace_ops.specs.Pieces.{results_of, used_by, defined_by, defined_before}
use Rattle.trace_ops.specs.Sound.{AreApart}
use Rattle.trace_meaning.specs.Boxes.{BoxesDecide}
use Rattle.target_base.specs.declared.place.Place.{Place}
use Rattle.resume_rebuild.specs.Guarding.{HasEach}
use Rattle.bridge_patch.specs.Pieces.{boxes_at}
use Rattle.run_session.proofs.Served.{has_of}

-- ---- each box once

or_cases : (a b : Bool) → a || b ≡ true → (a ≡ true) ⊎ (b ≡ true)
or_cases true b e = inl refl
or_cases false b e = inr e

any_has : BoxesDecide → (b : BoxId) (bs : List BoxId) → list_any (box_eq.ghosts.eq b) bs ≡ true → Has bs b
any_has decide b [] e = absurd (cc)
any_has decide b (c ∷ cs) e = by (or_cases (box_eq.ghosts.eq b c) (list_any (box_eq.ghosts.eq b) cs) e) (any_has decide b cs)
  where
    by : (box_eq.ghosts.eq b c ≡ true) ⊎ (list_any (box_eq.ghosts.eq b) cs ≡ true) → (list_any (box_eq.ghosts.eq b) cs ≡ true → Has cs b) → Has (c ∷ cs) b
    by (inl q) next = inl (sym ((decide b c).0 q))
    by (inr q) next = inr (next q)

or_first : (a b : Bool) → a ≡ true → a || b ≡ true
or_first a b e = ap (λ (z : Bool). z || b) e

or_second : (a b : Bool) → b ≡ true → a || b ≡ true
or_second true b e = refl
or_second false b e = e

has_any : BoxesDecide → (b : BoxId) (bs : List BoxId) → Has bs b → list_any (box_eq.ghosts.eq b) bs ≡ true
has_any decide b [] h = absurd h
has_any decide b (c ∷ cs) (inl e) = or_first (box_eq.ghosts.eq b c) (list_any (box_eq.ghosts.eq b) cs) ((decide b c).1 (sym e))
has_any decide b (c ∷ cs) (inr h) = or_second (box_eq.ghosts.eq b c) (list_any (box_eq.ghosts.eq b) cs) (has_any decide b cs h)

once_if : BoxesDecide → (b : BoxId) (kept : List BoxId) (q : Bool) → list_any (box_eq.ghosts.eq b) kept ≡ q → IsOnce kept → IsOnce (cond q kept (kept ++ b ∷ []))
once_if decide b kept true e h = h
once_if decide b kept false e h = once_push kept b h (λ w. true_not_false (sym (has_any decide b kept w) ∙ e))

with_once : BoxesDecide → (bs kept : List BoxId) → IsOnce kept → IsOnce (with_boxes kept bs)
unfolding with_boxes
with_once decide [] kept h = h
with_once decide (b ∷ bs) kept h = with_once decide bs (cond (list_any (box_eq.ghosts.eq b) kept) kept (kept ++ b ∷ [])) (once_if decide b kept (list_any (box_eq.ghosts.eq b) kept) refl h)

-- what is kept stays, and all others are added
added : BoxesDecide → (c : BoxId) (kept cs : List BoxId) (b : BoxId) (q : Bool) → list_any (box_eq.ghosts.eq c) kept ≡ q → Has kept b ⊎ Has (c ∷ cs) b → Has (cond q kept (kept ++ c ∷ [])) b ⊎ Has cs b
added decide c kept cs b true e (inl k) = inl k
added decide c kept cs b true e (inr (inl k)) = inl (subst (Has kept) k (any_has decide c kept e))
added decide c kept cs b true e (inr (inr k)) = inr k
added decide c kept cs b false e (inl k) = inl (has_left kept (c ∷ []) b k)
added decide c kept cs b false e (inr (inl k)) = inl (has_right kept (c ∷ []) b (inl k))
added decide c kept cs b false e (inr (inr k)) = inr k

with_all : BoxesDecide → (bs kept : List BoxId) (b : BoxId) → Has kept b ⊎ Has bs b → Has (with_boxes kept bs) b
unfolding with_boxes
with_all decide [] kept b (inl h) = h
with_all decide [] kept b (inr h) = absurd h
with_all decide (c ∷ cs) kept b h = with_all decide cs (cond (list_any (box_eq.ghosts.eq c) kept) kept (kept ++ c ∷ [])) b (added decide c kept cs b (list_any (box_eq.ghosts.eq c) kept) refl h)

-- and nothing else is
one_more : (kept cs : List BoxId) (c b : BoxId) → Has kept b ⊎ Has (c ∷ []) b → Has kept b ⊎ Has (c ∷ cs) b
one_more kept cs c b (inl k) = inl k
one_more kept cs c b (inr (inl e)) = inr (inl e)
one_more kept cs c b (inr (inr z)) = absurd z

which : (c : BoxId) (kept cs : List BoxId) (b : BoxId) (q : Bool) → Has (cond q kept (kept ++ c ∷ [])) b ⊎ Has cs b → Has kept b ⊎ Has (c ∷ cs) b
which c kept cs b q (inr k) = inr (inr k)
which c kept cs b true (inl k) = inl k
which c kept cs b false (inl k) = one_more kept cs c b (has_cases kept (c ∷ []) b k)

with_only : (bs kept : List BoxId) (b : BoxId) → Has (with_boxes kept bs) b → Has kept b ⊎ Has bs b
unfolding with_boxes
with_only [] kept b h = inl h
with_only (c ∷ cs) kept b h = which c kept cs b (list_any (box_eq.ghosts.eq c) kept) (with_only cs (cond (list_any (box_eq.ghosts.eq c) kept) kept (kept ++ c ∷ [])) b h)

none_left : {X : Type 0} → ⊥ ⊎ X → X
none_left (inl e) = absurd e
none_left (inr x) = x

parts_once : BoxesDecide → (s : Snapshot) → IsOnce (parts_of s)
parts_once decide s = with_once decide (boxes_of s) [] tt

parts_have : BoxesDecide → (s : Snapshot) (b : BoxId) → Has (boxes_of s) b → Has (parts_of s) b
parts_have decide s b h = with_all decide (boxes_of s) [] b (inr h)

parts_are : (s : Snapshot) (b : BoxId) → Has (parts_of s) b → Has (boxes_of s) b
parts_are s b h = none_left (with_only (boxes_of s) [] b h)

-- ---- places

pub each_placed : BoxesDecide → (at : ℕ → Place) (s : Snapshot) → All (HasEach (boxes_at at (parts_of s))) (boxes_of s)
each_placed decide at s =
    all_has (HasEach (boxes_at at (parts_of s))) (boxes_of s) (λ b h.
    (let k = has_at (boxes_at at (parts_of s)) (b, at b.number) (has_map (λ (c : BoxId). (c, at c.number)) (parts_of s) b (parts_have decide s b h)) in
    (k.0, at b.number, k.1)))

-- ---- numbers

map_has : (bs : List BoxId) (n : ℕ) → Has (map (λ (b : BoxId). b.number) bs) n → (c : BoxId) × Has bs c × (c.number ≡ n)
map_has [] n h = absurd h
map_has (b ∷ bs) n (inl e) = (b, inl refl, e)
map_has (b ∷ bs) n (inr h) = let r = map_has bs n h in (r.0, inr r.1, r.2)

-- boxes that their numbers tell
abbrev TellBoxes : List BoxId → Type 0
TellBoxes bs = (b c : BoxId) → Has bs b → Has bs c → b.number ≡ c.number → b ≡ c

numbers_apart : (bs : List BoxId) → IsOnce bs → TellBoxes bs → AreApart (map (λ (b : BoxId). b.number) bs)
numbers_apart [] once tells = tt
numbers_apart (b ∷ bs) once tells = (
  (λ w. (let r = map_has bs b.number (has_of (map (λ (c : BoxId). c.number) bs) b.number w) in once.0 (subst (Has bs) (tells r.0 b (inr r.1) (inl refl) r.2) r.1))),
  numbers_apart bs once.1 (λ x y h k e. tells x y (inr h) (inr k) e),
)

cons_head : {x y : ℕ} {xs ys : List ℕ} → x ∷ xs ≡ y ∷ ys → x ≡ y
cons_head e = cc

cons_tail : {x y : ℕ} {xs ys : List ℕ} → x ∷ xs ≡ y ∷ ys → xs ≡ ys
cons_tail e = cc

numbered_at : (ds : List BoxId) (a : ℕ) → map (λ (b : BoxId). b.number) ds ≡ range_with_len a (length ds) → (b : BoxId) → Has ds b → (i : ℕ) × (b.number ≡ a + i) × (slice_get ds i ≡ Some b)
numbered_at [] a e b h = absurd h
numbered_at (d ∷ ds) a e b (inl same) = (0, sym (ap (λ (x : BoxId). x.number) same) ∙ cons_head e ∙ omega arith, ap Some same)
numbered_at (d ∷ ds) a e b (inr h) =
    let (i, n, g) = numbered_at ds (a + 1) (cons_tail e) b h in
    (suc i, omega (arith, n), g)

numbers_tell : (ds : List BoxId) → map (λ (b : BoxId). b.number) ds ≡ range_with_len 0 (length ds) → TellBoxes ds
numbers_tell ds e b c h k same =
    let (i, n, g) = numbered_at ds 0 e b h in
    let (j, m, f) = numbered_at ds 0 e c k in
    let at : i ≡ j = omega (arith, n, m, same) in
    some_same (sym g ∙ ap (slice_get ds) at ∙ f)

-- ---- of a guard of a piece

has_take : (k : ℕ) (ops : List OptOp) (b : BoxId) → Has (flat_map results_of (take k ops)) b → Has (flat_map results_of ops) b
has_take zero ops b h = absurd h
has_take (suc k) [] b h = absurd h
has_take (suc k) (op ∷ ops) b h = by (has_cases (results_of op) (flat_map results_of (take k ops)) b h) (has_take k ops b)
  where
    by : Has (results_of op) b ⊎ Has (flat_map results_of (take k ops)) b → (Has (flat_map results_of (take k ops)) b → Has (flat_map results_of ops) b) → Has (flat_map results_of (op ∷ ops)) b
    by (inl w) more = has_left (results_of op) (flat_map results_of ops) b w
    by (inr w) more = has_right (results_of op) (flat_map results_of ops) b (more w)

before_has : (p : Piece) (k : ℕ) (b : BoxId) → Has (defined_before p k) b → Has (defined_by p) b
before_has p k b h = by (has_cases p.label (flat_map results_of (take k p.ops)) b h)
  where
    by : Has p.label b ⊎ Has (flat_map results_of (take k p.ops)) b → Has (defined_by p) b
    by (inl w) = has_left p.label (flat_map results_of p.ops) b w
    by (inr w) = has_right p.label (flat_map results_of p.ops) b (has_take k p.ops b w)

-- the boxes of the snapshot are used by the operation
abbrev pub UsesSnapshot : OptOp → Snapshot → Type 0
UsesSnapshot op s = (b : BoxId) → Has (boxes_of s) b → Has (used_by op) b

pub parts_apart : BoxesDecide → (at : ℕ → Place) (p : Piece) (k : ℕ) (op : OptOp) (s : Snapshot)
    → map (λ (b : BoxId). b.number) (defined_by p) ≡ range_with_len 0 (length (defined_by p)) → All (Contains (defined_before p k)) (used_by op) → UsesSnapshot op s
    → AreApart (map (λ (q : BoxId × Place). q.0.number) (boxes_at at (parts_of s)))
parts_apart decide at p k op s numbered defined uses =
    let known : (b : BoxId) → Has (parts_of s) b → Has (defined_by p) b = λ b h. (
    let used = has_at (used_by op) b (uses b (parts_are s b h)) in
    before_has p k b (has_of (defined_before p k) b (all_at (Contains (defined_before p k)) (used_by op) used.0 b defined used.1))) in
    subst AreApart (numbers_of (parts_of s)) (numbers_apart (parts_of s) (parts_once decide s) (λ b c h g e. numbers_tell (defined_by p) numbered b c (known b h) (known c g) e))
  where
    numbers_of : (bs : List BoxId) → map (λ (b : BoxId). b.number) bs ≡ map (λ (q : BoxId × Place). q.0.number) (boxes_at at bs)
    numbers_of [] = refl
    numbers_of (b ∷ bs) = ap (λ (l : List ℕ). b.number ∷ l) (numbers_of bs)
