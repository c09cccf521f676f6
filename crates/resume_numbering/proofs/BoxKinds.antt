-- Boxes of which no two have one number tell the kinds of a snapshot.
use Rattle.std.proofs.Common.{◌≡◌, ℕ, zero, suc, ◌+◌, ◌<◌, Bool, List, [], ◌∷◌, Option, Some, map, slice_get, sym, ap, subst, ◌∙◌, inl, inr, arith, if◌then◌else◌, zero-add}
use Rattle.std.specs.List.{All, Contains, range_with_len}
use Rattle.std.proofs.lemmas.Bool.Decides.{eqb_tells}
use Rattle.std.proofs.lemmas.List.Elements.{All-head}
use Rattle.trace_ops.specs.declared.trace.Kind.{Kind}
use Rattle.trace_ops.specs.declared.trace.BoxId.{BoxId}
use Rattle.trace_ops.specs.declared.trace.Arg.TheVariants.{Of, Const, Null, Class, Func, Ptr}
use Rattle.trace_ops.specs.declared.piece.Val.{Val}
use Rattle.trace_ops.specs.declared.piece.Val.TheVariants.{Known, Virtual}
use Rattle.trace_ops.specs.Parts.{boxes_of_val}
use Rattle.trace_ops.specs.Sound.{AreApart}
use Rattle.resume_numbering.specs.Values.{IsOfKind}
use Rattle.resume_numbering.specs.Boxes.{kind_among, kind_or_integer, kinds_of, BoxesTellKinds, ReadsOneOfBoxes}
use Rattle.resume_numbering.proofs.ValueBoxes.{snapshot_from}
use Rattle.resume_numbering.proofs.UniqueLemmas.{reads_one}

further : {X : Type 0} (x : X) (xs : List X) (y : X) → Contains xs y → Contains (x ∷ xs) y
further x xs y c = (suc c.0, omega (arith, c.1), c.2)

mapped : (bs : List BoxId) (b : BoxId) → Contains bs b → Contains (map (λ (x : BoxId). x.number) bs) b.number
mapped [] b c = absurd (omega (arith, c.1))
mapped (x ∷ xs) b (zero, lt, e) = (0, omega arith, ap (λ (y : BoxId). y.number) e)
mapped (x ∷ xs) b (suc k, lt, e) = further x.number (map (λ (y : BoxId). y.number) xs) b.number (mapped xs b (k, omega (arith, lt), e))

-- the number of a box tells its kind
pub kind_told : (bs : List BoxId) (b : BoxId) → AreApart (map (λ (x : BoxId). x.number) bs) → Contains bs b → kind_among bs b.number ≡ Some b.kind
kind_told [] b apart c = absurd (omega (arith, c.1))
kind_told (x ∷ xs) b apart (zero, lt, e) = elim (eqb_tells x.number b.number) [
  | inl t ↦ ap (λ (q : Bool). if q then Some x.kind else kind_among xs b.number) t.0 ∙ ap (λ (y : BoxId). Some y.kind) e
  | inr f ↦ absurd (f.1 (ap (λ (y : BoxId). y.number) e))
]
kind_told (x ∷ xs) b apart (suc k, lt, e) =
    let rest : Contains xs b = (k, omega (arith, lt), e) in
    elim (eqb_tells x.number b.number) [
      | inl t ↦ absurd (apart.0 (subst (Contains (map (λ (y : BoxId). y.number) xs)) (sym t.1) (mapped xs b rest)))
      | inr f ↦ ap (λ (q : Bool). if q then Some x.kind else kind_among xs b.number) f.0 ∙ kind_told xs b apart.1 rest
    ]

in_range : {X : Type 0} (f : ℕ → X) (s n k : ℕ) → k < n → slice_get (map f (range_with_len s n)) k ≡ Some (f (s + k))
in_range f s zero k lt = absurd (omega (arith, lt))
in_range f s (suc n) zero lt = let same : s ≡ s + 0 = omega arith in ap (λ m. Some (f m)) same
in_range f s (suc n) (suc k) lt =
    let same : s + 1 + k ≡ s + suc k = omega arith in
    in_range f (s + 1) n k (omega (arith, lt)) ∙ ap (λ m. Some (f m)) same

kind_at : (bs : List BoxId) (n : ℕ) (b : BoxId) → AreApart (map (λ (x : BoxId). x.number) bs) → Contains bs b → b.number < n → slice_get (kinds_of bs n) b.number ≡ Some b.kind
kind_at bs n b apart c lt =
    in_range (λ k. kind_or_integer (kind_among bs k)) 0 n b.number lt
    ∙ ap (λ k. Some (kind_or_integer (kind_among bs k))) (zero-add b.number)
    ∙ ap (λ (o : Option Kind). Some (kind_or_integer o)) (kind_told bs b apart c)

is_of_kind : (kinds : List Kind) (v : Val) → All (λ (b : BoxId). slice_get kinds b.number ≡ Some b.kind) (boxes_of_val v) → IsOfKind kinds v
is_of_kind kinds (Known (Of b)) h = All-head (λ (x : BoxId). slice_get kinds x.number ≡ Some x.kind) b [] h
is_of_kind kinds (Known (Const z)) h = tt
is_of_kind kinds (Known Null) h = tt
is_of_kind kinds (Known (Class k)) h = tt
is_of_kind kinds (Known (Func k)) h = tt
is_of_kind kinds (Known (Ptr k)) h = tt
is_of_kind kinds (Virtual k) h = tt

pub boxes_tell_kinds : BoxesTellKinds
boxes_tell_kinds bs n snap are below =
    snapshot_from (λ (b : BoxId). slice_get (kinds_of bs n) b.number ≡ Some b.kind) (IsOfKind (kinds_of bs n)) (is_of_kind (kinds_of bs n)) snap
    (λ k d w. kind_at bs n _ are.numbers_apart (are.each k d w) (below k d w))

-- the sum of all numbers: none is above it
abbrev total : List BoxId → ℕ
total [] = 0
total (x ∷ xs) = x.number + total xs

below_total : (bs : List BoxId) (b : BoxId) → Contains bs b → b.number < suc (total bs)
below_total [] b c = absurd (omega (arith, c.1))
below_total (x ∷ xs) b (zero, lt, e) = let same : x.number ≡ b.number = ap (λ (y : BoxId). y.number) e in omega (arith, same)
below_total (x ∷ xs) b (suc k, lt, e) = let rest = below_total xs b (k, omega (arith, lt), e) in omega (arith, rest)

pub reads_one_of_boxes : ReadsOneOfBoxes
reads_one_of_boxes table guard bs a b lawful h are k others =
    let n = suc (total bs) in
    reads_one table guard (kinds_of bs n) a b lawful h (boxes_tell_kinds bs n a are (λ i d w. below_total bs _ (are.each i d w))) k (boxes_tell_kinds bs n b others (λ i d w. below_total bs _ (others.each i d w)))
