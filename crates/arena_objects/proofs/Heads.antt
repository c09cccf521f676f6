-- Header numbers are set from the last shape to the first.
use Rattle.std.proofs.Common.{◌≡◌, ℕ, zero, suc, ◌+◌, ◌-◌, ◌<◌, ◌≤◌, Bool, true, false, cond, Some, List, [], ◌∷◌, length, drop, replicate, set, slice_get, get_or, refl, ap, sym, ◌∙◌, subst, arith}
use Rattle.std.specs.Prelude.{nat_eq}
use Rattle.std.proofs.Math.ListN.{length-set}
use Rattle.std.proofs.Math.Seq.{drop-cons, drop-length}
use Rattle.std.proofs.lemmas.List.{get_or-set_same, get_or-set_other, length-replicate}
use Rattle.std.proofs.lemmas.Bool.{eqb-true, eqb-false, eq-eqb}
use Rattle.std.proofs.lemmas.Option.{same_Some, slice_get_within, slice_get-get_or, get_or_from_slice_get}
use Rattle.trace_ops.specs.declared.table.Table.{Table}
use Rattle.trace_ops.specs.declared.table.ShapeOf.{ShapeOf}
use Rattle.trace_ops.specs.declared.table.ShapeOf.TheVariants.{Size, Array}
use Rattle.trace_ops.specs.Kinds.{NamesShape}
use Rattle.arena_objects.specs.Layout.{same_shape, place_among}
use Rattle.arena_objects.specs.Headers.{HeaderNumbers, HaveHeaders, header_in, with_header}

-- the number of the first shape of a list that is this one, where the list's first has number k; 0 where none is
abbrev pub first_from : ℕ → List ShapeOf → ShapeOf → ℕ
first_from k [] s = 0
first_from k (x ∷ xs) s = cond (same_shape x s) k (first_from (k + 1) xs s)

same_self : (s : ShapeOf) → same_shape s s ≡ true
same_self (Size a) = eq-eqb a a refl
same_self (Array a) = eq-eqb a a refl

first_at : (x s : ShapeOf) (xs : List ShapeOf) (k i : ℕ) (b : Bool) → same_shape x s ≡ b → slice_get xs i ≡ Some s → ((n : ℕ) → first_from n xs s ≡ n + place_among s xs) → cond b k (first_from (k + 1) xs s) ≡ k + cond b 0 (1 + place_among s xs)
first_at x s xs k i true q e on = omega arith
first_at x s xs k i false q e on =
    let rest : first_from (k + 1) xs s ≡ k + 1 + place_among s xs = on (k + 1) in
    omega arith

first_is : (xs : List ShapeOf) (k i : ℕ) (s : ShapeOf) → slice_get xs i ≡ Some s → first_from k xs s ≡ k + place_among s xs
first_is [] k i s e = absurd (cc)
first_is (x ∷ xs) k zero s e =
    let same : x ≡ s = same_Some x s e in
    let yes : same_shape x s ≡ true = ap (same_shape x) (sym same) ∙ same_self x in
    ap (λ (b : Bool). cond b k (first_from (k + 1) xs s)) yes ∙ none k ∙ ap (λ (b : Bool). k + cond b 0 (1 + place_among s xs)) (sym yes)
  where
    none : (n : ℕ) → n ≡ n + 0
    none n = omega arith
first_is (x ∷ xs) k (suc i) s e = first_at x s xs k i (same_shape x s) refl e (λ n. first_is xs n i s e)

-- the shapes from place k on have their numbers
pub record AreSet (t : Table) (k : ℕ) (h : HeaderNumbers) : Type 0 where
  pub within : k ≤ length t.shapes
  pub sizes : length h.sizes ≡ length t.sizes
  pub arrays : length h.arrays ≡ length t.arrays
  pub each : (s : ShapeOf) → NamesShape t s → header_in h s ≡ first_from (k + 1) (drop k t.shapes) s

put_number : (xs : List ℕ) (a b n : ℕ) (q : Bool) → nat_eq a b ≡ q → b < length xs → get_or (set xs a n) b 0 ≡ cond q n (get_or xs b 0)
put_number xs a b n true e lt =
    let same : a ≡ b = eqb-true a b e in
    subst (λ k. get_or (set xs k n) b 0 ≡ n) (sym same) (get_or-set_same xs b n 0 lt)
put_number xs a b n false e lt = get_or-set_other xs a b n 0 (λ q. eqb-false a b e (sym q))

put_in : (t : Table) (x s : ShapeOf) (n : ℕ) (h : HeaderNumbers) → length h.sizes ≡ length t.sizes → length h.arrays ≡ length t.arrays → NamesShape t s → header_in (with_header x n h) s ≡ cond (same_shape x s) n (header_in h s)
put_in t (Size a) (Size b) n h ls la named = put_number h.sizes a b n (nat_eq a b) refl (omega (arith, named))
put_in t (Size a) (Array b) n h ls la named = refl
put_in t (Array a) (Size b) n h ls la named = refl
put_in t (Array a) (Array b) n h ls la named = put_number h.arrays a b n (nat_eq a b) refl (omega (arith, named))

sizes_stay : (x : ShapeOf) (n : ℕ) (h : HeaderNumbers) → length (with_header x n h).sizes ≡ length h.sizes
sizes_stay (Size a) n h = length-set h.sizes a n
sizes_stay (Array a) n h = refl

arrays_stay : (x : ShapeOf) (n : ℕ) (h : HeaderNumbers) → length (with_header x n h).arrays ≡ length h.arrays
arrays_stay (Size a) n h = refl
arrays_stay (Array a) n h = length-set h.arrays a n

sets_more : (t : Table) (j : ℕ) (x : ShapeOf) (h : HeaderNumbers) → AreSet t (j + 1) h → slice_get t.shapes j ≡ Some x → AreSet t j (with_header x (j + 1) h)
sets_more t j x h set at =
    let lt : j < length t.shapes = slice_get_within t.shapes j x at in
    let one : j + 1 ≡ suc j = omega arith in
    let front : drop j t.shapes ≡ x ∷ drop (j + 1) t.shapes =
    drop-cons t.shapes j x lt ∙ ap (λ y. y ∷ drop (suc j) t.shapes) (get_or_from_slice_get t.shapes j x x at) ∙ ap (λ k. x ∷ drop k t.shapes) (sym one) in
    record {
      within = omega (arith, lt);
      sizes = sizes_stay x (j + 1) h ∙ set.sizes;
      arrays = arrays_stay x (j + 1) h ∙ set.arrays;
      each = λ s named.
          put_in t x s (j + 1) h set.sizes set.arrays named
          ∙ ap (λ n. cond (same_shape x s) (j + 1) n) (set.each s named)
          ∙ ap (λ (xs : List ShapeOf). first_from (j + 1) xs s) (sym front);
    }

-- the loop's step, with the number k for the shape at place k - 1
pub sets_back : (t : Table) (xs : List ShapeOf) (k : ℕ) (d : ShapeOf) (h g : HeaderNumbers) → xs ≡ t.shapes → 0 < k → AreSet t k h → g ≡ with_header (get_or xs (k - 1) d) k h → AreSet t (k - 1) g
sets_back t xs k d h g same some set e =
    let one : k ≡ k - 1 + 1 = omega arith in
    let lt : k - 1 < length t.shapes = (let le : k ≤ length t.shapes = set.within in omega arith) in
    let at : slice_get t.shapes (k - 1) ≡ Some (get_or xs (k - 1) d) = slice_get-get_or t.shapes (k - 1) d lt ∙ ap (λ (ys : List ShapeOf). Some (get_or ys (k - 1) d)) (sym same) in
    let more : AreSet t (k - 1) (with_header (get_or xs (k - 1) d) (k - 1 + 1) h) = sets_more t (k - 1) (get_or xs (k - 1) d) h (subst (λ n. AreSet t n h) one set) at in
    subst (AreSet t (k - 1)) (sym (e ∙ ap (λ n. with_header (get_or xs (k - 1) d) n h) one)) more

abbrev no_number : ℕ
no_number = 0

none_set : (n i : ℕ) → get_or (replicate n no_number) i no_number ≡ no_number
none_set zero i = refl
none_set (suc n) zero = refl
none_set (suc n) (suc i) = none_set n i

pub sets_none : (t : Table) (h : HeaderNumbers) → h.sizes ≡ replicate (length t.sizes) 0 → h.arrays ≡ replicate (length t.arrays) 0 → AreSet t (length t.shapes) h
sets_none t h es ea = record {
  within = omega arith;
  sizes = ap length es ∙ length-replicate (length t.sizes) 0;
  arrays = ap length ea ∙ length-replicate (length t.arrays) 0;
  each = λ s named. none_in s ∙ sym (ap (λ (xs : List ShapeOf). first_from (length t.shapes + 1) xs s) (drop-length t.shapes));
}
  where
    none_in : (s : ShapeOf) → header_in h s ≡ 0
    none_in (Size a) = ap (λ xs. get_or xs a 0) es ∙ none_set (length t.sizes) a
    none_in (Array a) = ap (λ xs. get_or xs a 0) ea ∙ none_set (length t.arrays) a

pub all_set : (t : Table) (h : HeaderNumbers) → AreSet t 0 h → HaveHeaders t h
all_set t h set s c named =
    set.each s named
    ∙ first_is t.shapes 1 c.0 s (slice_get-get_or t.shapes c.0 s c.1 ∙ ap Some c.2)
