-- Header numbers lead back to their shapes.
use Rattle.std.proofs.Common.{◌≡◌, ℕ, zero, suc, ◌+◌, ◌<◌, Bool, true, false, cond, List, [], ◌∷◌, length, Some, refl, sym, ap, ◌∙◌, subst, arith, pos}
use Rattle.std.specs.Prelude.{slice_get, slice_index_or}
use Rattle.std.specs.List.{Contains}
use Rattle.std.proofs.lemmas.Bool.{eqb-true, eq-eqb}
use Rattle.trace_ops.specs.declared.table.Table.{Table}
use Rattle.trace_ops.specs.declared.table.ShapeOf.{ShapeOf}
use Rattle.trace_ops.specs.declared.table.ShapeOf.TheVariants.{Size, Array}
use Rattle.arena_objects.specs.Layout.{same_shape, place_among, header_of}
use Rattle.arena_objects.specs.Walk.{shape_of}

shape_is : (a b : ShapeOf) → same_shape a b ≡ true → a ≡ b
shape_is (Size a) (Size b) h = ap Size (eqb-true a b h)
shape_is (Size a) (Array b) h = cc
shape_is (Array a) (Size b) h = cc
shape_is (Array a) (Array b) h = ap Array (eqb-true a b h)

is_itself : (a : ShapeOf) → same_shape a a ≡ true
is_itself (Size a) = eq-eqb a a refl
is_itself (Array a) = eq-eqb a a refl

one_more : (k : ℕ) → 1 + k ≡ suc k
one_more k = omega arith

-- behind another shape, or in its place
among_more : (s x : ShapeOf) (xs : List ShapeOf) (b : Bool) → same_shape x s ≡ b → slice_get xs (place_among s xs) ≡ Some s → slice_get (x ∷ xs) (cond b 0 (1 + place_among s xs)) ≡ Some s
among_more s x xs true h rest = ap Some (shape_is x s h)
among_more s x xs false h rest = ap (slice_get (x ∷ xs)) (one_more (place_among s xs)) ∙ rest

found_among : (s : ShapeOf) (xs : List ShapeOf) (k : ℕ) → k < length xs → slice_index_or xs k s ≡ s → slice_get xs (place_among s xs) ≡ Some s
found_among s [] k lt e = absurd (omega (arith, lt))
found_among s (x ∷ xs) zero lt e =
    let same : same_shape x s ≡ true = subst (λ (y : ShapeOf). same_shape y s ≡ true) (sym e) (is_itself s) in
    ap (λ (b : Bool). slice_get (x ∷ xs) (cond b 0 (1 + place_among s xs))) same ∙ ap Some e
found_among s (x ∷ xs) (suc j) lt e = among_more s x xs (same_shape x s) refl (found_among s xs j (omega (arith, lt)) e)

pub header_leads : (t : Table) (s : ShapeOf) → Contains t.shapes s → shape_of t (Some (pos (header_of t s))) ≡ Some s
header_leads t s (k, lt, e) = ap (λ (n : ℕ). shape_of t (Some (pos n))) (one_more (place_among s t.shapes)) ∙ found_among s t.shapes k lt e
