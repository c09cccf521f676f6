-- The lines of sizes, arrays and fields that write a table are read back.
use Rattle.std.proofs.Common.{◌≡◌, ℕ, suc, ◌+◌, ◌<◌, ◌≤◌, false, List, [], ◌∷◌, ◌++◌, length, map, Option, Some, None, refl, sym, ap, subst, ◌∙◌, arith, append_assoc, length-append}
use Rattle.std.specs.Prelude.{slice_get, option_to_list}
use Rattle.std.specs.Str.{bytes_eq}
use Rattle.std.specs.List.{flat_map}
use Rattle.std.proofs.lemmas.List.{map-append, append-nil, nil_from_length}
use Rattle.std.proofs.lemmas.List.Concat.{flat_map-append}
use Rattle.lists.proofs.Bools.{or_false, bytes_itself}
use Rattle.lists.proofs.Appends.{get_middle, length_push}
use Rattle.text_lines.specs.Names.{has_name}
use Rattle.trace_ops.specs.declared.table.ShapeOf.{ShapeOf}
use Rattle.trace_ops.specs.declared.table.ShapeOf.TheVariants as shape
use Rattle.trace_ops.specs.declared.table.SizeRow.{SizeRow}
use Rattle.trace_ops.specs.declared.table.ArrayRow.{ArrayRow}
use Rattle.trace_ops.specs.declared.table.Table.{Table}
use Rattle.trace_ops.specs.declared.table.What.TheVariants as what
use Rattle.descr_table.specs.Known.{names_of, is_named, is_class_if}
use Rattle.descr_table.specs.Meaning.{nothing, is_misplaced, is_twice, is_unknown, is_bad_initial, limit_at, put_at, put}
use Rattle.descr_table.proofs.Counts.{count, one_if, count-append, free_count}
use Rattle.descr_table.proofs.Clear.{IsClear, not_refused, none_full}
use Rattle.descr_table.proofs.Readable.{InOrder, IsReadable}
use Rattle.descr_table.proofs.Ranges.{order_le}
use Rattle.descr_table.proofs.RowForms.{shape_forms, size_forms, size_form, array_forms, array_form, Goes}

abbrev Names : Type 0
Names = List (List ℕ)

abbrev vtable_of : SizeRow → Names
vtable_of r = option_to_list r.vtable

-- ---- a name that stands in the middle

pub record StandsIn {X : Type 0} (g : X → List ℕ) (all done : List X) (r : X) : Type 0 where
  pub parts : count (g r) (map g done) + 1 ≤ count (g r) (map g all)

count_in : {X : Type 0} (g : X → List ℕ) (n : List ℕ) (xs ys : List X) → count n (map g (xs ++ ys)) ≡ count n (map g xs) + count n (map g ys)
count_in g n xs ys = ap (count n) (map-append g xs ys) ∙ count-append n (map g xs) (map g ys)

pub stands_in : {X : Type 0} (g : X → List ℕ) (all done : List X) (r : X) (rest : List X) → all ≡ done ++ r ∷ rest → StandsIn g all done r
stands_in g all done r rest e =
    let is : one_if (bytes_eq (g r) (g r)) ≡ 1 = rw (bytes_itself (g r)) refl in
    let total : count (g r) (map g all) ≡ count (g r) (map g done) + count (g r) (map g (r ∷ rest)) = ap (λ xs. count (g r) (map g xs)) e ∙ count_in g (g r) done (r ∷ rest) in
    record { parts = omega (arith, total, is) }

pub count_front : {X : Type 0} (g : X → List ℕ) (n : List ℕ) (all done rest : List X) → all ≡ done ++ rest → count n (map g done) ≤ count n (map g all)
count_front g n all done rest e = omega (arith, ap (λ xs. count n (map g xs)) e, count_in g n done rest)

-- ---- sizes and arrays

abbrev bare : SizeRow → SizeRow
bare r = record { name = r.name; vtable = r.vtable; fields = [] }

abbrev pub shapes_so_far : List ShapeOf → List SizeRow → List ArrayRow → Table
shapes_so_far ss sizes arrays = record { shapes = ss; sizes = map bare sizes; fields = []; arrays = arrays; calls = []; functions = []; prebuilts = [] }

bare_names : (rows : List SizeRow) → map (λ (r : SizeRow). r.name) (map bare rows) ≡ map (λ (r : SizeRow). r.name) rows
bare_names [] = refl
bare_names (r ∷ rs) = ap (λ (x : Names). r.name ∷ x) (bare_names rs)

bare_vtables : (rows : List SizeRow) → flat_map vtable_of (map bare rows) ≡ flat_map vtable_of rows
bare_vtables [] = refl
bare_vtables (r ∷ rs) = ap (λ (x : Names). vtable_of r ++ x) (bare_vtables rs)

length-bare : (rows : List SizeRow) → length (map bare rows) ≡ length rows
length-bare [] = refl
length-bare (r ∷ rs) = ap suc (length-bare rs)

class_free : (v : Option (List ℕ)) (d : Names) (t : Table) (ss : List ShapeOf) (done rest : List SizeRow) (arrays : List ArrayRow) (r : SizeRow) → r.vtable ≡ v → t.sizes ≡ done ++ r ∷ rest → IsReadable d t
    → is_class_if v (names_of (shapes_so_far ss done arrays)) ≡ false
class_free None d t ss done rest arrays r is e h = refl
class_free (Some v) d t ss done rest arrays r is e h =
    let own : one_if (bytes_eq v v) ≡ 1 = rw (bytes_itself v) refl in
    let all : flat_map vtable_of t.sizes ≡ flat_map vtable_of done ++ (v ∷ [] ++ flat_map vtable_of rest) = ap (flat_map vtable_of) e ∙ flat_map-append vtable_of done (r ∷ rest) ∙ ap (λ o. flat_map vtable_of done ++ (option_to_list o ++ flat_map vtable_of rest)) is in
    let none : count v (flat_map vtable_of done) ≡ 0 = omega (arith, h.classes v, ap (count v) all, count-append v (flat_map vtable_of done) (v ∷ [] ++ flat_map vtable_of rest), own) in
    let here : count v (flat_map vtable_of (map bare done)) ≡ 0 = ap (count v) (bare_vtables done) ∙ none in
    or_false (has_name v (flat_map vtable_of (map bare done))) false (free_count v (flat_map vtable_of (map bare done)) here) refl

name_free : (n : List ℕ) (ss : List ShapeOf) (done : List SizeRow) (arrays : List ArrayRow) → count n (map (λ (r : SizeRow). r.name) done) ≡ 0 → count n (map (λ (r : ArrayRow). r.name) arrays) ≡ 0 → is_named n (names_of (shapes_so_far ss done arrays)) ≡ false
name_free n ss done arrays e f =
    let a : has_name n (map (λ (r : SizeRow). r.name) (map bare done)) ≡ false = free_count n (map (λ (r : SizeRow). r.name) (map bare done)) (ap (count n) (bare_names done) ∙ e) in
    let b : has_name n (map (λ (r : ArrayRow). r.name) arrays) ≡ false = free_count n (map (λ (r : ArrayRow). r.name) arrays) f in
    rw (a, b) refl

size_clear : (d : Names) (t : Table) (ss : List ShapeOf) (done rest : List SizeRow) (arrays more : List ArrayRow) (r : SizeRow) → t.sizes ≡ done ++ r ∷ rest → t.arrays ≡ arrays ++ more → length ss < 1024 → IsReadable d t
    → IsClear (size_form r) d (shapes_so_far ss done arrays)
unfolding is_misplaced is_twice is_unknown is_bad_initial limit_at
size_clear d t ss done rest arrays more r e f lt h =
    let in_sizes = stands_in (λ (x : SizeRow). x.name) t.sizes done r rest e in
    let in_arrays = count_front (λ (x : ArrayRow). x.name) r.name t.arrays arrays more f in
    let a : count r.name (map (λ (x : SizeRow). x.name) done) ≡ 0 = omega (arith, in_sizes.parts, h.named r.name) in
    let b : count r.name (map (λ (x : ArrayRow). x.name) arrays) ≡ 0 = omega (arith, in_sizes.parts, in_arrays, h.named r.name) in
    record {
      placed = refl;
      new = or_false (is_named r.name (names_of (shapes_so_far ss done arrays))) (is_class_if r.vtable (names_of (shapes_so_far ss done arrays))) (name_free r.name ss done arrays a b) (class_free r.vtable d t ss done rest arrays r refl e h);
      known = refl;
      fits = refl;
      few = none_full what.Shapes 1024 (length ss) lt;
    }

array_clear : (d : Names) (t : Table) (ss : List ShapeOf) (done rest : List SizeRow) (arrays more : List ArrayRow) (r : ArrayRow) → t.sizes ≡ done ++ rest → t.arrays ≡ arrays ++ r ∷ more → length ss < 1024 → IsReadable d t
    → IsClear (array_form r) d (shapes_so_far ss done arrays)
unfolding is_misplaced is_twice is_unknown is_bad_initial limit_at
array_clear d t ss done rest arrays more r e f lt h =
    let in_arrays = stands_in (λ (x : ArrayRow). x.name) t.arrays arrays r more f in
    let in_sizes = count_front (λ (x : SizeRow). x.name) r.name t.sizes done rest e in
    let a : count r.name (map (λ (x : SizeRow). x.name) done) ≡ 0 = omega (arith, in_arrays.parts, in_sizes, h.named r.name) in
    let b : count r.name (map (λ (x : ArrayRow). x.name) arrays) ≡ 0 = omega (arith, in_arrays.parts, h.named r.name) in
    record { placed = refl; new = name_free r.name ss done arrays a b; known = refl; fits = refl; few = none_full what.Shapes 1024 (length ss) lt }

size_put : (d : Names) (ss : List ShapeOf) (done : List SizeRow) (arrays : List ArrayRow) (r : SizeRow) (k : ℕ) → k ≡ length done → put (size_form r) d (shapes_so_far ss done arrays) ≡ shapes_so_far (ss ++ shape.Size k ∷ []) (done ++ r ∷ []) arrays
unfolding put_at
size_put d ss done arrays r k e =
    let at : length (map bare done) ≡ k = length-bare done ∙ sym e in
    let rows : map bare done ++ bare r ∷ [] ≡ map bare (done ++ r ∷ []) = sym (map-append bare done (r ∷ [])) in
    λ i. record { shapes = ss ++ shape.Size (at i) ∷ []; sizes = rows i; fields = []; arrays = arrays; calls = []; functions = []; prebuilts = [] }

array_put : (d : Names) (ss : List ShapeOf) (done : List SizeRow) (arrays : List ArrayRow) (r : ArrayRow) (k : ℕ) → k ≡ length arrays → put (array_form r) d (shapes_so_far ss done arrays) ≡ shapes_so_far (ss ++ shape.Array k ∷ []) done (arrays ++ r ∷ [])
unfolding put_at
array_put d ss done arrays r k e =
    let at : length arrays ≡ k = sym e in
    λ i. record { shapes = ss ++ shape.Array (at i) ∷ []; sizes = map bare done; fields = []; arrays = arrays ++ r ∷ []; calls = []; functions = []; prebuilts = [] }

all_done : {X : Type 0} (all done rest : List X) → all ≡ done ++ rest → length done ≡ length all → done ≡ all
all_done all done rest e l =
    let none : rest ≡ [] = nil_from_length rest (omega (arith, ap length e, length-append done rest)) in
    sym (e ∙ ap (λ xs. done ++ xs) none ∙ append-nil done)

middle_at : {X : Type 0} (all done : List X) (r : X) (rest : List X) (k : ℕ) → all ≡ done ++ r ∷ rest → k ≡ length done → slice_get all k ≡ Some r
middle_at all done r rest k e i = ap (slice_get all) i ∙ ap (λ xs. slice_get xs (length done)) e ∙ get_middle done r rest

-- where the reading of sizes and arrays stands
pub record At (d : Names) (t : Table) (ss1 ss : List ShapeOf) (s1 s2 : List SizeRow) (a1 a2 : List ArrayRow) : Type 0 where
  pub shapes : t.shapes ≡ ss1 ++ ss
  pub sizes : t.sizes ≡ s1 ++ s2
  pub arrays : t.arrays ≡ a1 ++ a2
  pub order : InOrder (length s1) (length a1) ss (length t.sizes) (length t.arrays)

shorter : (all done : List ShapeOf) (x : ShapeOf) (rest : List ShapeOf) → all ≡ done ++ x ∷ rest → length all ≤ 1024 → length done < 1024
shorter all done x rest e le = omega (arith, ap length e, length-append done (x ∷ rest))

pub shapes_go : (d : Names) (t : Table) (ss1 ss : List ShapeOf) (s1 s2 : List SizeRow) (a1 a2 : List ArrayRow) → At d t ss1 ss s1 s2 a1 a2 → IsReadable d t → Goes d (shapes_so_far ss1 s1 a1) (flat_map (λ s. shape_forms t s) ss) (shapes_so_far t.shapes t.sizes t.arrays)
shapes_go d t ss1 [] s1 s2 a1 a2 at h =
    let a : ss1 ≡ t.shapes = sym (at.shapes ∙ append-nil ss1) in
    let b : s1 ≡ t.sizes = all_done t.sizes s1 s2 at.sizes at.order.0 in
    let c : a1 ≡ t.arrays = all_done t.arrays a1 a2 at.arrays at.order.1 in
    λ i. shapes_so_far (a i) (b i) (c i)
shapes_go d t ss1 (shape.Size k ∷ ss) s1 [] a1 a2 at h =
    absurd (omega (arith, ap length at.sizes, ap length (append-nil s1), (order_le (suc (length s1)) (length a1) ss (length t.sizes) (length t.arrays) at.order.1).0))
shapes_go d t ss1 (shape.Size k ∷ ss) s1 (r ∷ s2) a1 a2 at h =
    let here : slice_get t.sizes k ≡ Some r = middle_at t.sizes s1 r s2 k at.sizes at.order.0 in
    let lt : length ss1 < 1024 = shorter t.shapes ss1 (shape.Size k) ss at.shapes h.few_shapes in
    let next : At d t (ss1 ++ shape.Size k ∷ []) ss (s1 ++ r ∷ []) s2 a1 a2 = record {
      shapes = at.shapes ∙ sym (append_assoc ss1 (shape.Size k ∷ []) ss);
      sizes = at.sizes ∙ sym (append_assoc s1 (r ∷ []) s2);
      arrays = at.arrays;
      order = subst (λ (n : ℕ). InOrder n (length a1) ss (length t.sizes) (length t.arrays)) (sym (length_push s1 r)) at.order.1;
    } in
    let more : Goes d (shapes_so_far (ss1 ++ shape.Size k ∷ []) (s1 ++ r ∷ []) a1) (flat_map (λ s. shape_forms t s) ss) (shapes_so_far t.shapes t.sizes t.arrays) = shapes_go d t (ss1 ++ shape.Size k ∷ []) ss (s1 ++ r ∷ []) s2 a1 a2 next h in
    let goes : Goes d (shapes_so_far ss1 s1 a1) (size_form r ∷ flat_map (λ s. shape_forms t s) ss) (shapes_so_far t.shapes t.sizes t.arrays) = (
      not_refused (size_form r) d (shapes_so_far ss1 s1 a1) (size_clear d t ss1 s1 s2 a1 a2 r at.sizes at.arrays lt h),
      subst (λ (x : Table). Goes d x (flat_map (λ s. shape_forms t s) ss) (shapes_so_far t.shapes t.sizes t.arrays)) (sym (size_put d ss1 s1 a1 r k at.order.0)) more,
    ) in
    subst (λ (o : Option SizeRow). Goes d (shapes_so_far ss1 s1 a1) (size_forms o ++ flat_map (λ s. shape_forms t s) ss) (shapes_so_far t.shapes t.sizes t.arrays)) (sym here) goes
shapes_go d t ss1 (shape.Array k ∷ ss) s1 s2 a1 [] at h =
    absurd (omega (arith, ap length at.arrays, ap length (append-nil a1), (order_le (length s1) (suc (length a1)) ss (length t.sizes) (length t.arrays) at.order.1).1))
shapes_go d t ss1 (shape.Array k ∷ ss) s1 s2 a1 (r ∷ a2) at h =
    let here : slice_get t.arrays k ≡ Some r = middle_at t.arrays a1 r a2 k at.arrays at.order.0 in
    let lt : length ss1 < 1024 = shorter t.shapes ss1 (shape.Array k) ss at.shapes h.few_shapes in
    let next : At d t (ss1 ++ shape.Array k ∷ []) ss s1 s2 (a1 ++ r ∷ []) a2 = record {
      shapes = at.shapes ∙ sym (append_assoc ss1 (shape.Array k ∷ []) ss);
      sizes = at.sizes;
      arrays = at.arrays ∙ sym (append_assoc a1 (r ∷ []) a2);
      order = subst (λ (n : ℕ). InOrder (length s1) n ss (length t.sizes) (length t.arrays)) (sym (length_push a1 r)) at.order.1;
    } in
    let more : Goes d (shapes_so_far (ss1 ++ shape.Array k ∷ []) s1 (a1 ++ r ∷ [])) (flat_map (λ s. shape_forms t s) ss) (shapes_so_far t.shapes t.sizes t.arrays) = shapes_go d t (ss1 ++ shape.Array k ∷ []) ss s1 s2 (a1 ++ r ∷ []) a2 next h in
    let goes : Goes d (shapes_so_far ss1 s1 a1) (array_form r ∷ flat_map (λ s. shape_forms t s) ss) (shapes_so_far t.shapes t.sizes t.arrays) = (
      not_refused (array_form r) d (shapes_so_far ss1 s1 a1) (array_clear d t ss1 s1 s2 a1 a2 r at.sizes at.arrays lt h),
      subst (λ (x : Table). Goes d x (flat_map (λ s. shape_forms t s) ss) (shapes_so_far t.shapes t.sizes t.arrays)) (sym (array_put d ss1 s1 a1 r k at.order.0)) more,
    ) in
    subst (λ (o : Option ArrayRow). Goes d (shapes_so_far ss1 s1 a1) (array_forms o ++ flat_map (λ s. shape_forms t s) ss) (shapes_so_far t.shapes t.sizes t.arrays)) (sym here) goes

pub all_shapes_go : (d : Names) (t : Table) → IsReadable d t → Goes d nothing (flat_map (λ s. shape_forms t s) t.shapes) (shapes_so_far t.shapes t.sizes t.arrays)
all_shapes_go d t h = shapes_go d t [] t.shapes [] t.sizes [] t.arrays (record { shapes = refl; sizes = refl; arrays = refl; order = h.shapes }) h
