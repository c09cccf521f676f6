-- Two heaps that agree along an injective map have one listing.
use Rattle.std.proofs.Common.{◌≡◌, ℕ, zero, suc, ◌+◌, ◌<◌, ◌≤◌, cond, List, [], ◌∷◌, ◌++◌, Option, None, Some, map, length, slice_get, refl, ap, sym, subst, ◌∙◌, inl, inr, arith}
use Rattle.std.specs.Option.{option_map, is_some, unwrap_or}
use Rattle.std.specs.List.{AllZip}
use Rattle.std.proofs.lemmas.Bool.{ne_eqb, eq-eqb}
use Rattle.std.proofs.lemmas.Bool.Decides.{eqb_tells}
use Rattle.std.proofs.lemmas.List.Elements.{AllZip-push}
use Rattle.std.proofs.lemmas.Option.{slice_get_within}
use Rattle.trace_ops.specs.declared.table.ShapeOf.{ShapeOf}
use Rattle.trace_meaning.specs.declared.value.Value.{Value}
use Rattle.trace_meaning.specs.declared.value.Value.TheVariants as v
use Rattle.trace_meaning.specs.declared.value.Object.{Object}
use Rattle.heap_shape.specs.declared.cell.Ref.{Ref}
use Rattle.heap_shape.specs.declared.cell.Ref.TheVariants as r
use Rattle.heap_shape.specs.declared.cell.Cell.{Cell}
use Rattle.heap_shape.specs.Visiting.{number_of, note, visit, parts_at, parts_in, walk_on, walk, visited, Has}
use Rattle.heap_shape.specs.Listing.{ref_of, cell_of, cell_before, cells}
use Rattle.heap_shape.specs.Sameness.{Maps, Alongside, SameListing}
use Rattle.heap_shape.proofs.Lists.{few_once, some_same}
use Rattle.heap_shape.proofs.Numbers.{number_same, number_other}
use Rattle.heap_shape.proofs.Walks.{walk_once, visit_once, walk_enough}

-- the objects of the second list are those of the first
abbrev Mapped : (ℕ → Option ℕ) → List ℕ → List ℕ → Type 0
Mapped m xs js = AllZip (λ (x j : ℕ). m x ≡ Some j) xs js

abbrev OneToOne : (ℕ → Option ℕ) → Type 0
OneToOne m = (x y j : ℕ) → m x ≡ Some j → m y ≡ Some j → x ≡ y

-- one number on both sides
number_along : (m : ℕ → Option ℕ) → OneToOne m → (xs js : List ℕ) → Mapped m xs js → (n k : ℕ) → m n ≡ Some k → number_of xs n ≡ number_of js k
number_along m one [] [] h n k at = refl
number_along m one [] (j ∷ js) h n k at = absurd h
number_along m one (x ∷ xs) [] h n k at = absurd h
number_along m one (x ∷ xs) (j ∷ js) h n k at = elim (eqb_tells x n) [
  | inl t ↦
      let same : j ≡ k = some_same (sym h.0 ∙ ap m t.1 ∙ at) in
      number_same x xs n t.0 ∙ sym (number_same j js k (eq-eqb j k same))
  | inr t ↦
      number_other x xs n t.0
      ∙ ap (option_map suc) (number_along m one xs js h.1 n k at)
      ∙ sym (number_other j js k (ne_eqb j k (λ e. t.1 (one x n k (h.0 ∙ ap Some e) at))))
]

-- visits commute with the map
note_along : (m : ℕ → Option ℕ) → OneToOne m → (seen other : List ℕ) → Mapped m seen other → (n k : ℕ) → m n ≡ Some k → Mapped m (note seen n) (note other k)
note_along m one seen other h n k at =
    subst (λ (o : Option ℕ). Mapped m (note seen n) (cond (is_some o) other (other ++ k ∷ []))) (number_along m one seen other h n k at) (by (number_of seen n))
  where
    by : (o : Option ℕ) → Mapped m (cond (is_some o) seen (seen ++ n ∷ [])) (cond (is_some o) other (other ++ k ∷ []))
    by (Some i) = h
    by None = AllZip-push (λ (x j : ℕ). m x ≡ Some j) seen other n k h at

visit_along : (m : ℕ → Option ℕ) → OneToOne m → (us vs : List Value) → AllZip (Maps m) us vs → (seen other : List ℕ) → Mapped m seen other → Mapped m (visit seen us) (visit other vs)
visit_along m one [] [] h seen other s = s
visit_along m one [] (y ∷ ys) h seen other s = absurd h
visit_along m one (x ∷ xs) [] h seen other s = absurd h
visit_along m one (v.Int x ∷ xs) (v.Int y ∷ ys) h seen other s = visit_along m one xs ys h.1 seen other s
visit_along m one (v.Null ∷ xs) (v.Null ∷ ys) h seen other s = visit_along m one xs ys h.1 seen other s
visit_along m one (v.Obj x ∷ xs) (v.Obj y ∷ ys) h seen other s = visit_along m one xs ys h.1 (note seen x) (note other y) (note_along m one seen other s x y h.0)
visit_along m one (v.Int x ∷ xs) (v.Null ∷ ys) h seen other s = absurd h.0
visit_along m one (v.Int x ∷ xs) (v.Obj y ∷ ys) h seen other s = absurd h.0
visit_along m one (v.Null ∷ xs) (v.Int y ∷ ys) h seen other s = absurd h.0
visit_along m one (v.Null ∷ xs) (v.Obj y ∷ ys) h seen other s = absurd h.0
visit_along m one (v.Obj x ∷ xs) (v.Int y ∷ ys) h seen other s = absurd h.0
visit_along m one (v.Obj x ∷ xs) (v.Null ∷ ys) h seen other s = absurd h.0

-- the same place on both sides
abbrev MappedIf : (ℕ → Option ℕ) → Option ℕ → Option ℕ → Type 0
MappedIf m None None = Unit {0}
MappedIf m (Some x) (Some j) = m x ≡ Some j
MappedIf m None (Some j) = ⊥
MappedIf m (Some x) None = ⊥

get_along : (m : ℕ → Option ℕ) (xs js : List ℕ) → Mapped m xs js → (i : ℕ) → MappedIf m (slice_get xs i) (slice_get js i)
get_along m [] [] h i = tt
get_along m [] (j ∷ js) h i = absurd h
get_along m (x ∷ xs) [] h i = absurd h
get_along m (x ∷ xs) (j ∷ js) h zero = h.0
get_along m (x ∷ xs) (j ∷ js) h (suc i) = get_along m xs js h.1 i

parts_along : (m : ℕ → Option ℕ) (one other : List Object) → Alongside m one other → (x j : ℕ) → m x ≡ Some j → AllZip (Maps m) (parts_at one x) (parts_at other j)
parts_along m one other along x j at =
    let same = along.same x j at in
    subst (λ (o : Option Object). AllZip (Maps m) (parts_in o) (parts_at other j)) (sym same.1)
    (subst (λ (o : Option Object). AllZip (Maps m) same.0.parts (parts_in o)) (sym same.3) same.5)

on_along : (m : ℕ → Option ℕ) (one other : List Object) → Alongside m one other → (go go' : ℕ → List ℕ → List ℕ) (i : ℕ) (seen seen' : List ℕ) → Mapped m seen seen'
    → ((s t : List ℕ) → Mapped m s t → Mapped m (go (i + 1) s) (go' (i + 1) t))
    → (o p : Option ℕ) → MappedIf m o p → Mapped m (walk_on go one i seen o) (walk_on go' other i seen' p)
on_along m one other along go go' i seen seen' s goes None None h = s
on_along m one other along go go' i seen seen' s goes None (Some j) h = absurd h
on_along m one other along go go' i seen seen' s goes (Some x) None h = absurd h
on_along m one other along go go' i seen seen' s goes (Some x) (Some j) h =
    goes (visit seen (parts_at one x)) (visit seen' (parts_at other j)) (visit_along m along.one_to_one (parts_at one x) (parts_at other j) (parts_along m one other along x j h) seen seen' s)

walk_along : (m : ℕ → Option ℕ) (one other : List Object) → Alongside m one other → (most i : ℕ) (seen seen' : List ℕ) → Mapped m seen seen' → Mapped m (walk most one i seen) (walk most other i seen')
walk_along m one other along zero i seen seen' s = s
walk_along m one other along (suc most) i seen seen' s =
    on_along m one other along (walk most one) (walk most other) i seen seen' s (λ a b w. walk_along m one other along most (i + 1) a b w)
    (slice_get seen i) (slice_get seen' i) (get_along m seen seen' s i)

-- what is visited is in range on both sides
first_below : (m : ℕ → Option ℕ) (one other : List Object) → Alongside m one other → (xs js : List ℕ) → Mapped m xs js → (n : ℕ) → Has xs n → n < length one
first_below m one other along [] [] h n w = absurd w
first_below m one other along [] (j ∷ js) h n w = absurd w
first_below m one other along (x ∷ xs) [] h n w = absurd h
first_below m one other along (x ∷ xs) (j ∷ js) h n (inl e) =
    let same = along.same x j h.0 in subst (λ (k : ℕ). k < length one) e (slice_get_within one x same.0 same.1)
first_below m one other along (x ∷ xs) (j ∷ js) h n (inr w) = first_below m one other along xs js h.1 n w

second_below : (m : ℕ → Option ℕ) (one other : List Object) → Alongside m one other → (xs js : List ℕ) → Mapped m xs js → (n : ℕ) → Has js n → n < length other
second_below m one other along [] [] h n w = absurd w
second_below m one other along [] (j ∷ js) h n w = absurd h
second_below m one other along (x ∷ xs) [] h n w = absurd w
second_below m one other along (x ∷ xs) (j ∷ js) h n (inl e) =
    let same = along.same x j h.0 in subst (λ (k : ℕ). k < length other) e (slice_get_within other j same.2 same.3)
second_below m one other along (x ∷ xs) (j ∷ js) h n (inr w) = second_below m one other along xs js h.1 n w

visited_along : (m : ℕ → Option ℕ) (one other : List Object) (us vs : List Value) → Alongside m one other → AllZip (Maps m) us vs → Mapped m (visited one us) (visited other vs)
visited_along m one other us vs along h =
    subst (λ (xs : List ℕ). Mapped m xs (visited other vs)) first
    (subst (λ (js : List ℕ). Mapped m (walk (length one + length other) one 0 (visit [] us)) js) second
    (walk_along m one other along (length one + length other) 0 (visit [] us) (visit [] vs) start))
  where
    start : Mapped m (visit [] us) (visit [] vs)
    start = visit_along m along.one_to_one us vs h [] [] tt

    first : walk (length one + length other) one 0 (visit [] us) ≡ walk (length one) one 0 (visit [] us)
    first =
        let few : length (walk (length one) one 0 (visit [] us)) ≤ length one =
        few_once (walk (length one) one 0 (visit [] us)) (length one) (walk_once (length one) one 0 (visit [] us) (visit_once us [] tt))
        (first_below m one other along (walk (length one) one 0 (visit [] us)) (walk (length one) other 0 (visit [] vs)) (walk_along m one other along (length one) 0 (visit [] us) (visit [] vs) start)) in
        walk_enough (length one) (length one + length other) one 0 (visit [] us) (omega arith) (omega (arith, few))

    second : walk (length one + length other) other 0 (visit [] vs) ≡ walk (length other) other 0 (visit [] vs)
    second =
        let few : length (walk (length other) other 0 (visit [] vs)) ≤ length other =
        few_once (walk (length other) other 0 (visit [] vs)) (length other) (walk_once (length other) other 0 (visit [] vs) (visit_once vs [] tt))
        (second_below m one other along (walk (length other) one 0 (visit [] us)) (walk (length other) other 0 (visit [] vs)) (walk_along m one other along (length other) 0 (visit [] us) (visit [] vs) start)) in
        walk_enough (length other) (length one + length other) other 0 (visit [] vs) (omega arith) (omega (arith, few))

-- cells and roots
refs_along : (m : ℕ → Option ℕ) → OneToOne m → (seen seen' : List ℕ) → Mapped m seen seen' → (us vs : List Value) → AllZip (Maps m) us vs → map (ref_of seen) us ≡ map (ref_of seen') vs
refs_along m one seen seen' s [] [] h = refl
refs_along m one seen seen' s [] (y ∷ ys) h = absurd h
refs_along m one seen seen' s (x ∷ xs) [] h = absurd h
refs_along m one seen seen' s (v.Int x ∷ xs) (v.Int y ∷ ys) h =
    ap (λ w. r.Int w ∷ map (ref_of seen) xs) h.0 ∙ ap (λ (rs : List Ref). r.Int y ∷ rs) (refs_along m one seen seen' s xs ys h.1)
refs_along m one seen seen' s (v.Null ∷ xs) (v.Null ∷ ys) h = ap (λ (rs : List Ref). r.Null ∷ rs) (refs_along m one seen seen' s xs ys h.1)
refs_along m one seen seen' s (v.Obj x ∷ xs) (v.Obj y ∷ ys) h =
    ap (λ (o : Option ℕ). r.Num (unwrap_or o 0) ∷ map (ref_of seen) xs) (number_along m one seen seen' s x y h.0)
    ∙ ap (λ (rs : List Ref). r.Num (unwrap_or (number_of seen' y) 0) ∷ rs) (refs_along m one seen seen' s xs ys h.1)
refs_along m one seen seen' s (v.Int x ∷ xs) (v.Null ∷ ys) h = absurd h.0
refs_along m one seen seen' s (v.Int x ∷ xs) (v.Obj y ∷ ys) h = absurd h.0
refs_along m one seen seen' s (v.Null ∷ xs) (v.Int y ∷ ys) h = absurd h.0
refs_along m one seen seen' s (v.Null ∷ xs) (v.Obj y ∷ ys) h = absurd h.0
refs_along m one seen seen' s (v.Obj x ∷ xs) (v.Int y ∷ ys) h = absurd h.0
refs_along m one seen seen' s (v.Obj x ∷ xs) (v.Null ∷ ys) h = absurd h.0

cell_along : (m : ℕ → Option ℕ) → OneToOne m → (seen seen' : List ℕ) → Mapped m seen seen' → (a b : Object) → a.of ≡ b.of → AllZip (Maps m) a.parts b.parts → cell_of seen a ≡ cell_of seen' b
cell_along m one seen seen' s a b of parts =
    let shape : ShapeOf → Cell = λ x. record { of = x; parts = map (ref_of seen) a.parts } in
    let with_parts : List Ref → Cell = λ rs. record { of = b.of; parts = rs } in
    ap shape of ∙ ap with_parts (refs_along m one seen seen' s a.parts b.parts parts)

cells_along : (m : ℕ → Option ℕ) (one other : List Object) → Alongside m one other → (seen seen' : List ℕ) → Mapped m seen seen' → (xs js : List ℕ) → Mapped m xs js → cells one seen xs ≡ cells other seen' js
cells_along m one other along seen seen' s [] [] h = refl
cells_along m one other along seen seen' s [] (j ∷ js) h = absurd h
cells_along m one other along seen seen' s (x ∷ xs) [] h = absurd h
cells_along m one other along seen seen' s (x ∷ xs) (j ∷ js) h =
    let same = along.same x j h.0 in
    ap (λ (o : Option Object). cell_before seen o (cells one seen xs)) same.1
    ∙ ap (λ (c : Cell). c ∷ cells one seen xs) (cell_along m along.one_to_one seen seen' s same.0 same.2 same.4 same.5)
    ∙ ap (λ (cs : List Cell). cell_of seen' same.2 ∷ cs) (cells_along m one other along seen seen' s xs js h.1)
    ∙ sym (ap (λ (o : Option Object). cell_before seen' o (cells other seen' js)) same.3)

pub same_listing : SameListing
same_listing m one other us vs along h =
    let s = visited_along m one other us vs along h in
    let with_cells : List Cell → List Cell × List Ref = λ cs. (cs, map (ref_of (visited one us)) us) in
    let with_refs : List Ref → List Cell × List Ref = λ rs. (cells other (visited other vs) (visited other vs), rs) in
    ap with_cells (cells_along m one other along (visited one us) (visited other vs) s (visited one us) (visited other vs) s)
    ∙ ap with_refs (refs_along m along.one_to_one (visited one us) (visited other vs) s us vs h)
