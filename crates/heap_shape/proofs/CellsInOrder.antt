-- A cell for each object visited.
use Rattle.std.proofs.Common.{◌≡◌, ℕ, zero, suc, ◌<◌, List, [], ◌∷◌, Option, Some, length, slice_get, refl, ap, subst, ◌∙◌, inl, inr, arith}
use Rattle.std.proofs.lemmas.Option.{none-some}
use Rattle.trace_meaning.specs.declared.value.Object.{Object}
use Rattle.heap_shape.specs.Visiting.{visited, Has}
use Rattle.heap_shape.specs.Listing.{cell_of, cell_before, cells}
use Rattle.heap_shape.specs.Order.{CellsAreObjects}
use Rattle.heap_shape.proofs.Lists.{some_same}
use Rattle.heap_shape.proofs.InOrder.{visits_in_order}

get_some : {X : Type 0} (xs : List X) (k : ℕ) → k < length xs → (x : X) × (slice_get xs k ≡ Some x)
get_some [] k h = absurd (omega arith)
get_some (x ∷ xs) zero h = (x, refl)
get_some (x ∷ xs) (suc k) h = get_some xs k (omega arith)

cells_length : (objects : List Object) (seen ns : List ℕ) → ((n : ℕ) → Has ns n → n < length objects) → length (cells objects seen ns) ≡ length ns
cells_length objects seen [] below = refl
cells_length objects seen (n ∷ ns) below =
    let found = get_some objects n (below n (inl refl)) in
    ap (λ (o : Option Object). length (cell_before seen o (cells objects seen ns))) found.1 ∙ ap suc (cells_length objects seen ns (λ m w. below m (inr w)))

cells_at : (objects : List Object) (seen ns : List ℕ) → ((n : ℕ) → Has ns n → n < length objects) → (k n : ℕ) → slice_get ns k ≡ Some n
    → (x : Object) × (slice_get objects n ≡ Some x) × (slice_get (cells objects seen ns) k ≡ Some (cell_of seen x))
cells_at objects seen [] below k n h = absurd (none-some n h)
cells_at objects seen (m ∷ ms) below zero n h =
    let found = get_some objects m (below m (inl refl)) in (
      found.0,
      subst (λ (i : ℕ). slice_get objects i ≡ Some found.0) (some_same h) found.1,
      ap (λ (o : Option Object). slice_get (cell_before seen o (cells objects seen ms)) zero) found.1,
    )
cells_at objects seen (m ∷ ms) below (suc k) n h =
    let found = get_some objects m (below m (inl refl)) in
    let rest = cells_at objects seen ms (λ i w. below i (inr w)) k n h in
    (rest.0, rest.1, ap (λ (o : Option Object). slice_get (cell_before seen o (cells objects seen ms)) (suc k)) found.1 ∙ rest.2)

pub cells_are_objects : CellsAreObjects
cells_are_objects objects roots closed within =
    let visits = visits_in_order objects roots closed within in (
      cells_length objects (visited objects roots) (visited objects roots) visits.in_store,
      cells_at objects (visited objects roots) (visited objects roots) visits.in_store,
    )
