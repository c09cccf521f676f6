-- The text of fields that have no more values.
use Rattle.std.proofs.Common.{◌≡◌, ℕ, List, [], ◌∷◌, ◌++◌, length, refl, sym, ap, ◌∙◌}
use Rattle.std.proofs.lemmas.List.{append-nil, nil_from_length}
use Rattle.heap_shape.specs.declared.cell.Ref.{Ref}
use Rattle.trace_ops.specs.declared.table.Table.{Table}
use Rattle.seen_text.specs.Cells.{parts_text}

parts_none : (t : Table) (fs : List ℕ) → parts_text t fs [] ≡ []
unfolding parts_text
parts_none t [] = refl
parts_none t (f ∷ fs) = refl

pub stops : (t : Table) (out total fs : List ℕ) (ps : List Ref) → length ps ≡ 0 → out ++ parts_text t fs ps ≡ total → out ≡ total
stops t out total fs ps e so_far =
    let empty : ps ≡ [] = nil_from_length ps e in
    sym (ap (λ (x : List Ref). out ++ parts_text t fs x) empty ∙ ap (λ (x : List ℕ). out ++ x) (parts_none t fs) ∙ append-nil out) ∙ so_far
