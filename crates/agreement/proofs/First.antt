-- The first recorded objects are those of the table, behind a store and beside a new object too.
use Rattle.std.proofs.Common.{◌≡◌, ℕ, [], ◌∷◌, ◌++◌, Some, slice_get, ap, ◌∙◌, append_assoc}
use Rattle.std.proofs.lemmas.List.{map-append}
use Rattle.agreement.proofs.Written.{length_set, map_set}
use Rattle.trace_ops.specs.declared.table.Table.{Table}
use Rattle.trace_meaning.specs.declared.value.Value.{Value}
use Rattle.trace_meaning.specs.declared.value.Object.{Object}
use Rattle.trace_meaning.specs.World.{World}
use Rattle.trace_meaning.specs.Objects.{with_part, with_new}
use Rattle.trace_meaning.specs.Growing.{extent}
use Rattle.opt_meaning.specs.Agrees.{HasPrebuilts}
use Rattle.agreement.proofs.Wrote.{stored}

pub first_stored : (t : Table) (w : World) (j : ℕ) (o : Object) (i : ℕ) (y : Value) → slice_get w.objects j ≡ Some o → HasPrebuilts t w → HasPrebuilts t (stored w j o i y)
first_stored t w j o i y e h = (h.0, map_set extent w.objects j o (with_part o i y) e (ap (λ n. (o.of, n)) (length_set o.parts i y)) ∙ h.1)

pub first_new : (t : Table) (o : Object) (w : World) → HasPrebuilts t w → HasPrebuilts t (with_new o w)
first_new t o w h =
    (h.0 ++ extent o ∷ [], map-append extent w.objects (o ∷ []) ∙ ap (λ l. l ++ extent o ∷ []) h.1 ∙ append_assoc _ h.0 (extent o ∷ []))
