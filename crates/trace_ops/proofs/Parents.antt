-- A parent is one of the traces.
use Rattle.std.proofs.Common.{◌≡◌, ℕ, ◌<◌, ◌≤◌, Bool, Option, Some, None, List, length, refl, arith}
use Rattle.std.specs.Prelude.{position, slice_get}
use Rattle.std.specs.Option.{IfSome}
use Rattle.std.proofs.lemmas.List.Quantifiers.{position-Some}
use Rattle.trace_ops.specs.declared.trace.Origin.{Origin}
use Rattle.trace_ops.specs.declared.trace.Origin.TheVariants.{Loop, Bridge}
use Rattle.trace_ops.specs.declared.trace.Trace.{Trace}
use Rattle.trace_ops.specs.declared.trace.TraceSet.{TraceSet}
use Rattle.trace_ops.specs.Weights.{place_of, parent_named, parent_of, parent_at}

position-below : {X : Type 0} (test : X → Bool) (xs : List X) (d : X) (m : ℕ) → length xs ≤ m → (o : Option ℕ) → position test xs ≡ o → IfSome o (λ j. j < m)
position-below test xs d m few (Some j) e =
    let h = position-Some test xs j d e in
    omega (arith, h.0)
position-below test xs d m few None e = tt

parent_named-below : (traces : List Trace) (t : Trace) (m : ℕ) → length traces ≤ m → (o : Origin) → IfSome (parent_named traces o) (λ j. j < m)
parent_named-below traces t m few Loop = tt
parent_named-below traces t m few (Bridge name guard) = position-below _ traces t m few (place_of name traces) refl

parent_of-below : (traces : List Trace) (m : ℕ) → length traces ≤ m → (o : Option Trace) → IfSome (parent_of traces o) (λ j. j < m)
parent_of-below traces m few (Some t) = parent_named-below traces t m few t.origin
parent_of-below traces m few None = tt

pub parent_at-below : (set : TraceSet) (m : ℕ) → length set.traces ≤ m → (k : ℕ) → IfSome (parent_at set k) (λ j. j < m)
parent_at-below set m few k = parent_of-below set.traces m few (slice_get set.traces k)
