-- The kinds of values.
use Rattle.std.proofs.Common.{◌≡◌, ℕ, Option, Some, None, List, [], ◌∷◌, map, refl, ap, ◌∙◌}
use Rattle.trace_ops.specs.declared.trace.Kind.{Kind}
use Rattle.trace_ops.specs.declared.trace.Kind.TheVariants as kind
use Rattle.trace_ops.specs.declared.trace.BoxId.{BoxId}
use Rattle.trace_meaning.specs.declared.value.Value.{Value}
use Rattle.trace_meaning.specs.declared.value.Value.TheVariants as v
use Rattle.trace_meaning.specs.Values.{kind_of_value}
use Rattle.trace_meaning.specs.Kinds.{IsValueOf, AreOfKinds}

own_kind : (n : ℕ) (k : Kind) (x : Value) → IsValueOf n k x → kind_of_value x ≡ k
own_kind n kind.Int (v.Int z) h = refl
own_kind n kind.Int v.Null h = absurd h
own_kind n kind.Int (v.Obj o) h = absurd h
own_kind n kind.Ref (v.Int z) h = absurd h
own_kind n kind.Ref v.Null h = refl
own_kind n kind.Ref (v.Obj o) h = refl

-- values of the kinds of boxes have these kinds
pub kinds_same : (n : ℕ) (bs : List BoxId) (xs : List Value) → AreOfKinds n (map (λ (b : BoxId). Some b.kind) bs) xs → map (λ (x : Value). Some (kind_of_value x)) xs ≡ map (λ (b : BoxId). Some b.kind) bs
kinds_same n [] [] h = refl
kinds_same n [] (x ∷ xs) h = absurd h
kinds_same n (b ∷ bs) [] h = absurd h
kinds_same n (b ∷ bs) (x ∷ xs) h = ap (λ (k : Kind). Some k ∷ map (λ (y : Value). Some (kind_of_value y)) xs) (own_kind n b.kind x h.0) ∙ ap (λ (ks : List (Option Kind)). Some b.kind ∷ ks) (kinds_same n bs xs h.1)

-- and so does a first one
pub first_kind : (n : ℕ) (k : Option Kind) (x : Value) (xs : List Value) → AreOfKinds n (k ∷ []) (x ∷ xs) → Some (kind_of_value x) ≡ k
first_kind n None x xs h = absurd h
first_kind n (Some k) x xs h = ap Some (own_kind n k x h.0)
