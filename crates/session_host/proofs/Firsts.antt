-- The inputs and the prebuilt objects with which a run begins are of their kinds.
use Rattle.std.proofs.Common.{◌≡◌, ℕ, ◌<◌, Option, Some, None, List, [], ◌∷◌, length, map, slice_get, refl, ap, sym, ◌∙◌, subst, arith}
use Rattle.std.specs.Prelude.{IsSomeAnd, option_and_then}
use Rattle.std.specs.List.{All}
use Rattle.std.specs.Option.{option_map}
use Rattle.std.proofs.lemmas.Option.{same_Some, slice_get-map}
use Rattle.std.proofs.lemmas.List.{length-map}
use Rattle.std.proofs.lemmas.List.Elements.{All-head, All-tail}
use Rattle.lists.proofs.Alls.{all_at}
use Rattle.trace_ops.specs.declared.trace.Kind.{Kind}
use Rattle.trace_ops.specs.declared.trace.Kind.TheVariants as kind
use Rattle.trace_ops.specs.declared.trace.BoxId.{BoxId}
use Rattle.trace_ops.specs.declared.table.ShapeOf.{ShapeOf}
use Rattle.trace_ops.specs.declared.table.ShapeOf.TheVariants as shape
use Rattle.trace_ops.specs.declared.table.Table.{Table}
use Rattle.trace_ops.specs.declared.table.SizeRow.{SizeRow}
use Rattle.trace_ops.specs.declared.table.ArrayRow.{ArrayRow}
use Rattle.trace_ops.specs.declared.table.PrebuiltRow.{PrebuiltRow}
use Rattle.trace_ops.specs.declared.table.Initial.{Initial}
use Rattle.trace_ops.specs.declared.table.Initial.TheVariants as initial
use Rattle.trace_ops.specs.Kinds.{kind_of_initial, kind_of_field, HasParts}
use Rattle.trace_ops.specs.InRange.{IsTableInRange, IsPrebuilt, NamesInitial}
use Rattle.trace_meaning.specs.declared.value.Value.{Value}
use Rattle.trace_meaning.specs.declared.value.Value.TheVariants as v
use Rattle.trace_meaning.specs.declared.value.Object.{Object}
use Rattle.trace_meaning.specs.declared.call.Answer.{Answer}
use Rattle.trace_meaning.specs.Values.{kind_of_value}
use Rattle.trace_meaning.specs.Objects.{listed}
use Rattle.trace_meaning.specs.Recorded.{initial_value, prebuilt_object, first_world}
use Rattle.trace_meaning.specs.Starting.{IsPrebuiltOrNone}
use Rattle.trace_meaning.specs.Kinds.{IsValueOf, kind_of_part, PartsHold}
use Rattle.trace_meaning.specs.Kinds.{AreOfKinds}
use Rattle.trace_meaning.specs.Holding.{Holds}

-- Inputs

value_own : (t : Table) (x : Value) → IsPrebuiltOrNone t x → IsValueOf (length t.prebuilts) (kind_of_value x) x
value_own t (v.Int z) h = tt
value_own t v.Null h = tt
value_own t (v.Obj n) h = h

pub AreOfKinds-inputs : (t : Table) (n : ℕ) (bs : List BoxId) (xs : List Value) → length t.prebuilts ≡ n → map kind_of_value xs ≡ map (λ (b : BoxId). b.kind) bs → All (IsPrebuiltOrNone t) xs → AreOfKinds n (map (λ (b : BoxId). Some b.kind) bs) xs
AreOfKinds-inputs t n [] [] count e h = tt
AreOfKinds-inputs t n [] (x ∷ xs) count e h = absurd (cc)
AreOfKinds-inputs t n (b ∷ bs) [] count e h = absurd (cc)
AreOfKinds-inputs t n (b ∷ bs) (x ∷ xs) count e h =
    let first : kind_of_value x ≡ b.kind = cc in
    let others : map kind_of_value xs ≡ map (λ (c : BoxId). c.kind) bs = cc in
    let own : IsValueOf (length t.prebuilts) (kind_of_value x) x = value_own t x (All-head (IsPrebuiltOrNone t) x xs h) in
    (subst (λ m. IsValueOf m b.kind x) count (subst (λ k. IsValueOf (length t.prebuilts) k x) first own), AreOfKinds-inputs t n bs xs count others (All-tail (IsPrebuiltOrNone t) x xs h))

-- Prebuilt objects

module _ (t : Table) (n : ℕ) (count : n ≡ length t.prebuilts) where
  initial_held : (p : Initial) (k : Kind) → NamesInitial t p → kind_of_initial p ≡ Some k → IsValueOf n k (initial_value p)
  initial_held (initial.Int z) k h e = subst (λ l. IsValueOf n l (v.Int z)) (same_Some kind.Int k e) tt
  initial_held initial.Null k h e = subst (λ l. IsValueOf n l v.Null) (same_Some kind.Ref k e) tt
  initial_held (initial.Ptr o) k h e =
      let less : o < length t.prebuilts = h in
      let there : o < n = omega arith in
      subst (λ l. IsValueOf n l (v.Obj o)) (same_Some kind.Ref k e) there

  field_initial : (p : Initial) (k : Kind) (f : Option ℕ) → option_map (kind_of_field t) f ≡ Some (kind_of_initial p) → option_and_then (kind_of_field t) f ≡ Some k → kind_of_initial p ≡ Some k
  field_initial p k None has is = absurd (cc)
  field_initial p k (Some f) has is = sym (same_Some (kind_of_field t f) (kind_of_initial p) has) ∙ is

  size_initial : (parts : List Initial) (i : ℕ) (p : Initial) (k : Kind) (row : Option SizeRow) → slice_get parts i ≡ Some p → IsSomeAnd row (λ (r : SizeRow). map kind_of_initial parts ≡ map (kind_of_field t) r.fields) → option_and_then (kind_of_field t) (slice_get (listed row) i) ≡ Some k → kind_of_initial p ≡ Some k
  size_initial parts i p k None ep h is = absurd h
  size_initial parts i p k (Some row) ep h is =
      let has : option_map (kind_of_field t) (slice_get row.fields i) ≡ Some (kind_of_initial p) = sym (slice_get-map (kind_of_field t) row.fields i) ∙ ap (λ (l : List (Option Kind)). slice_get l i) (sym h) ∙ slice_get-map kind_of_initial parts i ∙ ap (option_map kind_of_initial) ep in
      field_initial p k (slice_get row.fields i) has is

  array_initial : (parts : List Initial) (i : ℕ) (p : Initial) (k : Kind) (row : Option ArrayRow) → slice_get parts i ≡ Some p → IsSomeAnd row (λ (r : ArrayRow). All (λ l. l ≡ Some r.kind) (map kind_of_initial parts)) → option_map (λ (r : ArrayRow). r.kind) row ≡ Some k → kind_of_initial p ≡ Some k
  array_initial parts i p k None ep h is = absurd h
  array_initial parts i p k (Some row) ep h is = all_at (λ l. l ≡ Some row.kind) (map kind_of_initial parts) i (kind_of_initial p) h (slice_get-map kind_of_initial parts i ∙ ap (option_map kind_of_initial) ep) ∙ is

  part_initial : (of : ShapeOf) (parts : List Initial) (i : ℕ) (p : Initial) (k : Kind) → slice_get parts i ≡ Some p → HasParts t of (map kind_of_initial parts) → kind_of_part t of i ≡ Some k → kind_of_initial p ≡ Some k
  part_initial (shape.Size s) parts i p k ep h is = size_initial parts i p k (slice_get t.sizes s) ep h is
  part_initial (shape.Array a) parts i p k ep h is = array_initial parts i p k (slice_get t.arrays a) ep h is

  placed_initial : (row : PrebuiltRow) (i : ℕ) (k : Kind) (x : Value) (p : Option Initial) → IsPrebuilt t row → kind_of_part t row.of i ≡ Some k → slice_get row.parts i ≡ p → option_map initial_value p ≡ Some x → IsValueOf n k x
  placed_initial row i k x None h ek ep ex = absurd (cc)
  placed_initial row i k x (Some p) h ek ep ex = subst (λ z. IsValueOf n k z) (same_Some (initial_value p) x ex) (initial_held p k (all_at (NamesInitial t) row.parts i p h.1 ep) (part_initial row.of row.parts i p k ep h.0 ek))

  PartsHold-prebuilt_object : (row : PrebuiltRow) → IsPrebuilt t row → PartsHold t n (prebuilt_object row)
  PartsHold-prebuilt_object row h = λ i k x ek ex. placed_initial row i k x (slice_get row.parts i) h ek refl (sym (slice_get-map initial_value row.parts i) ∙ ex)

  row_held : (o : Object) (row : Option PrebuiltRow) (m : ℕ) → All (IsPrebuilt t) t.prebuilts → slice_get t.prebuilts m ≡ row → option_map prebuilt_object row ≡ Some o → PartsHold t n o
  row_held o None m h er eo = absurd (cc)
  row_held o (Some row) m h er eo =
      let P : Object → Type 0 = λ q. PartsHold t n q in
      subst P (same_Some (prebuilt_object row) o eo) (PartsHold-prebuilt_object row (all_at (IsPrebuilt t) t.prebuilts m row h er))

pub Holds-first_world : (t : Table) (answers : List Answer) → IsTableInRange t → Holds t (first_world t answers)
Holds-first_world t answers h =
    let count : length (map prebuilt_object t.prebuilts) ≡ length t.prebuilts = length-map t.prebuilts prebuilt_object in
    record {
      prebuilts = omega arith;
      objects = λ m o e. row_held t (length (map prebuilt_object t.prebuilts)) count o (slice_get t.prebuilts m) m h.prebuilts_fit refl (sym (slice_get-map prebuilt_object t.prebuilts m) ∙ e);
    }
