-- Objects whose parts hold values of their kinds: reads, writes and new objects.
use Rattle.std.proofs.Common.{◌≡◌, ℕ, zero, suc, ◌+◌, ◌<◌, ◌≤◌, ◌⊎◌, inl, inr, Bool, true, false, cond, Option, Some, None, List, [], ◌∷◌, ◌++◌, length, replicate, set, slice_get, get_or, refl, ap, sym, ◌∙◌, subst, arith}
use Rattle.std.specs.Prelude.{◌==◌, position, option_and_then}
use Rattle.std.specs.Option.{option_map}
use Rattle.std.proofs.Math.ListN.{length-set}
use Rattle.std.proofs.lemmas.Bool.{eqb-true}
use Rattle.std.proofs.lemmas.Option.{same_Some, slice_get-map, slice_get-get_or, slice_get_within, get_or_from_slice_get}
use Rattle.std.proofs.lemmas.List.{length-append, length-replicate, get_or-replicate}
use Rattle.std.proofs.lemmas.List.Quantifiers.{position-Some}
use Rattle.trace_ops.specs.declared.trace.Kind.{Kind}
use Rattle.trace_ops.specs.declared.trace.Kind.TheVariants as kind
use Rattle.trace_ops.specs.declared.piece.Spot.{Spot}
use Rattle.trace_ops.specs.declared.piece.Spot.TheVariants as spot
use Rattle.trace_ops.specs.declared.table.ShapeOf.{ShapeOf}
use Rattle.trace_ops.specs.declared.table.ShapeOf.TheVariants as shape
use Rattle.trace_ops.specs.declared.table.Table.{Table}
use Rattle.trace_ops.specs.declared.table.FieldRow.{FieldRow}
use Rattle.trace_ops.specs.declared.table.ArrayRow.{ArrayRow}
use Rattle.trace_ops.specs.Kinds.{kind_of_field, kind_of_item, kind_of_spot}
use Rattle.trace_meaning.specs.declared.value.Value.{Value}
use Rattle.trace_meaning.specs.declared.value.Value.TheVariants as v
use Rattle.trace_meaning.specs.declared.value.Object.{Object}
use Rattle.trace_meaning.specs.Values.{zero_of}
use Rattle.trace_meaning.specs.World.{World}
use Rattle.trace_meaning.specs.Objects.{fields_of, zero_field, zero_item, zeroed, cleared, place_of, index_of, part_of_object, read, write, write_unfrozen, is_frozen, written, within, with_part, with_object, with_new, place_within}
use Rattle.trace_meaning.specs.Kinds.{IsValueOf, kind_of_part, PartsHold, ObjectsHold}
use Rattle.trace_meaning.specs.Holding.{Holds, Keeps, KeepsIf, IsGiven}
use Rattle.trace_meaning.proofs.OfKind.{IsValueOf-more}

pub keeps-same : (t : Table) (w u : World) → u.objects ≡ w.objects → Holds t w → Keeps t w u
keeps-same t w u e h =
    let count : length u.objects ≡ length w.objects = ap length e in
    let first : length t.prebuilts ≤ length w.objects = h.prebuilts in
    let P : List Object → Type 0 = λ os. ObjectsHold t os in
    record { holds = record { prebuilts = omega arith; objects = subst P (sym e) h.objects }; more = omega arith }

pub keeps-twice : (t : Table) (a b c : World) → Keeps t a b → Keeps t b c → Keeps t a c
keeps-twice t a b c g h =
    let first : length a.objects ≤ length b.objects = g.more in
    let second : length b.objects ≤ length c.objects = h.more in
    record { holds = h.holds; more = omega arith }

pub PartsHold-more : (t : Table) (m n : ℕ) (o : Object) → m ≤ n → PartsHold t m o → PartsHold t n o
PartsHold-more t m n o le h = λ i k x ek ex. IsValueOf-more m n k x le (h i k x ek ex)

-- Lists

set_cases : {X : Type 0} (xs : List X) (n m : ℕ) (y q : X) → slice_get (set xs n y) m ≡ Some q → ((m ≡ n) × (q ≡ y)) ⊎ (slice_get xs m ≡ Some q)
set_cases [] n m y q h = inr h
set_cases (x ∷ xs) zero zero y q h = inl (refl, sym (same_Some y q h))
set_cases (x ∷ xs) zero (suc m) y q h = inr h
set_cases (x ∷ xs) (suc n) zero y q h = inr h
set_cases (x ∷ xs) (suc n) (suc m) y q h = elim (set_cases xs n m y q h) [ inl p ↦ inl (ap (λ j. suc j) p.0, p.1) | inr e ↦ inr e ]

push_cases : {X : Type 0} (xs : List X) (m : ℕ) (y q : X) → slice_get (xs ++ y ∷ []) m ≡ Some q → (q ≡ y) ⊎ (slice_get xs m ≡ Some q)
push_cases [] zero y q h = inl (sym (same_Some y q h))
push_cases [] (suc m) y q h = inr h
push_cases (x ∷ xs) zero y q h = inr h
push_cases (x ∷ xs) (suc m) y q h = push_cases xs m y q h

-- Kinds of places

module _ (t : Table) where
  field_kind : (fields : List ℕ) (f i : ℕ) → position (λ g. g == f) fields ≡ Some i → option_and_then (kind_of_field t) (slice_get fields i) ≡ kind_of_field t f
  field_kind fields f i h =
      let at = position-Some (λ g. g == f) fields i f h in
      ap (option_and_then (kind_of_field t)) (slice_get-get_or fields i f at.0) ∙ ap (kind_of_field t) (eqb-true (get_or fields i f) f at.1)

  item_kind : (b a : ℕ) (place : Option ℕ) (i : ℕ) (same : Bool) → (b == a) ≡ same → cond same place None ≡ Some i → kind_of_item t b ≡ kind_of_item t a
  item_kind b a place i true e h = ap (kind_of_item t) (eqb-true b a e)
  item_kind b a place i false e h = absurd (cc)

  place_kind : (of : ShapeOf) (at : Spot) (i : ℕ) → place_of t of at ≡ Some i → kind_of_part t of i ≡ kind_of_spot t at
  place_kind (shape.Size s) (spot.Field f) i h = field_kind (fields_of t s) f i h
  place_kind (shape.Size s) (spot.Item a z) i h = absurd (cc)
  place_kind (shape.Array b) (spot.Field f) i h = absurd (cc)
  place_kind (shape.Array b) (spot.Item a z) i h = item_kind b a (index_of z) i (b == a) refl h

  -- Reads

  part_read : (n : ℕ) (o : Object) (i : ℕ) (k : Kind) (x : Option Value) → PartsHold t n o → kind_of_part t o.of i ≡ Some k → slice_get o.parts i ≡ x → IsGiven n (Some k) x
  part_read n o i k None h ek ex = tt
  part_read n o i k (Some x) h ek ex = h i k x ek ex

  place_read : (n : ℕ) (o : Object) (at : Spot) (k : Kind) (place : Option ℕ) → PartsHold t n o → kind_of_spot t at ≡ Some k → place_of t o.of at ≡ place → IsGiven n (Some k) (option_and_then (slice_get o.parts) place)
  place_read n o at k None h ek ep = tt
  place_read n o at k (Some i) h ek ep = part_read n o i k (slice_get o.parts i) h (place_kind o.of at i ep ∙ ek) refl

  object_read : (w : World) (at : Spot) (k : Kind) (n : ℕ) (o : Option Object) → Holds t w → kind_of_spot t at ≡ Some k → slice_get w.objects n ≡ o → IsGiven (length w.objects) (Some k) (option_and_then (part_of_object t at) o)
  object_read w at k n None h ek eo = tt
  object_read w at k n (Some o) h ek eo = place_read (length w.objects) o at k (place_of t o.of at) (h.objects n o eo) ek refl

  -- what is read is of the kind of the place
  pub IsGiven-read : (at : Spot) (base : Value) (w : World) (k : Kind) → Holds t w → kind_of_spot t at ≡ Some k → IsGiven (length w.objects) (Some k) (read t at base w)
  IsGiven-read at (v.Obj n) w k h ek = object_read w at k n (slice_get w.objects n) h ek refl
  IsGiven-read at (v.Int z) w k h ek = tt
  IsGiven-read at v.Null w k h ek = tt

  -- Writes

  with_part_holds : (n : ℕ) (o : Object) (i : ℕ) (k : Kind) (x : Value) → PartsHold t n o → kind_of_part t o.of i ≡ Some k → IsValueOf n k x → PartsHold t n (with_part o i x)
  with_part_holds n o i k x h ek hx = λ j l y el ey. elim (set_cases o.parts i j x y ey) [
    | inl same ↦
        let other : Some k ≡ Some l = sym ek ∙ ap (kind_of_part t o.of) (sym same.0) ∙ el in
        subst (λ z. IsValueOf n l z) (sym same.1) (subst (λ m. IsValueOf n m x) (same_Some k l other) hx)
    | inr there ↦ h j l y el there
  ]

  pub with_object_keeps : (w : World) (n : ℕ) (o : Object) → Holds t w → PartsHold t (length w.objects) o → Keeps t w (with_object n w o)
  with_object_keeps w n o h ho =
      let count : length (set w.objects n o) ≡ length w.objects = length-set w.objects n o in
      let first : length t.prebuilts ≤ length w.objects = h.prebuilts in
      let fewer : length w.objects ≤ length (set w.objects n o) = omega arith in
      record {
        holds = record {
          prebuilts = omega arith;
          objects = λ m q e. PartsHold-more t (length w.objects) (length (set w.objects n o)) q fewer (elim (set_cases w.objects n m o q e) [
            | inl same ↦ let P : Object → Type 0 = λ p. PartsHold t (length w.objects) p in subst P (sym same.1) ho
            | inr there ↦ h.objects m q there
          ]);
        };
        more = fewer;
      }

  within_kind : (o : Object) (at : Spot) (k : Kind) (i : ℕ) (place : Option ℕ) → place_of t o.of at ≡ place → kind_of_spot t at ≡ Some k → option_and_then (within o) place ≡ Some i → kind_of_part t o.of i ≡ Some k
  within_kind o at k i None ep ek h = absurd (cc)
  within_kind o at k i (Some j) ep ek h = place_kind o.of at i (ep ∙ same_place j i (within o j) refl h) ∙ ek
    where
      same_bool : (j i : ℕ) (b : Bool) → cond b (Some j) None ≡ Some i → Some j ≡ Some i
      same_bool j i true h = h
      same_bool j i false h = absurd (cc)

      same_place : (j i : ℕ) (x : Option ℕ) → within o j ≡ x → within o j ≡ Some i → Some j ≡ Some i
      same_place j i x e h = same_bool j i _ h

  placed_keeps : (w : World) (n : ℕ) (o : Object) (at : Spot) (k : Kind) (x : Value) (place : Option ℕ) → Holds t w → slice_get w.objects n ≡ Some o → kind_of_spot t at ≡ Some k → IsValueOf (length w.objects) k x → place_within t at o ≡ place → KeepsIf t w (option_map (with_object n w) (option_map (λ i. with_part o i x) place))
  placed_keeps w n o at k x None h eo ek hx ep = tt
  placed_keeps w n o at k x (Some i) h eo ek hx ep = with_object_keeps w n (with_part o i x) h (with_part_holds (length w.objects) o i k x (h.objects n o eo) (within_kind o at k i (place_of t o.of at) refl ek ep) hx)

  object_keeps : (w : World) (n : ℕ) (at : Spot) (k : Kind) (x : Value) (o : Option Object) → Holds t w → slice_get w.objects n ≡ o → kind_of_spot t at ≡ Some k → IsValueOf (length w.objects) k x → KeepsIf t w (option_map (with_object n w) (option_and_then (written t at x) o))
  object_keeps w n at k x None h eo ek hx = tt
  object_keeps w n at k x (Some o) h eo ek hx = placed_keeps w n o at k x (place_within t at o) h eo ek hx refl

  unfrozen_keeps : (frozen : Bool) (w : World) (n : ℕ) (at : Spot) (k : Kind) (x : Value) → Holds t w → kind_of_spot t at ≡ Some k → IsValueOf (length w.objects) k x → KeepsIf t w (write_unfrozen frozen t at n x w)
  unfrozen_keeps true w n at k x h ek hx = tt
  unfrozen_keeps false w n at k x h ek hx = object_keeps w n at k x (slice_get w.objects n) h refl ek hx

  -- a write of a value of the place's kind
  pub KeepsIf-write : (at : Spot) (base x : Value) (w : World) (k : Kind) → Holds t w → kind_of_spot t at ≡ Some k → IsValueOf (length w.objects) k x → KeepsIf t w (write t at base x w)
  KeepsIf-write at (v.Obj n) x w k h ek hx = unfrozen_keeps (is_frozen t at n) w n at k x h ek hx
  KeepsIf-write at (v.Int z) x w k h ek hx = tt
  KeepsIf-write at v.Null x w k h ek hx = tt

  -- New objects

  new_counted : (w : World) (o : Object) → length (with_new o w).objects ≡ length w.objects + 1
  new_counted w o = length-append w.objects (o ∷ [])

  pub Keeps-with_new : (o : Object) (w : World) → Holds t w → PartsHold t (length w.objects) o → Keeps t w (with_new o w)
  Keeps-with_new o w h ho =
      let count : length (w.objects ++ o ∷ []) ≡ length w.objects + 1 = new_counted w o in
      let first : length t.prebuilts ≤ length w.objects = h.prebuilts in
      let fewer : length w.objects ≤ length (w.objects ++ o ∷ []) = omega arith in
      record {
        holds = record {
          prebuilts = omega arith;
          objects = λ m q e. PartsHold-more t (length w.objects) (length (w.objects ++ o ∷ [])) q fewer (elim (push_cases w.objects m o q e) [
            | inl same ↦ let P : Object → Type 0 = λ p. PartsHold t (length w.objects) p in subst P (sym same) ho
            | inr there ↦ h.objects m q there
          ]);
        };
        more = fewer;
      }

  pub new_is_there : (o : Object) (w : World) → length w.objects < length (with_new o w).objects
  new_is_there o w = let count : length (with_new o w).objects ≡ length w.objects + 1 = new_counted w o in omega arith

  zero_held : (n : ℕ) (k : Kind) → IsValueOf n k (zero_of k)
  zero_held n kind.Int = tt
  zero_held n kind.Ref = tt

  zero_known : (n : ℕ) (k l : Kind) (x : Value) → Some l ≡ Some k → Some (zero_of l) ≡ Some x → IsValueOf n k x
  zero_known n k l x ek ex = subst (λ z. IsValueOf n k z) (same_Some (zero_of l) x ex) (subst (λ m. IsValueOf n m (zero_of l)) (same_Some l k ek) (zero_held n l))

  field_zero : (n : ℕ) (k : Kind) (x : Value) (row : Option FieldRow) → option_map (λ (r : FieldRow). r.kind) row ≡ Some k → Some (zero_field row) ≡ Some x → IsValueOf n k x
  field_zero n k x None ek ex = absurd (cc)
  field_zero n k x (Some row) ek ex = zero_known n k row.kind x ek ex

  item_zero : (n : ℕ) (k : Kind) (x : Value) (row : Option ArrayRow) → option_map (λ (r : ArrayRow). r.kind) row ≡ Some k → Some (zero_item row) ≡ Some x → IsValueOf n k x
  item_zero n k x None ek ex = absurd (cc)
  item_zero n k x (Some row) ek ex = zero_known n k row.kind x ek ex

  zeroed_part : (n : ℕ) (k : Kind) (x : Value) (f : Option ℕ) → option_and_then (kind_of_field t) f ≡ Some k → option_map (λ g. zero_field (slice_get t.fields g)) f ≡ Some x → IsValueOf n k x
  zeroed_part n k x None ek ex = absurd (cc)
  zeroed_part n k x (Some f) ek ex = field_zero n k x (slice_get t.fields f) ek ex

  pub PartsHold-zeroed : (n size : ℕ) → PartsHold t n (zeroed t size)
  PartsHold-zeroed n size = λ i k x ek ex. zeroed_part n k x (slice_get (fields_of t size) i) ek (sym (slice_get-map (λ g. zero_field (slice_get t.fields g)) (fields_of t size) i) ∙ ex)

  pub PartsHold-cleared : (n array count : ℕ) → PartsHold t n (cleared t array count)
  PartsHold-cleared n array count = λ i k x ek ex.
      let zero_part : Value = zero_item (slice_get t.arrays array) in
      let long : length (replicate count zero_part) ≡ count = length-replicate count zero_part in
      let inside : i < length (replicate count zero_part) = slice_get_within (replicate count zero_part) i x ex in
      let less : i < count = omega arith in
      let same : zero_part ≡ x = sym (get_or-replicate count i zero_part zero_part less) ∙ get_or_from_slice_get (replicate count zero_part) i x zero_part ex in
      item_zero n k x (slice_get t.arrays array) ek (ap Some same)
