-- Spots of shapes.
use Rattle.std.proofs.Common.{◌≡◌, ℕ, zero, suc, ◌+◌, ◌<◌, Bool, true, false, cond, eqb, List, [], ◌∷◌, Some, None, length, slice_get, map, refl, sym, ap, ◌∙◌, subst, arith, inl, inr}
use Rattle.std.specs.Prelude.{◌==◌}
use Rattle.std.specs.List.{AllZip}
use Rattle.std.proofs.lemmas.Bool.{eqb-true, lt-ltb}
use Rattle.std.proofs.lemmas.Option.{slice_get_within}
use Rattle.lists.proofs.Options.{some_same, none_some}
use Rattle.trace_ops.specs.declared.table.Table.{Table}
use Rattle.trace_ops.specs.declared.piece.Val.{Val}
use Rattle.trace_ops.specs.declared.piece.Spot.{Spot}
use Rattle.trace_meaning.specs.declared.value.Value.{Value}
use Rattle.trace_meaning.specs.declared.value.Value.TheVariants as v
use Rattle.opt_meaning.specs.Agrees.{Place, MapsAt, ValIs}
use Rattle.std.specs.Prelude.{position, nat_lt, ℤ, pos, negsuc}
use Rattle.std.specs.List.{position_or_len}
use Rattle.std.proofs.Common.{get_or}
use Rattle.std.proofs.lemmas.Bool.{eq-eqb, ne_eqb}
use Rattle.std.proofs.lemmas.Option.{slice_get-get_or, get_or_from_slice_get}
use Rattle.std.proofs.lemmas.List.Sums.{position_or_len_is}
use Rattle.trace_ops.specs.declared.table.ShapeOf.{ShapeOf}
use Rattle.trace_ops.specs.declared.table.ShapeOf.TheVariants as shape
use Rattle.trace_ops.specs.declared.piece.Spot.TheVariants as spot
use Rattle.trace_meaning.specs.Objects.{place_of, item_place, index_of, fields_of, zeroed, cleared}
use Rattle.heap_shape.specs.Visiting.{Has, IsOnce}
use Rattle.agreement.specs.Making.{AreSpots}
use Rattle.agreement.specs.Spots.{SpotsLieApart, ItemsLieApart, items_from, spots_of, HasPartsOf, ShapesHaveSpots, constant, NewShapes}
use Rattle.agreement.proofs.Calling.{fields_apart, items_apart}
use Rattle.agreement.proofs.NewObjects.{zeros_are_one}

index_at : (y : ℤ) (i : ℕ) → index_of y ≡ Some i → y ≡ pos i
index_at (pos n) i e = ap pos (some_same e)
index_at (negsuc n) i e = absurd (none_some e)

item_at : (of : ShapeOf) (a : ℕ) (y : ℤ) (i : ℕ) → item_place of a y ≡ Some i → (of ≡ shape.Array a) × (y ≡ pos i)
item_at (shape.Size s) a y i e = absurd (none_some e)
item_at (shape.Array c) a y i e = by (eqb c a) refl e
  where
    by : (b : Bool) → eqb c a ≡ b → cond b (index_of y) None ≡ Some i → (shape.Array c ≡ shape.Array a) × (y ≡ pos i)
    by true q w = (ap shape.Array (eqb-true c a q), index_at y i w)
    by false q w = absurd (none_some w)

array_same : {a b : ℕ} → shape.Array a ≡ shape.Array b → a ≡ b
array_same e = cc

pub spots_lie_apart : SpotsLieApart
spots_lie_apart t (spot.Field f) (spot.Field g) ne = fields_apart t f g (λ e. ne (ap (λ x. spot.Field x) e))
spots_lie_apart t (spot.Field f) (spot.Item a z) ne = items_apart t f a z
spots_lie_apart t (spot.Item a z) (spot.Field f) ne = λ of i ea ef. items_apart t f a z of i ef ea
spots_lie_apart t (spot.Item a y) (spot.Item b z) ne = λ of i ea eb.
    let p = item_at of a y i ea in
    let q = item_at of b z i eb in
    ne (ap (λ c. spot.Item c y) (array_same (sym p.0 ∙ q.0)) ∙ ap (spot.Item b) (p.1 ∙ sym q.1))

pub items_lie_apart : ItemsLieApart
items_lie_apart t array i (spot.Field f) none = λ of k ea ef. items_apart t f array i of k ef ea
items_lie_apart t array i (spot.Item b z) none = λ of k ea eb.
    let p = item_at of array i k ea in
    let q = item_at of b z k eb in
    none (array_same (sym q.0 ∙ p.0))

-- The spots of a shape

items_long : (a i n : ℕ) → length (items_from a i n) ≡ n
items_long a i zero = refl
items_long a i (suc n) = ap suc (items_long a (i + 1) n)

item_of : (a i n k : ℕ) (s : Spot) → slice_get (items_from a i n) k ≡ Some s → spot.Item a (pos (i + k)) ≡ s
item_of a i zero k s e = absurd (none_some e)
item_of a i (suc n) zero s e = let same : i + 0 ≡ i = omega arith in ap (λ j. spot.Item a (pos j)) same ∙ some_same e
item_of a i (suc n) (suc k) s e = let same : i + suc k ≡ (i + 1) + k = omega arith in ap (λ j. spot.Item a (pos j)) same ∙ item_of a (i + 1) n k s e

get_has : (ns : List ℕ) (k n : ℕ) → slice_get ns k ≡ Some n → Has ns n
get_has [] k n e = absurd (none_some e)
get_has (m ∷ ms) zero n e = inl (some_same e)
get_has (m ∷ ms) (suc k) n e = inr (get_has ms k n e)

once_get : (ns : List ℕ) → IsOnce ns → (k l n : ℕ) → slice_get ns k ≡ Some n → slice_get ns l ≡ Some n → k ≡ l
once_get [] once k l n ek el = absurd (none_some ek)
once_get (m ∷ ms) once zero zero n ek el = refl
once_get (m ∷ ms) once zero (suc l) n ek el = absurd (once.0 (subst (Has ms) (sym (some_same ek)) (get_has ms l n el)))
once_get (m ∷ ms) once (suc k) zero n ek el = absurd (once.0 (subst (Has ms) (sym (some_same el)) (get_has ms k n ek)))
once_get (m ∷ ms) once (suc k) (suc l) n ek el = ap suc (once_get ms once.1 k l n ek el)

-- a field lies where it stands, since no field stands twice
field_at : (fs : List ℕ) → IsOnce fs → (k f : ℕ) → slice_get fs k ≡ Some f → position (λ g. g == f) fs ≡ Some k
field_at fs once k f e =
    ap (λ n. cond (nat_lt n (length fs)) (Some n) None) first ∙ ap (λ b. cond b (Some k) None) (lt-ltb k (length fs) less)
  where
    less : k < length fs
    less = slice_get_within fs k f e

    before : (j : ℕ) → j < k → eqb (get_or fs j 0) f ≡ false
    before j lower = ne_eqb (get_or fs j 0) f (λ same.
        let here : slice_get fs j ≡ Some f = slice_get-get_or fs j 0 (omega (arith, lower, less)) ∙ ap Some same in
        let two : j ≡ k = once_get fs once j k f here e in
        absurd (omega (arith, two, lower)))

    first : position_or_len (λ g. g == f) fs ≡ k
    first = position_or_len_is (λ g. g == f) fs k 0 (omega (arith, less)) before (λ w. eq-eqb (get_or fs k 0) f (get_or_from_slice_get fs k f 0 e))

long_map : {X Y : Type 0} (f : X → Y) (xs : List X) → length (map f xs) ≡ length xs
long_map f [] = refl
long_map f (x ∷ xs) = ap suc (long_map f xs)

field_of : (fs : List ℕ) (k : ℕ) (s : Spot) → slice_get (map (λ f. spot.Field f) fs) k ≡ Some s → (f : ℕ) × (slice_get fs k ≡ Some f) × (spot.Field f ≡ s)
field_of [] k s e = absurd (none_some e)
field_of (f ∷ fs) zero s e = (f, refl, some_same e)
field_of (f ∷ fs) (suc k) s e = field_of fs k s e

spots : (t : Table) (of : ShapeOf) (parts : List Val) → HasPartsOf t of (length parts) → AreSpots t (record { of = of; parts = parts }) (spots_of t of (length parts))
spots t (shape.Size s) parts h = record {
  long = long_map (λ f. spot.Field f) (fields_of t s) ∙ h.1;
  places = λ k x e. let f = field_of (fields_of t s) k x e in ap (place_of t (shape.Size s)) (sym f.2) ∙ field_at (fields_of t s) h.0 k f.0 f.1;
}
spots t (shape.Array a) parts h = record {
  long = items_long a 0 (length parts);
  places = λ k x e.
      let same : 0 + k ≡ k = omega arith in
      ap (place_of t (shape.Array a)) (sym (item_of a 0 (length parts) k x e)) ∙ ap (λ b. cond b (Some (0 + k)) None) (eq-eqb a a refl) ∙ ap Some same;
}

pub shapes_have_spots : ShapesHaveSpots
shapes_have_spots t s h = spots t s.of s.parts h

-- Shapes of new objects

constant_is : (at : Place) (x : Value) → MapsAt at x x → ValIs at (constant x) x
constant_is at (v.Int z) m = (v.Int z, refl, m)
constant_is at v.Null m = (v.Null, refl, m)
constant_is at (v.Obj n) m = (v.Obj n, refl, m)

constants_are : (at : Place) (xs : List Value) → AllZip (MapsAt at) xs xs → AllZip (ValIs at) (map constant xs) xs
constants_are at [] m = tt
constants_are at (x ∷ xs) m = (constant_is at x m.0, constants_are at xs m.1)

pub new_shapes : NewShapes
new_shapes t at row n =
    let zeros = zeros_are_one t (slice_get at.mapped) row n in
    (constants_are at (zeroed t row).parts zeros.0, constants_are at (cleared t row n).parts zeros.1)
