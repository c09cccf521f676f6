-- What is found of boxes where their row says.
use Rattle.std.proofs.Common.{◌≡◌, ℕ, zero, suc, ◌+◌, ◌<◌, Bool, true, false, cond, List, [], ◌∷◌, length, map, Option, Some, None, refl, sym, ap, ◌∙◌, subst, arith, ℤ, pos, get_or}
use Rattle.std.specs.Prelude.{◌==◌, ◌||◌, not, nat_lt, slice_get, slice_index_or, position, option_and_then, is_some}
use Rattle.std.specs.List.{AllZip, position_or_len}
use Rattle.std.specs.Option.{option_map, unwrap_or}
use Rattle.std.specs.Ordering.{int_eq}
use Rattle.std.proofs.lemmas.Bool.{eqb-true, eq-eqb, lt-ltb}
use Rattle.std.proofs.lemmas.List.Quantifiers.{position-Some}
use Rattle.std.proofs.lemmas.Option.{slice_get-get_or, unwrap_or-slice_get}
use Rattle.lists.proofs.Options.{some_same, none_some}
use Rattle.trace_ops.specs.declared.table.Table.{Table}
use Rattle.trace_ops.specs.declared.trace.BoxId.{BoxId}
use Rattle.trace_ops.specs.declared.trace.Kind.{Kind}
use Rattle.trace_ops.specs.declared.trace.Kind.TheVariants as kind
use Rattle.target_base.specs.declared.place.Place.{Place}
use Rattle.target_base.specs.declared.place.Place.TheVariants.{In, Word}
use Rattle.target_base.specs.Arena.{Arena}
use Rattle.trace_meaning.specs.declared.value.Value.{Value}
use Rattle.trace_meaning.specs.declared.value.Value.TheVariants as v
use Rattle.trace_meaning.specs.declared.value.Object.{Object}
use Rattle.trace_meaning.specs.Kinds.{IsValueOf}
use Rattle.trace_meaning.specs.Values.{kind_of_value}
use Rattle.arena_objects.specs.Layout.{address_of, word_of}
use Rattle.arena_objects.specs.Standing.{IsPart, Stands}
use Rattle.arena_objects.specs.ReadBack.{or_zero}
use Rattle.arena_objects.specs.Walk.{object_at}
use Rattle.arena_objects.specs.Laws.{ReferencesAreTold}
use Rattle.resume_rebuild.specs.Rebuilding.{place_in, word_in}
use Rattle.resume_rebuild.specs.Standing.{BoxStands}
use Rattle.x64_machine.specs.State.{State}
use Rattle.asm_select.specs.Valued.{value, MayHold}
use Rattle.asm_select.specs.Chosen.{Where}
use Rattle.asm_select.specs.Ended.{BoxesStand, AreParts}
use Rattle.asm_select.specs.Exited.{saved_at}
use Rattle.session_host.specs.Entries.{is_address, or_else, stray_in}
use Rattle.session_host.specs.Showing.{kinds_at, words_at}
use Rattle.session_host.specs.Laws.{placed_at}

-- ---- words

zero_is : (o : Option ℤ) → or_zero o ≡ unwrap_or o (pos 0)
zero_is None = refl
zero_is (Some w) = refl

listed_is : (xs : List ℤ) (k : ℕ) → or_zero (slice_get xs k) ≡ slice_index_or xs k (pos 0)
listed_is xs k = zero_is (slice_get xs k) ∙ unwrap_or-slice_get xs k (pos 0)

pub saved_is : (s : State) (p : Place) → word_in s.frame (Some p) ≡ saved_at s p
saved_is s (In r) = listed_is s.frame r.0
saved_is s (Word k) = listed_is s.frame k

-- ---- the place of a number

-- a list that has one that passes tells a place
hit : {X : Type 0} (p : X → Bool) (xs : List X) (i : ℕ) (x : X) → slice_get xs i ≡ Some x → p x ≡ true → position_or_len p xs < length xs
hit p [] i x e h = absurd (none_some e)
hit {X} p (y ∷ ys) i x e h = by (p y) refl i e (λ j g. hit p ys j x g h)
  where
    by : (b : Bool) → p y ≡ b → (j : ℕ) → slice_get (y ∷ ys) j ≡ Some x → ((k : ℕ) → slice_get ys k ≡ Some x → position_or_len p ys < length ys) → cond (not b) (1 + position_or_len p ys) 0 < length (y ∷ ys)
    by true f j g rest = omega arith
    by false f zero g rest = let wrong : false ≡ true = sym f ∙ ap p (some_same g) ∙ h in cc
    by false f (suc j) g rest = omega (arith, rest j g)

missed : {X : Type 0} (p : X → Bool) (xs : List X) → position p xs ≡ None → position_or_len p xs < length xs → ⊥
missed p xs e w = by (nat_lt (position_or_len p xs) (length xs)) (lt-ltb (position_or_len p xs) (length xs) w) e
  where
    by : (b : Bool) → b ≡ true → cond b (Some (position_or_len p xs)) None ≡ None → ⊥
    by true f g = cc
    by false f g = cc

-- each of the places is that of its number
abbrev EachAt : Where → List (BoxId × Place) → Type 0
EachAt at places = (i : ℕ) (p : BoxId × Place) → slice_get places i ≡ Some p → p.1 ≡ at p.0.number

each_at : (at : Where) (bs : List BoxId) → EachAt at (map (placed_at at) bs)
each_at at [] i p e = absurd (none_some e)
each_at at (b ∷ bs) zero p e = (let same : placed_at at b ≡ p = some_same e in subst (λ (q : BoxId × Place). q.1 ≡ at q.0.number) same refl)
each_at at (b ∷ bs) (suc i) p e = each_at at bs i p e

place_found : (at : Where) (places : List (BoxId × Place)) (i : ℕ) (p : BoxId × Place) → EachAt at places → slice_get places i ≡ Some p → place_in places p.0.number ≡ Some (at p.0.number)
place_found at places i p each e = by_place (position test places) refl
  where
    test : BoxId × Place → Bool
    test q = q.0.number == p.0.number

    by_place : (o : Option ℕ) → position test places ≡ o → option_map (λ (q : BoxId × Place). q.1) (option_and_then (slice_get places) o) ≡ Some (at p.0.number)
    by_place None f = absurd (missed test places f (hit test places i p e (eq-eqb p.0.number p.0.number refl)))
    by_place (Some j) f =
        let told = position-Some test places j p f in
        let q = get_or places j p in
        let there : slice_get places j ≡ Some q = slice_get-get_or places j p told.0 in
        let number : q.0.number ≡ p.0.number = eqb-true q.0.number p.0.number told.1 in
        ap (option_map (λ (x : BoxId × Place). x.1)) there ∙ ap Some (each j q there ∙ ap at number)

-- ---- boxes

-- a value of its kind that is there
abbrev IsThereOf : ℕ → BoxId → Value → Type 0
IsThereOf n b x = IsPart n x × (kind_of_value x ≡ b.kind)

value_of_kind : (n : ℕ) (k : Kind) (x : Value) → IsPart n x → kind_of_value x ≡ k → IsValueOf n k x
value_of_kind n kind.Int (v.Int z) p e = tt
value_of_kind n kind.Int v.Null p e = cc
value_of_kind n kind.Int (v.Obj m) p e = cc
value_of_kind n kind.Ref (v.Int z) p e = cc
value_of_kind n kind.Ref v.Null p e = tt
value_of_kind n kind.Ref (v.Obj m) p e = p

some_of : {X : Type 0} {a b : X} → Some a ≡ Some b → a ≡ b
some_of h = cc

pub heads_same : {X : Type 0} (a b : X) (xs ys : List X) → (a ∷ xs) ≡ (b ∷ ys) → (a ≡ b) × (xs ≡ ys)
heads_same a b xs ys e = (cc, cc)

module _ (told : ReferencesAreTold) (t : Table) (objects : List Object) (arena : Arena) (st : Stands t objects arena) (at : Where) (s u : State) (saved : (p : Place) → MayHold p → saved_at s p ≡ value u p) (hold : (b : ℕ) → MayHold (at b)) where
  word_is : (b : BoxId) (x : Value) → value u (at b.number) ≡ word_of (address_of objects) x → word_in s.frame (Some (at b.number)) ≡ word_of (address_of objects) x
  word_is b x e = saved_is s (at b.number) ∙ saved (at b.number) (hold b.number) ∙ e

  -- each box stands, as rebuilding asks for it
  boxes_in : (places : List (BoxId × Place)) (bs : List BoxId) (vs : List Value) → EachAt at places → ((j : ℕ) (b : BoxId) → slice_get bs j ≡ Some b → (k : ℕ) × (slice_get places k ≡ Some (placed_at at b)))
      → BoxesStand at (address_of objects) u bs vs → AreParts (length objects) vs → map (λ (x : Value). Some (kind_of_value x)) vs ≡ map (λ (b : BoxId). Some b.kind) bs → AllZip (BoxStands objects places s.frame) bs vs
  boxes_in places [] [] each there h parts kinds = tt
  boxes_in places [] (x ∷ vs) each there h parts kinds = absurd h
  boxes_in places (b ∷ bs) [] each there h parts kinds = absurd h
  boxes_in places (b ∷ bs) (x ∷ vs) each there h parts kinds =
      let own = there 0 b refl in
      let same = heads_same (Some (kind_of_value x)) (Some b.kind) (map (λ (y : Value). Some (kind_of_value y)) vs) (map (λ (c : BoxId). Some c.kind) bs) kinds in
      let place : place_in places b.number ≡ Some (at b.number) = place_found at places own.0 (placed_at at b) each own.1 in
      let one : BoxStands objects places s.frame b x = record {
        word = ap (word_in s.frame) place ∙ word_is b x h.0;
        part = parts.0;
        kind = value_of_kind (length objects) b.kind x parts.0 (some_of same.0);
      } in
      (one, boxes_in places bs vs each (λ j c e. there (suc j) c e) h.1 parts.1 same.1)

  any_or : (b : Bool) → (b || true) ≡ true
  any_or true = refl
  any_or false = refl

  address_is : (b : BoxId) (x : Value) (w : ℤ) → w ≡ word_of (address_of objects) x → IsPart (length objects) x → kind_of_value x ≡ kind.Ref → is_address t arena w ≡ true
  address_is b (v.Int z) w e p k = absurd (cc)
  address_is b v.Null w e p k = ap (is_address t arena) e
  address_is b (v.Obj n) w e p k =
      let at_n = pos (address_of objects n) in
      let found : is_some (object_at t arena at_n) ≡ true = ap is_some (told t objects arena n st p) in
      ap (is_address t arena) e ∙ ap (λ (y : Bool). int_eq at_n (pos 0) || y) found ∙ any_or (int_eq at_n (pos 0))

  -- so no box's word is stray
  pub no_stray_box : (bs : List BoxId) (vs : List Value) → BoxesStand at (address_of objects) u bs vs → AreParts (length objects) vs → map (λ (x : Value). Some (kind_of_value x)) vs ≡ map (λ (b : BoxId). Some b.kind) bs
      → stray_in t arena (kinds_at (map (placed_at at) bs)) (words_at s.frame (map (placed_at at) bs)) ≡ None
  no_stray_box [] [] h parts kinds = refl
  no_stray_box [] (x ∷ vs) h parts kinds = absurd h
  no_stray_box (b ∷ bs) [] h parts kinds = absurd h
  no_stray_box (b ∷ bs) (x ∷ vs) h parts kinds =
      let same = heads_same (Some (kind_of_value x)) (Some b.kind) (map (λ (y : Value). Some (kind_of_value y)) vs) (map (λ (c : BoxId). Some c.kind) bs) kinds in
      by_kind b.kind (some_of same.0) (word_in s.frame (Some (at b.number))) (word_is b x h.0) (no_stray_box bs vs h.1 parts.1 same.1)
    where
      by_kind : (k : Kind) → kind_of_value x ≡ k → (w : ℤ) → w ≡ word_of (address_of objects) x
          → stray_in t arena (kinds_at (map (placed_at at) bs)) (words_at s.frame (map (placed_at at) bs)) ≡ None → stray_in t arena (k ∷ kinds_at (map (placed_at at) bs)) (w ∷ words_at s.frame (map (placed_at at) bs)) ≡ None
      by_kind kind.Int e w i rest = rest
      by_kind kind.Ref e w i rest =
          let later = stray_in t arena (kinds_at (map (placed_at at) bs)) (words_at s.frame (map (placed_at at) bs)) in
          ap (λ (y : Bool). or_else y w later) (address_is b x w i parts.0 e) ∙ rest

pub stand_at_places : (at : Where) (bs : List BoxId) (j : ℕ) (b : BoxId) → slice_get bs j ≡ Some b → (k : ℕ) × (slice_get (map (placed_at at) bs) k ≡ Some (placed_at at b))
stand_at_places at [] j b e = absurd (none_some e)
stand_at_places at (c ∷ bs) zero b e = (let same : c ≡ b = some_same e in (0, ap (λ (x : BoxId). Some (placed_at at x)) same))
stand_at_places at (c ∷ bs) (suc j) b e = (let rest = stand_at_places at bs j b e in (suc rest.0, rest.1))

-- the boxes of a row stand as rebuilding asks for them
pub row_stands : (told : ReferencesAreTold) (t : Table) (objects : List Object) (arena : Arena) → Stands t objects arena → (at : Where) (s u : State) → ((p : Place) → MayHold p → saved_at s p ≡ value u p) → ((b : ℕ) → MayHold (at b)) → (bs : List BoxId) (vs : List Value)
    → BoxesStand at (address_of objects) u bs vs → AreParts (length objects) vs → map (λ (x : Value). Some (kind_of_value x)) vs ≡ map (λ (b : BoxId). Some b.kind) bs → AllZip (BoxStands objects (map (placed_at at) bs) s.frame) bs vs
row_stands told t objects arena st at s u saved hold bs vs h parts kinds =
    boxes_in told t objects arena st at s u saved hold (map (placed_at at) bs) bs vs (each_at at bs) (stand_at_places at bs) h parts kinds
