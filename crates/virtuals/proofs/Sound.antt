-- Changes keep shapes sound.
use Rattle.std.proofs.Common.{◌≡◌, ◌≢◌, ℕ, zero, suc, ◌<◌, ◌^◌, Bool, true, false, cond, eqb, List, [], ◌∷◌, ◌++◌, Option, Some, None, length, slice_get, slice_set, IsSome, map, refl, ap, sym, subst, ◌∙◌, ◌⊎◌, inl, inr, arith}
use Rattle.std.specs.Option.{option_map}
use Rattle.std.specs.List.{All}
use Rattle.std.proofs.lemmas.Bool.{eqb-false}
use Rattle.std.proofs.lemmas.Bool.Decides.{eqb_tells}
use Rattle.std.proofs.lemmas.Option.{slice_get-map}
use Rattle.std.proofs.lemmas.List.{length-map}
use Rattle.std.proofs.Common.{length-set}
use Rattle.trace_ops.specs.declared.trace.Kind.{Kind}
use Rattle.trace_ops.specs.declared.trace.Kind.TheVariants as k
use Rattle.trace_ops.specs.declared.trace.BoxId.{BoxId}
use Rattle.trace_ops.specs.declared.trace.Arg.TheVariants as a
use Rattle.trace_ops.specs.declared.table.ShapeOf.{ShapeOf}
use Rattle.trace_ops.specs.declared.piece.Val.{Val}
use Rattle.trace_ops.specs.declared.piece.Val.TheVariants as l
use Rattle.trace_ops.specs.declared.piece.Shape.{Shape}
use Rattle.virtuals.specs.Shapes.{Has, zero_of, fresh, parts_in, parts_of, part_at, put_in, put_part, set_part, instead, renamed, forced, AreShapes, IsLive, IsMade, IsSound}
use Rattle.trace_ops.specs.Lawful.{IsNumbered}
use Rattle.virtuals.proofs.Lists.{get_push, get_some, has_get, all_at}

-- the slot at a number, in the changed list
slot_push : {X : Type 0} (xs : List X) (x : X) (n : ℕ) → (slice_get (xs ++ x ∷ []) n ≡ slice_get xs n) ⊎ (slice_get (xs ++ x ∷ []) n ≡ Some x)
slot_push [] x zero = inr refl
slot_push [] x (suc n) = inl refl
slot_push (y ∷ ys) x zero = inl refl
slot_push (y ∷ ys) x (suc n) = slot_push ys x n

pub get_set_same : {X : Type 0} (xs : List X) (i : ℕ) (x y : X) → slice_get xs i ≡ Some x → slice_get (slice_set xs i y) i ≡ Some y
get_set_same [] i x y h = cc
get_set_same (z ∷ zs) zero x y h = refl
get_set_same (z ∷ zs) (suc i) x y h = get_set_same zs i x y h

pub get_set_other : {X : Type 0} (xs : List X) (i n : ℕ) (y : X) → n ≢ i → slice_get (slice_set xs i y) n ≡ slice_get xs n
get_set_other [] i n y ne = refl
get_set_other (z ∷ zs) zero zero y ne = absurd (ne refl)
get_set_other (z ∷ zs) zero (suc n) y ne = refl
get_set_other (z ∷ zs) (suc i) zero y ne = refl
get_set_other (z ∷ zs) (suc i) (suc n) y ne = get_set_other zs i n y (λ e. ne (ap suc e))

-- a part of a fresh object names none
pub zeros_name_none : (kinds : List Kind) (m : ℕ) → Has (map zero_of kinds) (l.Virtual m) → ⊥
zeros_name_none [] m h = h
zeros_name_none (k.Int ∷ ks) m (inl e) = cc
zeros_name_none (k.Ref ∷ ks) m (inl e) = cc
zeros_name_none (k.Int ∷ ks) m (inr h) = zeros_name_none ks m h
zeros_name_none (k.Ref ∷ ks) m (inr h) = zeros_name_none ks m h

pub sound_make : (shapes : List (Option Shape)) (of : ShapeOf) (kinds : List Kind) → IsSound shapes → length kinds < 2 ^ 32 → IsSound (shapes ++ Some (fresh of kinds) ∷ [])
sound_make shapes of kinds h few = record {
  closed = λ n m w. let live : IsLive shapes m = elim (slot_push shapes (Some (fresh of kinds)) n) [
    | inl e ↦ h.closed n m (subst (λ o. Has (parts_in o) (l.Virtual m)) e w)
    | inr e ↦ absurd (zeros_name_none kinds m (subst (λ o. Has (parts_in o) (l.Virtual m)) e w))
  ] in
      (live.0, get_push shapes (Some (fresh of kinds)) m (Some live.0) live.1);
  short = λ n. elim (slot_push shapes (Some (fresh of kinds)) n) [
    | inl e ↦ subst (λ o. length (parts_in o) < 2 ^ 32) (sym e) (h.short n)
    | inr e ↦ subst (λ o. length (parts_in o) < 2 ^ 32) (sym e) (subst (λ c. c < 2 ^ 32) (sym (length-map kinds zero_of)) few)
  ];
}

has_set : {X : Type 0} (xs : List X) (i : ℕ) (x y : X) → Has (slice_set xs i x) y → Has xs y ⊎ (x ≡ y)
has_set [] i x y h = absurd h
has_set (z ∷ zs) zero x y (inl e) = inr e
has_set (z ∷ zs) zero x y (inr h) = inl (inr h)
has_set (z ∷ zs) (suc i) x y (inl e) = inl (inl e)
has_set (z ∷ zs) (suc i) x y (inr h) = elim (has_set zs i x y h) [ inl w ↦ inl (inr w) | inr e ↦ inr e ]

-- one shape is replaced: what its parts name was named before, or is live
module _ (shapes : List (Option Shape)) (id : ℕ) (old new : Shape) (at : slice_get shapes id ≡ Some (Some old)) where
  live_set : (m : ℕ) → IsLive shapes m → IsLive (slice_set shapes id (Some new)) m
  live_set m live = elim (eqb_tells m id) [
    | inl t ↦ (new, ap (slice_get (slice_set shapes id (Some new))) t.1 ∙ get_set_same shapes id (Some old) (Some new) at)
    | inr t ↦ (live.0, get_set_other shapes id m (Some new) t.1 ∙ live.1)
  ]

  pub sound_set : IsSound shapes → ((m : ℕ) → Has new.parts (l.Virtual m) → IsLive shapes m) → length new.parts < 2 ^ 32 → IsSound (slice_set shapes id (Some new))
  sound_set h named few = record {
    closed = λ n m w. live_set m (elim (eqb_tells n id) [
      | inl t ↦ named m (subst (λ o. Has (parts_in o) (l.Virtual m)) (ap (slice_get (slice_set shapes id (Some new))) t.1 ∙ get_set_same shapes id (Some old) (Some new) at) w)
      | inr t ↦ h.closed n m (subst (λ o. Has (parts_in o) (l.Virtual m)) (get_set_other shapes id n (Some new) t.1) w)
    ]);
    short = λ n. elim (eqb_tells n id) [
      | inl t ↦ subst (λ o. length (parts_in o) < 2 ^ 32) (sym (ap (slice_get (slice_set shapes id (Some new))) t.1 ∙ get_set_same shapes id (Some old) (Some new) at)) few
      | inr t ↦ subst (λ o. length (parts_in o) < 2 ^ 32) (sym (get_set_other shapes id n (Some new) t.1)) (h.short n)
    ];
  }

pub sound_part : (shapes : List (Option Shape)) (id part : ℕ) (value : Val) (old : Shape) → slice_get shapes id ≡ Some (Some old) → IsMade shapes value → IsSound shapes
    → IsSound (slice_set shapes id (Some (set_part part value old)))
sound_part shapes id part value old at made h =
    let was : (m : ℕ) → Has old.parts (l.Virtual m) → IsLive shapes m = λ m w. h.closed id m (subst (λ o. Has (parts_in o) (l.Virtual m)) (sym at) w) in
    let few : length old.parts < 2 ^ 32 = subst (λ o. length (parts_in o) < 2 ^ 32) at (h.short id) in
    sound_set shapes id old (set_part part value old) at h
    (λ m w. elim (has_set old.parts part value (l.Virtual m) w) [ inl v ↦ was m v | inr e ↦ subst (IsMade shapes) e made ])
    (subst (λ c. c < 2 ^ 32) (sym (length-set old.parts part value)) few)

virtual_same : (n m : ℕ) → l.Virtual n ≡ l.Virtual m → n ≡ m
virtual_same n m e = cc

-- the box in place of a virtual object
renamed_names : (id : ℕ) (to : BoxId) (xs : List Val) (m : ℕ) → Has (map (instead id to) xs) (l.Virtual m) → Has xs (l.Virtual m) × (m ≢ id)
renamed_names id to [] m h = absurd h
renamed_names id to (l.Known x ∷ xs) m (inl e) = cc
renamed_names id to (l.Known x ∷ xs) m (inr h) = let r = renamed_names id to xs m h in (inr r.0, r.1)
renamed_names id to (l.Virtual n ∷ xs) m (inr h) = let r = renamed_names id to xs m h in (inr r.0, r.1)
renamed_names id to (l.Virtual n ∷ xs) m (inl e) = by (eqb n id) refl e
  where
    by : (b : Bool) → eqb n id ≡ b → cond b (l.Known (a.Of to)) (l.Virtual n) ≡ l.Virtual m → Has (l.Virtual n ∷ xs) (l.Virtual m) × (m ≢ id)
    by true t e = cc
    by false t e = (inl e, λ q. eqb-false n id t (virtual_same n m e ∙ q))

pub named_forced : (id : ℕ) (to : BoxId) (o : Option (Option Shape)) (m : ℕ) → Has (parts_in (option_map (option_map (renamed id to)) o)) (l.Virtual m) → Has (parts_in o) (l.Virtual m) × (m ≢ id)
named_forced id to None m h = absurd h
named_forced id to (Some None) m h = absurd h
named_forced id to (Some (Some shape)) m h = renamed_names id to shape.parts m h

short_forced : (id : ℕ) (to : BoxId) (o : Option (Option Shape)) → length (parts_in o) < 2 ^ 32 → length (parts_in (option_map (option_map (renamed id to)) o)) < 2 ^ 32
short_forced id to None h = h
short_forced id to (Some None) h = h
short_forced id to (Some (Some shape)) h = subst (λ c. c < 2 ^ 32) (sym (length-map shape.parts (instead id to))) h

pub sound_forced : (shapes : List (Option Shape)) (id : ℕ) (to : BoxId) → IsLive shapes id → IsSound shapes → IsSound (forced id to shapes)
sound_forced shapes id to live h = record {
  closed = λ n m w. elim (eqb_tells n id) [
    | inl t ↦ absurd (subst (λ o. Has (parts_in o) (l.Virtual m)) (ap (slice_get (forced id to shapes)) t.1 ∙ here) w)
    | inr t ↦ kept n m (named_forced id to (slice_get shapes n) m (subst (λ o. Has (parts_in o) (l.Virtual m)) (there n t.1) w))
  ];
  short = λ n. elim (eqb_tells n id) [
    | inl t ↦ subst (λ o. length (parts_in o) < 2 ^ 32) (sym (ap (slice_get (forced id to shapes)) t.1 ∙ here)) (omega arith)
    | inr t ↦ subst (λ o. length (parts_in o) < 2 ^ 32) (sym (there n t.1)) (short_forced id to (slice_get shapes n) (h.short n))
  ];
}
  where
    here : slice_get (forced id to shapes) id ≡ Some None
    here = get_set_same (map (option_map (renamed id to)) shapes) id (Some (renamed id to live.0)) None (slice_get-map (option_map (renamed id to)) shapes id ∙ ap (option_map (option_map (renamed id to))) live.1)

    there : (n : ℕ) → n ≢ id → slice_get (forced id to shapes) n ≡ option_map (option_map (renamed id to)) (slice_get shapes n)
    there n ne = get_set_other (map (option_map (renamed id to)) shapes) id n None ne ∙ slice_get-map (option_map (renamed id to)) shapes n

    kept : (n m : ℕ) → Has (parts_of shapes n) (l.Virtual m) × (m ≢ id) → IsLive (forced id to shapes) m
    kept n m named = let was = h.closed n m named.0 in (renamed id to was.0, there m named.1 ∙ ap (option_map (option_map (renamed id to))) was.1)

-- what has a part has a shape
pub live_part : (shapes : List (Option Shape)) (n k : ℕ) → IsSome (part_at shapes n k) → IsLive shapes n
live_part shapes n k h = by (slice_get shapes n) refl h
  where
    by : (o : Option (Option Shape)) → slice_get shapes n ≡ o → IsSome (slice_get (parts_in o) k) → IsLive shapes n
    by None e h = cc
    by (Some None) e h = cc
    by (Some (Some shape)) e h = (shape, e)

pub put_live : (shapes : List (Option Shape)) (n k : ℕ) (value : Val) (old : Shape) → slice_get shapes n ≡ Some (Some old) → put_part n k value shapes ≡ slice_set shapes n (Some (set_part k value old))
put_live shapes n k value old at = ap (put_in n k value shapes) at

get_last : {X : Type 0} (xs : List X) (x : X) → slice_get (xs ++ x ∷ []) (length xs) ≡ Some x
get_last [] x = refl
get_last (z ∷ zs) x = get_last zs x

-- what is live after a change
pub live_made : (old new : List (Option Shape)) (shape : Shape) (n : ℕ) → new ≡ old ++ Some shape ∷ [] → n ≡ length old → IsLive new n
live_made old new shape n e at = (shape, ap (λ s. slice_get s n) e ∙ ap (slice_get (old ++ Some shape ∷ [])) at ∙ get_last old (Some shape))

pub live_kept : (old new : List (Option Shape)) (slot : Option Shape) (n : ℕ) → new ≡ old ++ slot ∷ [] → IsLive old n → IsLive new n
live_kept old new slot n e live = (live.0, ap (λ s. slice_get s n) e ∙ get_push old slot n (Some live.0) live.1)

pub live_put : (old new : List (Option Shape)) (n k : ℕ) (value : Val) (m : ℕ) → new ≡ put_part n k value old → IsLive old m → IsLive new m
live_put old new n k value m e live = by (slice_get old n) refl
  where
    by : (o : Option (Option Shape)) → slice_get old n ≡ o → IsLive new m
    by None a = (live.0, ap (λ s. slice_get s m) (e ∙ ap (put_in n k value old) a) ∙ live.1)
    by (Some None) a = (live.0, ap (λ s. slice_get s m) (e ∙ ap (put_in n k value old) a) ∙ get_set_other old n m None (λ q. absurd (apart (sym live.1 ∙ ap (slice_get old) q ∙ a))) ∙ live.1)
      where
        apart : Some (Some live.0) ≡ Some None → ⊥
        apart w = cc
    by (Some (Some shape)) a =
        let s = live_set old n shape (set_part k value shape) a m live in (s.0, ap (λ s. slice_get s m) (e ∙ ap (put_in n k value old) a) ∙ s.1)

pub live_forced : (shapes : List (Option Shape)) (id : ℕ) (to : BoxId) (n : ℕ) → n ≢ id → IsLive shapes n → IsLive (forced id to shapes) n
live_forced shapes id to n ne live = (
  renamed id to live.0,
  get_set_other (map (option_map (renamed id to)) shapes) id n None ne ∙ slice_get-map (option_map (renamed id to)) shapes n ∙ ap (option_map (option_map (renamed id to))) live.1,
)

-- shapes as they stand at an entry
module _ (shapes : List Shape) where
  some_at : (n : ℕ) → n < length shapes → (shape : Shape) × (slice_get (map Some shapes) n ≡ Some (Some shape))
  some_at n h = let at = get_some shapes n h in (at.0, slice_get-map Some shapes n ∙ ap (option_map Some) at.1)

  pub live_all : (n : ℕ) → n < length shapes → IsLive (map Some shapes) n
  live_all n h = some_at n h

  -- what every shape meets
  each_meets : (P : List Val → Type 0) → P [] → ((n : ℕ) (shape : Shape) → slice_get shapes n ≡ Some shape → P shape.parts) → (n : ℕ) → P (parts_of (map Some shapes) n)
  each_meets P none each n = by (slice_get shapes n) refl
    where
      by : (o : Option Shape) → slice_get shapes n ≡ o → P (parts_of (map Some shapes) n)
      by None e = subst (λ (o : Option (Option Shape)). P (parts_in o)) (sym (slice_get-map Some shapes n ∙ ap (option_map Some) e)) none
      by (Some shape) e = subst (λ (o : Option (Option Shape)). P (parts_in o)) (sym (slice_get-map Some shapes n ∙ ap (option_map Some) e)) (each n shape e)

  pub sound_all : AreShapes shapes → IsSound (map Some shapes)
  sound_all h = record {
    closed = λ n m. each_meets (λ (ps : List Val). Has ps (l.Virtual m) → IsLive (map Some shapes) m) (λ w. absurd w)
        (λ j shape at w. live_all m (all_at (IsNumbered (length shapes)) shape.parts (l.Virtual m) (all_at (λ (s : Shape). All (IsNumbered (length shapes)) s.parts) shapes shape h.numbered (has_get shapes j shape at)) w)) n;
    short = each_meets (λ (ps : List Val). length ps < 2 ^ 32) (omega arith) (λ j shape at. all_at (λ (s : Shape). length s.parts < 2 ^ 32) shapes shape h.short (has_get shapes j shape at));
  }
