-- How many parts name a virtual object, after changes.
use Rattle.std.proofs.Common.{◌≡◌, ◌≢◌, ℕ, zero, suc, ◌+◌, ◌-◌, ◌<◌, ◌≤◌, ◌^◌, Bool, true, false, cond, eqb, List, [], ◌∷◌, ◌++◌, Option, Some, None, length, slice_get, get_or, slice_set, length-set, map, take, drop, refl, ap, sym, subst, ◌∙◌, inl, inr, arith}
use Rattle.std.specs.List.{All}
use Rattle.std.specs.Option.{option_map}
use Rattle.std.proofs.lemmas.Bool.{cases_lt}
use Rattle.std.proofs.lemmas.Bool.Decides.{eqb_tells}
use Rattle.std.proofs.lemmas.List.{get_or-set_same, get_or-set_other, length_push, length-map, take_more, at_drop_more}
use Rattle.trace_ops.specs.declared.trace.Kind.{Kind}
use Rattle.trace_ops.specs.declared.trace.BoxId.{BoxId}
use Rattle.trace_ops.specs.declared.trace.Arg.TheVariants as a
use Rattle.trace_ops.specs.declared.table.ShapeOf.{ShapeOf}
use Rattle.trace_ops.specs.declared.piece.Val.{Val}
use Rattle.trace_ops.specs.declared.piece.Val.TheVariants as l
use Rattle.trace_ops.specs.declared.piece.Shape.{Shape}
use Rattle.trace_ops.specs.Lawful.{IsNumbered}
use Rattle.virtuals.specs.Shapes.{Has, AreShapes, fresh, zero_of, parts_of, parts_in, instead, renamed, IsLive, IsMade, IsSound}
use Rattle.virtuals.specs.Order.{IsBelow, AreBelow}
use Rattle.virtuals.specs.Namings.{naming, namings_in, namings_of, namings, IsAtLeast, Raises, Lowers, AreCounted, counts_without, counts_without_all}
use Rattle.virtuals.proofs.Sound.{zeros_name_none}
use Rattle.virtuals.proofs.Marks.{live_below, parts_below}
use Rattle.virtuals.proofs.Lists.{has_get, all_at}
use Rattle.std.proofs.lemmas.Option.{slice_get-get_or}

-- ---- counts

pub at_least_less : (c n k : ℕ) → IsAtLeast c n → k ≤ n → IsAtLeast c k
at_least_less c n k (inl h) w = inl (omega (arith, h, w))
at_least_less c n k (inr h) w = inr h

pub at_least_raised : (c n : ℕ) → c + 1 < 2 ^ 32 → IsAtLeast c n → IsAtLeast (c + 1) (n + 1)
at_least_raised c n w (inl h) = inl (omega (arith, h))
at_least_raised c n w (inr h) = absurd (omega (arith, w, h))

pub at_least_full : (c n k : ℕ) → c < 2 ^ 32 → 2 ^ 32 ≤ c + 1 → IsAtLeast c n → IsAtLeast c k
at_least_full c n k w h _w = inr (omega (arith, w, h))

pub at_least_lowered : (c n : ℕ) → 0 < c → c + 1 < 2 ^ 32 → IsAtLeast c (n + 1) → IsAtLeast (c - 1) n
at_least_lowered c n some w (inl h) = inl (omega (arith, h, some))
at_least_lowered c n some w (inr h) = absurd (omega (arith, w, h))

pub at_least_empty : (c n : ℕ) → c ≡ 0 → IsAtLeast c (n + 1) → IsAtLeast c n
at_least_empty c n none (inl h) = absurd (omega (arith, h, none))
at_least_empty c n none (inr h) = inr h

pub at_least_none : (c n : ℕ) → c ≡ 0 → IsAtLeast c n → n ≡ 0
at_least_none c n none (inl h) = omega (arith, h, none)
at_least_none c n none (inr h) = absurd (omega (arith, h, none))

naming_same : (m n : ℕ) → m ≡ n → naming m (l.Virtual n) ≡ 1
naming_same m n e = elim (eqb_tells n m) [ inl t ↦ ap (λ (b : Bool). cond b 1 0) t.0 | inr t ↦ absurd (t.1 (sym e)) ]

naming_other : (m n : ℕ) → m ≢ n → naming m (l.Virtual n) ≡ 0
naming_other m n ne = elim (eqb_tells n m) [ inl t ↦ absurd (ne (sym t.1)) | inr t ↦ ap (λ (b : Bool). cond b 1 0) t.0 ]

pub raises_set : (counts : List ℕ) (id c : ℕ) → id < length counts → ((n : ℕ) → IsAtLeast (get_or counts id 0) n → IsAtLeast c (n + 1)) → Raises counts (slice_set counts id c) (l.Virtual id)
raises_set counts id c in' h m n w had = elim (eqb_tells m id) [
  | inl t ↦
      let here : get_or (slice_set counts id c) m 0 ≡ c = ap (λ j. get_or (slice_set counts id c) j 0) t.1 ∙ get_or-set_same counts id c 0 in' in
      let one : n + 1 ≡ n + naming m (l.Virtual id) = ap (λ k. n + k) (sym (naming_same m id t.1)) in
      subst (λ k. IsAtLeast k (n + naming m (l.Virtual id))) (sym here) (subst (IsAtLeast c) one (h n (subst (λ j. IsAtLeast (get_or counts j 0) n) t.1 had)))
  | inr t ↦
      let none : n ≡ n + naming m (l.Virtual id) = omega (arith, naming_other m id t.1) in
      subst (λ k. IsAtLeast k (n + naming m (l.Virtual id))) (sym (get_or-set_other counts id m c 0 t.1)) (subst (IsAtLeast (get_or counts m 0)) none had)
]

pub lowers_set : (counts : List ℕ) (id c : ℕ) → id < length counts → ((n : ℕ) → IsAtLeast (get_or counts id 0) (n + 1) → IsAtLeast c n) → Lowers counts (slice_set counts id c) (l.Virtual id ∷ [])
lowers_set counts id c in' h m n w had = elim (eqb_tells m id) [
  | inl t ↦
      let here : get_or (slice_set counts id c) m 0 ≡ c = ap (λ j. get_or (slice_set counts id c) j 0) t.1 ∙ get_or-set_same counts id c 0 in' in
      let one : n + (naming m (l.Virtual id) + 0) ≡ n + 1 = omega (arith, naming_same m id t.1) in
      subst (λ k. IsAtLeast k n) (sym here) (h n (subst (λ j. IsAtLeast (get_or counts j 0) (n + 1)) t.1 (subst (IsAtLeast (get_or counts m 0)) one had)))
  | inr t ↦
      let none : n + (naming m (l.Virtual id) + 0) ≡ n = omega (arith, naming_other m id t.1) in
      subst (λ k. IsAtLeast k n) (sym (get_or-set_other counts id m c 0 t.1)) (subst (IsAtLeast (get_or counts m 0)) none had)
]

pub raises_none : (counts : List ℕ) (x : _) → Raises counts counts (l.Known x)
raises_none counts x m n w had = subst (IsAtLeast (get_or counts m 0)) (omega arith) had

pub lowers_none : (counts : List ℕ) (x : _) → Lowers counts counts (l.Known x ∷ [])
lowers_none counts x m n w had = subst (IsAtLeast (get_or counts m 0)) (omega arith) had

-- ---- what is named

has_naming : (xs : List Val) (m : ℕ) → Has xs (l.Virtual m) → 1 ≤ namings_in m xs
has_naming [] m h = absurd h
has_naming (x ∷ xs) m (inl e) = let one : naming m x ≡ 1 = ap (naming m) e ∙ naming_same m m refl in omega (arith, one)
has_naming (x ∷ xs) m (inr h) = omega (arith, has_naming xs m h)

none_in : (xs : List Val) (m : ℕ) → (Has xs (l.Virtual m) → ⊥) → namings_in m xs ≡ 0
none_in [] m h = refl
none_in (l.Known x ∷ xs) m h = omega (arith, none_in xs m (λ w. h (inr w)))
none_in (l.Virtual n ∷ xs) m h =
    let none = naming_other m n (λ e. h (inl (ap l.Virtual (sym e)))) in
    omega (arith, none, none_in xs m (λ w. h (inr w)))

pub none_of : (shapes : List (Option Shape)) (m : ℕ) → ((n : ℕ) → Has (parts_of shapes n) (l.Virtual m) → ⊥) → namings m shapes ≡ 0
none_of [] m h = refl
none_of (None ∷ ss) m h = omega (arith, none_of ss m (λ n w. h (suc n) w))
none_of (Some s ∷ ss) m h = omega (arith, none_in s.parts m (h 0), none_of ss m (λ n w. h (suc n) w))

pub fresh_names_none : (of : ShapeOf) (kinds : List Kind) (m : ℕ) → namings_of m (Some (fresh of kinds)) ≡ 0
fresh_names_none of kinds m = none_in (map zero_of kinds) m (zeros_name_none kinds m)

pub namings-push : (shapes : List (Option Shape)) (s : Option Shape) (m : ℕ) → namings m (shapes ++ s ∷ []) ≡ namings m shapes + namings_of m s
namings-push [] s m = omega arith
namings-push (x ∷ xs) s m = omega (arith, namings-push xs s m)

pub namings-set : (shapes : List (Option Shape)) (n : ℕ) (was s : Option Shape) (m : ℕ) → slice_get shapes n ≡ Some was
    → namings m (slice_set shapes n s) + namings_of m was ≡ namings m shapes + namings_of m s
namings-set [] n was s m h = cc
namings-set (x ∷ xs) zero was s m h = let same : namings_of m x ≡ namings_of m was = ap (namings_of m) (some_is h) in omega (arith, same)
  where
    some_is : {X : Type 0} {x y : X} → Some x ≡ Some y → x ≡ y
    some_is h = cc
namings-set (x ∷ xs) (suc n) was s m h = omega (arith, namings-set xs n was s m h)

pub namings_in-set : (xs : List Val) (k : ℕ) (was v : Val) (m : ℕ) → slice_get xs k ≡ Some was → namings_in m (slice_set xs k v) + naming m was ≡ namings_in m xs + naming m v
namings_in-set [] k was v m h = cc
namings_in-set (x ∷ xs) zero was v m h = let same : naming m x ≡ naming m was = ap (naming m) (some_is h) in omega (arith, same)
  where
    some_is : {X : Type 0} {x y : X} → Some x ≡ Some y → x ≡ y
    some_is h = cc
namings_in-set (x ∷ xs) (suc k) was v m h = omega (arith, namings_in-set xs k was v m h)

-- ---- a box in place of a virtual object

naming-instead : (id : ℕ) (to : BoxId) (m : ℕ) (x : Val) → naming m (instead id to x) ≤ naming m x
naming-instead id to m (l.Known x) = omega arith
naming-instead id to m (l.Virtual n) = by (eqb n id)
  where
    by : (b : Bool) → naming m (cond b (l.Known (a.Of to)) (l.Virtual n)) ≤ naming m (l.Virtual n)
    by true = omega arith
    by false = omega arith

namings_in-instead : (id : ℕ) (to : BoxId) (m : ℕ) (xs : List Val) → namings_in m (map (instead id to) xs) ≤ namings_in m xs
namings_in-instead id to m [] = omega arith
namings_in-instead id to m (x ∷ xs) = omega (arith, naming-instead id to m x, namings_in-instead id to m xs)

pub namings-renamed : (id : ℕ) (to : BoxId) (m : ℕ) (shapes : List (Option Shape)) → namings m (map (option_map (renamed id to)) shapes) ≤ namings m shapes
namings-renamed id to m [] = omega arith
namings-renamed id to m (None ∷ ss) = omega (arith, namings-renamed id to m ss)
namings-renamed id to m (Some s ∷ ss) = omega (arith, namings_in-instead id to m s.parts, namings-renamed id to m ss)

unnamed_part : (id : ℕ) (to : BoxId) (x : Val) → naming id x ≡ 0 → instead id to x ≡ x
unnamed_part id to (l.Known x) h = refl
unnamed_part id to (l.Virtual n) h = elim (eqb_tells n id) [
  | inl t ↦ let one = naming_same id n (sym t.1) in absurd (omega (arith, one, h))
  | inr t ↦ ap (λ (b : Bool). cond b (l.Known (a.Of to)) (l.Virtual n)) t.0
]

unnamed_parts : (id : ℕ) (to : BoxId) (xs : List Val) → namings_in id xs ≡ 0 → map (instead id to) xs ≡ xs
unnamed_parts id to [] h = refl
unnamed_parts id to (x ∷ xs) h =
    ap (λ (y : Val). y ∷ map (instead id to) xs) (unnamed_part id to x (omega (arith, h)))
    ∙ ap (λ (ys : List Val). x ∷ ys) (unnamed_parts id to xs (omega (arith, h)))

pub unnamed_all : (id : ℕ) (to : BoxId) (shapes : List (Option Shape)) → namings id shapes ≡ 0 → map (option_map (renamed id to)) shapes ≡ shapes
unnamed_all id to [] h = refl
unnamed_all id to (None ∷ ss) h = ap (λ (ts : List (Option Shape)). None ∷ ts) (unnamed_all id to ss (omega (arith, h)))
unnamed_all id to (Some s ∷ ss) h =
    ap (λ (ps : List Val). Some (record { of = s.of; parts = ps }) ∷ map (option_map (renamed id to)) ss) (unnamed_parts id to s.parts (omega (arith, h)))
    ∙ ap (λ (ts : List (Option Shape)). Some s ∷ ts) (unnamed_all id to ss (omega (arith, h)))

-- ---- counts of shapes

get_or-left : (xs : List ℕ) (x k : ℕ) → k < length xs → get_or (xs ++ x ∷ []) k 0 ≡ get_or xs k 0
get_or-left [] x k h = absurd (omega (arith, h))
get_or-left (y ∷ ys) x zero h = refl
get_or-left (y ∷ ys) x (suc k) h = get_or-left ys x k (omega (arith, h))

-- one more count
pub counted_room : (shapes : List (Option Shape)) (counts : List ℕ) (c : ℕ) → AreCounted shapes counts → AreCounted shapes (counts ++ c ∷ [])
counted_room shapes counts c h = record {
  room = omega (arith, h.room, length_push counts c);
  each = λ m w. subst (λ k. IsAtLeast k (namings m shapes)) (sym (get_or-left counts c m (omega (arith, w, h.room)))) (h.each m w);
}

-- one more object
pub counted_push : (shapes : List (Option Shape)) (counts : List ℕ) (c : ℕ) (s : Option Shape) → IsSound shapes → AreCounted shapes counts → ((m : ℕ) → namings_of m s ≡ 0)
    → AreCounted (shapes ++ s ∷ []) (counts ++ c ∷ [])
counted_push shapes counts c s sound h none = record {
  room = omega (arith, h.room, length_push counts c, length_push shapes s);
  each = λ m w. elim (cases_lt m (length shapes)) [
    | inl low ↦
        let same : namings m shapes ≡ namings m (shapes ++ s ∷ []) = omega (arith, namings-push shapes s m, none m) in
        subst (IsAtLeast (get_or (counts ++ c ∷ []) m 0)) same ((counted_room shapes counts c h).each m low)
    | inr high ↦
        let zero : namings m shapes ≡ 0 = none_of shapes m (λ n has. let live = sound.closed n m has in absurd (omega (arith, live_below shapes m live, high))) in
        inl (omega (arith, namings-push shapes s m, none m, zero))
  ];
}

-- other parts
pub counted_change : (shapes news : List (Option Shape)) (counts mid last : List ℕ) (part was : Val) → AreCounted shapes counts → length news ≡ length shapes
    → Raises counts mid part → length mid ≡ length counts → Lowers mid last (was ∷ []) → length last ≡ length mid
    → ((m : ℕ) → namings m news + naming m was ≡ namings m shapes + naming m part) → AreCounted news last
counted_change shapes news counts mid last part was h same raises len_mid lowers len_last sums = record {
  room = omega (arith, h.room, same, len_mid, len_last);
  each = λ m w.
      let low : m < length shapes = omega (arith, w, same) in
      let more = raises m (namings m shapes) (omega (arith, low, h.room)) (h.each m low) in
      let sum : namings m shapes + naming m part ≡ namings m news + (naming m was + 0) = omega (arith, sums m) in
      lowers m (namings m news) (omega (arith, low, h.room, len_mid)) (subst (IsAtLeast (get_or mid m 0)) sum more);
}

-- a forced object
pub counted_forced : (shapes : List (Option Shape)) (id : ℕ) (was : Option Shape) (counts last : List ℕ) → AreCounted shapes counts → slice_get shapes id ≡ Some was
    → ((m n : ℕ) → m < length counts → IsAtLeast (get_or counts m 0) (n + namings_of m was) → IsAtLeast (get_or last m 0) n) → length last ≡ length counts
    → AreCounted (slice_set shapes id None) last
counted_forced shapes id was counts last h at lowers len = record {
  room = omega (arith, h.room, len, length-set shapes id None);
  each = λ m w.
      let low : m < length shapes = omega (arith, w, length-set shapes id None) in
      let sum : namings m shapes ≡ namings m (slice_set shapes id None) + namings_of m was = omega (arith, namings-set shapes id was None m at) in
      lowers m (namings m (slice_set shapes id None)) (omega (arith, low, h.room)) (subst (IsAtLeast (get_or counts m 0)) sum (h.each m low));
}

pub counted_renamed : (shapes : List (Option Shape)) (id : ℕ) (to : BoxId) (counts : List ℕ) → AreCounted shapes counts → AreCounted (map (option_map (renamed id to)) shapes) counts
counted_renamed shapes id to counts h = record {
  room = omega (arith, h.room, length-map shapes (option_map (renamed id to)));
  each = λ m w.
      at_least_less (get_or counts m 0) (namings m shapes) (namings m (map (option_map (renamed id to)) shapes)) (h.each m (omega (arith, w, length-map shapes (option_map (renamed id to)))))
      (namings-renamed id to m shapes);
}

-- ---- parts below a bound

pub below_more : (n k : ℕ) (xs : List Val) → n ≤ k → AreBelow n xs → AreBelow k xs
below_more n k [] h w = tt
below_more n k (l.Known x ∷ xs) h w = (tt, below_more n k xs h w.1)
below_more n k (l.Virtual m ∷ xs) h w = (omega (arith, w.0, h), below_more n k xs h w.1)

pub numbered_below : (n : ℕ) (xs : List Val) → ((x : Val) → Has xs x → IsNumbered n x) → AreBelow n xs
numbered_below n [] h = tt
numbered_below n (l.Known x ∷ xs) h = (tt, numbered_below n xs (λ y w. h y (inr w)))
numbered_below n (l.Virtual m ∷ xs) h = (h (l.Virtual m) (inl refl), numbered_below n xs (λ y w. h y (inr w)))

-- a part that names a live object has a count
pub value_below : (shapes : List (Option Shape)) (counts : List ℕ) (x : Val) → AreCounted shapes counts → IsMade shapes x → IsBelow (length counts) x
value_below shapes counts (l.Known x) h made = tt
value_below shapes counts (l.Virtual n) h made = omega (arith, live_below shapes n made, h.room)

pub part_made : (shapes : List (Option Shape)) (n k : ℕ) (x : Val) → IsSound shapes → slice_get (parts_of shapes n) k ≡ Some x → IsMade shapes x
part_made shapes n k (l.Known x) h at = tt
part_made shapes n k (l.Virtual m) h at = h.closed n m (has_get (parts_of shapes n) k (l.Virtual m) at)

pub shape_below : (shapes : List (Option Shape)) (counts : List ℕ) (n : ℕ) (s : Shape) → IsSound shapes → AreCounted shapes counts → slice_get shapes n ≡ Some (Some s) → AreBelow (length counts) s.parts
shape_below shapes counts n s sound h at =
    below_more (length shapes) (length counts) s.parts h.room (subst (λ o. AreBelow (length shapes) (parts_in o)) at (parts_below shapes n sound))

pub map-set_none : (f : Shape → Shape) (shapes : List (Option Shape)) (n : ℕ) → map (option_map f) (slice_set shapes n None) ≡ slice_set (map (option_map f) shapes) n None
map-set_none f [] n = refl
map-set_none f (s ∷ ss) zero = refl
map-set_none f (s ∷ ss) (suc n) = ap (λ (ts : List (Option Shape)). option_map f s ∷ ts) (map-set_none f ss n)

pub forced_counts : (shapes : List (Option Shape)) (id : ℕ) (live : IsLive shapes id) (counts last : List ℕ) (took after : Option Shape) → AreCounted shapes counts → took ≡ Some live.0 → after ≡ None
    → ((m n : ℕ) → m < length counts → IsAtLeast (get_or counts m 0) (n + namings_of m took) → IsAtLeast (get_or last m 0) n) → length last ≡ length counts
    → AreCounted (slice_set shapes id after) last
forced_counts shapes id live counts last took after h is none lowers len =
    subst (λ (o : Option Shape). AreCounted (slice_set shapes id o) last) (sym none)
    (counted_forced shapes id (Some live.0) counts last h live.1 (λ m n w had. lowers m n w (subst (λ (o : Option Shape). IsAtLeast (get_or counts m 0) (n + namings_of m o)) (sym is) had)) len)

-- ---- counts of a list of parts

namings_in-append : (xs ys : List Val) (m : ℕ) → namings_in m (xs ++ ys) ≡ namings_in m xs + namings_in m ys
namings_in-append [] ys m = omega arith
namings_in-append (x ∷ xs) ys m = omega (arith, namings_in-append xs ys m)

pub namings_in-more : (xs : List Val) (i : ℕ) (d : Val) (m : ℕ) → i < length xs → namings_in m (take (i + 1) xs) ≡ namings_in m (take i xs) + naming m (get_or xs i d)
namings_in-more xs i d m h = ap (namings_in m) (take_more xs i d h) ∙ namings_in-append (take i xs) (get_or xs i d ∷ []) m ∙ omega arith

pub namings_in-less : (xs : List Val) (i : ℕ) (d : Val) (m : ℕ) → i < length xs → namings_in m (drop i xs) ≡ naming m (get_or xs i d) + namings_in m (drop (i + 1) xs)
namings_in-less [] i d m h = absurd (omega (arith, h))
namings_in-less (x ∷ xs) zero d m h = refl
namings_in-less (x ∷ xs) (suc i) d m h =
    let e : suc (i + 1) ≡ suc i + 1 = omega arith in
    namings_in-less xs i d m (omega (arith, h)) ∙ ap (λ k. naming m (get_or xs i d) + namings_in m (drop k (x ∷ xs))) e

pub below-less : (xs : List Val) (i n : ℕ) (d : Val) → i < length xs → AreBelow n (drop i xs) → IsBelow n (get_or xs i d) × AreBelow n (drop (i + 1) xs)
below-less [] i n d h w = absurd (omega (arith, h))
below-less (x ∷ xs) zero n d h w = w
below-less (x ∷ xs) (suc i) n d h w =
    let e : suc (i + 1) ≡ suc i + 1 = omega arith in
    subst (λ k. IsBelow n (get_or xs i d) × AreBelow n (drop k (x ∷ xs))) e (below-less xs i n d (omega (arith, h)) w)

pub namings-more : (shapes : List Shape) (i : ℕ) (d : Shape) (m : ℕ) → i < length shapes
    → namings m (map Some (take (i + 1) shapes)) ≡ namings m (map Some (take i shapes)) + namings_in m (get_or shapes i d).parts
namings-more [] i d m h = absurd (omega (arith, h))
namings-more (s ∷ ss) zero d m h = omega arith
namings-more (s ∷ ss) (suc i) d m h =
    let e : suc i + 1 ≡ suc (i + 1) = omega arith in
    let one : namings m (map Some (take (suc i + 1) (s ∷ ss))) ≡ namings m (map Some (take (suc (i + 1)) (s ∷ ss))) = ap (λ k. namings m (map Some (take k (s ∷ ss)))) e in
    omega (arith, one, namings-more ss i d m (omega (arith, h)))

-- ---- loops over parts

drop_done : {X : Type 0} (xs : List X) (i : ℕ) → length xs ≤ i → drop i xs ≡ []
drop_done [] zero h = refl
drop_done [] (suc i) h = refl
drop_done (x ∷ xs) zero h = absurd (omega (arith, h))
drop_done (x ∷ xs) (suc i) h = drop_done xs i (omega (arith, h))

take_done : {X : Type 0} (xs : List X) (i : ℕ) → length xs ≤ i → take i xs ≡ xs
take_done [] zero h = refl
take_done [] (suc i) h = refl
take_done (x ∷ xs) zero h = absurd (omega (arith, h))
take_done {X} (x ∷ xs) (suc i) h = ap (λ (ys : List X). x ∷ ys) (take_done xs i (omega (arith, h)))

pub lower_step : (initial mid new : List ℕ) (parts : List Val) (i : ℕ) (d : Val) → i < length parts → length mid ≡ length initial
    → ((m n : ℕ) → m < length initial → IsAtLeast (get_or initial m 0) (n + namings_in m parts) → IsAtLeast (get_or mid m 0) (n + namings_in m (drop i parts)))
    → Lowers mid new (get_or parts i d ∷ [])
    → (m n : ℕ) → m < length initial → IsAtLeast (get_or initial m 0) (n + namings_in m parts) → IsAtLeast (get_or new m 0) (n + namings_in m (drop (i + 1) parts))
lower_step initial mid new parts i d within same had lowers m n w h =
    let sum : n + namings_in m (drop i parts) ≡ n + namings_in m (drop (i + 1) parts) + (naming m (get_or parts i d) + 0) = omega (arith, namings_in-less parts i d m within) in
    lowers m (n + namings_in m (drop (i + 1) parts)) (omega (arith, w, same)) (subst (IsAtLeast (get_or mid m 0)) sum (had m n w h))

pub gone_step : (parts : List Val) (i : ℕ) (d : Val) (mid new all : List ℕ) → i < length parts → counts_without_all (drop i parts) mid ≡ all → new ≡ counts_without (get_or parts i d) mid → counts_without_all (drop (i + 1) parts) new ≡ all
gone_step parts i d mid new all within had is =
    ap (counts_without_all (drop (i + 1) parts)) is ∙ sym (at_drop_more (λ (ps : List Val). counts_without_all ps mid) parts i d within) ∙ had

pub gone_done : (parts : List Val) (i : ℕ) (mid all : List ℕ) → length parts ≤ i → counts_without_all (drop i parts) mid ≡ all → mid ≡ all
gone_done parts i mid all past had = sym (ap (λ (ps : List Val). counts_without_all ps mid) (drop_done parts i past)) ∙ had

pub lower_done : (parts : List Val) (i c m n : ℕ) → length parts ≤ i → IsAtLeast c (n + namings_in m (drop i parts)) → IsAtLeast c n
lower_done parts i c m n h had =
    let none : n + namings_in m (drop i parts) ≡ n = omega (arith, ap (namings_in m) (drop_done parts i h)) in
    subst (IsAtLeast c) none had

pub raise_step : (initial mid new : List ℕ) (parts : List Val) (i : ℕ) (d : Val) → i < length parts → length mid ≡ length initial
    → ((m n : ℕ) → m < length initial → IsAtLeast (get_or initial m 0) n → IsAtLeast (get_or mid m 0) (n + namings_in m (take i parts)))
    → Raises mid new (get_or parts i d)
    → (m n : ℕ) → m < length initial → IsAtLeast (get_or initial m 0) n → IsAtLeast (get_or new m 0) (n + namings_in m (take (i + 1) parts))
raise_step initial mid new parts i d within same had raises m n w h =
    let sum : n + namings_in m (take i parts) + naming m (get_or parts i d) ≡ n + namings_in m (take (i + 1) parts) = omega (arith, namings_in-more parts i d m within) in
    subst (IsAtLeast (get_or new m 0)) sum (raises m (n + namings_in m (take i parts)) (omega (arith, w, same)) (had m n w h))

pub raise_done : (parts : List Val) (i c m n : ℕ) → length parts ≤ i → IsAtLeast c (n + namings_in m (take i parts)) → IsAtLeast c (n + namings_in m parts)
raise_done parts i c m n h had = subst (λ (xs : List Val). IsAtLeast c (n + namings_in m xs)) (take_done parts i h) had

-- ---- the counts of an entry's shapes

pub entry_below : (shapes : List Shape) (counts : List ℕ) (i : ℕ) (d : Shape) (ps : List Val) → AreShapes shapes → length counts ≡ length shapes → i < length shapes → ps ≡ (get_or shapes i d).parts
    → AreBelow (length counts) ps
entry_below shapes counts i d ps h same within is =
    subst (AreBelow (length counts)) (sym is) (subst (λ n. AreBelow n (get_or shapes i d).parts) (sym same)
    (numbered_below (length shapes) (get_or shapes i d).parts
    (λ x has. all_at (IsNumbered (length shapes)) (get_or shapes i d).parts x (all_at (λ (s : Shape). All (IsNumbered (length shapes)) s.parts) shapes (get_or shapes i d) h.numbered (has_get shapes i (get_or shapes i d) (slice_get-get_or shapes i d within))) has)))

pub count_step : (shapes : List Shape) (counts new : List ℕ) (i : ℕ) (d : Shape) (ps : List Val) (m : ℕ) → ps ≡ (get_or shapes i d).parts → i < length shapes
    → IsAtLeast (get_or new m 0) (namings m (map Some (take i shapes)) + namings_in m ps) → IsAtLeast (get_or new m 0) (namings m (map Some (take (i + 1) shapes)))
count_step shapes counts new i d ps m is within had =
    subst (IsAtLeast (get_or new m 0)) (ap (λ (xs : List Val). namings m (map Some (take i shapes)) + namings_in m xs) is ∙ sym (namings-more shapes i d m within)) had

pub counts_done : (shapes : List Shape) (counts : List ℕ) (i : ℕ) → length shapes ≤ i → length counts ≡ length shapes
    → ((m : ℕ) → m < length shapes → IsAtLeast (get_or counts m 0) (namings m (map Some (take i shapes)))) → AreCounted (map Some shapes) counts
counts_done shapes counts i h same had = record {
  room = omega (arith, same, length-map shapes (λ (s : Shape). Some s));
  each = λ m w. subst (λ (xs : List Shape). IsAtLeast (get_or counts m 0) (namings m (map Some xs))) (take_done shapes i h) (had m (omega (arith, w, length-map shapes (λ (s : Shape). Some s))));
}

-- a count that is read
pub read_is : (counts : List ℕ) (i x : ℕ) → i < length counts → x ≡ get_or counts i x → x ≡ get_or counts i 0
read_is counts i x h e = e ∙ some_is (sym (slice_get-get_or counts i x h) ∙ slice_get-get_or counts i 0 h)
  where
    some_is : {a b : ℕ} → Some a ≡ Some b → a ≡ b
    some_is h = cc
