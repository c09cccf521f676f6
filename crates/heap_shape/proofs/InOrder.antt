-- A walk visits what the roots reach, in order.
use Rattle.std.proofs.Common.{◌≡◌, ℕ, zero, suc, ◌+◌, ◌<◌, ◌≤◌, cond, eqb, List, [], ◌∷◌, ◌++◌, Option, None, Some, length, map, take, slice_get, refl, ap, sym, subst, ◌∙◌, ◌⊎◌, inl, inr, append_assoc, append-nil, arith}
use Rattle.std.specs.Option.{option_map, is_some, unwrap_or}
use Rattle.std.proofs.lemmas.Bool.{eq-eqb, ne_eqb}
use Rattle.std.proofs.lemmas.Bool.Decides.{eqb_tells}
use Rattle.std.proofs.lemmas.List.{take-append-le, take_more, take_all}
use Rattle.std.proofs.lemmas.Option.{slice_get_within, get_or_from_slice_get, slice_get_cases}
use Rattle.trace_meaning.specs.declared.value.Value.{Value}
use Rattle.trace_meaning.specs.declared.value.Value.TheVariants as v
use Rattle.trace_meaning.specs.declared.value.Object.{Object}
use Rattle.heap_shape.specs.Visiting.{number_of, note, note_value, visit, parts_at, parts_in, walk_on, walk, visited, IsWithin, AreWithin, AllVisited, PartsVisited, IsClosed, Has, IsOnce}
use Rattle.heap_shape.specs.declared.cell.Ref.{Ref}
use Rattle.heap_shape.specs.declared.cell.Ref.TheVariants as r
use Rattle.heap_shape.specs.Listing.{ref_of}
use Rattle.heap_shape.specs.Order.{Leads, Reaches, all_parts, AreVisits, VisitsInOrder, NumbersArePlaces, RootsAlone}
use Rattle.heap_shape.proofs.Lists.{has_left, has_right, has_cases, has_get, few_once, some_same}
use Rattle.heap_shape.proofs.Numbers.{number_same, number_other}
use Rattle.heap_shape.proofs.Walks.{visit_once, parts_within}

-- numbers are places
some_suc : {X : Type 0} (o : Option ℕ) → option_map suc o ≡ Some zero → X
some_suc None h = cc
some_suc (Some k) h = cc

some_less : (o : Option ℕ) (k : ℕ) → option_map suc o ≡ Some (suc k) → o ≡ Some k
some_less None k h = cc
some_less (Some j) k h = cc

number_at : (seen : List ℕ) (n k : ℕ) → number_of seen n ≡ Some k → slice_get seen k ≡ Some n
number_at [] n k h = cc
number_at (x ∷ xs) n zero h = elim (eqb_tells x n) [
  | inl t ↦ ap Some t.1
  | inr t ↦ some_suc (number_of xs n) (sym (number_other x xs n t.0) ∙ h)
]
number_at (x ∷ xs) n (suc k) h = elim (eqb_tells x n) [
  | inl t ↦ zero_suc (sym (number_same x xs n t.0) ∙ h)
  | inr t ↦ number_at xs n k (some_less (number_of xs n) k (sym (number_other x xs n t.0) ∙ h))
]
  where
    zero_suc : {X : Type 0} → Some 0 ≡ Some (suc k) → X
    zero_suc e = cc

place_number : (seen : List ℕ) (n k : ℕ) → IsOnce seen → slice_get seen k ≡ Some n → number_of seen n ≡ Some k
place_number [] n k once h = cc
place_number (x ∷ xs) n zero once h = number_same x xs n (eq-eqb x n (some_same h))
place_number (x ∷ xs) n (suc k) once h =
    number_other x xs n (ne_eqb x n (λ e. once.0 (subst (Has xs) (sym e) (has_get xs k n h))))
    ∙ ap (option_map suc) (place_number xs n k once.1 h)

pub numbers_are_places : NumbersArePlaces
numbers_are_places seen once n k = (number_at seen n k, place_number seen n k once)

-- what comes later changes no number
number_front : (seen more : List ℕ) (n : ℕ) → Has seen n → number_of (seen ++ more) n ≡ number_of seen n
number_front [] more n h = absurd h
number_front (x ∷ xs) more n (inl e) = number_same x (xs ++ more) n (eq-eqb x n e) ∙ sym (number_same x xs n (eq-eqb x n e))
number_front (x ∷ xs) more n (inr h) = ap (λ (o : Option ℕ). cond (eqb x n) (Some 0) (option_map suc o)) (number_front xs more n h)

-- visits add at the end
note_extends : (seen : List ℕ) (n : ℕ) → (more : List ℕ) × (note seen n ≡ seen ++ more)
note_extends seen n = by (number_of seen n)
  where
    by : (o : Option ℕ) → (more : List ℕ) × (cond (is_some o) seen (seen ++ n ∷ []) ≡ seen ++ more)
    by (Some k) = ([], sym (append-nil seen))
    by None = (n ∷ [], refl)

visit_extends : (xs : List Value) (seen : List ℕ) → (more : List ℕ) × (visit seen xs ≡ seen ++ more)
visit_extends [] seen = ([], sym (append-nil seen))
visit_extends (v.Int w ∷ xs) seen = visit_extends xs seen
visit_extends (v.Null ∷ xs) seen = visit_extends xs seen
visit_extends (v.Obj n ∷ xs) seen =
    let one = note_extends seen n in let rest = visit_extends xs (note seen n) in
    (one.0 ++ rest.0, rest.1 ∙ ap (λ (ns : List ℕ). ns ++ rest.0) one.1 ∙ append_assoc seen one.0 rest.0)

visit_append : (xs ys : List Value) (seen : List ℕ) → visit seen (xs ++ ys) ≡ visit (visit seen xs) ys
visit_append [] ys seen = refl
visit_append (x ∷ xs) ys seen = visit_append xs ys (note_value seen x)

visit_more : (xs : List Value) (seen : List ℕ) (n : ℕ) → Has seen n → Has (visit seen xs) n
visit_more xs seen n h = let more = visit_extends xs seen in subst (λ (ns : List ℕ). Has ns n) (sym more.1) (has_left seen more.0 n h)

note_has : (seen : List ℕ) (n : ℕ) → Has (note seen n) n
note_has seen n = by (number_of seen n) refl
  where
    by : (o : Option ℕ) → number_of seen n ≡ o → Has (cond (is_some o) seen (seen ++ n ∷ [])) n
    by (Some k) e = has_get seen k n (number_at seen n k e)
    by None e = has_right seen (n ∷ []) n (inl refl)

note_from : (seen : List ℕ) (n m : ℕ) → Has (note seen n) m → Has seen m ⊎ (n ≡ m)
note_from seen n m = by (number_of seen n)
  where
    by : (o : Option ℕ) → Has (cond (is_some o) seen (seen ++ n ∷ [])) m → Has seen m ⊎ (n ≡ m)
    by (Some k) h = inl h
    by None h = elim (has_cases seen (n ∷ []) m h) [ inl w ↦ inl w | inr w ↦ elim w [ inl e ↦ inr e | inr x ↦ absurd x ] ]

int_object : {X : Type 0} (w : _) (n : ℕ) → v.Int w ≡ v.Obj n → X
int_object w n e = cc

null_object : {X : Type 0} (n : ℕ) → v.Null ≡ v.Obj n → X
null_object n e = cc

object_same : (n m : ℕ) → v.Obj n ≡ v.Obj m → n ≡ m
object_same n m e = cc

visit_has : (xs : List Value) (seen : List ℕ) (n : ℕ) → Has xs (v.Obj n) → Has (visit seen xs) n
visit_has [] seen n h = absurd h
visit_has (v.Int w ∷ xs) seen n (inl e) = int_object w n e
visit_has (v.Int w ∷ xs) seen n (inr h) = visit_has xs seen n h
visit_has (v.Null ∷ xs) seen n (inl e) = null_object n e
visit_has (v.Null ∷ xs) seen n (inr h) = visit_has xs seen n h
visit_has (v.Obj m ∷ xs) seen n (inl e) = visit_more xs (note seen m) n (subst (Has (note seen m)) (object_same m n e) (note_has seen m))
visit_has (v.Obj m ∷ xs) seen n (inr h) = visit_has xs (note seen m) n h

visit_from : (xs : List Value) (seen : List ℕ) (n : ℕ) → Has (visit seen xs) n → Has seen n ⊎ Has xs (v.Obj n)
visit_from [] seen n h = inl h
visit_from (v.Int w ∷ xs) seen n h = elim (visit_from xs seen n h) [ inl w ↦ inl w | inr w ↦ inr (inr w) ]
visit_from (v.Null ∷ xs) seen n h = elim (visit_from xs seen n h) [ inl w ↦ inl w | inr w ↦ inr (inr w) ]
visit_from (v.Obj m ∷ xs) seen n h = elim (visit_from xs (note seen m) n h) [
  | inl w ↦ elim (note_from seen m n w) [ inl u ↦ inl u | inr e ↦ inr (inl (ap v.Obj e)) ]
  | inr w ↦ inr (inr w)
]

-- the parts of all
all_parts_push : (objects : List Object) (ns : List ℕ) (n : ℕ) → all_parts objects (ns ++ n ∷ []) ≡ all_parts objects ns ++ parts_at objects n
all_parts_push objects [] n = append-nil (parts_at objects n)
all_parts_push objects (m ∷ ms) n =
    ap (λ (xs : List Value). parts_at objects m ++ xs) (all_parts_push objects ms n) ∙ sym (append_assoc (parts_at objects m) (all_parts objects ms) (parts_at objects n))

all_parts_has : (objects : List Object) (ns : List ℕ) (n m : ℕ) → Has ns n → Has (parts_at objects n) (v.Obj m) → Has (all_parts objects ns) (v.Obj m)
all_parts_has objects [] n m h w = absurd h
all_parts_has objects (k ∷ ks) n m (inl e) w = has_left (parts_at objects k) (all_parts objects ks) (v.Obj m) (subst (λ (i : ℕ). Has (parts_at objects i) (v.Obj m)) (sym e) w)
all_parts_has objects (k ∷ ks) n m (inr h) w = has_right (parts_at objects k) (all_parts objects ks) (v.Obj m) (all_parts_has objects ks n m h w)

-- paths
leads_more : (objects : List Object) (path : List ℕ) (a b c : ℕ) → Leads objects a b path → Has (parts_at objects b) (v.Obj c) → Leads objects a c (path ++ c ∷ [])
leads_more objects [] a b c h w = (subst (λ (n : ℕ). Has (parts_at objects n) (v.Obj c)) (sym h) w, refl)
leads_more objects (n ∷ ns) a b c h w = (h.0, leads_more objects ns n b c h.1 w)

leads_inside : (objects : List Object) (seen : List ℕ) → ((n m : ℕ) → Has seen n → Has (parts_at objects n) (v.Obj m) → Has seen m)
    → (path : List ℕ) (a b : ℕ) → Has seen a → Leads objects a b path → Has seen b
leads_inside objects seen closed [] a b h w = subst (Has seen) w h
leads_inside objects seen closed (n ∷ ns) a b h w = leads_inside objects seen closed ns n b (closed a n h w.0) w.1

-- in range
value_below : (count : ℕ) (xs : List Value) (n : ℕ) → AreWithin count xs → Has xs (v.Obj n) → n < count
value_below count [] n h w = absurd w
value_below count (x ∷ xs) n h (inl e) = subst (IsWithin count) e h.0
value_below count (x ∷ xs) n h (inr w) = value_below count xs n h.1 w

parts_below : (objects : List Object) (n m : ℕ) → IsClosed objects → Has (parts_at objects n) (v.Obj m) → m < length objects
parts_below objects n m closed = by (slice_get objects n) refl
  where
    by : (o : Option Object) → slice_get objects n ≡ o → Has (parts_in o) (v.Obj m) → m < length objects
    by None e h = absurd h
    by (Some x) e h = value_below (length objects) x.parts m (parts_within objects n x closed e) h

-- a walk that stands before the object with number i
record IsWalk (objects : List Object) (roots : List Value) (i : ℕ) (seen : List ℕ) : Type 0 where
  once : IsOnce seen
  below : (n : ℕ) → Has seen n → n < length objects
  sound : (n : ℕ) → Has seen n → Reaches objects roots n
  in_order : seen ≡ visit [] (roots ++ all_parts objects (take i seen))

walk_starts : (objects : List Object) (roots : List Value) → AreWithin (length objects) roots → IsWalk objects roots 0 (visit [] roots)
walk_starts objects roots within = record {
  once = visit_once roots [] tt;
  below = λ n h. elim (visit_from roots [] n h) [ inl w ↦ absurd w | inr w ↦ value_below (length objects) roots n within w ];
  sound = λ n h. elim (visit_from roots [] n h) [ inl w ↦ absurd w | inr w ↦ (n, w, [], refl) ];
  in_order = sym (ap (visit []) (append-nil roots));
}

walk_next : (objects : List Object) (roots : List Value) (i : ℕ) (seen : List ℕ) (n : ℕ) → IsClosed objects → IsWalk objects roots i seen → slice_get seen i ≡ Some n
    → IsWalk objects roots (i + 1) (visit seen (parts_at objects n))
walk_next objects roots i seen n closed h at = record {
  once = visit_once (parts_at objects n) seen h.once;
  below = λ m w. elim (visit_from (parts_at objects n) seen m w) [ inl u ↦ h.below m u | inr u ↦ parts_below objects n m closed u ];
  sound = λ m w. elim (visit_from (parts_at objects n) seen m w) [
    | inl u ↦ h.sound m u
    | inr u ↦ let way = h.sound n (has_get seen i n at) in (way.0, way.1, way.2 ++ m ∷ [], leads_more objects way.2 way.0 n m way.3 u)
  ];
  in_order =
      ap (λ (ns : List ℕ). visit ns (parts_at objects n)) h.in_order
      ∙ sym (visit_append (roots ++ all_parts objects (take i seen)) (parts_at objects n) [])
      ∙ ap (visit []) (append_assoc roots (all_parts objects (take i seen)) (parts_at objects n))
      ∙ ap (λ (xs : List Value). visit [] (roots ++ xs)) (sym (all_parts_push objects (take i seen) n))
      ∙ ap (λ (ns : List ℕ). visit [] (roots ++ all_parts objects ns)) (sym front);
}
  where
    front : take (i + 1) (visit seen (parts_at objects n)) ≡ take i seen ++ n ∷ []
    front =
        let within : i < length seen = slice_get_within seen i n at in
        let inside : i + 1 ≤ length seen = omega arith in
        let more = visit_extends (parts_at objects n) seen in
        ap (take (i + 1)) more.1
        ∙ take-append-le (i + 1) seen more.0 inside
        ∙ take_more seen i n within
        ∙ ap (λ (k : ℕ). take i seen ++ k ∷ []) (get_or_from_slice_get seen i n n at)

-- where the walk ends
abbrev Ends : List Object → List Value → ℕ → List ℕ → Type 0
Ends objects roots last seen = (i : ℕ) × IsWalk objects roots i seen × (length seen ≤ i ⊎ (i ≡ last))

some_none : {X : Type 0} (k : ℕ) → Some k ≡ None → X
some_none k h = cc

on_ends : (go : ℕ → List ℕ → List ℕ) (objects : List Object) (roots : List Value) (i most : ℕ) (seen : List ℕ) → IsClosed objects → IsWalk objects roots i seen
    → ((s : List ℕ) → IsWalk objects roots (i + 1) s → Ends objects roots ((i + 1) + most) (go (i + 1) s))
    → (o : Option ℕ) → slice_get seen i ≡ o → Ends objects roots (i + suc most) (walk_on go objects i seen o)
on_ends go objects roots i most seen closed h goes None e = (i, h, inl (past e))
  where
    past : slice_get seen i ≡ None → length seen ≤ i
    past none = elim (slice_get_cases seen i).1 [ inl w ↦ some_none w.0 (sym w.2 ∙ none) | inr w ↦ w.0 ]
on_ends go objects roots i most seen closed h goes (Some n) e =
    let ends = goes (visit seen (parts_at objects n)) (walk_next objects roots i seen n closed h e) in
    (ends.0, ends.1, elim ends.2 [ inl w ↦ inl w | inr w ↦ inr (omega (arith, w)) ])

walk_visits : (most : ℕ) (objects : List Object) (roots : List Value) (i : ℕ) (seen : List ℕ) → IsClosed objects → IsWalk objects roots i seen → Ends objects roots (i + most) (walk most objects i seen)
walk_visits zero objects roots i seen closed h = (i, h, inr (omega arith))
walk_visits (suc most) objects roots i seen closed h =
    on_ends (walk most objects) objects roots i most seen closed h (λ s w. walk_visits most objects roots (i + 1) s closed w) (slice_get seen i) refl

few_visits : (objects : List Object) (roots : List Value) (i : ℕ) (seen : List ℕ) → IsWalk objects roots i seen → (length seen ≤ i ⊎ (i ≡ 0 + length objects)) → length seen ≤ i
few_visits objects roots i seen h (inl w) = w
few_visits objects roots i seen h (inr e) = let few : length seen ≤ length objects = few_once seen (length objects) h.once h.below in omega (arith, few, e)

-- a walk past its last object
walk_whole : (objects : List Object) (roots : List Value) (i : ℕ) (seen : List ℕ) → IsWalk objects roots i seen → length seen ≤ i → AreVisits objects roots seen
walk_whole objects roots i seen h past = record {
  complete = λ n w. leads_inside objects seen inside w.2 w.0 n (all_in w.0 (has_left roots (all_parts objects seen) (v.Obj w.0) w.1)) w.3;
  sound = h.sound;
  in_store = h.below;
  once = h.once;
  in_order = order;
}
  where
    order : seen ≡ visit [] (roots ++ all_parts objects seen)
    order = h.in_order ∙ ap (λ (ns : List ℕ). visit [] (roots ++ all_parts objects ns)) (take_all i seen past)

    all_in : (m : ℕ) → Has (roots ++ all_parts objects seen) (v.Obj m) → Has seen m
    all_in m w = subst (λ (ns : List ℕ). Has ns m) (sym order) (visit_has (roots ++ all_parts objects seen) [] m w)

    inside : (n m : ℕ) → Has seen n → Has (parts_at objects n) (v.Obj m) → Has seen m
    inside n m w u = all_in m (has_right roots (all_parts objects seen) (v.Obj m) (all_parts_has objects seen n m w u))

pub visits_in_order : VisitsInOrder
visits_in_order objects roots closed within =
    let ends = walk_visits (length objects) objects roots 0 (visit [] roots) closed (walk_starts objects roots within) in
    walk_whole objects roots ends.0 (visited objects roots) ends.1 (few_visits objects roots ends.0 (visited objects roots) ends.1 ends.2)

-- the numbers of the roots
on_extends : (go : ℕ → List ℕ → List ℕ) (objects : List Object) (i : ℕ) (seen : List ℕ) → ((s : List ℕ) → (more : List ℕ) × (go (i + 1) s ≡ s ++ more)) → (o : Option ℕ)
    → (more : List ℕ) × (walk_on go objects i seen o ≡ seen ++ more)
on_extends go objects i seen goes None = ([], sym (append-nil seen))
on_extends go objects i seen goes (Some n) =
    let one = visit_extends (parts_at objects n) seen in let rest = goes (visit seen (parts_at objects n)) in
    (one.0 ++ rest.0, rest.1 ∙ ap (λ (ns : List ℕ). ns ++ rest.0) one.1 ∙ append_assoc seen one.0 rest.0)

walk_extends : (most : ℕ) (objects : List Object) (i : ℕ) (seen : List ℕ) → (more : List ℕ) × (walk most objects i seen ≡ seen ++ more)
walk_extends zero objects i seen = ([], sym (append-nil seen))
walk_extends (suc most) objects i seen = on_extends (walk most objects) objects i seen (λ s. walk_extends most objects (i + 1) s) (slice_get seen i)

refs_front : (seen more : List ℕ) (xs : List Value) → ((n : ℕ) → Has xs (v.Obj n) → Has seen n) → map (ref_of (seen ++ more)) xs ≡ map (ref_of seen) xs
refs_front seen more [] h = refl
refs_front seen more (v.Int w ∷ xs) h = ap (λ (rs : List Ref). r.Int w ∷ rs) (refs_front seen more xs (λ n u. h n (inr u)))
refs_front seen more (v.Null ∷ xs) h = ap (λ (rs : List Ref). r.Null ∷ rs) (refs_front seen more xs (λ n u. h n (inr u)))
refs_front seen more (v.Obj n ∷ xs) h =
    ap (λ (o : Option ℕ). r.Num (unwrap_or o 0) ∷ map (ref_of (seen ++ more)) xs) (number_front seen more n (h n (inl refl)))
    ∙ ap (λ (rs : List Ref). r.Num (unwrap_or (number_of seen n) 0) ∷ rs) (refs_front seen more xs (λ m u. h m (inr u)))

pub roots_alone : RootsAlone
roots_alone objects roots =
    let more = walk_extends (length objects) objects 0 (visit [] roots) in
    ap (λ (ns : List ℕ). map (ref_of ns) roots) more.1 ∙ refs_front (visit [] roots) more.0 roots (λ n h. visit_has roots [] n h)

-- what is asked for was visited
all_visited : (xs : List Value) (seen : List ℕ) → ((n : ℕ) → Has xs (v.Obj n) → Has seen n) → AllVisited seen xs
all_visited [] seen h = tt
all_visited (v.Int w ∷ xs) seen h = (tt, all_visited xs seen (λ n u. h n (inr u)))
all_visited (v.Null ∷ xs) seen h = (tt, all_visited xs seen (λ n u. h n (inr u)))
all_visited (v.Obj n ∷ xs) seen h = (h n (inl refl), all_visited xs seen (λ m u. h m (inr u)))

pub roots_visited : (objects : List Object) (roots : List Value) (seen : List ℕ) → AreVisits objects roots seen → AllVisited seen roots
roots_visited objects roots seen h = all_visited roots seen (λ n w. h.complete n (n, w, [], refl))

pub parts_visited : (objects : List Object) (roots : List Value) (seen : List ℕ) → AreVisits objects roots seen → PartsVisited objects seen
parts_visited objects roots seen h n w = all_visited (parts_at objects n) seen (λ m u.
    let way = h.sound n w in
    h.complete m (way.0, way.1, way.2 ++ m ∷ [], leads_more objects way.2 way.0 n m way.3 u))
