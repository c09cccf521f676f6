-- The laws of moves at once.
use Rattle.std.proofs.Common.{◌≡◌, ℤ, List, [], ◌∷◌, ◌++◌, Bool, true, false, ◌||◌, cond, map, reverse, refl, ap, sym, ◌∙◌, ◌⊎◌, inl, inr}
use mathlib.Core.Path.{fun_ext}
use Rattle.std.proofs.lemmas.Bool.{or_parts, cases_Bool}
use Rattle.std.proofs.lemmas.List.{reverse-append}
use Rattle.target_base.specs.declared.place.Place.{Place}
use Rattle.target_base.specs.contracts.place.PlaceEq.TheImpl.Laws as place_laws
use Rattle.parallel_move.proofs.Same.{place_same}
use Rattle.parallel_move.specs.declared.moving.Move.{Move}
use Rattle.parallel_move.specs.declared.moving.Move.TheVariants.{Copy, Swap}
use Rattle.parallel_move.specs.Moving.{same, State, put, at_once, after_move, after, is_target, is_source, HasDistinctTargets, exchanged, exchanged_pair, Settles, target_of, source_of, HavePlaces, MovePlaces}

pub same_refl : (p : Place) → same p p ≡ true
same_refl p = place_laws.lawful.laws.refl p

pub same_comm : (p q : Place) → same p q ≡ same q p
same_comm p q = place_laws.lawful.laws.symm p q

-- two places are one, or they differ
tells_by : (p q : Place) (b : Bool) → same p q ≡ b → ((same p q ≡ true) × (p ≡ q)) ⊎ (same p q ≡ false)
tells_by p q true h = inl (h, place_same p q h)
tells_by p q false h = inr h

pub tells : (p q : Place) → ((same p q ≡ true) × (p ≡ q)) ⊎ (same p q ≡ false)
tells p q = tells_by p q (same p q) refl

put_same : (t : Place) (v : ℤ) (s : State) (p : Place) → same t p ≡ true → put t v s p ≡ v
put_same t v s p h = ap (λ (b : Bool). cond b v (s p)) h

put_other : (t : Place) (v : ℤ) (s : State) (p : Place) → same t p ≡ false → put t v s p ≡ s p
put_other t v s p h = ap (λ (b : Bool). cond b v (s p)) h

-- a place that is no target keeps its word
pub untouched : (ps : List (Place × Place)) (s : State) (p : Place) → is_target p ps ≡ false → at_once ps s p ≡ s p
untouched [] s p h = refl
untouched (pair ∷ ps) s p h =
    let parts = or_parts (same pair.0 p) (is_target p ps) h in
    put_other pair.0 (s pair.1) (at_once ps s) p parts.0 ∙ untouched ps s p parts.1

-- a pair of a place with itself does nothing
pub at_once-itself : (ps : List (Place × Place)) (s : State) (t q : Place) → t ≡ q → is_target t ps ≡ false → at_once ps s ≡ put t (s q) (at_once ps s)
at_once-itself ps s t q e h = fun_ext (λ p. elim (tells t p) [
  | inl w ↦ ap (at_once ps s) (sym w.1) ∙ untouched ps s t h ∙ ap s e ∙ sym (put_same t (s q) (at_once ps s) p w.0)
  | inr w ↦ sym (put_other t (s q) (at_once ps s) p w)
])

at_once-put_elsewhere : (ps : List (Place × Place)) (s : State) (t : Place) (v : ℤ) → is_source t ps ≡ false → (p : Place) → same t p ≡ false → at_once ps (put t v s) p ≡ at_once ps s p
at_once-put_elsewhere [] s t v h p apart = put_other t v s p apart
at_once-put_elsewhere (pair ∷ ps) s t v h p apart =
    let parts = or_parts (same pair.1 t) (is_source t ps) h in
    ap (λ (x : ℤ). cond (same pair.0 p) x (at_once ps (put t v s) p)) (put_other t v s pair.1 (same_comm t pair.1 ∙ parts.0))
    ∙ ap (λ (x : ℤ). cond (same pair.0 p) (s pair.1) x) (at_once-put_elsewhere ps s t v parts.1 p apart)

-- a write to a place that no pair reads or writes may come first
pub at_once-put : (ps : List (Place × Place)) (s : State) (t : Place) (v : ℤ) → is_target t ps ≡ false → is_source t ps ≡ false → at_once ps (put t v s) ≡ put t v (at_once ps s)
at_once-put ps s t v h g = fun_ext (λ p. elim (tells t p) [
  | inl w ↦ ap (at_once ps (put t v s)) (sym w.1) ∙ untouched ps (put t v s) t h ∙ put_same t v s t (same_refl t) ∙ sym (put_same t v (at_once ps s) p w.0)
  | inr w ↦ at_once-put_elsewhere ps s t v g p w ∙ sym (put_other t v (at_once ps s) p w)
])

-- after an exchange each word is found where `exchanged` says
swap_read : (s : State) (t q x : Place) → same t q ≡ false → after_move (Swap t q) s (exchanged t q x) ≡ s x
swap_read s t q x apart =
    let s' : State = after_move (Swap t q) s in
    elim (tells t x) [
      | inl w ↦
          ap (λ (b : Bool). s' (cond b q (cond (same q x) t x))) w.0
          ∙ put_other t (s q) (put q (s t) s) q apart ∙ put_same q (s t) s q (same_refl q) ∙ ap s w.1
      | inr w ↦
          ap (λ (b : Bool). s' (cond b q (cond (same q x) t x))) w
          ∙ elim (tells q x) as (λ _. s' (cond (same q x) t x) ≡ s x) [
            | inl u ↦ ap (λ (b : Bool). s' (cond b t x)) u.0 ∙ put_same t (s q) (put q (s t) s) t (same_refl t) ∙ ap s u.1
            | inr u ↦ ap (λ (b : Bool). s' (cond b t x)) u ∙ put_other t (s q) (put q (s t) s) x w ∙ put_other q (s t) s x u
          ]
    ]

pub is_target-exchanged : (ps : List (Place × Place)) (t q p : Place) → is_target p (map (exchanged_pair t q) ps) ≡ is_target p ps
is_target-exchanged [] t q p = refl
is_target-exchanged (pair ∷ ps) t q p = ap (λ (b : Bool). same pair.0 p || b) (is_target-exchanged ps t q p)

pub distinct-exchanged : (ps : List (Place × Place)) (t q : Place) → HasDistinctTargets ps → HasDistinctTargets (map (exchanged_pair t q) ps)
distinct-exchanged [] t q h = tt
distinct-exchanged (pair ∷ ps) t q h = (is_target-exchanged ps t q pair.0 ∙ h.0, distinct-exchanged ps t q h.1)

-- a target gets its word, wherever that now is
swap_target : (ps : List (Place × Place)) (s : State) (t q : Place) → same t q ≡ false → (p : Place) → is_target p ps ≡ true → at_once (map (exchanged_pair t q) ps) (after_move (Swap t q) s) p ≡ at_once ps s p
swap_target [] s t q apart p h = cc
swap_target (pair ∷ ps) s t q apart p h =
    let s' : State = after_move (Swap t q) s in
    ap (λ (x : ℤ). cond (same pair.0 p) x (at_once (map (exchanged_pair t q) ps) s' p)) (swap_read s t q pair.1 apart)
    ∙ elim (tells pair.0 p) as (λ _. cond (same pair.0 p) (s pair.1) (at_once (map (exchanged_pair t q) ps) s' p) ≡ cond (same pair.0 p) (s pair.1) (at_once ps s p)) [
      | inl w ↦ ap (λ (b : Bool). cond b (s pair.1) (at_once (map (exchanged_pair t q) ps) s' p)) w.0 ∙ sym (ap (λ (b : Bool). cond b (s pair.1) (at_once ps s p)) w.0)
      | inr w ↦ ap (λ (x : ℤ). cond (same pair.0 p) (s pair.1) x) (swap_target ps s t q apart p (sym (ap (λ (b : Bool). b || is_target p ps) w) ∙ h))
    ]

-- an exchange does a pair whose source is a target of another
pub at_once-swap : (ps : List (Place × Place)) (s : State) (t q : Place) → same t q ≡ false → is_target t ps ≡ false → is_target q ps ≡ true
    → at_once (map (exchanged_pair t q) ps) (after_move (Swap t q) s) ≡ put t (s q) (at_once ps s)
at_once-swap ps s t q apart h g =
    let s' : State = after_move (Swap t q) s in
    let ps' = map (exchanged_pair t q) ps in
    let kept : (p : Place) → is_target p ps ≡ false → at_once ps' s' p ≡ s' p = λ p no. untouched ps' s' p (is_target-exchanged ps t q p ∙ no) in
    fun_ext (λ p. elim (tells t p) [
      | inl w ↦ ap (at_once ps' s') (sym w.1) ∙ kept t h ∙ put_same t (s q) (put q (s t) s) t (same_refl t) ∙ sym (put_same t (s q) (at_once ps s) p w.0)
      | inr w ↦
          elim (cases_Bool (is_target p ps)) [
            | inl hit ↦ swap_target ps s t q apart p hit
            | inr miss ↦
                let off : same q p ≡ false = elim (tells q p) [
                  | inl u ↦ absurd (differ (sym (ap (λ (x : Place). is_target x ps) u.1 ∙ miss) ∙ g))
                  | inr u ↦ u
                ] in
                kept p miss ∙ put_other t (s q) (put q (s t) s) p w ∙ put_other q (s t) s p off ∙ sym (untouched ps s p miss)
          ]
          ∙ sym (put_other t (s q) (at_once ps s) p w)
    ])
  where
    differ : false ≡ true → ⊥
    differ e = cc

-- a copy whose source is no target may come last
pub at_once-copy : (ps : List (Place × Place)) (s : State) (t q : Place) → is_target q ps ≡ false → after_move (Copy t q) (at_once ps s) ≡ put t (s q) (at_once ps s)
at_once-copy ps s t q h = ap (λ (v : ℤ). put t v (at_once ps s)) (untouched ps s q h)

pub after-append : (xs ys : List Move) (s : State) → after (xs ++ ys) s ≡ after ys (after xs s)
after-append [] ys s = refl
after-append (x ∷ xs) ys s = after-append xs ys (after_move x s)

-- the four ways to settle a pair
pub settles_itself : (f l : List Move) (ps : List (Place × Place)) (t q : Place) → t ≡ q → is_target t ps ≡ false → Settles (t, q) f l ps f l ps
settles_itself f l ps t q e h = λ s. ap (after (reverse l)) (at_once-itself ps (after f s) t q e h)

pub settles_copy : (f l : List Move) (ps : List (Place × Place)) (t q : Place) → is_target t ps ≡ false → is_source t ps ≡ false → Settles (t, q) f l ps (f ++ Copy t q ∷ []) l ps
settles_copy f l ps t q h g = λ s.
    ap (after (reverse l)) (ap (at_once ps) (after-append f (Copy t q ∷ []) s) ∙ at_once-put ps (after f s) t (after f s q) h g)

pub settles_swap : (f l : List Move) (ps : List (Place × Place)) (t q : Place) → same t q ≡ false → is_target t ps ≡ false → is_target q ps ≡ true
    → Settles (t, q) f l ps (f ++ Swap t q ∷ []) l (map (exchanged_pair t q) ps)
settles_swap f l ps t q apart h g = λ s.
    ap (after (reverse l)) (ap (at_once (map (exchanged_pair t q) ps)) (after-append f (Swap t q ∷ []) s) ∙ at_once-swap ps (after f s) t q apart h g)

pub settles_last : (f l : List Move) (ps : List (Place × Place)) (t q : Place) → is_target q ps ≡ false → Settles (t, q) f l ps f (l ++ Copy t q ∷ []) ps
settles_last f l ps t q h = λ s.
    ap (λ (ms : List Move). after ms (at_once ps (after f s))) (reverse-append l (Copy t q ∷ []))
    ∙ ap (after (reverse l)) (at_once-copy ps (after f s) t q h)

exchanged_passes : (test : Place → Bool) (t q p : Place) → test t ≡ true → test q ≡ true → test p ≡ true → test (exchanged t q p) ≡ true
exchanged_passes test t q p ht hq hp =
    elim (same t p) as (λ b. test (cond b q (cond (same q p) t p)) ≡ true) [
      | true ↦ hq
      | false ↦ elim (same q p) as (λ b. test (cond b t p) ≡ true) [ true ↦ ht | false ↦ hp ]
    ]

-- an exchange renames places among those of the pairs
pub have_exchanged : (test : Place → Bool) (t q : Place) (ps : List (Place × Place)) → test t ≡ true → test q ≡ true → HavePlaces test ps → HavePlaces test (map (exchanged_pair t q) ps)
have_exchanged test t q [] ht hq h = tt
have_exchanged test t q (pair ∷ ps) ht hq h = (h.0, exchanged_passes test t q pair.1 ht hq h.1, have_exchanged test t q ps ht hq h.2)

-- a move whose places pass may be put behind others
pub move-append : (test : Place → Bool) (ms : List Move) (m : Move) → test (target_of m) ≡ true → test (source_of m) ≡ true → MovePlaces test ms → MovePlaces test (ms ++ m ∷ [])
move-append test [] m ht hs h = (ht, hs, tt)
move-append test (x ∷ xs) m ht hs h = (h.0, h.1, move-append test xs m ht hs h.2)

pub move-append_all : (test : Place → Bool) (xs ys : List Move) → MovePlaces test xs → MovePlaces test ys → MovePlaces test (xs ++ ys)
move-append_all test [] ys h g = g
move-append_all test (x ∷ xs) ys h g = (h.0, h.1, move-append_all test xs ys h.2 g)

pub move-append_parts : (test : Place → Bool) (xs ys : List Move) → MovePlaces test (xs ++ ys) → MovePlaces test xs × MovePlaces test ys
move-append_parts test [] ys h = (tt, h)
move-append_parts test (x ∷ xs) ys h =
    let rest = move-append_parts test xs ys h.2 in
    ((h.0, h.1, rest.0), rest.1)
