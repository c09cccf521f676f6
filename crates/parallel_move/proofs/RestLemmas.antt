-- What tables tell of the pairs that are left.
use Rattle.std.proofs.Common.{◌≡◌, ◌≢◌, ℕ, zero, suc, ◌+◌, ◌-◌, ◌<◌, Bool, true, false, cond, eqb, ltb, ◌||◌, List, [], ◌∷◌, Some, length, get_or, slice_set, length-set, map, refl, ap, sym, subst, ◌∙◌, inl, inr, arith}
use Rattle.std.proofs.lemmas.Option.{slice_get-get_or}
use Rattle.std.specs.List.{AllByRecursion, IsDistinct}
use Rattle.std.proofs.lemmas.Bool.{cases_order, eq-eqb, ne_eqb, lt-ltb}
use Rattle.std.proofs.lemmas.Bool.Decides.{eqb_tells}
use Rattle.std.proofs.lemmas.List.{get_or-set_same, get_or-set_other}
use Rattle.std.proofs.lemmas.Map.Keys.{apart_from_distinct}
use Rattle.target_base.specs.declared.place.Place.{Place}
use Rattle.target_base.specs.declared.place.Place.TheVariants.{Word}
use Rattle.parallel_move.specs.Moving.{same, is_target, is_source, exchanged, exchanged_pair}
use Rattle.parallel_move.specs.Resting.{name, named, located, IsBelow, LeadsBack, AreApart, targets_at, sources_at, IsRest}
use Rattle.parallel_move.proofs.MovingLemmas.{same_refl, same_comm}

abbrev number : Bool → ℕ
number b = cond b 1 0

-- ---- places by number

differ : true ≡ false → ⊥
differ e = cc

pub apart_of : (names : List Place) → IsDistinct same names → AreApart names
apart_of names h i j hi hj e = elim (cases_order i j) [
  | inl w ↦ w
  | inr w ↦ elim w [
    | inl lt ↦ absurd (differ (sym e ∙ apart_from_distinct same names i j (Word 0) h lt hj))
    | inr gt ↦ absurd (differ (sym e ∙ same_comm (name names i) (name names j) ∙ apart_from_distinct same names j i (Word 0) h gt hi))
  ]
]

pub same_number : (names : List Place) → AreApart names → (i j : ℕ) → i < length names → j < length names → same (name names i) (name names j) ≡ eqb i j
same_number names apart i j hi hj = by (same (name names i) (name names j)) refl
  where
    by : (b : Bool) → same (name names i) (name names j) ≡ b → same (name names i) (name names j) ≡ eqb i j
    by true e = e ∙ sym (eq-eqb i j (apart i j hi hj e))
    by false e = e ∙ sym (ne_eqb i j (λ w. differ (sym (same_refl (name names i)) ∙ ap (λ k. same (name names i) (name names k)) w ∙ e)))

-- ---- what is a target or a source

positive : (b : Bool) (n : ℕ) → (b || ltb 0 n) ≡ ltb 0 (number b + n)
positive true n = sym (lt-ltb 0 (1 + n) (omega arith))
positive false n = let e : n ≡ 0 + n = omega arith in ap (ltb 0) e

module _ (names : List Place) (at : List ℕ) (apart : AreApart names) where
  pub any_target : (pairs : List (ℕ × ℕ)) (k : ℕ) → k < length names → AllByRecursion (IsBelow (length names)) pairs
      → is_target (name names k) (map (named names) (located at pairs)) ≡ ltb 0 (targets_at k pairs)
  any_target [] k h below = refl
  any_target (pair ∷ pairs) k h below =
      ap (λ (b : Bool). b || is_target (name names k) (map (named names) (located at pairs))) (same_number names apart pair.0 k below.0.0 h)
      ∙ ap (λ (b : Bool). eqb pair.0 k || b) (any_target pairs k h below.1) ∙ positive (eqb pair.0 k) (targets_at k pairs)

  -- whose word is at a place
  module _ (holds : List ℕ) (forth : LeadsBack (length names) at holds) (back : LeadsBack (length names) holds at) where
    at_is : (s k : ℕ) → s < length names → k < length names → eqb (get_or at s 0) k ≡ eqb s (get_or holds k 0)
    at_is s k hs hk = elim (eqb_tells s (get_or holds k 0)) [
      | inl t ↦ eq-eqb (get_or at s 0) k (ap (λ j. get_or at j 0) t.1 ∙ (back k hk).1) ∙ sym t.0
      | inr t ↦ ne_eqb (get_or at s 0) k (λ e. t.1 (sym (forth s hs).1 ∙ ap (λ j. get_or holds j 0) e)) ∙ sym t.0
    ]

    pub any_source : (pairs : List (ℕ × ℕ)) (k : ℕ) → k < length names → AllByRecursion (IsBelow (length names)) pairs
        → is_source (name names k) (map (named names) (located at pairs)) ≡ ltb 0 (sources_at (get_or holds k 0) pairs)
    any_source [] k h below = refl
    any_source (pair ∷ pairs) k h below =
        ap (λ (b : Bool). b || is_source (name names k) (map (named names) (located at pairs)))
        (same_number names apart (get_or at pair.1 0) k (forth pair.1 below.0.1).0 h ∙ at_is pair.1 k below.0.1 h)
        ∙ ap (λ (b : Bool). eqb pair.1 (get_or holds k 0) || b) (any_source pairs k h below.1) ∙ positive (eqb pair.1 (get_or holds k 0)) (sources_at (get_or holds k 0) pairs)

-- ---- an exchange

abbrev moved : ℕ → ℕ → ℕ → ℕ
moved one other k = cond (eqb one k) other (cond (eqb other k) one k)

moved_one : (one other : ℕ) → moved one other one ≡ other
moved_one one other = ap (λ (b : Bool). cond b other (cond (eqb other one) one one)) (eq-eqb one one refl)

moved_other : (one other : ℕ) → moved one other other ≡ one
moved_other one other = elim (eqb_tells one other) [
  | inl t ↦ ap (λ (b : Bool). cond b other (cond (eqb other other) one other)) t.0 ∙ sym t.1
  | inr t ↦ ap (λ (b : Bool). cond b other (cond (eqb other other) one other)) t.0 ∙ ap (λ (b : Bool). cond b one other) (eq-eqb other other refl)
]

moved_third : (one other k : ℕ) → k ≢ one → k ≢ other → moved one other k ≡ k
moved_third one other k a b =
    ap (λ (c : Bool). cond c other (cond (eqb other k) one k)) (ne_eqb one k (λ e. a (sym e))) ∙ ap (λ (c : Bool). cond c one k) (ne_eqb other k (λ e. b (sym e)))

moved_twice : (one other k : ℕ) → moved one other (moved one other k) ≡ k
moved_twice one other k = elim (eqb_tells k one) [
  | inl t ↦ ap (λ j. moved one other (moved one other j)) t.1 ∙ ap (moved one other) (moved_one one other) ∙ moved_other one other ∙ sym t.1
  | inr t ↦ elim (eqb_tells k other) [
    | inl u ↦ ap (λ j. moved one other (moved one other j)) u.1 ∙ ap (moved one other) (moved_other one other) ∙ moved_one one other ∙ sym u.1
    | inr u ↦ ap (moved one other) (moved_third one other k t.1 u.1) ∙ moved_third one other k t.1 u.1
  ]
]

moved_below : (one other k n : ℕ) → one < n → other < n → k < n → moved one other k < n
moved_below one other k n a b h = elim (eqb_tells k one) [
  | inl t ↦ subst (λ j. j < n) (sym (ap (moved one other) t.1 ∙ moved_one one other)) b
  | inr t ↦ elim (eqb_tells k other) [
    | inl u ↦ subst (λ j. j < n) (sym (ap (moved one other) u.1 ∙ moved_other one other)) a
    | inr u ↦ subst (λ j. j < n) (sym (moved_third one other k t.1 u.1)) h
  ]
]

abbrev pub swapped : List ℕ → ℕ → ℕ → List ℕ
swapped xs i j = slice_set (slice_set xs i (get_or xs j 0)) j (get_or xs i 0)

pub swapped_length : (xs : List ℕ) (i j : ℕ) → length (swapped xs i j) ≡ length xs
swapped_length xs i j = length-set (slice_set xs i (get_or xs j 0)) j (get_or xs i 0) ∙ length-set xs i (get_or xs j 0)

swapped_at : (xs : List ℕ) (i j k : ℕ) → i < length xs → j < length xs → get_or (swapped xs i j) k 0 ≡ get_or xs (moved i j k) 0
swapped_at xs i j k hi hj = elim (eqb_tells k j) [
  | inl t ↦
      ap (λ m. get_or (swapped xs i j) m 0) t.1 ∙ get_or-set_same (slice_set xs i (get_or xs j 0)) j (get_or xs i 0) 0 (subst (λ n. j < n) (sym (length-set xs i (get_or xs j 0))) hj)
      ∙ ap (λ m. get_or xs m 0) (sym (ap (moved i j) t.1 ∙ moved_other i j))
  | inr t ↦
      get_or-set_other (slice_set xs i (get_or xs j 0)) j k (get_or xs i 0) 0 t.1
      ∙ elim (eqb_tells k i) [
        | inl u ↦ ap (λ m. get_or (slice_set xs i (get_or xs j 0)) m 0) u.1 ∙ get_or-set_same xs i (get_or xs j 0) 0 hi ∙ ap (λ m. get_or xs m 0) (sym (ap (moved i j) u.1 ∙ moved_one i j))
        | inr u ↦ get_or-set_other xs i k (get_or xs j 0) 0 u.1 ∙ ap (λ m. get_or xs m 0) (sym (moved_third i j k u.1 t.1))
      ]
]

module _ (n : ℕ) (at holds : List ℕ) (forth : LeadsBack n at holds) (back : LeadsBack n holds at) (at_len : length at ≡ n) (holds_len : length holds ≡ n)
    (one other : ℕ) (one_in : one < n) (other_in : other < n) where
  pub at_moved : (k : ℕ) → k < n → get_or (swapped at (get_or holds one 0) (get_or holds other 0)) k 0 ≡ moved one other (get_or at k 0)
  at_moved k h =
      swapped_at at (get_or holds one 0) (get_or holds other 0) k (subst (λ m. get_or holds one 0 < m) (sym at_len) (back one one_in).0) (subst (λ m. get_or holds other 0 < m) (sym at_len) (back other other_in).0)
      ∙ elim (eqb_tells k (get_or holds one 0)) [
        | inl t ↦
            ap (λ m. get_or at m 0) (ap (moved (get_or holds one 0) (get_or holds other 0)) t.1 ∙ moved_one (get_or holds one 0) (get_or holds other 0)) ∙ (back other other_in).1
            ∙ sym (ap (moved one other) (ap (λ m. get_or at m 0) t.1 ∙ (back one one_in).1) ∙ moved_one one other)
        | inr t ↦ elim (eqb_tells k (get_or holds other 0)) [
          | inl u ↦
              ap (λ m. get_or at m 0) (ap (moved (get_or holds one 0) (get_or holds other 0)) u.1 ∙ moved_other (get_or holds one 0) (get_or holds other 0)) ∙ (back one one_in).1
              ∙ sym (ap (moved one other) (ap (λ m. get_or at m 0) u.1 ∙ (back other other_in).1) ∙ moved_other one other)
          | inr u ↦
              ap (λ m. get_or at m 0) (moved_third (get_or holds one 0) (get_or holds other 0) k t.1 u.1)
              ∙ sym (moved_third one other (get_or at k 0) (λ e. t.1 (sym (forth k h).1 ∙ ap (λ m. get_or holds m 0) e)) (λ e. u.1 (sym (forth k h).1 ∙ ap (λ m. get_or holds m 0) e)))
        ]
      ]

  holds_moved : (k : ℕ) → get_or (swapped holds one other) k 0 ≡ get_or holds (moved one other k) 0
  holds_moved k = swapped_at holds one other k (subst (λ m. one < m) (sym holds_len) one_in) (subst (λ m. other < m) (sym holds_len) other_in)

  pub new_forth : LeadsBack n (swapped at (get_or holds one 0) (get_or holds other 0)) (swapped holds one other)
  new_forth k h = (
    subst (λ m. m < n) (sym (at_moved k h)) (moved_below one other (get_or at k 0) n one_in other_in (forth k h).0),
    ap (λ m. get_or (swapped holds one other) m 0) (at_moved k h) ∙ holds_moved (moved one other (get_or at k 0)) ∙ ap (λ m. get_or holds m 0) (moved_twice one other (get_or at k 0)) ∙ (forth k h).1,
  )

  pub new_back : LeadsBack n (swapped holds one other) (swapped at (get_or holds one 0) (get_or holds other 0))
  new_back k h =
      let in' = moved_below one other k n one_in other_in h in
      let to = (back (moved one other k) in').0 in (
        subst (λ m. m < n) (sym (holds_moved k)) to,
        ap (λ m. get_or (swapped at (get_or holds one 0) (get_or holds other 0)) m 0) (holds_moved k) ∙ at_moved (get_or holds (moved one other k) 0) to
            ∙ ap (moved one other) (back (moved one other k) in').1 ∙ moved_twice one other k,
      )

pub name_moved : (names : List Place) → AreApart names → (one other k : ℕ) → one < length names → other < length names → k < length names
    → name names (moved one other k) ≡ exchanged (name names one) (name names other) (name names k)
name_moved names apart one other k ho hp hk =
    by (eqb one k) (eqb other k)
    ∙ ap (λ (b : Bool). cond b (name names other) (cond (eqb other k) (name names one) (name names k))) (sym (same_number names apart one k ho hk))
    ∙ ap (λ (b : Bool). cond (same (name names one) (name names k)) (name names other) (cond b (name names one) (name names k))) (sym (same_number names apart other k hp hk))
  where
    by : (a b : Bool) → name names (cond a other (cond b one k)) ≡ cond a (name names other) (cond b (name names one) (name names k))
    by true b = refl
    by false true = refl
    by false false = refl

-- the pairs after an exchange
pub pairs_moved : (names : List Place) → AreApart names → (at new : List ℕ) (one other : ℕ) → one < length names → other < length names
    → ((k : ℕ) → k < length names → get_or new k 0 ≡ moved one other (get_or at k 0)) → ((k : ℕ) → k < length names → get_or at k 0 < length names)
    → (pairs : List (ℕ × ℕ)) → AllByRecursion (IsBelow (length names)) pairs
    → map (named names) (located new pairs) ≡ map (exchanged_pair (name names one) (name names other)) (map (named names) (located at pairs))
pairs_moved names apart at new one other ho hp moves within [] below = refl
pairs_moved names apart at new one other ho hp moves within (pair ∷ pairs) below =
    ap (λ (p : Place). (name names pair.0, p) ∷ map (named names) (located new pairs))
    (ap (name names) (moves pair.1 below.0.1) ∙ name_moved names apart one other (get_or at pair.1 0) ho hp (within pair.1 below.0.1))
    ∙ ap (λ (ps : List (Place × Place)). exchanged_pair (name names one) (name names other) (named names (pair.0, get_or at pair.1 0)) ∷ ps)
    (pairs_moved names apart at new one other ho hp moves within pairs below.1)

-- ---- the first pair

lowered_at : (counts : List ℕ) (k m : ℕ) (count : ℕ) → m < length counts → get_or counts m 0 ≡ number (eqb k m) + count → get_or (slice_set counts k (get_or counts k 0 - 1)) m 0 ≡ count
lowered_at counts k m count h e = elim (eqb_tells k m) [
  | inl t ↦
      let one : number (eqb k m) ≡ suc zero = ap (λ (b : Bool). number b) t.0 in
      let had : get_or counts k 0 ≡ suc count = ap (λ j. get_or counts j 0) t.1 ∙ e ∙ omega (arith, one) in
      ap (λ j. get_or (slice_set counts k (get_or counts k 0 - 1)) j 0) (sym t.1)
      ∙ get_or-set_same counts k (get_or counts k 0 - 1) 0 (subst (λ j. j < length counts) (sym t.1) h) ∙ omega (arith, had)
  | inr t ↦
      let none : number (eqb k m) ≡ zero = ap (λ (b : Bool). number b) t.0 in
      get_or-set_other counts k m (get_or counts k 0 - 1) 0 (λ e. t.1 (sym e)) ∙ e ∙ omega (arith, none)
]

pub has_count : (counts : List ℕ) (k : ℕ) (count : ℕ) → get_or counts k 0 ≡ number (eqb k k) + count → 0 < get_or counts k 0
has_count counts k count e = let one : number (eqb k k) ≡ suc zero = ap (λ (b : Bool). number b) (eq-eqb k k refl) in omega (arith, e, one)

pub rest_next : (names : List Place) (pair : ℕ × ℕ) (pairs : List (ℕ × ℕ)) (targets sources at holds : List ℕ) → IsRest names (pair ∷ pairs) targets sources at holds
    → IsRest names pairs (slice_set targets pair.0 (get_or targets pair.0 0 - 1)) (slice_set sources pair.1 (get_or sources pair.1 0 - 1)) at holds
rest_next names pair pairs targets sources at holds h = record {
  apart = h.apart;
  below = h.below.1;
  forth = h.forth;
  back = h.back;
  targets_counted = λ k w.
      let in' = subst (λ n. k < n) (length-set targets pair.0 (get_or targets pair.0 0 - 1)) w in
      lowered_at targets pair.0 k (targets_at k pairs) in' (h.targets_counted k in');
  sources_counted = λ k w.
      let in' = subst (λ n. k < n) (length-set sources pair.1 (get_or sources pair.1 0 - 1)) w in
      lowered_at sources pair.1 k (sources_at k pairs) in' (h.sources_counted k in');
  each_target = length-set targets pair.0 (get_or targets pair.0 0 - 1) ∙ h.each_target;
  each_source = length-set sources pair.1 (get_or sources pair.1 0 - 1) ∙ h.each_source;
  each_at = h.each_at;
  each_held = h.each_held;
}

pub rest_exchanged : (names : List Place) (pairs : List (ℕ × ℕ)) (targets sources at holds : List ℕ) (one other : ℕ) → one < length names → other < length names → IsRest names pairs targets sources at holds
    → IsRest names pairs targets sources (swapped at (get_or holds one 0) (get_or holds other 0)) (swapped holds one other)
rest_exchanged names pairs targets sources at holds one other ho hp h = record {
  apart = h.apart;
  below = h.below;
  forth = new_forth (length names) at holds h.forth h.back h.each_at h.each_held one other ho hp;
  back = new_back (length names) at holds h.forth h.back h.each_at h.each_held one other ho hp;
  targets_counted = h.targets_counted;
  sources_counted = h.sources_counted;
  each_target = h.each_target;
  each_source = h.each_source;
  each_at = swapped_length at (get_or holds one 0) (get_or holds other 0) ∙ h.each_at;
  each_held = swapped_length holds one other ∙ h.each_held;
}

pub exchanged_pairs : (names : List Place) (pairs : List (ℕ × ℕ)) (targets sources at holds : List ℕ) (one other : ℕ) → one < length names → other < length names → IsRest names pairs targets sources at holds
    → map (named names) (located (swapped at (get_or holds one 0) (get_or holds other 0)) pairs) ≡ map (exchanged_pair (name names one) (name names other)) (map (named names) (located at pairs))
exchanged_pairs names pairs targets sources at holds one other ho hp h =
    pairs_moved names h.apart at (swapped at (get_or holds one 0) (get_or holds other 0)) one other ho hp (at_moved (length names) at holds h.forth h.back h.each_at h.each_held one other ho hp)
    (λ k w. (h.forth k w).0) pairs h.below

-- ---- what is read from tables

pub read_is : (xs : List ℕ) (i x : ℕ) → i < length xs → x ≡ get_or xs i x → x ≡ get_or xs i 0
read_is xs i x h e = e ∙ some_is (sym (slice_get-get_or xs i x h) ∙ slice_get-get_or xs i 0 h)
  where
    some_is : {a b : ℕ} → Some a ≡ Some b → a ≡ b
    some_is h = cc

pub target_told : (names : List Place) (pairs : List (ℕ × ℕ)) (targets sources at holds : List ℕ) → IsRest names pairs targets sources at holds → (k t : ℕ) → k < length names → t ≡ get_or targets k t
    → ltb 0 t ≡ is_target (name names k) (map (named names) (located at pairs))
target_told names pairs targets sources at holds rest k t h e =
    let in' : k < length targets = omega (arith, h, rest.each_target) in
    ap (ltb 0) (read_is targets k t in' e ∙ rest.targets_counted k in') ∙ sym (any_target names at rest.apart pairs k h rest.below)

pub source_told : (names : List Place) (pairs : List (ℕ × ℕ)) (targets sources at holds : List ℕ) → IsRest names pairs targets sources at holds → (k w s : ℕ) → k < length names → w ≡ get_or holds k w → s ≡ get_or sources w s
    → ltb 0 s ≡ is_source (name names k) (map (named names) (located at pairs))
source_told names pairs targets sources at holds rest k w s h e f =
    let held = read_is holds k w (omega (arith, h, rest.each_held)) e in
    let in' : w < length sources = omega (arith, held, (rest.back k h).0, rest.each_source) in
    ap (ltb 0) (read_is sources w s in' f ∙ rest.sources_counted w in' ∙ ap (λ j. sources_at j pairs) held) ∙ sym (any_source names at rest.apart holds rest.forth rest.back pairs k h rest.below)
