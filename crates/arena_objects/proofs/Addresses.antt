-- Addresses that are found once: they rise, and each is the number of its object.
use Rattle.std.proofs.Common.{◌≡◌, ◌≢◌, ◌⊎◌, inl, inr, ℕ, zero, suc, ◌+◌, ◌-◌, ◌*◌, ◌<◌, ◌≤◌, Bool, true, false, cond, Option, Some, None, List, [], ◌∷◌, ◌++◌, length, map, get_or, append_assoc, refl, ap, sym, ◌∙◌, subst, arith, pos, negsuc}
use Rattle.std.specs.Prelude.{nat_eq}
use Rattle.std.proofs.lemmas.List.{append-nil, length_push}
use Rattle.std.proofs.lemmas.Bool.{eq-eqb, ne_eqb, cases_lt}
use Rattle.trace_ops.specs.declared.table.Table.{Table}
use Rattle.target_base.specs.Arena.{Arena}
use Rattle.arena_objects.specs.declared.walk.Found.{Found}
use Rattle.arena_objects.specs.Layout.{words_ahead}
use Rattle.arena_objects.specs.Walk.{words_found, begins_at, onward, walk, objects_found, number_from}
use Rattle.arena_objects.specs.Walked.{Rise, addresses_found, place_from, AddressesNumber}
use Rattle.arena_objects.proofs.Places.{some_ahead}
use Rattle.arena_objects.proofs.Walking.{begins_ends}

-- ---- places of addresses

pub place_at : (xs : List ℕ) (n k a : ℕ) → k < length xs → get_or xs k 0 ≡ a → ((i : ℕ) → i < k → get_or xs i 0 < a) → place_from n a xs ≡ Some (n + k)
place_at [] n k a lt e h = absurd (omega arith)
place_at (x ∷ xs) n zero a lt e h =
    let yes : nat_eq x a ≡ true = eq-eqb x a e in
    let same : n ≡ n + 0 = omega arith in
    ap (λ (b : Bool). cond b (Some n) (place_from (suc n) a xs)) yes ∙ ap Some same
place_at (x ∷ xs) n (suc k) a lt e h =
    let below : x < a = h 0 (omega arith) in
    let no : nat_eq x a ≡ false = ne_eqb x a (λ q. absurd (omega arith)) in
    let more : suc n + k ≡ n + suc k = omega arith in
    ap (λ (b : Bool). cond b (Some n) (place_from (suc n) a xs)) no ∙ place_at xs (suc n) k a (omega arith) e (λ i less. h (suc i) (omega arith)) ∙ ap Some more

pub place_none : (xs : List ℕ) (n a : ℕ) → ((i : ℕ) → i < length xs → get_or xs i 0 ≢ a) → place_from n a xs ≡ None
place_none [] n a h = refl
place_none (x ∷ xs) n a h =
    let no : nat_eq x a ≡ false = ne_eqb x a (h 0 (omega arith)) in
    ap (λ (b : Bool). cond b (Some n) (place_from (suc n) a xs)) no ∙ place_none xs (suc n) a (λ i less. h (suc i) (omega arith))

same_numbers : (fs : List Found) (n a : ℕ) → place_from n a (map (λ (f : Found). f.at) fs) ≡ number_from n (pos a) fs
same_numbers [] n a = refl
same_numbers (f ∷ fs) n a = ap (λ r. cond (nat_eq f.at a) (Some n) r) (same_numbers fs (suc n) a)

none_below : (fs : List Found) (n a : ℕ) → None ≡ number_from n (negsuc a) fs
none_below [] n a = refl
none_below (f ∷ fs) n a = refl

pub addresses_number : AddressesNumber
addresses_number t arena (pos a) = same_numbers (objects_found t arena) 0 a
addresses_number t arena (negsuc a) = none_below (objects_found t arena) 0 a

-- ---- a search by halves

-- what the address is compared with lies between two places
pub record Halves (xs : List ℕ) (a low high : ℕ) : Type 0 where
  pub order : low ≤ high
  pub inside : high ≤ length xs
  pub below : (i : ℕ) → i < low → get_or xs i 0 < a
  pub above : (j : ℕ) → high ≤ j → j < length xs → a < get_or xs j 0

pub all_between : (xs : List ℕ) (a : ℕ) → Halves xs a 0 (length xs)
all_between xs a = record {
  order = omega arith;
  inside = omega arith;
  below = λ i lt. absurd (omega arith);
  above = λ j le lt. absurd (omega arith);
}

pub found_at : (xs : List ℕ) (a k : ℕ) → Rise xs → k < length xs → get_or xs k 0 ≡ a → Some k ≡ place_from 0 a xs
found_at xs a k rise lt e =
    let none : 0 + k ≡ k = omega arith in
    sym (place_at xs 0 k a lt e (λ i less. subst (λ b. get_or xs i 0 < b) e (rise i k less lt)) ∙ ap Some none)

pub nothing_between : (xs : List ℕ) (a low high : ℕ) → Halves xs a low high → high ≤ low → None ≡ place_from 0 a xs
nothing_between xs a low high h le = sym (place_none xs 0 a apart)
  where
    apart : (i : ℕ) → i < length xs → get_or xs i 0 ≢ a
    apart i lt e = by_side (cases_lt i low)
      where
        by_side : (i < low) ⊎ (low ≤ i) → ⊥
        by_side (inl less) = let b : get_or xs i 0 < a = h.below i less in absurd (omega (arith, e))
        by_side (inr more) = let b : a < get_or xs i 0 = h.above i (omega (arith, more)) lt in absurd (omega (arith, e))

pub upper_half : (xs : List ℕ) (a low high k : ℕ) → Rise xs → Halves xs a low high → low ≤ k → k < high → get_or xs k 0 < a → Halves xs a (k + 1) high
upper_half xs a low high k rise h le lt here = record {
  order = omega arith;
  inside = h.inside;
  below = λ i less. by_place i (cases_lt i k) less;
  above = h.above;
}
  where
    by_place : (i : ℕ) → (i < k) ⊎ (k ≤ i) → i < k + 1 → get_or xs i 0 < a
    by_place i (inl less) s =
        let within : high ≤ length xs = h.inside in
        let b : get_or xs i 0 < get_or xs k 0 = rise i k less (omega arith) in
        omega arith
    by_place i (inr more) s =
        let same : k ≡ i = omega arith in
        subst (λ j. get_or xs j 0 < a) same here

pub lower_half : (xs : List ℕ) (a low high k : ℕ) → Rise xs → Halves xs a low high → low ≤ k → k < high → a < get_or xs k 0 → Halves xs a low k
lower_half xs a low high k rise h le lt here = record {
  order = le;
  inside = (let within : high ≤ length xs = h.inside in omega arith);
  below = h.below;
  above = λ j more inside. by_place j (cases_lt k j) more inside;
}
  where
    by_place : (j : ℕ) → (k < j) ⊎ (j ≤ k) → k ≤ j → j < length xs → a < get_or xs j 0
    by_place j (inl less) more inside =
        let b : get_or xs k 0 < get_or xs j 0 = rise k j less inside in
        omega arith
    by_place j (inr le) more inside =
        let same : k ≡ j = omega arith in
        subst (λ i. a < get_or xs i 0) same here

-- ---- the walk

get_front : (xs : List ℕ) (x i : ℕ) → i < length xs → get_or (xs ++ x ∷ []) i 0 ≡ get_or xs i 0
get_front [] x i lt = absurd (omega arith)
get_front (y ∷ ys) x zero lt = refl
get_front (y ∷ ys) x (suc i) lt = get_front ys x i (omega arith)

get_end : (xs : List ℕ) (x : ℕ) → get_or (xs ++ x ∷ []) (length xs) 0 ≡ x
get_end [] x = refl
get_end (y ∷ ys) x = get_end ys x

rise_push : (xs : List ℕ) (x : ℕ) → Rise xs → ((i : ℕ) → i < length xs → get_or xs i 0 < x) → Rise (xs ++ x ∷ [])
rise_push xs x rise below i j less lt = by_place (cases_lt j (length xs))
  where
    by_place : (j < length xs) ⊎ (length xs ≤ j) → get_or (xs ++ x ∷ []) i 0 < get_or (xs ++ x ∷ []) j 0
    by_place (inl inside) =
        let a : get_or (xs ++ x ∷ []) i 0 ≡ get_or xs i 0 = get_front xs x i (omega arith) in
        let b : get_or (xs ++ x ∷ []) j 0 ≡ get_or xs j 0 = get_front xs x j inside in
        let c : get_or xs i 0 < get_or xs j 0 = rise i j less inside in
        omega arith
    by_place (inr past) =
        let one : length (xs ++ x ∷ []) ≡ length xs + 1 = length_push xs x in
        let same : length xs ≡ j = omega arith in
        let a : get_or (xs ++ x ∷ []) i 0 ≡ get_or xs i 0 = get_front xs x i (omega arith) in
        let b : get_or (xs ++ x ∷ []) j 0 ≡ x = subst (λ k. get_or (xs ++ x ∷ []) k 0 ≡ x) same (get_end xs x) in
        let c : get_or xs i 0 < x = below i (omega arith) in
        omega arith

-- the state of a walk after some objects, whose addresses were found
pub record Finding (t : Table) (arena : Arena) (done at : ℕ) (xs : List ℕ) : Type 0 where
  pub left : xs ++ map (λ (f : Found). f.at) (walk (arena.taken - done) t arena at) ≡ addresses_found t arena
  pub low : 0x10000000 ≤ at
  pub high : at ≤ 0x10000000 + arena.taken
  pub few : 8 * length xs + 0x10000000 ≤ at
  pub rise : Rise xs
  pub below : (i : ℕ) → i < length xs → get_or xs i 0 < at

pub finds_none : (t : Table) (arena : Arena) → Finding t arena 0 0x10000000 []
unfolding objects_found
finds_none t arena = record {
  left = (let none : arena.taken - 0 ≡ arena.taken = omega arith in ap (λ n. map (λ (f : Found). f.at) (walk n t arena 0x10000000)) none);
  low = omega arith;
  high = omega arith;
  few = omega arith;
  rise = λ i j less lt. absurd (omega arith);
  below = λ i lt. absurd (omega arith);
}

next_is : (t : Table) (arena : Arena) (done at : ℕ) (xs : List ℕ) (r : Option Found) → done < arena.taken → Finding t arena done at xs → begins_at t arena at ≡ r → xs ++ map (λ (f : Found). f.at) (onward (walk (arena.taken - (done + 1)) t arena) r) ≡ addresses_found t arena
next_is t arena done at xs r lt s e =
    let one : arena.taken - done ≡ suc (arena.taken - (done + 1)) = omega arith in
    sym (ap (λ n. xs ++ map (λ (f : Found). f.at) (walk n t arena at)) one ∙ ap (λ o. xs ++ map (λ (f : Found). f.at) (onward (walk (arena.taken - (done + 1)) t arena) o)) e) ∙ s.left

pub finds_last : (t : Table) (arena : Arena) (done at : ℕ) (xs : List ℕ) → done < arena.taken → Finding t arena done at xs → begins_at t arena at ≡ None → xs ≡ addresses_found t arena
finds_last t arena done at xs lt s e = sym (append-nil xs) ∙ next_is t arena done at xs None lt s e

-- there is room for one more where all that is taken has room
pub room_left : (t : Table) (arena : Arena) (done at room : ℕ) (xs : List ℕ) (f : Found) → Finding t arena done at xs → begins_at t arena at ≡ Some f → arena.taken ≤ 8 * room → length xs < room
room_left t arena done at room xs f s e le =
    let ends = begins_ends t arena at f e in
    let same : f.at ≡ at = ends.0 in
    let most : f.at + 8 * words_found f ≤ 0x10000000 + arena.taken = ends.1 in
    let some : 1 ≤ words_ahead f.of = some_ahead f.of in
    let few : 8 * length xs + 0x10000000 ≤ at = s.few in
    omega arith

pub finds_more : (t : Table) (arena : Arena) (done at : ℕ) (xs : List ℕ) (f : Found) → done < arena.taken → Finding t arena done at xs → begins_at t arena at ≡ Some f → Finding t arena (done + 1) (f.at + 8 * words_found f) (xs ++ f.at ∷ [])
finds_more t arena done at xs f lt s e =
    let ends = begins_ends t arena at f e in
    let same : f.at ≡ at = ends.0 in
    let most : f.at + 8 * words_found f ≤ 0x10000000 + arena.taken = ends.1 in
    let some : 1 ≤ words_ahead f.of = some_ahead f.of in
    let first : 0x10000000 ≤ at = s.low in
    let few : 8 * length xs + 0x10000000 ≤ at = s.few in
    let one : length (xs ++ f.at ∷ []) ≡ length xs + 1 = length_push xs f.at in
    record {
      left = append_assoc xs (f.at ∷ []) (map (λ (g : Found). g.at) (walk (arena.taken - (done + 1)) t arena (f.at + 8 * words_found f))) ∙ next_is t arena done at xs (Some f) lt s e;
      low = omega arith;
      high = most;
      few = omega arith;
      rise = rise_push xs f.at s.rise (λ i less. subst (λ b. get_or xs i 0 < b) (sym same) (s.below i less));
      below = λ i less. by_place i (cases_lt i (length xs)) less;
    }
  where
    by_place : (i : ℕ) → (i < length xs) ⊎ (length xs ≤ i) → i < length (xs ++ f.at ∷ []) → get_or (xs ++ f.at ∷ []) i 0 < f.at + 8 * words_found f
    by_place i (inl inside) less =
        let same : f.at ≡ at = (begins_ends t arena at f e).0 in
        let a : get_or (xs ++ f.at ∷ []) i 0 ≡ get_or xs i 0 = get_front xs f.at i inside in
        let b : get_or xs i 0 < at = s.below i inside in
        omega arith
    by_place i (inr past) less =
        let one : length (xs ++ f.at ∷ []) ≡ length xs + 1 = length_push xs f.at in
        let last : length xs ≡ i = omega arith in
        let some : 1 ≤ words_ahead f.of = some_ahead f.of in
        let a : get_or (xs ++ f.at ∷ []) i 0 ≡ f.at = subst (λ k. get_or (xs ++ f.at ∷ []) k 0 ≡ f.at) last (get_end xs f.at) in
        omega arith

pub finds_all : (t : Table) (arena : Arena) (done at : ℕ) (xs : List ℕ) → arena.taken ≤ done → Finding t arena done at xs → xs ≡ addresses_found t arena
finds_all t arena done at xs le s =
    let none : arena.taken - done ≡ 0 = omega arith in
    sym (append-nil xs) ∙ sym (ap (λ n. xs ++ map (λ (f : Found). f.at) (walk n t arena at)) none) ∙ s.left
