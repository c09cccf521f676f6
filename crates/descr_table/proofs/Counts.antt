-- How often a name stands in a list.
use Rattle.std.proofs.Common.{◌≡◌, ℕ, zero, suc, ◌+◌, ◌<◌, ◌≤◌, Bool, true, false, cond, List, [], ◌∷◌, ◌++◌, length, map, Some, refl, sym, ap, subst, ◌∙◌, arith, zero-add, add_assoc}
use Rattle.std.specs.Prelude.{◌||◌, not, slice_get, unwrap_or}
use Rattle.std.specs.Str.{bytes_eq}
use Rattle.std.specs.List.{position_or_len}
use Rattle.std.proofs.lemmas.Bool.{lt-ltb}
use Rattle.std.proofs.lemmas.List.{map-id}
use Rattle.lists.proofs.Bools.{bytes_same, bytes_itself}
use Rattle.std.proofs.lemmas.Option.{slice_get_within}
use Rattle.lists.proofs.Places.{get_map}
use Rattle.text_lines.specs.Names.{has_name, number_of}
use Rattle.descr_table.specs.Meaning.{place}

abbrev Names : Type 0
Names = List (List ℕ)

-- 1 where the two are one name
abbrev pub one_if : Bool → ℕ
one_if b = cond b 1 0

-- how often the name stands in the list
abbrev pub count : List ℕ → Names → ℕ
count n [] = 0
count n (x ∷ xs) = one_if (bytes_eq n x) + count n xs

pub count-append : (n : List ℕ) (xs ys : Names) → count n (xs ++ ys) ≡ count n xs + count n ys
count-append n [] ys = sym (zero-add (count n ys))
count-append n (x ∷ xs) ys = ap (λ k. one_if (bytes_eq n x) + k) (count-append n xs ys) ∙ sym (add_assoc (one_if (bytes_eq n x)) (count n xs) (count n ys))

pub count-last : (n m : List ℕ) (xs : Names) → count n (xs ++ m ∷ []) ≡ count n xs + one_if (bytes_eq n m)
count-last n m xs = count-append n xs (m ∷ []) ∙ omega arith

count_free_by : (b r : Bool) (k : ℕ) → (b || r) ≡ false → (r ≡ false → k ≡ 0) → one_if b + k ≡ 0
count_free_by true r k e f = absurd cc
count_free_by false r k e f = omega (arith, f e)

pub count_free : (n : List ℕ) (xs : Names) → has_name n xs ≡ false → count n xs ≡ 0
count_free n [] e = refl
count_free n (x ∷ xs) e = count_free_by (bytes_eq n x) (has_name n xs) (count n xs) e (count_free n xs)

free_by : (b r : Bool) (k : ℕ) → one_if b + k ≡ 0 → (k ≡ 0 → r ≡ false) → (b || r) ≡ false
free_by true r k e f = absurd (omega arith)
free_by false r k e f = f (omega arith)

pub free_count : (n : List ℕ) (xs : Names) → count n xs ≡ 0 → has_name n xs ≡ false
free_count n [] e = refl
free_count n (x ∷ xs) e = free_by (bytes_eq n x) (has_name n xs) (count n xs) e (free_count n xs)

-- a name that stands nowhere yet may be added
one_more_by : (b : Bool) (f : List ℕ → ℕ) (n m : List ℕ) → bytes_eq n m ≡ b → f m ≡ 0 → f n ≤ 1 → f n + one_if b ≤ 1
one_more_by true f n m e z le = let is : f n ≡ 0 = ap f (bytes_same n m e) ∙ z in omega arith
one_more_by false f n m e z le = omega arith

pub one_more : (f : List ℕ → ℕ) (n m : List ℕ) → f m ≡ 0 → f n ≤ 1 → f n + one_if (bytes_eq n m) ≤ 1
one_more f n m z le = one_more_by (bytes_eq n m) f n m refl z le

-- a name that stands once isn't among those in front
pub free_before : (m : List ℕ) (done rest : Names) → count m (done ++ m ∷ rest) ≤ 1 → has_name m done ≡ false
free_before m done rest le =
    let is : one_if (bytes_eq m m) ≡ 1 = rw (bytes_itself m) refl in
    free_count m done (omega (arith, count-append m done (m ∷ rest), is))

pub stands : (m : List ℕ) (names : Names) (k : ℕ) → slice_get names k ≡ Some m → 0 < count m names
stands m [] k e = absurd cc
stands m (x ∷ xs) zero e =
    let is : x ≡ m = cc in
    let one : one_if (bytes_eq m x) ≡ 1 = rw (is, bytes_itself m) refl in
    omega arith
stands m (x ∷ xs) (suc k) e = omega (arith, stands m xs k e)

pub known_count : (m : List ℕ) (names : Names) → 0 < count m names → has_name m names ≡ true
known_count m names some = by_test (has_name m names) refl where
  by_test : (b : Bool) → has_name m names ≡ b → b ≡ true
  by_test true e = refl
  by_test false e = absurd (omega (arith, count_free m names e))

pub is_known : (m : List ℕ) (names : Names) (k : ℕ) → slice_get names k ≡ Some m → has_name m names ≡ true
is_known m names k e = known_count m names (stands m names k e)

-- the place of a name that stands once
abbrev first : List ℕ → Names → ℕ
first m names = position_or_len (λ x. bytes_eq m x) names

first_later : (b : Bool) (k i : ℕ) → 0 < k → one_if b + k ≤ 1 → cond (not b) (1 + i) 0 ≡ suc i
first_later true k i some le = absurd (omega arith)
first_later false k i some le = omega arith

pub first_is : (m : List ℕ) (names : Names) (k : ℕ) → slice_get names k ≡ Some m → count m names ≤ 1 → first m names ≡ k
first_is m [] k e le = absurd cc
first_is m (x ∷ xs) zero e le =
    let is : x ≡ m = cc in
    let one : bytes_eq m x ≡ true = rw (is, bytes_itself m) refl in
    rw one refl
first_is m (x ∷ xs) (suc k) e le =
    first_later (bytes_eq m x) (count m xs) (first m xs) (stands m xs k e) le ∙ ap suc (first_is m xs k e (omega arith))

pub number_is : (m : List ℕ) (names : Names) (k : ℕ) → slice_get names k ≡ Some m → count m names ≤ 1 → number_of m names ≡ Some k
number_is m names k e le =
    let at = first_is m names k e le in
    let lt : first m names < length names = omega (arith, at, slice_get_within names k m e) in
    rw (lt-ltb (first m names) (length names) lt) (ap Some at)

pub place_is : (m : List ℕ) (names : Names) (k : ℕ) → slice_get names k ≡ Some m → count m names ≤ 1 → place m names ≡ k
place_is m names k e le = ap (λ o. unwrap_or o 0) (number_is m names k e le)

-- the row of a known name
pub record Stands {X : Type 0} (g : X → List ℕ) (rows : List X) (m : List ℕ) : Type 0 where
  pub row : X
  pub at : slice_get rows (place m (map g rows)) ≡ Some row
  pub named : g row ≡ m
  pub number : number_of m (map g rows) ≡ Some (place m (map g rows))

found_by : {X : Type 0} (b : Bool) (g : X → List ℕ) (x : X) (xs : List X) (m : List ℕ) → bytes_eq m (g x) ≡ b → (b || has_name m (map g xs)) ≡ true
    → (has_name m (map g xs) ≡ true → (r : X) × (slice_get xs (first m (map g xs)) ≡ Some r) × (g r ≡ m)) → (r : X) × (slice_get (x ∷ xs) (first m (map g (x ∷ xs))) ≡ Some r) × (g r ≡ m)
found_by true g x xs m e h others = (x, rw e refl, sym (bytes_same m (g x) e))
found_by false g x xs m e h others =
    let r = others h in
    let one : 1 + first m (map g xs) ≡ suc (first m (map g xs)) = omega arith in
    (r.0, rw (e, one) r.1, r.2)

pub found : {X : Type 0} (g : X → List ℕ) (rows : List X) (m : List ℕ) → has_name m (map g rows) ≡ true → (r : X) × (slice_get rows (first m (map g rows)) ≡ Some r) × (g r ≡ m)
found g [] m h = absurd cc
found g (x ∷ xs) m h = found_by (bytes_eq m (g x)) g x xs m refl h (found g xs m)

pub row_of : {X : Type 0} (g : X → List ℕ) (rows : List X) (m : List ℕ) → has_name m (map g rows) ≡ true → Stands g rows m
row_of g rows m h =
    let f = found g rows m h in
    let lt : first m (map g rows) < length (map g rows) = slice_get_within (map g rows) (first m (map g rows)) (g f.0) (get_map g rows (first m (map g rows)) f.0 f.1) in
    let number : number_of m (map g rows) ≡ Some (first m (map g rows)) = rw (lt-ltb (first m (map g rows)) (length (map g rows)) lt) refl in
    let at : place m (map g rows) ≡ first m (map g rows) = ap (λ o. unwrap_or o 0) number in
    record { row = f.0; at = ap (slice_get rows) at ∙ f.1; named = f.2; number = number ∙ ap Some (sym at) }

-- the list of rows grows
pub named_at : (m : List ℕ) (names : Names) → has_name m names ≡ true → slice_get names (place m names) ≡ Some m
named_at m names e =
    let all : map (λ (x : List ℕ). x) names ≡ names = map-id names in
    let r = row_of (λ (x : List ℕ). x) names m (subst (λ (l : Names). has_name m l ≡ true) (sym all) e) in
    subst (λ (l : Names). slice_get names (place m l) ≡ Some m) all (r.at ∙ ap Some r.named)
