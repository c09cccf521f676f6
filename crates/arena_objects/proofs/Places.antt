-- Where the words of objects lie.
use Rattle.std.proofs.Common.{◌≡◌, ◌⊎◌, inl, inr, ℕ, zero, suc, ◌+◌, ◌<◌, ◌≤◌, Some, List, [], ◌∷◌, ◌++◌, length, map, set, slice_get, append_assoc, refl, ap, sym, ◌∙◌, arith, ℤ, pos}
use Rattle.std.proofs.Math.ListN.{length-set}
use Rattle.std.proofs.lemmas.List.{length-append, length-map, map-set}
use Rattle.std.proofs.lemmas.Option.{same_Some}
use Rattle.std.proofs.lemmas.Bool.{cases_order}
use Rattle.std.specs.List.{All}
use Rattle.trace_ops.specs.declared.table.Table.{Table}
use Rattle.trace_ops.specs.declared.table.ShapeOf.{ShapeOf}
use Rattle.trace_ops.specs.declared.table.ShapeOf.TheVariants.{Size, Array}
use Rattle.trace_meaning.specs.declared.value.Value.{Value}
use Rattle.trace_meaning.specs.declared.value.Value.TheVariants as v
use Rattle.trace_meaning.specs.declared.value.Object.{Object}
use Rattle.trace_meaning.specs.Objects.{with_part}
use Rattle.arena_objects.specs.Layout.{words_ahead, words_in, words_before, words_of, word_of, head_words, object_words, all_words}
use Rattle.arena_objects.specs.Standing.{IsPart}
use Rattle.lists.proofs.Appends.{get_left, get_right}
use Rattle.lists.proofs.Places.{set_left, set_right, get_some}
use Rattle.std.proofs.lemmas.List.Elements.{All-head, All-tail}

-- ---- lengths

pub length_head : (t : Table) (s : ShapeOf) (n : ℕ) → length (head_words t s n) ≡ words_ahead s
length_head t (Size s) n = refl
length_head t (Array a) n = refl

pub some_ahead : (s : ShapeOf) → 1 ≤ words_ahead s
some_ahead (Size s) = omega arith
some_ahead (Array a) = omega arith

pub length_object : (t : Table) (at : ℕ → ℕ) (o : Object) → length (object_words t at o) ≡ words_in o
length_object t at o =
    let a : length (object_words t at o) ≡ length (head_words t o.of (length o.parts)) + length (map (word_of at) o.parts) = length-append (head_words t o.of (length o.parts)) (map (word_of at) o.parts) in
    let b : length (head_words t o.of (length o.parts)) ≡ words_ahead o.of = length_head t o.of (length o.parts) in
    let c : length (map (word_of at) o.parts) ≡ length o.parts = length-map o.parts (word_of at) in
    omega arith

pub length_all : (t : Table) (at : ℕ → ℕ) (os : List Object) → length (all_words t at os) ≡ words_of os
length_all t at [] = refl
length_all t at (o ∷ os) =
    let a : length (all_words t at (o ∷ os)) ≡ length (object_words t at o) + length (all_words t at os) = length-append (object_words t at o) (all_words t at os) in
    let b : length (object_words t at o) ≡ words_in o = length_object t at o in
    let c : length (all_words t at os) ≡ words_of os = length_all t at os in
    omega arith

-- ---- which words are whose

pub within_all : (os : List Object) (n : ℕ) (o : Object) → slice_get os n ≡ Some o → words_before os n + words_in o ≤ words_of os
within_all [] n o e = absurd (cc)
within_all (x ∷ xs) zero o e =
    let same : words_in x ≡ words_in o = ap (λ (y : Object). words_in y) (same_Some x o e) in
    omega arith
within_all (x ∷ xs) (suc n) o e =
    let rest : words_before xs n + words_in o ≤ words_of xs = within_all xs n o e in
    omega arith

pub all_before : (os : List Object) (n : ℕ) → length os ≤ n → words_before os n ≡ words_of os
all_before [] n le = refl
all_before (x ∷ xs) zero le = absurd (omega arith)
all_before (x ∷ xs) (suc n) le = ap (λ k. words_in x + k) (all_before xs n (omega arith))

pub later : (os : List Object) (m n : ℕ) (o : Object) → slice_get os m ≡ Some o → m < n → words_before os m + words_in o ≤ words_before os n
later [] m n o e lt = absurd (cc)
later (x ∷ xs) m zero o e lt = absurd (omega arith)
later (x ∷ xs) zero (suc n) o e lt =
    let same : words_in x ≡ words_in o = ap (λ (y : Object). words_in y) (same_Some x o e) in
    omega arith
later (x ∷ xs) (suc m) (suc n) o e lt =
    let rest : words_before xs m + words_in o ≤ words_before xs n = later xs m n o e (omega arith) in
    omega arith

-- an object begins before each later one
pub before_later : (os : List Object) (m n : ℕ) → m < length os → m < n → words_before os m < words_before os n
before_later os m n lt less =
    let f = get_some os m lt in
    let a : words_before os m + words_in f.0 ≤ words_before os n = later os m n f.0 f.1 less in
    let b : 1 ≤ words_ahead f.0.of = some_ahead f.0.of in
    omega arith

pub apart : (os : List Object) (m n : ℕ) → m < length os → n < length os → words_before os m ≡ words_before os n → m ≡ n
apart os m n lm ln e = by_order (cases_order m n)
  where
    by_order : (m ≡ n) ⊎ ((m < n) ⊎ (n < m)) → m ≡ n
    by_order (inl same) = same
    by_order (inr (inl less)) = let h : words_before os m < words_before os n = before_later os m n lm less in absurd (omega arith)
    by_order (inr (inr more)) = let h : words_before os n < words_before os m = before_later os n m ln more in absurd (omega arith)

-- the word i of object n
pub found : (t : Table) (at : ℕ → ℕ) (os : List Object) (rest : List ℤ) (n i : ℕ) (o : Object) → slice_get os n ≡ Some o → i < words_in o → slice_get (all_words t at os ++ rest) (words_before os n + i) ≡ slice_get (object_words t at o) i
found t at [] rest n i o e lt = absurd (cc)
found t at (x ∷ xs) rest zero i o e lt =
    let same : x ≡ o = same_Some x o e in
    let size : words_in x ≡ words_in o = ap (λ (y : Object). words_in y) same in
    let full : length (object_words t at x) ≡ words_in x = length_object t at x in
    let first : 0 + i ≡ i = omega arith in
    ap (λ l. slice_get l (0 + i)) (append_assoc (object_words t at x) (all_words t at xs) rest)
    ∙ ap (slice_get (object_words t at x ++ (all_words t at xs ++ rest))) first
    ∙ get_left (object_words t at x) (all_words t at xs ++ rest) i (omega arith)
    ∙ ap (λ (y : Object). slice_get (object_words t at y) i) same
found t at (x ∷ xs) rest (suc n) i o e lt =
    let full : length (object_words t at x) ≡ words_in x = length_object t at x in
    ap (λ l. slice_get l (words_in x + words_before xs n + i)) (append_assoc (object_words t at x) (all_words t at xs) rest)
    ∙ get_right (object_words t at x) (all_words t at xs ++ rest) (words_in x + words_before xs n + i) (words_before xs n + i) (omega arith)
    ∙ found t at xs rest n i o e lt

-- ---- a part is written

pub part_set : (t : Table) (at : ℕ → ℕ) (o : Object) (i : ℕ) (x : Value) → set (object_words t at o) (words_ahead o.of + i) (word_of at x) ≡ object_words t at (with_part o i x)
part_set t at o i x =
    let head : length (head_words t o.of (length o.parts)) ≡ words_ahead o.of = length_head t o.of (length o.parts) in
    set_right (head_words t o.of (length o.parts)) (map (word_of at) o.parts) (words_ahead o.of + i) i (word_of at x) (omega arith)
    ∙ ap (λ l. head_words t o.of (length o.parts) ++ l) (sym (map-set (word_of at) o.parts i x))
    ∙ ap (λ n. head_words t o.of n ++ map (word_of at) (set o.parts i x)) (sym (length-set o.parts i x))

pub word_set : (t : Table) (at : ℕ → ℕ) (os : List Object) (rest : List ℤ) (n i : ℕ) (o : Object) (x : Value) → slice_get os n ≡ Some o → i < length o.parts → set (all_words t at os ++ rest) (words_before os n + (words_ahead o.of + i)) (word_of at x) ≡ all_words t at (set os n (with_part o i x)) ++ rest
word_set t at [] rest n i o x e lt = absurd (cc)
word_set t at (y ∷ ys) rest zero i o x e lt =
    let same : o ≡ y = sym (same_Some y o e) in
    let size : words_in o ≡ words_in y = ap (λ (z : Object). words_in z) same in
    let full : length (object_words t at o) ≡ words_in o = length_object t at o in
    let k = words_ahead o.of + i in
    let first : 0 + k ≡ k = omega arith in
    ap (λ (z : Object). set ((object_words t at z ++ all_words t at ys) ++ rest) (0 + k) (word_of at x)) (sym same)
    ∙ ap (λ l. set l (0 + k) (word_of at x)) (append_assoc (object_words t at o) (all_words t at ys) rest)
    ∙ ap (λ j. set (object_words t at o ++ (all_words t at ys ++ rest)) j (word_of at x)) first
    ∙ set_left (object_words t at o) (all_words t at ys ++ rest) k (word_of at x) (omega arith)
    ∙ ap (λ l. l ++ (all_words t at ys ++ rest)) (part_set t at o i x)
    ∙ sym (append_assoc (object_words t at (with_part o i x)) (all_words t at ys) rest)
word_set t at (y ∷ ys) rest (suc n) i o x e lt =
    let full : length (object_words t at y) ≡ words_in y = length_object t at y in
    let k = words_ahead o.of + i in
    ap (λ l. set l (words_in y + words_before ys n + k) (word_of at x)) (append_assoc (object_words t at y) (all_words t at ys) rest)
    ∙ set_right (object_words t at y) (all_words t at ys ++ rest) (words_in y + words_before ys n + k) (words_before ys n + k) (word_of at x) (omega arith)
    ∙ ap (λ l. object_words t at y ++ l) (word_set t at ys rest n i o x e lt)
    ∙ sym (append_assoc (object_words t at y) (all_words t at (set ys n (with_part o i x))) rest)

-- an object of the same size in place of one of them moves nothing
pub before_set : (os : List Object) (n : ℕ) (o p : Object) (k : ℕ) → slice_get os n ≡ Some o → words_in p ≡ words_in o → words_before (set os n p) k ≡ words_before os k
before_set [] n o p k e s = refl
before_set (x ∷ xs) zero o p zero e s = refl
before_set (x ∷ xs) zero o p (suc k) e s =
    let same : words_in x ≡ words_in o = ap (λ (y : Object). words_in y) (same_Some x o e) in
    let all : words_in p ≡ words_in x = omega arith in
    ap (λ m. m + words_before xs k) all
before_set (x ∷ xs) (suc n) o p zero e s = refl
before_set (x ∷ xs) (suc n) o p (suc k) e s = ap (λ m. words_in x + m) (before_set xs n o p k e s)

pub of_set : (os : List Object) (n : ℕ) (o p : Object) → slice_get os n ≡ Some o → words_in p ≡ words_in o → words_of (set os n p) ≡ words_of os
of_set [] n o p e s = refl
of_set (x ∷ xs) zero o p e s =
    let same : words_in x ≡ words_in o = ap (λ (y : Object). words_in y) (same_Some x o e) in
    omega arith
of_set (x ∷ xs) (suc n) o p e s = ap (λ m. words_in x + m) (of_set xs n o p e s)

pub same_size : (o : Object) (i : ℕ) (x : Value) → words_in (with_part o i x) ≡ words_in o
same_size o i x = ap (λ n. words_ahead o.of + n) (length-set o.parts i x)

-- ---- words by other addresses

abbrev pub Agree : ℕ → (ℕ → ℕ) → (ℕ → ℕ) → Type 0
Agree m f g = (k : ℕ) → k < m → f k ≡ g k

pub word_same : (m : ℕ) (f g : ℕ → ℕ) (x : Value) → Agree m f g → IsPart m x → word_of f x ≡ word_of g x
word_same m f g (v.Int z) h w = refl
word_same m f g v.Null h w = refl
word_same m f g (v.Obj n) h w = ap pos (h n w)

pub words_same : (m : ℕ) (f g : ℕ → ℕ) (xs : List Value) → Agree m f g → All (IsPart m) xs → map (word_of f) xs ≡ map (word_of g) xs
words_same m f g [] h a = refl
words_same m f g (x ∷ xs) h a =
    ap (λ w. w ∷ map (word_of f) xs) (word_same m f g x h (All-head (IsPart m) x xs a))
    ∙ ap (λ l. word_of g x ∷ l) (words_same m f g xs h (All-tail (IsPart m) x xs a))

pub object_same : (t : Table) (m : ℕ) (f g : ℕ → ℕ) (o : Object) → Agree m f g → All (IsPart m) o.parts → object_words t f o ≡ object_words t g o
object_same t m f g o h a = ap (λ l. head_words t o.of (length o.parts) ++ l) (words_same m f g o.parts h a)

abbrev pub AllThere : ℕ → List Object → Type 0
AllThere m os = All (λ (o : Object). All (IsPart m) o.parts) os

pub all_same : (t : Table) (m : ℕ) (f g : ℕ → ℕ) (os : List Object) → Agree m f g → AllThere m os → all_words t f os ≡ all_words t g os
all_same t m f g [] h a = refl
all_same t m f g (o ∷ os) h a =
    ap (λ l. l ++ all_words t f os) (object_same t m f g o h (All-head (λ (x : Object). All (IsPart m) x.parts) o os a))
    ∙ ap (λ l. object_words t g o ++ l) (all_same t m f g os h (All-tail (λ (x : Object). All (IsPart m) x.parts) o os a))
