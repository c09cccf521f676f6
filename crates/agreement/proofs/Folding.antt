-- Pure operations on values that agree along an injective map.
use Rattle.std.proofs.Common.{◌≡◌, ℕ, Bool, not, List, [], ◌∷◌, Option, Some, None, slice_get, refl, sym, ap, ◌∙◌, subst, eqb, inl, inr}
use Rattle.std.specs.Prelude.{ℤ}
use Rattle.std.specs.Option.{option_map}
use Rattle.std.specs.List.{AllZip}
use Rattle.std.proofs.lemmas.Bool.{ne_eqb, eq-eqb}
use Rattle.std.proofs.lemmas.Bool.Decides.{eqb_tells}
use Rattle.lists.proofs.Options.{some_same}
use Rattle.trace_ops.specs.declared.code.OpCode.{OpCode}
use Rattle.trace_ops.specs.declared.code.OpCode.TheVariants as code
use Rattle.trace_ops.specs.Words.{truth}
use Rattle.trace_meaning.specs.declared.value.Value.{Value}
use Rattle.trace_meaning.specs.declared.value.Value.TheVariants as v
use Rattle.trace_meaning.specs.Folding.{fold_words, one_reference, compared}
use Rattle.heap_shape.specs.Sameness.{Maps, MapsIf}
use Rattle.agreement.specs.Growing.{FoldsAlike}

-- a pair that agrees, by its kind
pub data Pair (m : ℕ → Option ℕ) : Value → Value → Type 0 where
  int : (z : ℤ) → Pair m (v.Int z) (v.Int z)
  null : Pair m v.Null v.Null
  obj : (x j : ℕ) → m x ≡ Some j → Pair m (v.Obj x) (v.Obj j)

pub data Pairs (m : ℕ → Option ℕ) : List Value → List Value → Type 0 where
  nil : Pairs m [] []
  cons : {x y : Value} {xs ys : List Value} → Pair m x y → Pairs m xs ys → Pairs m (x ∷ xs) (y ∷ ys)

pub pair_of : (m : ℕ → Option ℕ) (x y : Value) → Maps m x y → Pair m x y
pair_of m (v.Int x) (v.Int y) h = subst (λ z. Pair m (v.Int x) (v.Int z)) h (int x)
pair_of m v.Null v.Null h = null
pair_of m (v.Obj x) (v.Obj y) h = obj x y h
pair_of m (v.Int x) v.Null h = absurd h
pair_of m (v.Int x) (v.Obj y) h = absurd h
pair_of m v.Null (v.Int y) h = absurd h
pair_of m v.Null (v.Obj y) h = absurd h
pair_of m (v.Obj x) (v.Int y) h = absurd h
pair_of m (v.Obj x) v.Null h = absurd h

pub pairs_of : (m : ℕ → Option ℕ) (xs ys : List Value) → AllZip (Maps m) xs ys → Pairs m xs ys
pairs_of m [] [] h = nil
pairs_of m [] (y ∷ ys) h = absurd h
pairs_of m (x ∷ xs) [] h = absurd h
pairs_of m (x ∷ xs) (y ∷ ys) h = cons (pair_of m x y h.0) (pairs_of m xs ys h.1)

abbrev pub OneToOne : (ℕ → Option ℕ) → Type 0
OneToOne m = (x y j : ℕ) → m x ≡ Some j → m y ≡ Some j → x ≡ y

-- two numbers are one exactly where those to which they are mapped are
pub equal_along : (m : ℕ → Option ℕ) → OneToOne m → (x j y k : ℕ) → m x ≡ Some j → m y ≡ Some k → eqb x y ≡ eqb j k
equal_along m one x j y k ex ey = elim (eqb_tells x y) [
  | inl e ↦ e.0 ∙ sym (eq-eqb j k (some_same (sym ex ∙ ap m e.1 ∙ ey)))
  | inr e ↦ e.0 ∙ sym (ne_eqb j k (λ q. e.1 (one x y k (ex ∙ ap Some q) ey)))
]

words_along : (m : ℕ → Option ℕ) (operation : OpCode) {us ys : List Value} → Pairs m us ys → fold_words operation us ≡ fold_words operation ys
words_along m operation nil = refl
words_along m operation (cons null rest) = refl
words_along m operation (cons (obj x j e) rest) = refl
words_along m operation (cons (int a) nil) = refl
words_along m operation (cons (int a) (cons (int b) nil)) = refl
words_along m operation (cons (int a) (cons (int b) (cons c rest))) = refl
words_along m operation (cons (int a) (cons null rest)) = refl
words_along m operation (cons (int a) (cons (obj x j e) rest)) = refl

pub compared_along : (m : ℕ → Option ℕ) → OneToOne m → {us ys : List Value} → Pairs m us ys → compared us ≡ compared ys
compared_along m one nil = refl
compared_along m one (cons (int a) rest) = refl
compared_along m one (cons null nil) = refl
compared_along m one (cons null (cons (int b) rest)) = refl
compared_along m one (cons null (cons null nil)) = refl
compared_along m one (cons null (cons null (cons c rest))) = refl
compared_along m one (cons null (cons (obj x j e) nil)) = refl
compared_along m one (cons null (cons (obj x j e) (cons c rest))) = refl
compared_along m one (cons (obj x j e) nil) = refl
compared_along m one (cons (obj x j e) (cons (int b) rest)) = refl
compared_along m one (cons (obj x j e) (cons null nil)) = refl
compared_along m one (cons (obj x j e) (cons null (cons c rest))) = refl
compared_along m one (cons (obj x j e) (cons (obj y k f) nil)) = ap Some (equal_along m one x j y k e f)
compared_along m one (cons (obj x j e) (cons (obj y k f) (cons c rest))) = refl

pub int_if : (m : ℕ → Option ℕ) (a b : Option ℤ) → a ≡ b → MapsIf m (option_map v.Int a) (option_map v.Int b)
int_if m a b e = subst (λ c. MapsIf m (option_map v.Int a) (option_map v.Int c)) e (itself a)
  where
    itself : (a : Option ℤ) → MapsIf m (option_map v.Int a) (option_map v.Int a)
    itself None = tt
    itself (Some z) = refl

truth_if : (m : ℕ → Option ℕ) (f : Bool → ℤ) (a b : Option Bool) → a ≡ b → MapsIf m (option_map (λ c. v.Int (f c)) a) (option_map (λ c. v.Int (f c)) b)
truth_if m f a b e = subst (λ c. MapsIf m (option_map (λ d. v.Int (f d)) a) (option_map (λ d. v.Int (f d)) c)) e (itself a)
  where
    itself : (a : Option Bool) → MapsIf m (option_map (λ d. v.Int (f d)) a) (option_map (λ d. v.Int (f d)) a)
    itself None = tt
    itself (Some z) = refl

reference_along : (m : ℕ → Option ℕ) {us ys : List Value} → Pairs m us ys → MapsIf m (one_reference us) (one_reference ys)
reference_along m nil = tt
reference_along m (cons (int a) nil) = tt
reference_along m (cons null nil) = tt
reference_along m (cons (obj x j e) nil) = e
reference_along m (cons a (cons b rest)) = tt

pub folds_alike : FoldsAlike
folds_alike code.SameAsR p m one us ys h = reference_along (slice_get m) (pairs_of (slice_get m) us ys h)
folds_alike code.PtrEq p m one us ys h = truth_if (slice_get m) (λ b. truth b) (compared us) (compared ys) (compared_along (slice_get m) one.one_to_one (pairs_of (slice_get m) us ys h))
folds_alike code.PtrNe p m one us ys h = truth_if (slice_get m) (λ b. truth (not b)) (compared us) (compared ys) (compared_along (slice_get m) one.one_to_one (pairs_of (slice_get m) us ys h))
folds_alike operation p m one us ys h = int_if (slice_get m) (fold_words operation us) (fold_words operation ys) (words_along (slice_get m) operation (pairs_of (slice_get m) us ys h))
