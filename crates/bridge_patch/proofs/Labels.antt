-- The frame words of a label.
use Rattle.std.proofs.Common.{◌≡◌, ℕ, zero, suc, ◌+◌, ◌<◌, ◌≤◌, ◌^◌, List, [], ◌∷◌, ◌++◌, length, Some, refl, sym, ap, ◌∙◌, subst, arith}
use Rattle.std.specs.Prelude.{slice_get}
use Rattle.std.proofs.lemmas.Option.{slice_get_within}
use Rattle.target_base.specs.declared.place.Place.{Place}
use Rattle.target_base.specs.declared.place.Place.TheVariants.{In, Word}
use Rattle.trace_ops.specs.declared.piece.Piece.{Piece}
use Rattle.linear_scan.specs.Placing.{AreDistinct, words_used, LabelPlaces, IsLabelPlace}
use Rattle.asm_select.specs.Selecting.{IsLabelWord}
use Rattle.bridge_patch.specs.Pieces.{words_from, label_places}

words_more : (j k : ℕ) → words_from j (suc k) ≡ words_from j k ++ Word (j + k) ∷ []
words_more j zero = let n : j ≡ j + 0 = omega arith in ap (λ (m : ℕ). Word m ∷ []) n
words_more j (suc k) =
    let n : j + 1 + k ≡ j + suc k = omega arith in
    ap (λ (l : List Place). Word j ∷ l) (words_more (j + 1) k) ∙ ap (λ (m : ℕ). Word j ∷ (words_from (j + 1) k ++ Word m ∷ [])) n

pub words_push : (j k : ℕ) → words_from j (k + 1) ≡ words_from j k ++ Word (j + k) ∷ []
words_push j k = let n : k + 1 ≡ suc k = omega arith in ap (words_from j) n ∙ words_more j k

pub words_long : (k n : ℕ) → length (words_from k n) ≡ n
words_long k zero = refl
words_long k (suc n) = ap suc (words_long (k + 1) n)

pub words_get : (k n i : ℕ) (p : Place) → slice_get (words_from k n) i ≡ Some p → (p ≡ Word (k + i)) × (i < n)
words_get k zero i p e = absurd (none i (slice_get_within [] i p e))
  where
    none : (i : ℕ) → i < 0 → ⊥
    none i lt = omega (arith, lt)
words_get k (suc n) zero p e =
    let here : Word k ≡ p = some_no e in
    let m : k ≡ k + 0 = omega arith in
    (sym here ∙ ap Word m, omega arith)
  where
    some_no : {a b : Place} → Some a ≡ Some b → a ≡ b
    some_no h = cc
words_get k (suc n) (suc i) p e =
    let r = words_get (k + 1) n i p e in
    let m : k + 1 + i ≡ k + suc i = omega arith in
    (r.0 ∙ ap Word m, omega (arith, r.1))

abbrev number_of : Place → ℕ
number_of (In r) = 0
number_of (Word k) = k

pub words_distinct : (n : ℕ) → AreDistinct (label_places n)
words_distinct n i j p q lt ei ej same =
    let a : p ≡ Word (16 + i) = (words_get 16 n i p ei).0 in
    let b : q ≡ Word (16 + j) = (words_get 16 n j q ej).0 in
    let e : 16 + i ≡ 16 + j = ap number_of (sym a ∙ same ∙ b) in
    omega (arith, e, lt)

pub words_few : (k n : ℕ) → 16 ≤ k → words_used (words_from k n) ≤ k + n
words_few k zero le = omega (arith, le)
words_few k (suc n) le = omega (arith, words_few (k + 1) n (omega (arith, le)))

pub words_lawful : (registers n : ℕ) (piece : Piece) → n < 2 ^ 30 → LabelPlaces registers piece (label_places n)
words_lawful registers n piece lt b p e =
    let r = words_get 16 n b p e in
    subst (IsLabelPlace registers piece b) (sym r.0) (omega arith, omega (arith, r.1, lt))

pub words_targets : (n i : ℕ) (p : Place) → n ≤ 1048000 → slice_get (label_places n) i ≡ Some p → IsLabelWord p
words_targets n i p le e =
    let r = words_get 16 n i p e in
    subst IsLabelWord (sym r.0) (omega arith, omega (arith, r.1, le))
