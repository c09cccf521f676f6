-- The places of displacements by operation.
use Rattle.std.proofs.Common.{◌≡◌, ℕ, suc, ◌+◌, ◌<◌, Bool, true, false, cond, nat_eq, List, [], ◌∷◌, ◌++◌, length, drop, get_or, refl, sym, ap, ◌∙◌, arith, drop-cons, Some, None}
use Rattle.x64_encode.specs.declared.instr.Instr.{Instr}
use Rattle.x64_encode.specs.Form.{spelling}
use Rattle.std.specs.Prelude.{slice_set}
use Rattle.std.proofs.lemmas.List.{get_or-set_same, get_or-set_other, length-set}
use Rattle.std.proofs.Common.{eqb-true}
use Rattle.std.proofs.lemmas.Bool.{eq-eqb}
use Rattle.code_layout.specs.Emitting.{KeysBelow, key_at, jumps_behind, noted_if, noted}
use Rattle.bridge_patch.specs.Pieces.{FirstsBelow, place_among}

pub front_at : {X : Type 0} (xs : List X) (i : ℕ) (d : X) → i < length xs → drop i xs ≡ get_or xs i d ∷ drop (i + 1) xs
front_at xs i d lt =
    let n : suc i ≡ i + 1 = omega arith in
    drop-cons xs i d lt ∙ ap (λ m. get_or xs i d ∷ drop m xs) n

pub record Displaces (jumps : List (ℕ × ℕ)) (count : ℕ) (rest : List (ℕ × ℕ)) (ats : List ℕ) : Type 0 where
  pub long : length ats ≡ count
  pub below : FirstsBelow count rest
  pub so : (k : ℕ) → k < count → place_among k (get_or ats k 0) rest ≡ place_among k 0 jumps

pub first_at : (count : ℕ) (j : ℕ × ℕ) (rest : List (ℕ × ℕ)) → FirstsBelow count (j ∷ rest) → j.0 < count
first_at count (k, at) rest h = h.0

-- ---- the jumps that are noted are those of the operations

if_below : (count k : ℕ) (js : List (ℕ × ℕ)) (m : ℕ) (b : Bool) → k < count → KeysBelow count js → KeysBelow count (cond b js ((m, k) ∷ js))
if_below count k js m true lt h = h
if_below count k js m false lt h = (lt, h)

behind_below : (count n : ℕ) (js : List (ℕ × ℕ)) → KeysBelow count js → KeysBelow count (jumps_behind n js)
behind_below count n [] h = tt
behind_below count n ((m, k) ∷ js) h = if_below count k js m (nat_eq m n) h.0 h.1

one_below : (count k end : ℕ) (b : Bool) (rest : List (ℕ × ℕ)) → k < count → FirstsBelow count rest → FirstsBelow count (noted_if (cond b (Some k) None) end ++ rest)
one_below count k end true rest lt h = (lt, h)
one_below count k end false rest lt h = h

next_below : (count n end : ℕ) (js rest : List (ℕ × ℕ)) → KeysBelow count js → FirstsBelow count rest → FirstsBelow count (noted_if (key_at n js) end ++ rest)
next_below count n end [] rest h r = r
next_below count n end ((m, k) ∷ js) rest h r = one_below count k end (nat_eq m n) rest h.0 r

pub noted_below : (count p n : ℕ) (is : List Instr) (js : List (ℕ × ℕ)) → KeysBelow count js → FirstsBelow count (noted p n is js)
noted_below count p n [] js h = tt
noted_below count p n (i ∷ is) js h =
    let q = p + length (spelling i) in
    next_below count n q js (noted q (n + 1) is (jumps_behind n js)) h (noted_below count q (n + 1) is (jumps_behind n js) (behind_below count n js h))

set_get : (ats : List ℕ) (j k at : ℕ) (b : Bool) → nat_eq j k ≡ b → k < length ats → get_or (slice_set ats j at) k 0 ≡ cond b at (get_or ats k 0)
set_get ats j k at true e lt =
    let same : j ≡ k = eqb-true j k e in
    ap (λ (i : ℕ). get_or (slice_set ats i at) k 0) same ∙ get_or-set_same ats k at 0 lt
set_get ats j k at false e lt = get_or-set_other ats j k at 0 (λ (s : k ≡ j). no (eq-eqb j k (sym s)) e)
  where
    no : {b : Bool} → b ≡ true → b ≡ false → ⊥
    no t f = absurd (cc)

pub displaces_more : (jumps : List (ℕ × ℕ)) (count : ℕ) (j : ℕ × ℕ) (rest : List (ℕ × ℕ)) (ats ats' : List ℕ) → Displaces jumps count (j ∷ rest) ats → ats' ≡ slice_set ats j.0 j.1 → Displaces jumps count rest ats'
displaces_more jumps count (j, at) rest ats ats' h e = record {
  long = ap length e ∙ length-set ats j at ∙ h.long;
  below = h.below.1;
  so = λ k lt.
      ap (λ (l : List ℕ). place_among k (get_or l k 0) rest) e
      ∙ ap (λ (n : ℕ). place_among k n rest) (set_get ats j k at (nat_eq j k) refl (omega (arith, lt, h.long)))
      ∙ h.so k lt;
}
