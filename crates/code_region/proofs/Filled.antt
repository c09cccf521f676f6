-- Chunks that are filled one after another: their bytes, and what one chunk's change makes of them.
use Rattle.std.proofs.Common.{◌≡◌, ℕ, ◌+◌, ◌-◌, ◌*◌, ◌<◌, ◌≤◌, min, List, [], ◌∷◌, ◌++◌, length, get_or, set, take, drop, replicate, refl, ap, sym, subst, ◌∙◌, inl, inr, suc, zero, arith, length-append, append_assoc}
use Rattle.std.proofs.lemmas.List.{append-nil, length-drop, set-append_left, set-append_right, take-append-le, drop-append-le, drop-drop, drop_at, take_min, nil_from_length}
use Rattle.std.proofs.lemmas.Bool.{cases_lt}
use Rattle.code_region.specs.Chunks.{joined, IsFilled}

pub length-joined : (cs : List (List ℕ)) (n : ℕ) → IsFilled n cs → length (joined cs) ≡ n
length-joined [] n f = sym f
length-joined (c ∷ cs) n f = omega (arith, length-append c (joined cs), f.0, length-joined cs (n - 65536) f.1)

-- no byte stands behind a chunk that is not full
rest_none : (cs : List (List ℕ)) (n : ℕ) → IsFilled n cs → n ≡ 0 → joined cs ≡ []
rest_none cs n f e = nil_from_length (joined cs) (length-joined cs n f ∙ e)

-- so many bytes lie in so many chunks
pub fits_chunks : (cs : List (List ℕ)) (n : ℕ) → IsFilled n cs → n ≤ 65536 * length cs
fits_chunks [] n f = omega (arith, f)
fits_chunks (c ∷ cs) n f = omega (arith, fits_chunks cs (n - 65536) f.1)

-- how many bytes stand in one chunk
pub length-chunk : (cs : List (List ℕ)) (n k : ℕ) (x : List ℕ) → IsFilled n cs → k < length cs → x ≡ get_or cs k x → length x ≡ min (n - 65536 * k) 65536
length-chunk [] n k x f l e = absurd (omega (arith, l))
length-chunk (c ∷ cs) n zero x f l e = omega (arith, ap length e, f.0)
length-chunk (c ∷ cs) n (suc k) x f l e = omega (arith, length-chunk cs (n - 65536) k x f.1 (omega (arith, l)) e)

module _ (more : List ℕ) where
  -- bytes behind those of the last chunk with any stand behind all bytes
  pub joined-added : (cs : List (List ℕ)) (n k o : ℕ) (x : List ℕ) → IsFilled n cs → k < length cs → x ≡ get_or cs k x → n ≡ 65536 * k + o → o + length more ≤ 65536
      → joined (set cs k (x ++ more)) ≡ joined cs ++ more
  joined-added [] n k o x f l e at fits = absurd (omega (arith, l))
  joined-added (c ∷ cs) n zero o x f l e at fits =
      let none : joined cs ≡ [] = rest_none cs (n - 65536) f.1 (omega (arith, at, fits)) in
      ap (λ (r : List ℕ). (x ++ more) ++ r) none ∙ append-nil (x ++ more) ∙ ap (λ (y : List ℕ). y ++ more) (e ∙ sym (append-nil c) ∙ ap (λ (r : List ℕ). c ++ r) (sym none))
  joined-added (c ∷ cs) n (suc k) o x f l e at fits =
      ap (λ (r : List ℕ). c ++ r) (joined-added cs (n - 65536) k o x f.1 (omega (arith, l)) e (omega (arith, at)) fits) ∙ sym (append_assoc c (joined cs) more)

  pub filled-added : (cs : List (List ℕ)) (n k o : ℕ) (x : List ℕ) → IsFilled n cs → k < length cs → x ≡ get_or cs k x → n ≡ 65536 * k + o → o + length more ≤ 65536
      → IsFilled (n + length more) (set cs k (x ++ more))
  filled-added [] n k o x f l e at fits = absurd (omega (arith, l))
  filled-added (c ∷ cs) n zero o x f l e at fits =
      let same : n - 65536 ≡ n + length more - 65536 = omega (arith, at, fits) in
      (omega (arith, length-append x more, ap length e, f.0, at, fits), subst (λ (m : ℕ). IsFilled m cs) same f.1)
  filled-added (c ∷ cs) n (suc k) o x f l e at fits =
      let same : n - 65536 + length more ≡ n + length more - 65536 = omega (arith, at) in
      (omega (arith, f.0, at), subst (λ (m : ℕ). IsFilled m (set cs k (x ++ more))) same (filled-added cs (n - 65536) k o x f.1 (omega (arith, l)) e (omega (arith, at)) fits))

-- a chunk of the same length in another's place
pub filled-same : (cs : List (List ℕ)) (n k : ℕ) (x y : List ℕ) → IsFilled n cs → k < length cs → x ≡ get_or cs k x → length y ≡ length x → IsFilled n (set cs k y)
filled-same [] n k x y f l e s = absurd (omega (arith, l))
filled-same (c ∷ cs) n zero x y f l e s = (s ∙ ap length e ∙ f.0, f.1)
filled-same (c ∷ cs) n (suc k) x y f l e s = (f.0, filled-same cs (n - 65536) k x y f.1 (omega (arith, l)) e s)

-- one byte written in a chunk
pub joined-set : (cs : List (List ℕ)) (n k o at b : ℕ) (x : List ℕ) → IsFilled n cs → k < length cs → x ≡ get_or cs k x → at ≡ 65536 * k + o → at < n → o < 65536
    → joined (set cs k (set x o b)) ≡ set (joined cs) at b
joined-set [] n k o at b x f l e is within low = absurd (omega (arith, l))
joined-set (c ∷ cs) n zero o at b x f l e is within low =
    let here : at ≡ o = omega (arith, is) in
    let bound : o < length c = omega (arith, f.0, here, within, low) in
    ap (λ (y : List ℕ). set y o b ++ joined cs) e ∙ sym (set-append_left c (joined cs) o b bound) ∙ ap (λ (i : ℕ). set (c ++ joined cs) i b) (sym here)
joined-set (c ∷ cs) n (suc k) o at b x f l e is within low =
    let whole : length c ≡ 65536 = omega (arith, f.0, is, within) in
    ap (λ (r : List ℕ). c ++ r) (joined-set cs (n - 65536) k o (at - 65536) b x f.1 (omega (arith, l)) e (omega (arith, is)) (omega (arith, is, within)) low)
    ∙ sym (set-append_right c (joined cs) 65536 at b whole (omega (arith, is)))

-- a chunk that is full, or behind which no byte stands, has the first bytes
take-here : (c r : List ℕ) (o m : ℕ) → o ≤ length c → ((length c < 65536) → r ≡ []) → m ≤ 65536 - o → take m (drop o (c ++ r)) ≡ take m (drop o c)
take-here c r o m l none few =
    ap (λ (y : List ℕ). take m y) (drop-append-le o c r l) ∙ elim (cases_lt (length c) 65536) [
      | inl short ↦ ap (λ (y : List ℕ). take m (drop o c ++ y)) (none short) ∙ ap (λ (y : List ℕ). take m y) (append-nil (drop o c))
      | inr long ↦ take-append-le m (drop o c) r (omega (arith, length-drop o c, long, few))
    ]

-- the bytes of a chunk from a place on are the first of all from there on
pub take-chunk : (cs : List (List ℕ)) (n k o at most : ℕ) (x : List ℕ) → IsFilled n cs → k < length cs → x ≡ get_or cs k x → at ≡ 65536 * k + o → at < n → o < 65536
    → take (min most (length x - o)) (drop o x) ≡ take (min most (65536 - o)) (drop at (joined cs))
take-chunk [] n k o at most x f l e is within low = absurd (omega (arith, l))
take-chunk (c ∷ cs) n zero o at most x f l e is within low =
    let here : at ≡ o = omega (arith, is) in
    let size : length (drop o c) ≡ length c - o = length-drop o c in
    let count : min most (length c - o) ≡ min (min most (65536 - o)) (length (drop o c)) = omega (arith, size, f.0) in
    ap (λ (y : List ℕ). take (min most (length y - o)) (drop o y)) e
    ∙ ap (λ (m : ℕ). take m (drop o c)) count
    ∙ take_min (min most (65536 - o)) (drop o c)
    ∙ sym (take-here c (joined cs) o (min most (65536 - o)) (omega (arith, f.0, here, within, low)) (λ short. rest_none cs (n - 65536) f.1 (omega (arith, f.0, short))) (omega arith))
    ∙ ap (λ (i : ℕ). take (min most (65536 - o)) (drop i (c ++ joined cs))) (sym here)
take-chunk (c ∷ cs) n (suc k) o at most x f l e is within low =
    let whole : length c ≡ 65536 = omega (arith, f.0, is, within) in
    let past : 65536 + (at - 65536) ≡ at = omega (arith, is) in
    take-chunk cs (n - 65536) k o (at - 65536) most x f.1 (omega (arith, l)) e (omega (arith, is)) (omega (arith, is, within)) low
    ∙ ap (λ (y : List ℕ). take (min most (65536 - o)) y)
    (ap (λ (y : List ℕ). drop (at - 65536) y) (sym (drop_at c (joined cs) 65536 whole)) ∙ drop-drop (at - 65536) 65536 (c ++ joined cs) ∙ ap (λ (i : ℕ). drop i (c ++ joined cs)) past)

-- empty chunks at the end change nothing
joined-empty : (m : ℕ) → joined (replicate m []) ≡ []
joined-empty zero = refl
joined-empty (suc m) = joined-empty m

filled-empty : (m : ℕ) → IsFilled 0 (replicate m [])
filled-empty zero = refl
filled-empty (suc m) = (refl, filled-empty m)

pub joined-more : (cs : List (List ℕ)) (m : ℕ) → joined (cs ++ replicate m []) ≡ joined cs
joined-more [] m = joined-empty m
joined-more (c ∷ cs) m = ap (λ (r : List ℕ). c ++ r) (joined-more cs m)

pub filled-more : (cs : List (List ℕ)) (n m : ℕ) → IsFilled n cs → IsFilled n (cs ++ replicate m [])
filled-more [] n m f = subst (λ (i : ℕ). IsFilled i (replicate m [])) (sym f) (filled-empty m)
filled-more (c ∷ cs) n m f = (f.0, filled-more cs (n - 65536) m f.1)

-- a place among the bytes, or one where a spare byte goes, lies in a chunk
pub in_chunk : (cs : List (List ℕ)) (n k o at : ℕ) → IsFilled n cs → at ≡ 65536 * k + o → at < n → k < length cs
in_chunk cs n k o at f is within = omega (arith, fits_chunks cs n f)

pub in_room : (cs : List (List ℕ)) (n spare k o m : ℕ) → n + spare ≤ 65536 * length cs → n ≡ 65536 * k + o → 0 < m → m ≤ spare → k < length cs
in_room cs n spare k o m room is some fits = omega arith
