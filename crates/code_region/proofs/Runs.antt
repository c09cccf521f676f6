-- Runs of bytes, one behind another.
use Rattle.std.proofs.Common.{◌≡◌, ℕ, ◌+◌, ◌-◌, ◌<◌, min, List, ◌++◌, append_assoc, length, take, drop, ap, sym, ◌∙◌, inl, inr, ◌*◌, arith}
use Rattle.std.proofs.lemmas.Bool.{cases_lt}
use Rattle.std.proofs.Math.Seq.{take-add}
use Rattle.std.proofs.lemmas.List.{length-drop, length-take, drop-drop}

-- a run added behind the first bytes of a list
pub added_run : (all old before run xs : List ℕ) (i m : ℕ) → all ≡ before ++ run → before ≡ old ++ take i xs → run ≡ take m (drop i xs) → all ≡ old ++ take (i + m) xs
added_run all old before run xs i m a b r =
    a ∙ ap (λ (y : List ℕ). y ++ run) b ∙ append_assoc old (take i xs) run ∙ ap (λ (y : List ℕ). old ++ (take i xs ++ y)) r ∙ ap (λ (y : List ℕ). old ++ y) (sym (take-add i m xs))

-- two runs, the second from the next chunk's start, are the first sixteen bytes
pub two_runs : (bytes first second : List ℕ) (at k o : ℕ) → at ≡ 65536 * k + o → o < 65536 → (length first ≡ 16 → ⊥) → at + length first < length bytes
    → first ≡ take (min 16 (65536 - o)) (drop (65536 * k + o) bytes) → second ≡ take (min (16 - length first) 65536) (drop (65536 * (k + 1) + 0) bytes)
    → first ++ second ≡ take 16 (drop at bytes)
two_runs bytes first second at k o place low short more f s =
    let n = length first in
    let here : first ≡ take (min 16 (65536 - o)) (drop at bytes) = f ∙ ap (λ (i : ℕ). take (min 16 (65536 - o)) (drop i bytes)) (sym place) in
    let is : n ≡ min (min 16 (65536 - o)) (length bytes - at) = ap length here ∙ length-take (min 16 (65536 - o)) (drop at bytes) ∙ ap (λ (i : ℕ). min (min 16 (65536 - o)) i) (length-drop at bytes) in
    let few : n < 16 = elim (cases_lt n 16) [ inl l ↦ l | inr g ↦ absurd (short (omega (arith, is, g))) ] in
    let count : min 16 (65536 - o) ≡ n = omega (arith, is, more) in
    let left : min (16 - n) 65536 ≡ 16 - n = omega arith in
    let all : n + (16 - n) ≡ 16 = omega (arith, few) in
    let next : 65536 * (k + 1) + 0 ≡ at + n = omega (arith, place, count, few, low) in
    ap (λ (y : List ℕ). y ++ second) (here ∙ ap (λ (i : ℕ). take i (drop at bytes)) count)
    ∙ ap (λ (y : List ℕ). take n (drop at bytes) ++ y) (s ∙ ap (λ (i : ℕ). take i (drop (65536 * (k + 1) + 0) bytes)) left ∙ ap (λ (i : ℕ). take (16 - n) (drop i bytes)) next ∙ ap (λ (y : List ℕ). take (16 - n) y) (sym (drop-drop n at bytes)))
    ∙ sym (take-add n (16 - n) (drop at bytes)) ∙ ap (λ (i : ℕ). take i (drop at bytes)) all
