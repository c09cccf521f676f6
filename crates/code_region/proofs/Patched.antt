-- Four bytes written one after another.
use Rattle.std.proofs.Common.{◌≡◌, ℕ, ◌+◌, ◌≤◌, List, [], ◌∷◌, ◌++◌, length, slice_index, slice_set, take, drop, ap, ◌∙◌, suc, arith}
use Rattle.std.proofs.lemmas.List.Edits.{sets-eq}

pub four_sets : (old : List ℕ) (at : ℕ) (bs : List ℕ) → length bs ≡ 4 → at + 4 ≤ length old
    → slice_set (slice_set (slice_set (slice_set old at (slice_index bs 0)) (at + 1) (slice_index bs 1)) (at + 2) (slice_index bs 2)) (at + 3) (slice_index bs 3) ≡ take at old ++ bs ++ drop (at + 4) old
four_sets old at (a ∷ b ∷ c ∷ d ∷ []) four within =
    let one : at + 1 ≡ suc at = omega arith in
    let two : at + 2 ≡ suc (suc at) = omega arith in
    let three : at + 3 ≡ suc (suc (suc at)) = omega arith in
    ap (λ (k : ℕ). slice_set (slice_set (slice_set (slice_set old at a) k b) (at + 2) c) (at + 3) d) one
    ∙ ap (λ (k : ℕ). slice_set (slice_set (slice_set (slice_set old at a) (suc at) b) k c) (at + 3) d) two
    ∙ ap (λ (k : ℕ). slice_set (slice_set (slice_set (slice_set old at a) (suc at) b) (suc (suc at)) c) k d) three
    ∙ sets-eq (a ∷ b ∷ c ∷ d ∷ []) old at within
four_sets old at bs four within = absurd (omega arith)
