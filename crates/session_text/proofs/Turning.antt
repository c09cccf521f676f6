-- One more bridge in its turn.
use Rattle.std.proofs.Common.{◌≡◌, refl, ℕ, zero, suc, ◌+◌, ◌-◌, ◌<◌, ◌≤◌, Bool, false, not, ◌&&◌, length, length-set, Option, Some, None, List, [], ◌∷◌, ◌++◌, arith, ap, sym, subst, ◌∙◌, true, slice_set, slice_index_or}
use Rattle.std.proofs.lemmas.List.{append-nil, append_assoc}
use Rattle.std.proofs.lemmas.List.Quantifiers.{position-Some}
use Rattle.std.specs.List.{AllByRecursion}
use Rattle.lists.proofs.Bools.{true_not_false}
use Rattle.session_text.specs.declared.attaching.Row.{Row}
use Rattle.session_text.specs.Attaching.{turns, first_bridge, with_bridge, no_row, can_attach}

pub turns-zero : (rows : List Row) (k : Option ℕ) → turns zero rows k ≡ []
unfolding turns
turns-zero rows k = refl

pub turns-none : (n : ℕ) (rows : List Row) → turns n rows None ≡ []
unfolding turns
turns-none zero rows = refl
turns-none (suc n) rows = refl

pub turns-some : (n : ℕ) (rows : List Row) (k : ℕ) → turns (suc n) rows (Some k) ≡ k ∷ turns n (with_bridge k rows) (first_bridge (with_bridge k rows))
unfolding turns
turns-some n rows k = refl

-- the bridges so far, and those to come, are all
pub turns-stopped : (n : ℕ) (rows : List Row) (k : Option ℕ) (some all : List ℕ) → k ≡ None → some ++ turns n rows k ≡ all → some ≡ all
turns-stopped n rows k some all none h =
    sym (append-nil some) ∙ ap (λ x. some ++ x) (sym (ap (λ o. turns n rows o) none ∙ turns-none n rows)) ∙ h

pub turns-over : (n : ℕ) (rows : List Row) (k : Option ℕ) (some all : List ℕ) → n ≡ 0 → some ++ turns n rows k ≡ all → some ≡ all
turns-over n rows k some all over h =
    sym (append-nil some) ∙ ap (λ x. some ++ x) (sym (ap (λ m. turns m rows k) over ∙ turns-zero rows k)) ∙ h

pub turns-more : (n i : ℕ) (rows : List Row) (k : ℕ) (first : Option ℕ) (some more all : List ℕ) → i < n → first ≡ Some k → more ≡ some ++ k ∷ [] → some ++ turns (n - i) rows first ≡ all
    → more ++ turns (n - (i + 1)) (with_bridge k rows) (first_bridge (with_bridge k rows)) ≡ all
turns-more n i rows k first some more all within one one_more h =
    let left : n - i ≡ suc (n - (i + 1)) = omega arith in
    ap (λ x. x ++ turns (n - (i + 1)) (with_bridge k rows) (first_bridge (with_bridge k rows))) one_more
    ∙ append_assoc some (k ∷ []) (turns (n - (i + 1)) (with_bridge k rows) (first_bridge (with_bridge k rows)))
    ∙ ap (λ x. some ++ x) (sym (turns-some (n - (i + 1)) rows k)) ∙ ap (λ m. some ++ turns m rows (Some k)) (sym left) ∙ ap (λ o. some ++ turns (n - i) rows o) (sym one) ∙ h

-- the row that changes is the one that stands there
pub turns-changed : (m : ℕ) (rows : List Row) (k : ℕ) (now : Row) (more all : List ℕ) → now ≡ slice_index_or rows k no_row
    → more ++ turns m (with_bridge k rows) (first_bridge (with_bridge k rows)) ≡ all
    → more ++ turns m (slice_set rows k (record { parent = now.parent; is_there = true })) (first_bridge (slice_set rows k (record { parent = now.parent; is_there = true }))) ≡ all
turns-changed m rows k now more all same h =
    subst (λ (row : Row). more ++ turns m (slice_set rows k (record { parent = row.parent; is_there = true })) (first_bridge (slice_set rows k (record { parent = row.parent; is_there = true }))) ≡ all) (sym same) h

-- Each bridge that is attached was one that waits.

abbrev pub Waits : (ℕ → Type 0) → List Row → Type 0
Waits P rows = (k : ℕ) → k < length rows → (slice_index_or rows k no_row).is_there ≡ false → P k

free-not_there : (a b : Bool) → not a && b ≡ true → a ≡ false
free-not_there true b h = cc
free-not_there false b h = refl

waits-set : (rows : List Row) (k j : ℕ) (row : Row) → row.is_there ≡ true → (slice_index_or (slice_set rows k row) j no_row).is_there ≡ false → (slice_index_or rows j no_row).is_there ≡ false
waits-set [] k j row there h = h
waits-set (x ∷ xs) zero zero row there h = absurd (true_not_false (sym there ∙ h))
waits-set (x ∷ xs) zero (suc j) row there h = h
waits-set (x ∷ xs) (suc k) zero row there h = h
waits-set (x ∷ xs) (suc k) (suc j) row there h = waits-set xs k j row there h

waits-with_bridge : (P : ℕ → Type 0) (rows : List Row) (k : ℕ) → Waits P rows → Waits P (with_bridge k rows)
waits-with_bridge P rows k w j within h =
    w j (subst (λ n. j < n) (length-set rows k _) within) (waits-set rows k j (record { parent = (slice_index_or rows k no_row).parent; is_there = true }) refl h)

pub turns-each : (P : ℕ → Type 0) (n : ℕ) (rows : List Row) (first : Option ℕ) → first_bridge rows ≡ first → Waits P rows → AllByRecursion P (turns n rows first)
unfolding turns
turns-each P zero rows first e w = tt
turns-each P (suc n) rows None e w = tt
turns-each P (suc n) rows (Some k) e w =
    let found = position-Some (can_attach rows) rows k no_row e in (
      w k found.0 (free-not_there (slice_index_or rows k no_row).is_there _ found.1),
      turns-each P n (with_bridge k rows) (first_bridge (with_bridge k rows)) refl (waits-with_bridge P rows k w),
    )

pub length-turns : (n : ℕ) (rows : List Row) (first : Option ℕ) → length (turns n rows first) ≤ n
unfolding turns
length-turns zero rows first = omega arith
length-turns (suc n) rows None = omega arith
length-turns (suc n) rows (Some k) =
    let less : length (turns n (with_bridge k rows) (first_bridge (with_bridge k rows))) ≤ n = length-turns n (with_bridge k rows) (first_bridge (with_bridge k rows)) in omega arith
