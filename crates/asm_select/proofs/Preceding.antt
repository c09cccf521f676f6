-- The words before prebuilt objects.
use Rattle.std.proofs.Common.{◌≡◌, ◌⊎◌, ℕ, zero, suc, ◌+◌, ◌<◌, List, [], ◌∷◌, ◌++◌, Some, length, map, inl, inr, refl, sym, ap, ◌∙◌, subst, arith}
use Rattle.std.specs.Prelude.{slice_get}
use Rattle.std.proofs.lemmas.List.{length-map, length_push}
use Rattle.lists.proofs.Appends.{push_cases}
use Rattle.lists.proofs.Options.{some_same}
use Rattle.trace_ops.specs.declared.table.PrebuiltRow.{PrebuiltRow}
use Rattle.trace_meaning.specs.Recorded.{prebuilt_object, initial_value}
use Rattle.arena_objects.specs.Layout.{words_ahead, words_before}
use Rattle.asm_select.specs.Known.{HaveStarts}

-- so many objects have a start, and this one is next
pub record Preceded (rows : List PrebuiltRow) (k : ℕ) (starts : List ℕ) (next : ℕ) : Type 0 where
  pub long : length starts ≡ k
  pub each : HaveStarts rows starts
  pub next_is : next ≡ words_before (map prebuilt_object rows) k

first_words : (x : PrebuiltRow) (rows : List PrebuiltRow) → words_before (map prebuilt_object (x ∷ rows)) 1 ≡ words_ahead x.of + length x.parts
first_words x [] = (let n : length (map initial_value x.parts) ≡ length x.parts = length-map x.parts initial_value in omega (arith, n))
first_words x (y ∷ rows) = (let n : length (map initial_value x.parts) ≡ length x.parts = length-map x.parts initial_value in omega (arith, n))

next_words : (rows : List PrebuiltRow) (k : ℕ) (row : PrebuiltRow) → slice_get rows k ≡ Some row → words_before (map prebuilt_object rows) (suc k) ≡ words_before (map prebuilt_object rows) k + (words_ahead row.of + length row.parts)
next_words [] k row e = absurd (cc)
next_words (x ∷ rows) zero row e =
    let same : x ≡ row = some_same e in
    let n = first_words x rows ∙ ap (λ (r : PrebuiltRow). words_ahead r.of + length r.parts) same in
    omega (arith, n)
next_words (x ∷ rows) (suc k) row e = (let h = next_words rows k row e in omega (arith, h))

none_before : (rows : List PrebuiltRow) → words_before (map prebuilt_object rows) 0 ≡ 0
none_before [] = refl
none_before (x ∷ rows) = refl

pub none_preceded : (rows : List PrebuiltRow) → Preceded rows 0 [] 0
none_preceded rows = record { long = refl; each = λ k n e. absurd (cc); next_is = sym (none_before rows) }

pub one_preceded : (rows : List PrebuiltRow) (k : ℕ) (starts more : List ℕ) (next after : ℕ) (row : PrebuiltRow) → Preceded rows k starts next → slice_get rows k ≡ Some row → more ≡ starts ++ next ∷ [] → after ≡ next + (words_ahead row.of + length row.parts) → Preceded rows (k + 1) more after
one_preceded rows k starts more next after row p e m a =
    let one : k + 1 ≡ suc k = omega arith in
    subst (λ (l : List ℕ). Preceded rows (k + 1) l after) (sym m) (record {
      long = omega (arith, length_push starts next, p.long);
      each = λ i n f. each i n (push_cases starts next i n f);
      next_is = a ∙ ap (λ (n : ℕ). n + (words_ahead row.of + length row.parts)) p.next_is ∙ sym (next_words rows k row e) ∙ sym (ap (words_before (map prebuilt_object rows)) one);
    })
  where
    each : (i n : ℕ) → ((i < length starts) × (slice_get starts i ≡ Some n)) ⊎ ((i ≡ length starts) × (next ≡ n)) → n ≡ words_before (map prebuilt_object rows) i
    each i n (inl w) = p.each i n w.1
    each i n (inr w) = sym w.1 ∙ p.next_is ∙ ap (words_before (map prebuilt_object rows)) (sym (w.0 ∙ p.long))
