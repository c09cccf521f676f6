-- Loops over the rows of numbers.
use Rattle.std.proofs.Common.{◌≡◌, ℕ, ◌+◌, ◌<◌, ◌≤◌, List, [], ◌∷◌, drop, take, length, slice_index_or, refl, ap, sym, ◌∙◌, subst, arith}
use Rattle.std.specs.Prelude.{min}
use Rattle.std.specs.List.{All}
use Rattle.std.proofs.lemmas.List.{drop_more, drop_all, take_more, take_all}
use Rattle.std.proofs.lemmas.List.Elements.{All-push}
use Rattle.std.proofs.lemmas.Option.{slice_get_read}
use Rattle.lists.proofs.Alls.{all_weaker}
use Rattle.trace_ops.specs.declared.trace.Arg.{Arg}
use Rattle.trace_ops.specs.declared.trace.Arg.TheVariants as arg
use Rattle.resume_rebuild.specs.Firsts.{IsBelow}
use Rattle.resume_rebuild.specs.Rows.{with_row, rows_at}

pub next_row : {X : Type 0} (rows : List X) (ks : List ℕ) (i d : ℕ) (row : X) → i < length ks → slice_index_or ks i d < length rows → row ≡ slice_index_or rows (slice_index_or ks i d) row → rows_at rows (drop i ks) ≡ row ∷ rows_at rows (drop (i + 1) ks)
next_row rows ks i d row lt inside is =
    ap (rows_at rows) (drop_more ks i d lt)
    ∙ ap (λ o. with_row o (rows_at rows (drop (i + 1) ks))) (slice_get_read rows (length rows) (slice_index_or ks i d) row refl inside is)

pub no_rows : {X : Type 0} (rows : List X) (ks : List ℕ) (i : ℕ) → length ks ≤ i → rows_at rows (drop i ks) ≡ []
no_rows rows ks i le = ap (rows_at rows) (drop_all i ks le)

pub saturated : (a s r m k : ℕ) → k ≡ min (a + min s m) m → min (k + r) m ≡ min (a + (s + r)) m
saturated a s r m k e = grind (arith, e)

pub saturated_few : (x m k : ℕ) → k ≡ min x m → k ≤ m
saturated_few x m k e = grind (arith, e)

pub saturated_end : (a m : ℕ) → a ≤ m → min (a + 0) m ≡ a
saturated_end a m le = grind (arith, le)

pub bounded_more : {X : Type 0} (f : X → ℕ) (xs : List X) (i : ℕ) (d : X) (old new : ℕ) → i < length xs → All (λ x. f x ≤ old) (take i xs) → old ≤ new → f (slice_index_or xs i d) ≤ new → All (λ x. f x ≤ new) (take (i + 1) xs)
bounded_more f xs i d old new lt h le one =
    subst (All (λ x. f x ≤ new)) (sym (take_more xs i d lt)) (All-push (λ x. f x ≤ new) (take i xs) (slice_index_or xs i d) (all_weaker (λ x. f x ≤ old) (λ x. f x ≤ new) (take i xs) (λ x g. omega (arith, g, le)) h) one)

pub bounded_step : {X : Type 0} (f : X → ℕ) (xs : List X) (i : ℕ) (x : X) (old new : ℕ) → i < length xs → All (λ y. f y ≤ old) (take i xs) → old ≤ new → x ≡ slice_index_or xs i x → f x ≤ new → All (λ y. f y ≤ new) (take (i + 1) xs)
bounded_step f xs i x old new lt h le is one = bounded_more f xs i x old new lt h le (subst (λ y. f y ≤ new) is one)

pub bounded_all : {X : Type 0} (P : X → Type 0) (xs : List X) (i : ℕ) → length xs ≤ i → All P (take i xs) → All P xs
bounded_all P xs i le h = subst (All P) (take_all i xs le) h

below_more : (m n : ℕ) (a : Arg) → m ≤ n → IsBelow m a → IsBelow n a
below_more m n (arg.Of b) le h = tt
below_more m n (arg.Const z) le h = tt
below_more m n arg.Null le h = tt
below_more m n (arg.Class k) le h = tt
below_more m n (arg.Func k) le h = tt
below_more m n (arg.Ptr k) le h = (let lt : k < m = h in omega arith)

pub below_step : (xs : List Arg) (i : ℕ) (d : Arg) (old own new : ℕ) → i < length xs → All (IsBelow old) (take i xs) → old ≤ new → own ≤ new → IsBelow own (slice_index_or xs i d) → All (IsBelow new) (take (i + 1) xs)
below_step xs i d old own new lt h le more one =
    subst (All (IsBelow new)) (sym (take_more xs i d lt))
    (All-push (IsBelow new) (take i xs) (slice_index_or xs i d) (all_weaker (IsBelow old) (IsBelow new) (take i xs) (λ a g. below_more old new a le g) h) (below_more own new (slice_index_or xs i d) more one))

pub below_all : (xs : List Arg) (old new : ℕ) → old ≤ new → All (IsBelow old) xs → All (IsBelow new) xs
below_all xs old new le h = all_weaker (IsBelow old) (IsBelow new) xs (λ a g. below_more old new a le g) h
