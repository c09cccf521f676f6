-- A field is listed by its size.
use Rattle.std.proofs.Common.{◌≡◌, ℕ, zero, suc, ◌+◌, ◌<◌, inl, inr, Bool, true, false, not, cond, Some, None, List, [], ◌∷◌, length, slice_get, refl, ap, sym, ◌∙◌, subst, arith}
use Rattle.std.specs.Prelude.{◌==◌, position, nat_lt, nat_eq}
use Rattle.std.specs.List.{position_or_len}
use Rattle.std.proofs.lemmas.Bool.{lt-ltb, eq-eqb}
use Rattle.lists.specs.Has.{Has}
use Rattle.lists.proofs.Options.{some_same}
use Rattle.trace_ops.specs.declared.table.Table.{Table}
use Rattle.trace_ops.specs.declared.table.FieldRow.{FieldRow}
use Rattle.trace_ops.specs.InRange.{IsTableInRange, places_from, fields_of_size}
use Rattle.trace_meaning.specs.Objects.{fields_of, listed}
use Rattle.lists.proofs.Alls.{all_at}
use Rattle.lists.proofs.Places.{get_some}

-- an item that passes is found
hit_by : {X : Type 0} (p : X → Bool) (y : X) (ys : List X) (x : X) (b : Bool) → p y ≡ b → Has (y ∷ ys) x → p x ≡ true → (Has ys x → position_or_len p ys < length ys) → cond (not b) (1 + position_or_len p ys) 0 < length (y ∷ ys)
hit_by p y ys x true f e h more = omega arith
hit_by p y ys x false f (inl same) h more = let wrong : false ≡ true = sym f ∙ ap p same ∙ h in cc
hit_by p y ys x false f (inr later) h more = omega (arith, more later)

hit : {X : Type 0} (p : X → Bool) (xs : List X) (x : X) → Has xs x → p x ≡ true → position_or_len p xs < length xs
hit p [] x e h = absurd e
hit p (y ∷ ys) x e h = hit_by p y ys x (p y) refl e h (λ later. hit p ys x later h)

pub not_missed : {X : Type 0} (p : X → Bool) (xs : List X) (x : X) → Has xs x → p x ≡ true → position p xs ≡ None → ⊥
not_missed p xs x h t e = by (nat_lt (position_or_len p xs) (length xs)) (lt-ltb (position_or_len p xs) (length xs) (hit p xs x h t)) e
  where
    by : (b : Bool) → b ≡ true → cond b (Some (position_or_len p xs)) None ≡ None → ⊥
    by true f g = cc
    by false f g = cc

-- the place of an item that passes is among the places
kept : (b : Bool) (k : ℕ) (xs : List ℕ) (j : ℕ) → Has xs j → Has (cond b (k ∷ xs) xs) j
kept true k xs j h = inr h
kept false k xs j h = h

first : (b : Bool) (k : ℕ) (xs : List ℕ) → b ≡ true → Has (cond b (k ∷ xs) xs) k
first true k xs h = inl refl
first false k xs h = absurd (cc)

placed : {X : Type 0} (test : X → Bool) (k : ℕ) (xs : List X) (i : ℕ) (x : X) → slice_get xs i ≡ Some x → test x ≡ true → Has (places_from test k xs) (k + i)
unfolding places_from
placed test k [] i x e h = absurd (cc)
placed test k (y ∷ ys) zero x e h =
    let at : k ≡ k + 0 = omega arith in
    let passes : test y ≡ true = ap test (some_same e) ∙ h in
    subst (λ j. Has (cond (test y) (k ∷ places_from test (k + 1) ys) (places_from test (k + 1) ys)) j) at (first (test y) k (places_from test (k + 1) ys) passes)
placed test k (y ∷ ys) (suc i) x e h =
    let at : (k + 1) + i ≡ k + suc i = omega arith in
    kept (test y) k (places_from test (k + 1) ys) (k + suc i) (subst (λ j. Has (places_from test (k + 1) ys) j) at (placed test (k + 1) ys i x e h))

-- the size of a field lists it
pub field-listed : (t : Table) → IsTableInRange t → (f : ℕ) (row : FieldRow) → slice_get t.fields f ≡ Some row → position (λ g. g == f) (fields_of t row.size) ≡ None → ⊥
field-listed t range f row e none =
    let there : row.size < length t.sizes = all_at (λ (r : FieldRow). r.size < length t.sizes) t.fields f row range.fields_name_sizes e in
    let size = get_some t.sizes row.size there in
    let list : fields_of t row.size ≡ fields_of_size t row.size = ap listed size.1 ∙ range.sizes_list_their_fields row.size size.0 size.1 in
    let zero_first : 0 + f ≡ f = omega arith in
    let has : Has (fields_of_size t row.size) f = subst (λ j. Has (fields_of_size t row.size) j) zero_first (placed (λ (r : FieldRow). nat_eq r.size row.size) 0 t.fields f row e (eq-eqb row.size row.size refl)) in
    not_missed (λ g. g == f) (fields_of t row.size) f (subst (λ l. Has l f) (sym list) has) (eq-eqb f f refl) none
