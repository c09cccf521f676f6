-- The names and bytes behind a line are those of its table.
use Rattle.std.proofs.Common.{◌≡◌, ℕ, zero, suc, ◌+◌, ◌*◌, ◌≤◌, Bool, true, false, cond, leb, List, [], ◌∷◌, ◌++◌, length, map, Option, Some, None, refl, sym, ap, ◌∙◌, arith, zero-add}
use Rattle.std.specs.Prelude.{◌||◌, sum, slice_get, option_to_list}
use Rattle.std.specs.List.{flat_map}
use Rattle.std.proofs.lemmas.Bool.Decides.{nat_tests}
use Rattle.std.proofs.lemmas.List.{append-nil, map-append, length-map}
use Rattle.std.proofs.lemmas.List.Concat.{flat_map-append}
use Rattle.std.proofs.lemmas.List.Sums.{sum_by-append}
use Rattle.std.proofs.lemmas.Bool.{or_parts}
use Rattle.text_lines.specs.Names.{has_name, with_name}
use Rattle.text_lines.specs.Reading.{first_of}
use Rattle.trace_ops.specs.declared.table.SizeRow.{SizeRow}
use Rattle.trace_ops.specs.declared.table.PrebuiltRow.{PrebuiltRow}
use Rattle.trace_ops.specs.declared.table.Table.{Table}
use Rattle.trace_ops.specs.declared.table.What.TheVariants as what
use Rattle.descr_table.specs.declared.form.Form.{Form}
use Rattle.descr_table.specs.declared.form.Form.TheVariants.{Size, Field, Array, Call, Function, Object, Items}
use Rattle.descr_table.specs.declared.fault.Refusal.{Refusal}
use Rattle.descr_table.specs.declared.fault.Refusal.TheVariants.{Syntax, Twice, UnknownName, BadInitial, Limit}
use Rattle.descr_table.specs.declared.known.Known.{Known}
use Rattle.descr_table.specs.declared.draft.Draft.{Draft}
use Rattle.descr_table.specs.Known.{names_of, is_named, is_class_if, repeats}
use Rattle.descr_table.specs.Meaning.{is_misplaced, is_twice, is_unknown, is_bad_initial, or_else, place, with_field, fields_of, row_bytes, bytes_of, form_bytes, over_bytes, limit_at, refusal_at, put_at, put, initial_of, field_initial}
use Rattle.descr_table.specs.Draft.{table_of, with_name_if, noted, Puts, IsDraft}

abbrev Names : Type 0
Names = List (List ℕ)

-- ---- a line that is not refused

abbrev tests : Bool → Bool → Bool → Bool → Option Refusal
tests a b c d = first_of ((a, Syntax) ∷ (b, Twice) ∷ (c, UnknownName) ∷ (d, BadInitial) ∷ [])

none_parts : (a b c d : Bool) (l : Option Refusal) → or_else (tests a b c d) l ≡ None → (b ≡ false) × (l ≡ None)
none_parts true b c d l e = absurd cc
none_parts false true c d l e = absurd cc
none_parts false false true d l e = absurd cc
none_parts false false false true l e = absurd cc
none_parts false false false false l e = (refl, e)

pub none_from : (o : Option Refusal) → ((x : Refusal) → o ≡ Some x → ⊥) → o ≡ None
none_from None h = refl
none_from (Some x) h = absurd (h x refl)

not_refused : (f : Form) (k : Known) (defined : Names) (t : Table) (bytes : ℕ) → refusal_at f k defined t bytes ≡ None → (is_twice f k ≡ false) × (limit_at f k t bytes ≡ None)
unfolding refusal_at
not_refused f k defined t bytes e = none_parts (is_misplaced f t) (is_twice f k) (is_unknown f k defined) (is_bad_initial f k t) (limit_at f k t bytes) e

by_test : (n : ℕ) (b : Bool) → leb n 32768 ≡ b → cond b None (Some (Limit what.Prebuilt n)) ≡ None → n ≤ 32768
by_test n true h e = grind (arith, nat_tests)
by_test n false h e = absurd cc

within : (n : ℕ) → over_bytes n ≡ None → n ≤ 32768
within n e = by_test n (leb n 32768) refl e

fits_at : (f : Form) (k : Known) (t : Table) (bytes : ℕ) → limit_at f k t bytes ≡ None → bytes ≤ 32768 → bytes + form_bytes f k t ≤ 32768
unfolding limit_at form_bytes
fits_at (Size name vtable) k t bytes e le = omega arith
fits_at (Field name size kind immutable) k t bytes e le = omega arith
fits_at (Array name kind) k t bytes e le = omega arith
fits_at (Call name args gives reads writes) k t bytes e le = omega arith
fits_at (Function name) k t bytes e le = omega arith
fits_at (Object name size fields) k t bytes e le = within (bytes + (8 + 8 * length (fields_of size k t))) e
fits_at (Items name array items) k t bytes e le = within (bytes + (16 + 8 * length items)) e

pub fits : (f : Form) (k : Known) (defined : Names) (t : Table) (bytes : ℕ) → refusal_at f k defined t bytes ≡ None → bytes ≤ 32768 → bytes + form_bytes f k t ≤ 32768
fits f k defined t bytes e le = fits_at f k t bytes (not_refused f k defined t bytes e).1 le

-- ---- names

added : (name : List ℕ) (names : Names) → has_name name names ≡ false → with_name name names ≡ names ++ name ∷ []
added name names e = rw e refl

-- the names of rows with one more row
row_added : {X : Type 0} (g : X → List ℕ) (rows : List X) (r : X) → has_name (g r) (map g rows) ≡ false → with_name (g r) (map g rows) ≡ map g (rows ++ r ∷ [])
row_added g rows r e = added (g r) (map g rows) e ∙ sym (map-append g rows (r ∷ []))

abbrev vtable_of : SizeRow → Names
vtable_of r = option_to_list r.vtable

vtable_added : (vtable : Option (List ℕ)) (rows : List SizeRow) (r : SizeRow) (k : Known) → r.vtable ≡ vtable → k.vtables ≡ flat_map vtable_of rows → is_class_if vtable k ≡ false
    → with_name_if vtable (flat_map vtable_of rows) ≡ flat_map vtable_of (rows ++ r ∷ [])
vtable_added None rows r k is e h = sym (flat_map-append vtable_of rows (r ∷ []) ∙ ap (λ o. flat_map vtable_of rows ++ (option_to_list o ++ [])) is ∙ append-nil (flat_map vtable_of rows))
vtable_added (Some v) rows r k is e h =
    let free : has_name v (flat_map vtable_of rows) ≡ false = sym (ap (has_name v) e) ∙ (or_parts (has_name v k.vtables) (has_name v k.functions) h).0 in
    added v (flat_map vtable_of rows) free ∙ sym (flat_map-append vtable_of rows (r ∷ []) ∙ ap (λ o. flat_map vtable_of rows ++ (option_to_list o ++ [])) is)

pub map-with_field : {X : Type 0} (g : SizeRow → X) → ((r : SizeRow) (n : ℕ) → g (record r { fields = r.fields ++ n ∷ [] }) ≡ g r) → (at n : ℕ) (rows : List SizeRow) → map g (with_field at n rows) ≡ map g rows
map-with_field g same at n [] = refl
map-with_field g same zero n (r ∷ rs) = rw (same r n) refl
map-with_field g same (suc at) n (r ∷ rs) = ap (λ xs. g r ∷ xs) (map-with_field g same at n rs)

pub vtables-with_field : (at n : ℕ) (rows : List SizeRow) → flat_map vtable_of (with_field at n rows) ≡ flat_map vtable_of rows
vtables-with_field at n [] = refl
vtables-with_field zero n (r ∷ rs) = refl
vtables-with_field (suc at) n (r ∷ rs) = ap (λ xs. vtable_of r ++ xs) (vtables-with_field at n rs)

-- a name that is free is free among each kind of row
pub record IsFree (name : List ℕ) (k : Known) : Type 0 where
  pub sizes : has_name name k.sizes ≡ false
  pub fields : has_name name k.fields ≡ false
  pub arrays : has_name name k.arrays ≡ false
  pub calls : has_name name k.calls ≡ false

free : (name : List ℕ) (k : Known) → is_named name k ≡ false → IsFree name k
free name k e =
    let h = or_parts (has_name name k.sizes || has_name name k.fields) (has_name name k.arrays || has_name name k.calls) e in
    let a = or_parts (has_name name k.sizes) (has_name name k.fields) h.0 in
    let b = or_parts (has_name name k.arrays) (has_name name k.calls) h.1 in
    record { sizes = a.0; fields = a.1; arrays = b.0; calls = b.1 }

pub noted_names : (f : Form) (defined : Names) (t : Table) → is_twice f (names_of t) ≡ false → noted f (names_of t) ≡ names_of (put f defined t)
unfolding noted put_at is_twice
noted_names (Size name vtable) defined t e =
    let h = or_parts (is_named name (names_of t)) (is_class_if vtable (names_of t)) e in
    let row : SizeRow = record { name = name; vtable = vtable; fields = [] } in
    let a : with_name name (map (λ r. r.name) t.sizes) ≡ map (λ r. r.name) (t.sizes ++ row ∷ []) = row_added (λ r. r.name) t.sizes row (free name (names_of t) h.0).sizes in
    let b : with_name_if vtable (flat_map vtable_of t.sizes) ≡ flat_map vtable_of (t.sizes ++ row ∷ []) = vtable_added vtable t.sizes row (names_of t) refl refl h.1 in
    λ i. record (names_of t) { sizes = a i; vtables = b i }
noted_names (Field name size kind immutable) defined t e =
    let a = row_added (λ r. r.name) t.fields (record { name = name; size = place size (names_of t).sizes; kind = kind; immutable = immutable }) (free name (names_of t) e).fields in
    let b = sym (map-with_field (λ r. r.name) (λ r n. refl) (place size (names_of t).sizes) (length t.fields) t.sizes) in
    let v = sym (vtables-with_field (place size (names_of t).sizes) (length t.fields) t.sizes) in
    λ i. record (names_of t) { sizes = b i; vtables = v i; fields = a i }
noted_names (Array name kind) defined t e =
    let a = row_added (λ r. r.name) t.arrays (record { name = name; kind = kind }) (free name (names_of t) e).arrays in
    λ i. record (names_of t) { arrays = a i }
noted_names (Call name args gives reads writes) defined t e =
    let k = names_of t in
    let a = row_added (λ r. r.name) t.calls (record { name = name; args = args; result = gives; reads = map (λ n. place n k.fields) reads; writes = map (λ n. place n k.fields) writes }) (free name k e).calls in
    λ i. record (names_of t) { calls = a i }
noted_names (Function name) defined t e =
    let a = added name t.functions (or_parts (has_name name (names_of t).vtables) (has_name name t.functions) e).1 in
    λ i. record (names_of t) { functions = a i }
noted_names (Object name size fields) defined t e =
    let k = names_of t in
    let h = or_parts (has_name name k.prebuilts) (repeats [] (map (λ p. p.name) fields)) e in
    ap (λ (x : Names). record (names_of t) { prebuilts = x }) (added name k.prebuilts h.0 ∙ sym (map-append (λ r. r.name) t.prebuilts _))
noted_names (Items name array items) defined t e =
    let k = names_of t in
    ap (λ (x : Names). record (names_of t) { prebuilts = x }) (added name k.prebuilts e ∙ sym (map-append (λ r. r.name) t.prebuilts _))

-- ---- bytes

sum_last : (xs : List ℕ) (n : ℕ) → sum (xs ++ n ∷ []) ≡ sum xs + n
sum_last xs n = sum_by-append (λ x. x) xs (n ∷ []) ∙ ap (λ m. sum xs + m) (zero-add n)

row_bytes_added : (rows : List PrebuiltRow) (r : PrebuiltRow) → sum (map row_bytes (rows ++ r ∷ [])) ≡ sum (map row_bytes rows) + row_bytes r
row_bytes_added rows r = ap sum (map-append row_bytes rows (r ∷ [])) ∙ sum_last (map row_bytes rows) (row_bytes r)

none_added : (n : ℕ) → n ≡ n + 0
none_added n = omega arith

pub bytes_put : (f : Form) (defined : Names) (t : Table) → bytes_of (put f defined t) ≡ bytes_of t + form_bytes f (names_of t) t
unfolding put_at form_bytes
bytes_put (Size name vtable) defined t = none_added (bytes_of t)
bytes_put (Field name size kind immutable) defined t = none_added (bytes_of t)
bytes_put (Array name kind) defined t = none_added (bytes_of t)
bytes_put (Call name args gives reads writes) defined t = none_added (bytes_of t)
bytes_put (Function name) defined t = none_added (bytes_of t)
bytes_put (Object name size fields) defined t =
    row_bytes_added t.prebuilts _ ∙ ap (λ n. bytes_of t + (8 + 8 * n)) (length-map (fields_of size (names_of t) t) (λ j. field_initial defined fields (slice_get t.fields j)))
bytes_put (Items name array items) defined t =
    row_bytes_added t.prebuilts _ ∙ ap (λ n. bytes_of t + (16 + 8 * n)) (length-map items (λ v. initial_of defined v))

-- ---- drafts

pub kept : (f : Form) (defined : Names) (old new : Draft) → IsDraft old → refusal_at f old.known defined (table_of old) old.bytes ≡ None → Puts f defined old new → IsDraft new
kept f defined old new is e puts =
    let t = table_of old in
    let twice : is_twice f (names_of t) ≡ false = sym (ap (is_twice f) is.known) ∙ (not_refused f old.known defined t old.bytes e).0 in
    let table : table_of new ≡ put f defined t = puts.table ∙ ap (λ k. put_at f k defined t) is.known in
    let more : old.bytes + form_bytes f old.known t ≡ bytes_of t + form_bytes f (names_of t) t = ap (λ n. n + form_bytes f old.known t) is.bytes ∙ ap (λ k. bytes_of t + form_bytes f k t) is.known in
    let le : old.bytes + form_bytes f old.known t ≤ 32768 = fits f old.known defined t old.bytes e is.fits in
    record {
      known = puts.known ∙ ap (noted f) is.known ∙ noted_names f defined t twice ∙ sym (ap names_of table);
      bytes = puts.bytes ∙ more ∙ sym (bytes_put f defined t) ∙ sym (ap bytes_of table);
      fits = rw puts.bytes le;
    }
