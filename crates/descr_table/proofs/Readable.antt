-- What holds of a table that is being read.
use Rattle.std.proofs.Common.{◌≡◌, ℕ, zero, suc, ◌+◌, ◌<◌, ◌≤◌, ◌^◌, Bool, true, false, cond, List, [], ◌∷◌, ◌++◌, length, map, Some, refl, sym, ap, subst, ◌∙◌, arith, add-zero, append_assoc}
use Rattle.std.specs.Prelude.{slice_get, nat_eq, codes, option_to_list}
use Rattle.std.specs.Str.{bytes_eq}
use Rattle.std.specs.List.{AllByRecursion, flat_map}
use Rattle.std.proofs.lemmas.Bool.{eq-eqb, ne_eqb}
use Rattle.std.proofs.lemmas.List.{append-nil}
use lib.Signed.{mag}
use Rattle.lists.proofs.Appends.{get_middle, length_push}
use Rattle.text_lines.specs.Words.{is_name}
use Rattle.trace_ops.specs.InRange.{places_from}
use Rattle.trace_ops.specs.declared.trace.Kind.{Kind}
use Rattle.trace_ops.specs.declared.trace.Kind.TheVariants as kind
use Rattle.trace_ops.specs.declared.table.ShapeOf.{ShapeOf}
use Rattle.trace_ops.specs.declared.table.ShapeOf.TheVariants as shape
use Rattle.trace_ops.specs.declared.table.SizeRow.{SizeRow}
use Rattle.trace_ops.specs.declared.table.FieldRow.{FieldRow}
use Rattle.trace_ops.specs.declared.table.ArrayRow.{ArrayRow}
use Rattle.trace_ops.specs.declared.table.CallRow.{CallRow}
use Rattle.trace_ops.specs.declared.table.PrebuiltRow.{PrebuiltRow}
use Rattle.trace_ops.specs.declared.table.Initial.{Initial}
use Rattle.trace_ops.specs.declared.table.Initial.TheVariants as initial
use Rattle.trace_ops.specs.declared.table.Table.{Table}
use Rattle.descr_table.specs.Meaning.{with_field, bytes_of}
use Rattle.descr_table.specs.Spelling.{IsNameOrNone}
use Rattle.descr_table.proofs.Counts.{count}

abbrev Names : Type 0
Names = List (List ℕ)

abbrev pub Each : {X : Type 0} → (X → Type 0) → List X → Type 0
Each P xs = AllByRecursion P xs

-- ---- sizes and arrays in their order

-- the sizes are numbered from s to n, the arrays from a to m
abbrev pub InOrder : ℕ → ℕ → List ShapeOf → ℕ → ℕ → Type 0
InOrder s a [] n m = (s ≡ n) × (a ≡ m)
InOrder s a (shape.Size k ∷ ss) n m = (k ≡ s) × InOrder (suc s) a ss n m
InOrder s a (shape.Array k ∷ ss) n m = (k ≡ a) × InOrder s (suc a) ss n m

pub one_size : (s a : ℕ) (ss : List ShapeOf) (n m : ℕ) → InOrder s a ss n m → InOrder s a (ss ++ shape.Size n ∷ []) (suc n) m
one_size s a [] n m h = (sym h.0, (ap suc h.0, h.1))
one_size s a (shape.Size k ∷ ss) n m h = (h.0, one_size (suc s) a ss n m h.1)
one_size s a (shape.Array k ∷ ss) n m h = (h.0, one_size s (suc a) ss n m h.1)

pub one_array : (s a : ℕ) (ss : List ShapeOf) (n m : ℕ) → InOrder s a ss n m → InOrder s a (ss ++ shape.Array m ∷ []) n (suc m)
one_array s a [] n m h = (sym h.1, (h.0, ap suc h.1))
one_array s a (shape.Size k ∷ ss) n m h = (h.0, one_array (suc s) a ss n m h.1)
one_array s a (shape.Array k ∷ ss) n m h = (h.0, one_array s (suc a) ss n m h.1)

-- ---- each size lists its fields

abbrev pub fields_at : ℕ → List FieldRow → List ℕ
fields_at k fs = places_from (λ (f : FieldRow). nat_eq f.size k) 0 fs

abbrev pub Listing : ℕ → List FieldRow → List SizeRow → Type 0
Listing k fs [] = Unit {0}
Listing k fs (r ∷ rs) = (r.fields ≡ fields_at k fs) × Listing (suc k) fs rs

by_first : (b : Bool) (j : ℕ) (p q l : List ℕ) → q ≡ p ++ l → cond b (j ∷ q) q ≡ cond b (j ∷ p) p ++ l
by_first true j p q l e = ap (λ (x : List ℕ). j ∷ x) e
by_first false j p q l e = e

pub places-last : {X : Type 0} (test : X → Bool) (j : ℕ) (xs : List X) (x : X) → places_from test j (xs ++ x ∷ []) ≡ places_from test j xs ++ cond (test x) ((j + length xs) ∷ []) []
unfolding places_from
places-last test j [] x = ap (λ n. cond (test x) (n ∷ []) []) (sym (add-zero j))
places-last test j (y ∷ ys) x =
    let at : (j + 1) + length ys ≡ j + suc (length ys) = omega arith in
    by_first (test y) j (places_from test (j + 1) ys) (places_from test (j + 1) (ys ++ x ∷ [])) (cond (test x) ((j + suc (length ys)) ∷ []) [])
    (places-last test (j + 1) ys x ∙ ap (λ n. places_from test (j + 1) ys ++ cond (test x) (n ∷ []) []) at)

pub fields-last : (k : ℕ) (fs : List FieldRow) (f : FieldRow) → f.size ≡ k → fields_at k (fs ++ f ∷ []) ≡ fields_at k fs ++ length fs ∷ []
fields-last k fs f e =
    let at : 0 + length fs ≡ length fs = omega arith in
    places-last (λ (x : FieldRow). nat_eq x.size k) 0 fs f ∙ rw (eq-eqb f.size k e, at) refl

pub fields-other : (k : ℕ) (fs : List FieldRow) (f : FieldRow) → nat_eq f.size k ≡ false → fields_at k (fs ++ f ∷ []) ≡ fields_at k fs
fields-other k fs f e = places-last (λ (x : FieldRow). nat_eq x.size k) 0 fs f ∙ rw e (append-nil (fields_at k fs))

listing_other : (k : ℕ) (fs : List FieldRow) (f : FieldRow) (rows : List SizeRow) → f.size < k → Listing k fs rows → Listing k (fs ++ f ∷ []) rows
listing_other k fs f [] lt h = tt
listing_other k fs f (r ∷ rs) lt h =
    (h.0 ∙ sym (fields-other k fs f (ne_eqb f.size k (λ e. omega arith))), listing_other (suc k) fs f rs (omega arith) h.1)

pub listing_field : (at k n : ℕ) (fs : List FieldRow) (f : FieldRow) (rows : List SizeRow) → f.size ≡ k + at → n ≡ length fs → Listing k fs rows → Listing k (fs ++ f ∷ []) (with_field at n rows)
listing_field at k n fs f [] e is h = tt
listing_field zero k n fs f (r ∷ rs) e is h =
    (ap (λ (x : List ℕ). x ++ n ∷ []) h.0 ∙ ap (λ x. fields_at k fs ++ x ∷ []) is ∙ sym (fields-last k fs f (omega arith)), listing_other (suc k) fs f rs (omega arith) h.1)
listing_field (suc at) k n fs f (r ∷ rs) e is h =
    (h.0 ∙ sym (fields-other k fs f (ne_eqb f.size k (λ x. omega arith))), listing_field at (suc k) n fs f rs (omega arith) is h.1)

pub listing_size : (k : ℕ) (fs : List FieldRow) (rows : List SizeRow) (r : SizeRow) → Listing k fs rows → r.fields ≡ fields_at (k + length rows) fs → Listing k fs (rows ++ r ∷ [])
listing_size k fs [] r h e = (e ∙ ap (λ n. fields_at n fs) (add-zero k), tt)
listing_size k fs (x ∷ xs) r h e =
    let at : k + suc (length xs) ≡ suc k + length xs = omega arith in
    (h.0, listing_size (suc k) fs xs r h.1 (e ∙ ap (λ n. fields_at n fs) at))

places_none : (k n j : ℕ) (fs : List FieldRow) → Each (λ (f : FieldRow). f.size < n) fs → n ≤ k → places_from (λ (f : FieldRow). nat_eq f.size k) j fs ≡ []
unfolding places_from
places_none k n j [] h le = refl
places_none k n j (f ∷ fs) h le =
    let lt : f.size < n = h.0 in
    let other : nat_eq f.size k ≡ false = ne_eqb f.size k (λ e. omega arith) in
    rw other (places_none k n (j + 1) fs h.1 le)

pub fields_none : (k n : ℕ) (fs : List FieldRow) → Each (λ (f : FieldRow). f.size < n) fs → n ≤ k → fields_at k fs ≡ []
fields_none k n fs h le = places_none k n 0 fs h le

by_here : {X : Type 0} (test : X → Bool) (all : List X) (b : Bool) (x : X) (i : ℕ) (more : List ℕ) → test x ≡ b → slice_get all i ≡ Some x
    → Each (λ i. (y : X) × (slice_get all i ≡ Some y) × (test y ≡ true)) more → Each (λ i. (y : X) × (slice_get all i ≡ Some y) × (test y ≡ true)) (cond b (i ∷ more) more)
by_here test all true x i more e at h = ((x, at, e), h)
by_here test all false x i more e at h = h

-- where a test holds, such a row stands
pub places_hold : {X : Type 0} (test : X → Bool) (front xs all : List X) → all ≡ front ++ xs → Each (λ i. (x : X) × (slice_get all i ≡ Some x) × (test x ≡ true)) (places_from test (length front) xs)
unfolding places_from
places_hold test front [] all e = tt
places_hold {X} test front (x ∷ xs) all e =
    let here : slice_get all (length front) ≡ Some x = ap (λ (l : List X). slice_get l (length front)) e ∙ get_middle front x xs in
    let rest : Each (λ i. (y : X) × (slice_get all i ≡ Some y) × (test y ≡ true)) (places_from test (length (front ++ x ∷ [])) xs) = places_hold test (front ++ x ∷ []) xs all (e ∙ sym (append_assoc front (x ∷ []) xs)) in
    let at : length (front ++ x ∷ []) ≡ length front + 1 = length_push front x ∙ omega arith in
    by_here test all (test x) x (length front) (places_from test (length front + 1) xs) refl here (subst (λ (n : ℕ). Each (λ i. (y : X) × (slice_get all i ≡ Some y) × (test y ≡ true)) (places_from test n xs)) at rest)

-- ---- rows

-- a field that may be read: not one of this name, which begins the other list
abbrev pub Reads : List FieldRow → ℕ → Type 0
Reads fields f = (r : FieldRow) × (slice_get fields f ≡ Some r) × (bytes_eq r.name (codes "writes") ≡ false)

abbrev pub Writes : List FieldRow → ℕ → Type 0
Writes fields f = (r : FieldRow) × (slice_get fields f ≡ Some r)

pub record IsCall (fields : List FieldRow) (row : CallRow) : Type 0 where
  pub name : is_name row.name ≡ true
  pub arguments : length row.args ≤ 6
  pub few_reads : length row.reads ≤ 16
  pub few_writes : length row.writes ≤ 16
  pub reads : Each (Reads fields) row.reads
  pub writes : Each (Writes fields) row.writes

-- a value of the kind; a name is one of those that are defined, and not the word NULL
abbrev pub Holds : Names → Kind → Initial → Type 0
Holds d kind.Int (initial.Int z) = mag z < 2 ^ 63
Holds d kind.Int initial.Null = ⊥
Holds d kind.Int (initial.Ptr k) = ⊥
Holds d kind.Ref (initial.Int z) = ⊥
Holds d kind.Ref initial.Null = Unit {0}
Holds d kind.Ref (initial.Ptr k) = (n : List ℕ) × (slice_get d k ≡ Some n) × (bytes_eq n (codes "NULL") ≡ false)

-- one value for each field
abbrev pub HoldFields : Names → List FieldRow → List ℕ → List Initial → Type 0
HoldFields d fields [] [] = Unit {0}
HoldFields d fields [] (p ∷ ps) = ⊥
HoldFields d fields (f ∷ fs) [] = ⊥
HoldFields d fields (f ∷ fs) (p ∷ ps) = ((r : FieldRow) × (slice_get fields f ≡ Some r) × Holds d r.kind p) × HoldFields d fields fs ps

abbrev pub HasBody : Names → List SizeRow → List FieldRow → List ArrayRow → ShapeOf → List Initial → Type 0
HasBody d sizes fields arrays (shape.Size k) ps = (r : SizeRow) × (slice_get sizes k ≡ Some r) × HoldFields d fields r.fields ps
HasBody d sizes fields arrays (shape.Array k) ps = (r : ArrayRow) × (slice_get arrays k ≡ Some r) × Each (Holds d r.kind) ps

pub record IsRoot (d : Names) (sizes : List SizeRow) (fields : List FieldRow) (arrays : List ArrayRow) (row : PrebuiltRow) : Type 0 where
  pub name : is_name row.name ≡ true
  pub body : HasBody d sizes fields arrays row.of row.parts

pub record IsSize (row : SizeRow) : Type 0 where
  pub name : is_name row.name ≡ true
  pub vtable : IsNameOrNone row.vtable
  pub few : length row.fields ≤ 64

abbrev pub names_in : Table → List ℕ → ℕ
names_in t n = ((count n (map (λ (r : SizeRow). r.name) t.sizes) + count n (map (λ (r : FieldRow). r.name) t.fields)) + count n (map (λ (r : ArrayRow). r.name) t.arrays)) + count n (map (λ (r : CallRow). r.name) t.calls)

abbrev pub classes_in : Table → List ℕ → ℕ
classes_in t n = count n (flat_map (λ (r : SizeRow). option_to_list r.vtable) t.sizes) + count n t.functions

-- what each line keeps
pub record IsReadable (d : Names) (t : Table) : Type 0 where
  pub shapes : InOrder 0 0 t.shapes (length t.sizes) (length t.arrays)
  pub listing : Listing 0 t.fields t.sizes
  pub owned : Each (λ (f : FieldRow). f.size < length t.sizes) t.fields
  pub named : (n : List ℕ) → names_in t n ≤ 1
  pub classes : (n : List ℕ) → classes_in t n ≤ 1
  pub roots : (n : List ℕ) → count n (map (λ (r : PrebuiltRow). r.name) t.prebuilts) ≤ 1
  pub sizes : Each IsSize t.sizes
  pub fields : Each (λ (r : FieldRow). is_name r.name ≡ true) t.fields
  pub arrays : Each (λ (r : ArrayRow). is_name r.name ≡ true) t.arrays
  pub calls : Each (IsCall t.fields) t.calls
  pub functions : Each (λ (n : List ℕ). is_name n ≡ true) t.functions
  pub prebuilts : Each (IsRoot d t.sizes t.fields t.arrays) t.prebuilts
  pub few_shapes : length t.shapes ≤ 1024
  pub few_functions : length t.functions ≤ 1024
  pub few_calls : length t.calls ≤ 1024
  pub bytes : bytes_of t ≤ 32768
