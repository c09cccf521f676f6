-- The table that is read is in range.
use Rattle.std.proofs.Common.{◌≡◌, ℕ, zero, suc, ◌<◌, ◌≤◌, List, [], ◌∷◌, length, map, Option, Some, refl, sym, ap, subst, ◌∙◌, arith, inl, inr, zero-add}
use Rattle.std.specs.Prelude.{slice_get, sum, sum_by}
use Rattle.std.specs.List.{All}
use Rattle.std.specs.Option.{option_map, IsSomeAnd}
use Rattle.std.proofs.lemmas.Bool.{cases_lt}
use Rattle.std.proofs.lemmas.List.Sums.{sum_by-cons}
use Rattle.std.proofs.lemmas.Option.{slice_get_within}
use Rattle.lists.proofs.Eaches.{each_weaker}
use Rattle.trace_ops.specs.Kinds.{kind_of_initial, kind_of_field, HasParts, NamesShape}
use Rattle.trace_ops.specs.InRange.{StandsOnce, fields_of_size, NamesInitial, NamesCall, IsPrebuilt, prebuilt_bytes, bytes_of_object}
use Rattle.trace_ops.specs.declared.trace.Kind.{Kind}
use Rattle.trace_ops.specs.declared.trace.Kind.TheVariants as kind
use Rattle.trace_ops.specs.declared.table.ShapeOf.{ShapeOf}
use Rattle.trace_ops.specs.declared.table.ShapeOf.TheVariants as shape
use Rattle.trace_ops.specs.declared.table.SizeRow.{SizeRow}
use Rattle.trace_ops.specs.declared.table.FieldRow.{FieldRow}
use Rattle.trace_ops.specs.declared.table.ArrayRow.{ArrayRow}
use Rattle.trace_ops.specs.declared.table.CallRow.{CallRow}
use Rattle.trace_ops.specs.declared.table.PrebuiltRow.{PrebuiltRow}
use Rattle.trace_ops.specs.declared.table.Initial.{Initial}
use Rattle.trace_ops.specs.declared.table.Initial.TheVariants as initial
use Rattle.trace_ops.specs.declared.table.Table.{Table}
use Rattle.trace_ops.specs.InRange.{IsTableInRange}
use Rattle.descr_table.specs.Meaning.{row_bytes, shape_bytes}
use Rattle.descr_table.proofs.Readable.{Each, InOrder, Reads, Writes, IsCall, Holds, HoldFields, HasBody, IsRoot, IsSize, IsReadable}
use Rattle.descr_table.proofs.KeepsRoots.{listing_at}

abbrev Names : Type 0
Names = List (List ℕ)

all_of : {X : Type 0} (P : X → Type 0) (xs : List X) → Each P xs → All P xs
all_of P [] h k d lt = absurd (omega arith)
all_of P (x ∷ xs) h zero d lt = h.0
all_of P (x ∷ xs) h (suc k) d lt = all_of P xs h.1 k d (omega arith)

all_weaker : {X : Type 0} (P Q : X → Type 0) → ((x : X) → P x → Q x) → (xs : List X) → Each P xs → All Q xs
all_weaker P Q f xs h = all_of Q xs (each_weaker P Q f xs h)

-- ---- sizes and arrays

pub order_le : (s a : ℕ) (ss : List ShapeOf) (n m : ℕ) → InOrder s a ss n m → (s ≤ n) × (a ≤ m)
order_le s a [] n m h = (omega (arith, h.0), omega (arith, h.1))
order_le s a (shape.Size k ∷ ss) n m h = let r = order_le (suc s) a ss n m h.1 in (omega (arith, r.0), r.1)
order_le s a (shape.Array k ∷ ss) n m h = let r = order_le s (suc a) ss n m h.1 in (r.0, omega (arith, r.1))

shapes_named : (t : Table) (s a : ℕ) (ss : List ShapeOf) → InOrder s a ss (length t.sizes) (length t.arrays) → Each (NamesShape t) ss
shapes_named t s a [] h = tt
shapes_named t s a (shape.Size k ∷ ss) h = (omega (arith, h.0, (order_le (suc s) a ss (length t.sizes) (length t.arrays) h.1).0), shapes_named t (suc s) a ss h.1)
shapes_named t s a (shape.Array k ∷ ss) h = (omega (arith, h.0, (order_le s (suc a) ss (length t.sizes) (length t.arrays) h.1).1), shapes_named t s (suc a) ss h.1)

size_is : (j k : ℕ) → Some (shape.Size j) ≡ Some (shape.Size k) → j ≡ k
size_is j k e = cc

array_is : (j k : ℕ) → Some (shape.Array j) ≡ Some (shape.Array k) → j ≡ k
array_is j k e = cc

size_later : (s a : ℕ) (ss : List ShapeOf) (n m i k : ℕ) → InOrder s a ss n m → slice_get ss i ≡ Some (shape.Size k) → s ≤ k
size_later s a [] n m i k h e = absurd cc
size_later s a (shape.Size j ∷ ss) n m zero k h e = omega (arith, h.0, size_is j k e)
size_later s a (shape.Array j ∷ ss) n m zero k h e = absurd cc
size_later s a (shape.Size j ∷ ss) n m (suc i) k h e = omega (arith, size_later (suc s) a ss n m i k h.1 e)
size_later s a (shape.Array j ∷ ss) n m (suc i) k h e = size_later s (suc a) ss n m i k h.1 e

array_later : (s a : ℕ) (ss : List ShapeOf) (n m i k : ℕ) → InOrder s a ss n m → slice_get ss i ≡ Some (shape.Array k) → a ≤ k
array_later s a [] n m i k h e = absurd cc
array_later s a (shape.Array j ∷ ss) n m zero k h e = omega (arith, h.0, array_is j k e)
array_later s a (shape.Size j ∷ ss) n m zero k h e = absurd cc
array_later s a (shape.Array j ∷ ss) n m (suc i) k h e = omega (arith, array_later s (suc a) ss n m i k h.1 e)
array_later s a (shape.Size j ∷ ss) n m (suc i) k h e = array_later (suc s) a ss n m i k h.1 e

once_here : (x : ShapeOf) (ss : List ShapeOf) → ((i : ℕ) → slice_get ss i ≡ Some x → ⊥) → StandsOnce x (x ∷ ss)
once_here x ss none = (0, refl, only) where
  only : (j : ℕ) → slice_get (x ∷ ss) j ≡ Some x → j ≡ 0
  only zero e = refl
  only (suc j) e = absurd (none j e)

once_later : (x y : ShapeOf) (ss : List ShapeOf) → (y ≡ x → ⊥) → StandsOnce x ss → StandsOnce x (y ∷ ss)
once_later x y ss apart h = (suc h.0, h.1, only) where
  only : (j : ℕ) → slice_get (y ∷ ss) j ≡ Some x → j ≡ suc h.0
  only zero e = absurd (apart cc)
  only (suc j) e = ap suc (h.2 j e)

size_once : (s a : ℕ) (ss : List ShapeOf) (n m k : ℕ) → InOrder s a ss n m → s ≤ k → k < n → StandsOnce (shape.Size k) ss
size_once s a [] n m k h le lt = absurd (omega (arith, h.0))
size_once s a (shape.Array j ∷ ss) n m k h le lt = once_later (shape.Size k) (shape.Array j) ss (λ e. cc) (size_once s (suc a) ss n m k h.1 le lt)
size_once s a (shape.Size j ∷ ss) n m k h le lt = elim (cases_lt s k) [
  | inl more ↦ once_later (shape.Size k) (shape.Size j) ss (λ e. omega (arith, h.0, size_is j k (ap Some e))) (size_once (suc s) a ss n m k h.1 more lt)
  | inr same ↦
      let is : j ≡ k = omega (arith, h.0) in
      subst (λ (x : ℕ). StandsOnce (shape.Size k) (shape.Size x ∷ ss)) (sym is) (once_here (shape.Size k) ss (λ i e. omega (arith, size_later (suc s) a ss n m i k h.1 e)))
]

array_once : (s a : ℕ) (ss : List ShapeOf) (n m k : ℕ) → InOrder s a ss n m → a ≤ k → k < m → StandsOnce (shape.Array k) ss
array_once s a [] n m k h le lt = absurd (omega (arith, h.1))
array_once s a (shape.Size j ∷ ss) n m k h le lt = once_later (shape.Array k) (shape.Size j) ss (λ e. cc) (array_once (suc s) a ss n m k h.1 le lt)
array_once s a (shape.Array j ∷ ss) n m k h le lt = elim (cases_lt a k) [
  | inl more ↦ once_later (shape.Array k) (shape.Array j) ss (λ e. omega (arith, h.0, array_is j k (ap Some e))) (array_once s (suc a) ss n m k h.1 more lt)
  | inr same ↦
      let is : j ≡ k = omega (arith, h.0) in
      subst (λ (x : ℕ). StandsOnce (shape.Array k) (shape.Array x ∷ ss)) (sym is) (once_here (shape.Array k) ss (λ i e. omega (arith, array_later s (suc a) ss n m i k h.1 e)))
]

-- ---- calls and prebuilt objects

call_names : (t : Table) (row : CallRow) → IsCall t.fields row → NamesCall t row
call_names t row h = (
  all_weaker (Reads t.fields) (λ f. f < length t.fields) (λ f r. slice_get_within t.fields f r.0 r.1) row.reads h.reads,
  all_weaker (Writes t.fields) (λ f. f < length t.fields) (λ f r. slice_get_within t.fields f r.0 r.1) row.writes h.writes,
)

kind_held : (d : Names) (k : Kind) (p : Initial) → Holds d k p → kind_of_initial p ≡ Some k
kind_held d kind.Int (initial.Int z) h = refl
kind_held d kind.Int initial.Null h = absurd h
kind_held d kind.Int (initial.Ptr j) h = absurd h
kind_held d kind.Ref (initial.Int z) h = absurd h
kind_held d kind.Ref initial.Null h = refl
kind_held d kind.Ref (initial.Ptr j) h = refl

initial_named : (d : Names) (t : Table) (k : Kind) (p : Initial) → length d ≡ length t.prebuilts → Holds d k p → NamesInitial t p
initial_named d t kind.Int (initial.Int z) e h = tt
initial_named d t kind.Int initial.Null e h = absurd h
initial_named d t kind.Int (initial.Ptr j) e h = absurd h
initial_named d t kind.Ref (initial.Int z) e h = absurd h
initial_named d t kind.Ref initial.Null e h = tt
initial_named d t kind.Ref (initial.Ptr j) e h = omega (arith, slice_get_within d j h.0 h.1)

kinds_held : (d : Names) (t : Table) (fs : List ℕ) (ps : List Initial) → HoldFields d t.fields fs ps → map kind_of_initial ps ≡ map (kind_of_field t) fs
kinds_held d t [] [] h = refl
kinds_held d t [] (p ∷ ps) h = absurd h
kinds_held d t (f ∷ fs) [] h = absurd h
kinds_held d t (f ∷ fs) (p ∷ ps) h =
    let field : Some h.0.0.kind ≡ kind_of_field t f = sym (ap (option_map (λ (row : FieldRow). row.kind)) h.0.1) in
    let one : kind_of_initial p ≡ kind_of_field t f = kind_held d h.0.0.kind p h.0.2 ∙ field in
    cc (one, kinds_held d t fs ps h.1)

fields_named : (d : Names) (t : Table) (fs : List ℕ) (ps : List Initial) → length d ≡ length t.prebuilts → HoldFields d t.fields fs ps → Each (NamesInitial t) ps
fields_named d t [] [] e h = tt
fields_named d t [] (p ∷ ps) e h = absurd h
fields_named d t (f ∷ fs) [] e h = absurd h
fields_named d t (f ∷ fs) (p ∷ ps) e h = (initial_named d t h.0.0.kind p e h.0.2, fields_named d t fs ps e h.1)

kinds_all : (d : Names) (k : Kind) (ps : List Initial) → Each (Holds d k) ps → Each (λ x. x ≡ Some k) (map kind_of_initial ps)
kinds_all d k [] h = tt
kinds_all d k (p ∷ ps) h = (kind_held d k p h.0, kinds_all d k ps h.1)

body_fits : (d : Names) (t : Table) (of : ShapeOf) (ps : List Initial) → length d ≡ length t.prebuilts → HasBody d t.sizes t.fields t.arrays of ps → HasParts t of (map kind_of_initial ps) × All (NamesInitial t) ps
body_fits d t (shape.Size k) ps e h = (
  subst (λ (o : Option SizeRow). IsSomeAnd o (λ (row : SizeRow). map kind_of_initial ps ≡ map (kind_of_field t) row.fields)) (sym h.1) (kinds_held d t h.0.fields ps h.2),
  all_of (NamesInitial t) ps (fields_named d t h.0.fields ps e h.2),
)
body_fits d t (shape.Array k) ps e h = (
  subst (λ (o : Option ArrayRow). IsSomeAnd o (λ (row : ArrayRow). All (λ x. x ≡ Some row.kind) (map kind_of_initial ps))) (sym h.1) (all_of (λ x. x ≡ Some h.0.kind) (map kind_of_initial ps) (kinds_all d h.0.kind ps h.2)),
  all_weaker (Holds d h.0.kind) (NamesInitial t) (λ p x. initial_named d t h.0.kind p e x) ps h.2,
)

same_bytes : (of : ShapeOf) (n : ℕ) → shape_bytes of n ≡ bytes_of_object of n
same_bytes (shape.Size k) n = refl
same_bytes (shape.Array k) n = refl

bytes_sum : (rows : List PrebuiltRow) → sum (map row_bytes rows) ≡ sum_by prebuilt_bytes rows
bytes_sum [] = refl
bytes_sum (r ∷ rs) = omega (arith, sum_by-cons (λ (x : ℕ). x) (row_bytes r) (map row_bytes rs), sum_by-cons prebuilt_bytes r rs, bytes_sum rs, same_bytes r.of (length r.parts))

pub in_range : (d : Names) (t : Table) → length d ≡ length t.prebuilts → IsReadable d t → IsTableInRange t
in_range d t e h = record {
  shapes_name_rows = all_of (NamesShape t) t.shapes (shapes_named t 0 0 t.shapes h.shapes);
  each_size_once = λ k lt. size_once 0 0 t.shapes (length t.sizes) (length t.arrays) k h.shapes (omega arith) lt;
  each_array_once = λ k lt. array_once 0 0 t.shapes (length t.sizes) (length t.arrays) k h.shapes (omega arith) lt;
  fields_name_sizes = all_of (λ (f : FieldRow). f.size < length t.sizes) t.fields h.owned;
  sizes_list_their_fields = λ k row at. listing_at 0 t.fields t.sizes k row h.listing at ∙ ap (fields_of_size t) (zero-add k);
  calls_name_fields = all_weaker (IsCall t.fields) (NamesCall t) (call_names t) t.calls h.calls;
  prebuilts_fit = all_weaker (IsRoot d t.sizes t.fields t.arrays) (IsPrebuilt t) (λ r x. body_fits d t r.of r.parts e x.body) t.prebuilts h.prebuilts;
  within = record {
    shapes = h.few_shapes;
    functions = h.few_functions;
    calls = h.few_calls;
    fields = all_weaker IsSize (λ (row : SizeRow). length row.fields ≤ 64) (λ r x. x.few) t.sizes h.sizes;
    arguments = all_weaker (IsCall t.fields) (λ (row : CallRow). length row.args ≤ 6) (λ r x. x.arguments) t.calls h.calls;
    reads = all_weaker (IsCall t.fields) (λ (row : CallRow). length row.reads ≤ 16) (λ r x. x.few_reads) t.calls h.calls;
    writes = all_weaker (IsCall t.fields) (λ (row : CallRow). length row.writes ≤ 16) (λ r x. x.few_writes) t.calls h.calls;
    prebuilt = omega (arith, h.bytes, bytes_sum t.prebuilts);
  };
}
