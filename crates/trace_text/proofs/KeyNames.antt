-- A name of a table stands for what is written by that name.
use Rattle.std.proofs.Common.{◌≡◌, ℕ, suc, ◌+◌, Bool, true, false, cond, List, [], ◌∷◌, Option, Some, None, refl, sym, ap, subst, ◌∙◌, arith}
use Rattle.std.specs.Prelude.{slice_get}
use Rattle.std.specs.List.{AllByRecursion}
use Rattle.std.specs.Str.{bytes_eq}
use Rattle.std.proofs.lemmas.Slice.Eq.{bytes_eq-Decides}
use Rattle.indexmap.specs.IndexMap.{insert_entry}
use Rattle.trace_ops.specs.declared.trace.Arg.{Arg}
use Rattle.trace_ops.specs.declared.trace.Arg.TheVariants as arg
use Rattle.trace_ops.specs.declared.trace.Descr.{Descr}
use Rattle.trace_ops.specs.declared.trace.Descr.TheVariants as descr
use Rattle.trace_ops.specs.declared.table.SizeRow.{SizeRow}
use Rattle.trace_ops.specs.declared.table.FieldRow.{FieldRow}
use Rattle.trace_ops.specs.declared.table.ArrayRow.{ArrayRow}
use Rattle.trace_ops.specs.declared.table.CallRow.{CallRow}
use Rattle.trace_ops.specs.declared.table.PrebuiltRow.{PrebuiltRow}
use Rattle.trace_ops.specs.declared.table.Table.{Table}
use Rattle.descr_table.specs.Names.{size_name, field_name, array_name, prebuilt_name, size_name_in, field_name_in, array_name_in, prebuilt_name_in, vtable_name, call_name, function_name, or_nothing, vtable_in, call_name_in}
use Rattle.trace_text.specs.Names.{look, with_class, vtables_from, functions_from, prebuilts_from, sizes_from, fields_from, arrays_from, calls_from, names_of}

-- each entry has the name of what it stands for
abbrev pub Keyed : {X : Type 0} → (List ℕ → X → Type 0) → List (List ℕ × X) → Type 0
Keyed P es = AllByRecursion (λ e. P e.0 e.1) es

inserted_by : {X : Type 0} (P : List ℕ → X → Type 0) (b : Bool) (e : List ℕ × X) (es more : List (List ℕ × X)) (n : List ℕ) (x : X) → bytes_eq n e.0 ≡ b → P n x → P e.0 e.1 → Keyed P es → Keyed P more → Keyed P (cond b ((e.0, x) ∷ es) (e ∷ more))
inserted_by P true e es more n x is p q h i = (subst (λ (y : List ℕ). P y x) ((bytes_eq-Decides n e.0).0 is) p, h)
inserted_by P false e es more n x is p q h i = (q, i)

inserted : {X : Type 0} (P : List ℕ → X → Type 0) (es : List (List ℕ × X)) (n : List ℕ) (x : X) → P n x → Keyed P es → Keyed P (insert_entry bytes_eq es n x)
inserted P [] n x p h = (p, h)
inserted P (e ∷ es) n x p h = inserted_by P (bytes_eq n e.0) e es (insert_entry bytes_eq es n x) n x refl p h.0 h.1 (inserted P es n x p h.1)

found_by : {X : Type 0} (P : List ℕ → X → Type 0) (b : Bool) (e : List ℕ × X) (o : Option X) (n : List ℕ) (x : X) → bytes_eq n e.0 ≡ b → P e.0 e.1 → (o ≡ Some x → P n x) → cond b (Some e.1) o ≡ Some x → P n x
found_by {X} P true e o n x is p f found =
    let pick : Option X → X = λ q. elim q [ None ↦ x | Some z ↦ z ] in
    subst (λ (y : X). P n y) (ap pick found) (subst (λ (y : List ℕ). P y e.1) (sym ((bytes_eq-Decides n e.0).0 is)) p)
found_by P false e o n x is p f found = f found

pub look_keyed : {X : Type 0} (P : List ℕ → X → Type 0) (n : List ℕ) (es : List (List ℕ × X)) (x : X) → Keyed P es → look n es ≡ Some x → P n x
look_keyed P n [] x h e = absurd cc
look_keyed P n (y ∷ es) x h e = found_by P (bytes_eq n y.0) y (look n es) n x refl h.0 (look_keyed P n es x h.1) e

-- ---- the rows from number k on are those of the table

abbrev IsTail : {X : Type 0} → List X → ℕ → List X → Type 0
IsTail all k rows = (i : ℕ) → slice_get rows i ≡ slice_get all (k + i)

first_of_tail : {X : Type 0} (all : List X) (k : ℕ) (r : X) (rs : List X) → IsTail all k (r ∷ rs) → slice_get all k ≡ Some r
first_of_tail all k r rs same = let at : k + 0 ≡ k = omega arith in sym (ap (slice_get all) at) ∙ sym (same 0)

next_tail : {X : Type 0} (all : List X) (k : ℕ) (r : X) (rs : List X) → IsTail all k (r ∷ rs) → IsTail all (k + 1) rs
next_tail all k r rs same i = let at : k + suc i ≡ k + 1 + i = omega arith in same (suc i) ∙ ap (slice_get all) at

whole : {X : Type 0} (all : List X) → IsTail all 0 all
whole all i = let at : i ≡ 0 + i = omega arith in ap (slice_get all) at

-- ---- vtables and functions

abbrev pub ClassKey : Table → List ℕ → Arg → Type 0
ClassKey t n (arg.Of b) = ⊥
ClassKey t n (arg.Const z) = ⊥
ClassKey t n arg.Null = ⊥
ClassKey t n (arg.Class k) = n ≡ vtable_name t k
ClassKey t n (arg.Func k) = n ≡ function_name t k
ClassKey t n (arg.Ptr k) = ⊥

class_keyed : (t : Table) (k : ℕ) (r : SizeRow) (v : Option (List ℕ)) (es : List (List ℕ × Arg)) → slice_get t.sizes k ≡ Some r → r.vtable ≡ v → Keyed (ClassKey t) es → Keyed (ClassKey t) (with_class v k es)
class_keyed t k r None es is e h = h
class_keyed t k r (Some name) es is e h =
    let at : vtable_name t k ≡ name = ap vtable_in is ∙ ap or_nothing e in
    inserted (ClassKey t) es name (arg.Class k) (sym at) h

vtables_keyed : (t : Table) (k : ℕ) (rows : List SizeRow) (es : List (List ℕ × Arg)) → IsTail t.sizes k rows → Keyed (ClassKey t) es → Keyed (ClassKey t) (vtables_from k rows es)
unfolding vtables_from
vtables_keyed t k [] es same h = h
vtables_keyed t k (r ∷ rs) es same h =
    vtables_keyed t (k + 1) rs (with_class r.vtable k es) (next_tail t.sizes k r rs same) (class_keyed t k r r.vtable es (first_of_tail t.sizes k r rs same) refl h)

functions_keyed : (t : Table) (k : ℕ) (ns : List (List ℕ)) (es : List (List ℕ × Arg)) → IsTail t.functions k ns → Keyed (ClassKey t) es → Keyed (ClassKey t) (functions_from k ns es)
unfolding functions_from
functions_keyed t k [] es same h = h
functions_keyed t k (n ∷ ns) es same h =
    let at : function_name t k ≡ n = ap or_nothing (first_of_tail t.functions k n ns same) in
    functions_keyed t (k + 1) ns (insert_entry bytes_eq es n (arg.Func k)) (next_tail t.functions k n ns same) (inserted (ClassKey t) es n (arg.Func k) (sym at) h)

pub classes_keyed : (t : Table) → Keyed (ClassKey t) ((names_of t).classes)
classes_keyed t = functions_keyed t 0 t.functions (vtables_from 0 t.sizes []) (whole t.functions) (vtables_keyed t 0 t.sizes [] (whole t.sizes) tt)

-- ---- prebuilt objects

abbrev pub ObjectKey : Table → List ℕ → Arg → Type 0
ObjectKey t n (arg.Of b) = ⊥
ObjectKey t n (arg.Const z) = ⊥
ObjectKey t n arg.Null = ⊥
ObjectKey t n (arg.Class k) = ⊥
ObjectKey t n (arg.Func k) = ⊥
ObjectKey t n (arg.Ptr k) = n ≡ prebuilt_name t k

prebuilts_keyed : (t : Table) (k : ℕ) (rs : List PrebuiltRow) (es : List (List ℕ × Arg)) → IsTail t.prebuilts k rs → Keyed (ObjectKey t) es → Keyed (ObjectKey t) (prebuilts_from k rs es)
unfolding prebuilts_from
prebuilts_keyed t k [] es same h = h
prebuilts_keyed t k (r ∷ rs) es same h =
    let at : prebuilt_name t k ≡ r.name = ap prebuilt_name_in (first_of_tail t.prebuilts k r rs same) in
    prebuilts_keyed t (k + 1) rs (insert_entry bytes_eq es r.name (arg.Ptr k)) (next_tail t.prebuilts k r rs same) (inserted (ObjectKey t) es r.name (arg.Ptr k) (sym at) h)

pub objects_keyed : (t : Table) → Keyed (ObjectKey t) ((names_of t).prebuilts)
objects_keyed t = prebuilts_keyed t 0 t.prebuilts [] (whole t.prebuilts) tt

-- ---- descrs

-- the name by which a descr is written
abbrev pub descr_name : Table → Descr → List ℕ
descr_name t descr.No = []
descr_name t (descr.Size k) = size_name t k
descr_name t (descr.Field k) = field_name t k
descr_name t (descr.Array k) = array_name t k
descr_name t (descr.Call k) = call_name t k
descr_name t (descr.Target n) = n

abbrev pub DescrKey : Table → List ℕ → Descr → Type 0
DescrKey t n d = n ≡ descr_name t d

sizes_keyed : (t : Table) (k : ℕ) (rs : List SizeRow) (es : List (List ℕ × Descr)) → IsTail t.sizes k rs → Keyed (DescrKey t) es → Keyed (DescrKey t) (sizes_from k rs es)
unfolding sizes_from
sizes_keyed t k [] es same h = h
sizes_keyed t k (r ∷ rs) es same h =
    let at : size_name t k ≡ r.name = ap size_name_in (first_of_tail t.sizes k r rs same) in
    sizes_keyed t (k + 1) rs (insert_entry bytes_eq es r.name (descr.Size k)) (next_tail t.sizes k r rs same) (inserted (DescrKey t) es r.name (descr.Size k) (sym at) h)

fields_keyed : (t : Table) (k : ℕ) (rs : List FieldRow) (es : List (List ℕ × Descr)) → IsTail t.fields k rs → Keyed (DescrKey t) es → Keyed (DescrKey t) (fields_from k rs es)
unfolding fields_from
fields_keyed t k [] es same h = h
fields_keyed t k (r ∷ rs) es same h =
    let at : field_name t k ≡ r.name = ap field_name_in (first_of_tail t.fields k r rs same) in
    fields_keyed t (k + 1) rs (insert_entry bytes_eq es r.name (descr.Field k)) (next_tail t.fields k r rs same) (inserted (DescrKey t) es r.name (descr.Field k) (sym at) h)

arrays_keyed : (t : Table) (k : ℕ) (rs : List ArrayRow) (es : List (List ℕ × Descr)) → IsTail t.arrays k rs → Keyed (DescrKey t) es → Keyed (DescrKey t) (arrays_from k rs es)
unfolding arrays_from
arrays_keyed t k [] es same h = h
arrays_keyed t k (r ∷ rs) es same h =
    let at : array_name t k ≡ r.name = ap array_name_in (first_of_tail t.arrays k r rs same) in
    arrays_keyed t (k + 1) rs (insert_entry bytes_eq es r.name (descr.Array k)) (next_tail t.arrays k r rs same) (inserted (DescrKey t) es r.name (descr.Array k) (sym at) h)

calls_keyed : (t : Table) (k : ℕ) (rs : List CallRow) (es : List (List ℕ × Descr)) → IsTail t.calls k rs → Keyed (DescrKey t) es → Keyed (DescrKey t) (calls_from k rs es)
unfolding calls_from
calls_keyed t k [] es same h = h
calls_keyed t k (r ∷ rs) es same h =
    let at : call_name t k ≡ r.name = ap call_name_in (first_of_tail t.calls k r rs same) in
    calls_keyed t (k + 1) rs (insert_entry bytes_eq es r.name (descr.Call k)) (next_tail t.calls k r rs same) (inserted (DescrKey t) es r.name (descr.Call k) (sym at) h)

pub descrs_keyed : (t : Table) → Keyed (DescrKey t) ((names_of t).descrs)
descrs_keyed t =
    let a = sizes_keyed t 0 t.sizes [] (whole t.sizes) tt in
    let b = fields_keyed t 0 t.fields (sizes_from 0 t.sizes []) (whole t.fields) a in
    let d = arrays_keyed t 0 t.arrays (fields_from 0 t.fields (sizes_from 0 t.sizes [])) (whole t.arrays) b in
    calls_keyed t 0 t.calls (arrays_from 0 t.arrays (fields_from 0 t.fields (sizes_from 0 t.sizes []))) (whole t.calls) d
