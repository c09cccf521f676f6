-- What a name of a table stands for is one of the table's rows.
use Rattle.std.proofs.Common.{◌≡◌, ℕ, suc, ◌+◌, ◌<◌, ◌≤◌, Bool, true, false, cond, List, [], ◌∷◌, length, Option, Some, None, refl, sym, ap, subst, ◌∙◌, arith}
use Rattle.std.specs.Prelude.{slice_get}
use Rattle.std.specs.List.{AllByRecursion}
use Rattle.std.specs.Str.{bytes_eq}
use Rattle.indexmap.specs.IndexMap.{insert_entry}
use Rattle.trace_ops.specs.declared.trace.Arg.{Arg}
use Rattle.trace_ops.specs.declared.trace.Arg.TheVariants as arg
use Rattle.trace_ops.specs.declared.trace.Descr.{Descr}
use Rattle.trace_ops.specs.declared.trace.Descr.TheVariants as descr
use Rattle.trace_ops.specs.declared.table.SizeRow.{SizeRow}
use Rattle.trace_ops.specs.declared.table.FieldRow.{FieldRow}
use Rattle.trace_ops.specs.declared.table.ArrayRow.{ArrayRow}
use Rattle.trace_ops.specs.declared.table.CallRow.{CallRow}
use Rattle.trace_ops.specs.declared.table.PrebuiltRow.{PrebuiltRow}
use Rattle.trace_ops.specs.declared.table.Table.{Table}
use Rattle.trace_ops.specs.Kinds.{NamesArg, NamesClass, NamesDescr}
use Rattle.trace_ops.specs.InRange.{IsSlot}
use Rattle.trace_text.specs.Names.{look, with_class, vtables_from, functions_from, prebuilts_from, sizes_from, fields_from, arrays_from, calls_from, names_of}

abbrev pub Fit : {X : Type 0} → (X → Type 0) → List (List ℕ × X) → Type 0
Fit P es = AllByRecursion (λ e. P e.1) es

inserted : {X : Type 0} (P : X → Type 0) (es : List (List ℕ × X)) (n : List ℕ) (x : X) → P x → Fit P es → Fit P (insert_entry bytes_eq es n x)
inserted P [] n x p h = (p, h)
inserted {X} P (e ∷ es) n x p h =
    let changed : List ℕ × X = (e.0, x) in
    elim (bytes_eq n e.0) as (λ b. Fit P (cond b (changed ∷ es) (e ∷ insert_entry bytes_eq es n x))) [ true ↦ (p, h.1) | false ↦ (h.0, inserted P es n x p h.1) ]

found_in : {X : Type 0} (P : X → Type 0) (b : Bool) (x y : X) (o : Option X) → P x → (o ≡ Some y → P y) → cond b (Some x) o ≡ Some y → P y
found_in {X} P true x y o p f e =
    let pick : Option X → X = λ q. elim q [ None ↦ x | Some z ↦ z ] in
    subst P (ap pick e) p
found_in P false x y o p f e = f e

pub look_fits : {X : Type 0} (P : X → Type 0) (n : List ℕ) (es : List (List ℕ × X)) (x : X) → Fit P es → look n es ≡ Some x → P x
look_fits P n [] x h e = absurd cc
look_fits P n (y ∷ es) x h e = found_in P (bytes_eq n y.0) y.1 x (look n es) h.0 (look_fits P n es x h.1) e

-- ---- vtables: the rows from number k on are those of the table

abbrev IsTail : Table → ℕ → List SizeRow → Type 0
IsTail t k rows = (i : ℕ) → slice_get rows i ≡ slice_get t.sizes (k + i)

next_tail : (t : Table) (k : ℕ) (r : SizeRow) (rs : List SizeRow) → IsTail t k (r ∷ rs) → IsTail t (k + 1) rs
next_tail t k r rs same i = let at : k + suc i ≡ k + 1 + i = omega arith in same (suc i) ∙ ap (slice_get t.sizes) at

names_class : (t : Table) (k : ℕ) (r : SizeRow) (name : List ℕ) → slice_get t.sizes k ≡ Some r → r.vtable ≡ Some name → NamesClass t k
names_class t k r name is e = rw is (rw e refl)

class_fits : (t : Table) (k : ℕ) (r : SizeRow) (v : Option (List ℕ)) (es : List (List ℕ × Arg)) → slice_get t.sizes k ≡ Some r → r.vtable ≡ v → Fit (NamesArg t) es → Fit (NamesArg t) (with_class v k es)
class_fits t k r None es is e h = h
class_fits t k r (Some name) es is e h = inserted (NamesArg t) es name (arg.Class k) (names_class t k r name is e) h

vtables_fit : (t : Table) (k : ℕ) (rows : List SizeRow) (es : List (List ℕ × Arg)) → IsTail t k rows → Fit (NamesArg t) es → Fit (NamesArg t) (vtables_from k rows es)
unfolding vtables_from
vtables_fit t k [] es same h = h
vtables_fit t k (r ∷ rs) es same h =
    let at : k + 0 ≡ k = omega arith in
    let is : slice_get t.sizes k ≡ Some r = sym (ap (slice_get t.sizes) at) ∙ sym (same 0) in
    vtables_fit t (k + 1) rs (with_class r.vtable k es) (next_tail t k r rs same) (class_fits t k r r.vtable es is refl h)

functions_fit : (t : Table) (k : ℕ) (ns : List (List ℕ)) (es : List (List ℕ × Arg)) → k + length ns ≤ length t.functions → Fit (NamesArg t) es → Fit (NamesArg t) (functions_from k ns es)
unfolding functions_from
functions_fit t k [] es le h = h
functions_fit t k (n ∷ ns) es le h =
    let small : k < length t.functions = omega (arith, le) in
    functions_fit t (k + 1) ns (insert_entry bytes_eq es n (arg.Func k)) (omega (arith, le)) (inserted (NamesArg t) es n (arg.Func k) small h)

-- a prebuilt object, which may be a slot
abbrev pub NamesSlot : Table → Arg → Type 0
NamesSlot t a = NamesArg t a × IsSlot a

prebuilts_fit : (t : Table) (k : ℕ) (rs : List PrebuiltRow) (es : List (List ℕ × Arg)) → k + length rs ≤ length t.prebuilts → Fit (NamesSlot t) es → Fit (NamesSlot t) (prebuilts_from k rs es)
unfolding prebuilts_from
prebuilts_fit t k [] es le h = h
prebuilts_fit t k (r ∷ rs) es le h =
    let small : k < length t.prebuilts = omega (arith, le) in
    prebuilts_fit t (k + 1) rs (insert_entry bytes_eq es r.name (arg.Ptr k)) (omega (arith, le)) (inserted (NamesSlot t) es r.name (arg.Ptr k) (small, tt) h)

sizes_fit : (t : Table) (k : ℕ) (rs : List SizeRow) (es : List (List ℕ × Descr)) → k + length rs ≤ length t.sizes → Fit (NamesDescr t) es → Fit (NamesDescr t) (sizes_from k rs es)
unfolding sizes_from
sizes_fit t k [] es le h = h
sizes_fit t k (r ∷ rs) es le h =
    let small : k < length t.sizes = omega (arith, le) in
    sizes_fit t (k + 1) rs (insert_entry bytes_eq es r.name (descr.Size k)) (omega (arith, le)) (inserted (NamesDescr t) es r.name (descr.Size k) small h)

fields_fit : (t : Table) (k : ℕ) (rs : List FieldRow) (es : List (List ℕ × Descr)) → k + length rs ≤ length t.fields → Fit (NamesDescr t) es → Fit (NamesDescr t) (fields_from k rs es)
unfolding fields_from
fields_fit t k [] es le h = h
fields_fit t k (r ∷ rs) es le h =
    let small : k < length t.fields = omega (arith, le) in
    fields_fit t (k + 1) rs (insert_entry bytes_eq es r.name (descr.Field k)) (omega (arith, le)) (inserted (NamesDescr t) es r.name (descr.Field k) small h)

arrays_fit : (t : Table) (k : ℕ) (rs : List ArrayRow) (es : List (List ℕ × Descr)) → k + length rs ≤ length t.arrays → Fit (NamesDescr t) es → Fit (NamesDescr t) (arrays_from k rs es)
unfolding arrays_from
arrays_fit t k [] es le h = h
arrays_fit t k (r ∷ rs) es le h =
    let small : k < length t.arrays = omega (arith, le) in
    arrays_fit t (k + 1) rs (insert_entry bytes_eq es r.name (descr.Array k)) (omega (arith, le)) (inserted (NamesDescr t) es r.name (descr.Array k) small h)

calls_fit : (t : Table) (k : ℕ) (rs : List CallRow) (es : List (List ℕ × Descr)) → k + length rs ≤ length t.calls → Fit (NamesDescr t) es → Fit (NamesDescr t) (calls_from k rs es)
unfolding calls_from
calls_fit t k [] es le h = h
calls_fit t k (r ∷ rs) es le h =
    let small : k < length t.calls = omega (arith, le) in
    calls_fit t (k + 1) rs (insert_entry bytes_eq es r.name (descr.Call k)) (omega (arith, le)) (inserted (NamesDescr t) es r.name (descr.Call k) small h)

whole : (t : Table) → IsTail t 0 t.sizes
whole t i = let at : i ≡ 0 + i = omega arith in ap (slice_get t.sizes) at

-- a vtable or a function
pub classes_fit : (t : Table) → Fit (NamesArg t) ((names_of t).classes)
classes_fit t = functions_fit t 0 t.functions (vtables_from 0 t.sizes []) (omega arith) (vtables_fit t 0 t.sizes [] (whole t) tt)

pub objects_fit : (t : Table) → Fit (NamesSlot t) ((names_of t).prebuilts)
objects_fit t = prebuilts_fit t 0 t.prebuilts [] (omega arith) tt

pub descrs_fit : (t : Table) → Fit (NamesDescr t) ((names_of t).descrs)
descrs_fit t =
    let a = sizes_fit t 0 t.sizes [] (omega arith) tt in
    let b = fields_fit t 0 t.fields (sizes_from 0 t.sizes []) (omega arith) a in
    let d = arrays_fit t 0 t.arrays (fields_from 0 t.fields (sizes_from 0 t.sizes [])) (omega arith) b in
    calls_fit t 0 t.calls (arrays_from 0 t.arrays (fields_from 0 t.fields (sizes_from 0 t.sizes []))) (omega arith) d
