-- A line adds one row to a list at most.
use Rattle.std.proofs.Common.{◌≡◌, ℕ, zero, suc, ◌≤◌, List, [], ◌∷◌, ◌++◌, length, Option, Some, None, Ok, refl, ap, subst, arith, length-append}
use Rattle.text_lines.specs.Reading.{said}
use Rattle.trace_ops.specs.declared.table.SizeRow.{SizeRow}
use Rattle.trace_ops.specs.declared.table.Table.{Table}
use Rattle.descr_table.specs.declared.form.Form.{Form}
use Rattle.descr_table.specs.declared.form.Form.TheVariants.{Size, Field, Array, Call, Function, Object, Items}
use Rattle.descr_table.specs.declared.fault.Refusal.{Refusal}
use Rattle.descr_table.specs.declared.known.Known.{Known}
use Rattle.descr_table.specs.Known.{names_of}
use Rattle.descr_table.specs.Form.{form_at}
use Rattle.descr_table.specs.Meaning.{place, with_field, put_at, put, refusal}
use Rattle.descr_table.specs.Reading.{after, read_said, read_line}
use Rattle.descr_table.specs.Draft.{Few}

pub length-with_field : (at n : ℕ) (rows : List SizeRow) → length (with_field at n rows) ≡ length rows
length-with_field at n [] = refl
length-with_field zero n (r ∷ rs) = refl
length-with_field (suc at) n (r ∷ rs) = ap suc (length-with_field at n rs)

one_more : {A : Type 0} (xs : List A) (x : A) (n : ℕ) → length xs ≤ n → length (xs ++ x ∷ []) ≤ suc n
one_more xs x n le = omega (arith, length-append xs (x ∷ []))

few_same : (t : Table) (n : ℕ) → Few t n → Few t (suc n)
few_same t n few = record { sizes = omega (arith, few.sizes); fields = omega (arith, few.fields); arrays = omega (arith, few.arrays) }

few_put : (f : Form) (k : Known) (defined : List (List ℕ)) (t : Table) (n : ℕ) → Few t n → Few (put_at f k defined t) (suc n)
unfolding put_at
few_put (Size name vtable) k defined t n few = record { sizes = one_more t.sizes _ n few.sizes; fields = omega (arith, few.fields); arrays = omega (arith, few.arrays) }
few_put (Field name size kind immutable) k defined t n few = record { sizes = omega (arith, few.sizes, length-with_field (place size k.sizes) (length t.fields) t.sizes); fields = one_more t.fields _ n few.fields; arrays = omega (arith, few.arrays) }
few_put (Array name kind) k defined t n few = record { sizes = omega (arith, few.sizes); fields = omega (arith, few.fields); arrays = one_more t.arrays _ n few.arrays }
few_put (Call name args gives reads writes) k defined t n few = record { sizes = omega (arith, few.sizes); fields = omega (arith, few.fields); arrays = omega (arith, few.arrays) }
few_put (Function name) k defined t n few = record { sizes = omega (arith, few.sizes); fields = omega (arith, few.fields); arrays = omega (arith, few.arrays) }
few_put (Object name size fields) k defined t n few = record { sizes = omega (arith, few.sizes); fields = omega (arith, few.fields); arrays = omega (arith, few.arrays) }
few_put (Items name array items) k defined t n few = record { sizes = omega (arith, few.sizes); fields = omega (arith, few.fields); arrays = omega (arith, few.arrays) }

few_after : (defined : List (List ℕ)) (n : ℕ) (f : Form) (t made : Table) (why : Option Refusal) → Few t n → after defined n f t why ≡ Ok made → Few made (suc n)
few_after defined n f t made None few e = let same : put f defined t ≡ made = cc in subst (λ (m : Table). Few m (suc n)) same (few_put f (names_of t) defined t n few)
few_after defined n f t made (Some why) few e = absurd cc

few_said : (defined : List (List ℕ)) (n : ℕ) (t made : Table) (s : Option (Option Form)) → Few t n → read_said defined n t s ≡ Ok made → Few made (suc n)
few_said defined n t made None few e = absurd cc
few_said defined n t made (Some None) few e = let same : t ≡ made = cc in subst (λ (m : Table). Few m (suc n)) same (few_same t n few)
few_said defined n t made (Some (Some f)) few e = few_after defined n f t made (refusal f defined t) few e

pub few_line : (defined : List (List ℕ)) (n : ℕ) (line : List ℕ) (t made : Table) → Few t n → read_line defined n line t ≡ Ok made → Few made (suc n)
unfolding read_line
few_line defined n line t made few e = few_said defined n t made (said form_at line) few e
