-- What a line adds, over plain tables.
use Rattle.std.proofs.Common.{◌≡◌, ℕ, zero, suc, ◌<◌, ◌≤◌, List, [], ◌∷◌, ◌++◌, length, get_or, refl, ap, arith}
use Rattle.std.specs.Prelude.{slice_set}
use Rattle.trace_ops.specs.declared.table.SizeRow.{SizeRow}
use Rattle.descr_table.specs.Meaning.{with_field}

-- a write at one place
pub with_field_set : (rows : List SizeRow) (at n : ℕ) (row : SizeRow) → at < length rows → row ≡ get_or rows at row → slice_set rows at (record row { fields = row.fields ++ n ∷ [] }) ≡ with_field at n rows
with_field_set [] at n row lt e = absurd (omega arith)
with_field_set (r ∷ rs) zero n row lt e = rw e refl
with_field_set (r ∷ rs) (suc at) n row lt e = ap (λ (x : List SizeRow). r ∷ x) (with_field_set rs at n row (omega arith) e)

pub with_field_beyond : (rows : List SizeRow) (at n : ℕ) → length rows ≤ at → rows ≡ with_field at n rows
with_field_beyond [] at n le = refl
with_field_beyond (r ∷ rs) zero n le = absurd (omega arith)
with_field_beyond (r ∷ rs) (suc at) n le = ap (λ (x : List SizeRow). r ∷ x) (with_field_beyond rs at n (omega arith))
