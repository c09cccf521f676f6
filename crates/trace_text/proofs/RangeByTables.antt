-- Sets are in range where all tables of lines are.
use Rattle.std.proofs.Common.{◌≡◌, ℕ, ◌<◌, ◌≤◌, List, length, Ok, Err, IfOk, Result, sym, subst, inl, inr, arith}
use Rattle.std.proofs.lemmas.List.Elements.{All-nil}
use Rattle.trace_ops.specs.declared.table.Table.{Table}
use Rattle.trace_ops.specs.declared.table.SizeRow.{SizeRow}
use Rattle.trace_ops.specs.declared.table.FieldRow.{FieldRow}
use Rattle.trace_ops.specs.declared.table.CallRow.{CallRow}
use Rattle.trace_ops.specs.declared.trace.TraceSet.{TraceSet}
use Rattle.trace_ops.specs.Kinds.{NamesShape}
use Rattle.trace_ops.specs.InRange.{NamesCall, IsPrebuilt, IsTableInRange, IsInRange}
use Rattle.descr_table.specs.Meaning.{nothing}
use Rattle.descr_table.specs.Reading.{table_at}
use Rattle.trace_text.specs.declared.fault.TextFault.{TextFault}
use Rattle.trace_text.specs.Faults.{Gives}
use Rattle.trace_text.specs.Sections.{set_at}
use Rattle.trace_text.proofs.FitDrafts.{in_range}
use Rattle.trace_text.proofs.TableOf.{table_of_text}
use Rattle.trace_text.proofs.Below.{TextLaws}

nothing_in_range : IsTableInRange nothing
nothing_in_range = record {
  shapes_name_rows = All-nil (NamesShape nothing);
  each_size_once = λ k lt. absurd (omega arith);
  each_array_once = λ k lt. absurd (omega arith);
  fields_name_sizes = All-nil (λ (f : FieldRow). f.size < 0);
  sizes_list_their_fields = λ k row e. absurd cc;
  calls_name_fields = All-nil (NamesCall nothing);
  prebuilts_fit = All-nil (IsPrebuilt nothing);
  within = record {
    shapes = omega arith;
    functions = omega arith;
    calls = omega arith;
    fields = All-nil (λ (row : SizeRow). length row.fields ≤ 64);
    arguments = All-nil (λ (row : CallRow). length row.args ≤ 6);
    reads = All-nil (λ (row : CallRow). length row.reads ≤ 16);
    writes = All-nil (λ (row : CallRow). length row.writes ≤ 16);
    prebuilt = omega arith;
  };
}

pub range_by_tables : ((first : ℕ) (part : List ℕ) (t : Table) → table_at first part ≡ Ok t → IsTableInRange t) → (text : List ℕ) (x : TraceSet × ℕ) → set_at text ≡ Ok x → IsInRange x.0
range_by_tables f text x e = in_range text x e (elim (table_of_text text x e) [
  | inl is ↦ subst IsTableInRange (sym is) nothing_in_range
  | inr h ↦ f h.0 h.1 x.0.table h.2
])

-- a set that a text stands for is in range
pub set_in_range : (laws : TextLaws) (text : List ℕ) (x : TraceSet × ℕ) → set_at text ≡ Ok x → IsInRange x.0
set_in_range laws text x e = range_by_tables laws.tables_in_range text x e

pub read_in_range : (laws : TextLaws) (r : Result (TraceSet × ℕ) TextFault) (text : List ℕ) → Gives r (set_at text) → IfOk r (λ x. IsInRange x.0)
read_in_range laws (Ok x) text h = set_in_range laws text x h
read_in_range laws (Err e) text h = tt
