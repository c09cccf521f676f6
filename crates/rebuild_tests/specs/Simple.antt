-- A quick test of resume tables with one guard and frames without parents, which is made before one is rebuilt from.
use Rattle.std.specs.Prelude.{ℕ, ◌/◌, ◌%◌, Bool, true, false, not, ◌&&◌, ◌==◌, List, Option, Some, None, length, nat_lt, is_none, slice_get, if◌then◌else◌}
use Rattle.std.specs.List.{list_all, list_any}
use Rattle.trace_ops.specs.declared.trace.Arg.{Arg}
use Rattle.trace_ops.specs.declared.trace.Arg.TheVariants.{Of, Class, Func}
use Rattle.trace_ops.specs.declared.table.Table.{Table}
use Rattle.trace_ops.specs.declared.table.ShapeOf.{ShapeOf}
use Rattle.trace_ops.specs.declared.table.ShapeOf.TheVariants.{Size, Array}
use Rattle.arena_objects.specs.Layout.{same_shape}
use Rattle.resume_numbering.specs.declared.rows.FrameRow.{FrameRow}
use Rattle.resume_numbering.specs.declared.rows.VirtualRow.{VirtualRow}
use Rattle.resume_numbering.specs.declared.rows.PendingRow.{PendingRow}
use Rattle.resume_numbering.specs.declared.rows.GuardRow.{GuardRow}
use Rattle.resume_numbering.specs.declared.rows.ResumeTable.{ResumeTable}

-- a tagged number leads to one of so many constants, to one of so many virtual objects, or to something else
abbrev pub leads_well : ℕ → ℕ → ℕ → Bool
leads_well consts virtuals t = if t % 4 == 2 then nat_lt (t / 4) consts else (if t % 4 == 3 then nat_lt (t / 4) virtuals else true)

abbrev pub all_lead_well : ℕ → ℕ → List ℕ → Bool
all_lead_well consts virtuals ts = list_all (leads_well consts virtuals) ts

abbrev pub frame_is_simple : ℕ → ℕ → FrameRow → Bool
frame_is_simple consts virtuals row = is_none row.parent && all_lead_well consts virtuals row.slots

abbrev pub virtual_is_simple : ℕ → ℕ → VirtualRow → Bool
virtual_is_simple consts virtuals row = all_lead_well consts virtuals row.parts

abbrev pub store_is_simple : ℕ → ℕ → PendingRow → Bool
store_is_simple consts virtuals row = leads_well consts virtuals row.base && leads_well consts virtuals row.value && not (row.base % 4 == 3)

abbrev pub is_constant : Arg → Bool
is_constant (Of b) = false
is_constant (Class k) = false
is_constant (Func k) = false
is_constant _ = true

abbrev pub guard_is_simple : ResumeTable → GuardRow → Bool
guard_is_simple table g =
    nat_lt g.frame (length table.frames)
    && list_all (λ k. nat_lt k (length table.virtuals)) g.virtuals
    && list_all (frame_is_simple (length table.consts) (length g.virtuals)) table.frames
    && list_all (virtual_is_simple (length table.consts) (length g.virtuals)) table.virtuals
    && list_all (store_is_simple (length table.consts) (length g.virtuals)) g.pending
    && list_all is_constant table.consts

abbrev pub first_is_simple : ResumeTable → Option GuardRow → Bool
first_is_simple table None = false
first_is_simple table (Some g) = guard_is_simple table g

-- one guard, and all of this
abbrev pub is_simple : ResumeTable → Bool
is_simple table = length table.guards == 1 && first_is_simple table (slice_get table.guards 0)

-- the shape is one of the table
abbrev pub names_row : Table → ShapeOf → Bool
names_row t (Size s) = nat_lt s (length t.sizes)
names_row t (Array a) = nat_lt a (length t.arrays)

abbrev pub is_known : Table → ShapeOf → Bool
is_known t s = list_any (λ x. same_shape x s) t.shapes && names_row t s

abbrev pub all_known : Table → List VirtualRow → Bool
all_known t rows = list_all (λ (row : VirtualRow). is_known t row.of) rows

abbrev pub first_has : ℕ → Option GuardRow → Bool
first_has guard None = false
first_has guard (Some g) = g.guard == guard
