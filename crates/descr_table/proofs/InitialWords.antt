-- The integers of the prebuilt objects of a table that is read are words.
use Rattle.std.proofs.Common.{◌≡◌, ℕ, List, [], ◌∷◌, map, Ok}
use Rattle.std.specs.List.{All}
use Rattle.std.proofs.lemmas.List.Elements.{All-nil, All-cons}
use Rattle.trace_ops.specs.declared.trace.Kind.{Kind}
use Rattle.trace_ops.specs.declared.trace.Kind.TheVariants as kind
use Rattle.trace_ops.specs.declared.table.ShapeOf.{ShapeOf}
use Rattle.trace_ops.specs.declared.table.ShapeOf.TheVariants as shape
use Rattle.trace_ops.specs.declared.table.SizeRow.{SizeRow}
use Rattle.trace_ops.specs.declared.table.FieldRow.{FieldRow}
use Rattle.trace_ops.specs.declared.table.ArrayRow.{ArrayRow}
use Rattle.trace_ops.specs.declared.table.Initial.{Initial}
use Rattle.trace_ops.specs.declared.table.Initial.TheVariants as initial
use Rattle.trace_ops.specs.declared.table.PrebuiltRow.{PrebuiltRow}
use Rattle.trace_ops.specs.declared.table.Table.{Table}
use Rattle.trace_ops.specs.Constants.{InitialHasWord}
use Rattle.text_lines.specs.Laws.{LinesAreSpelled}
use Rattle.descr_table.specs.Initials.{TablesHaveWords}
use Rattle.descr_table.proofs.Readable.{Each, Holds, HoldFields, HasBody, IsRoot}
use Rattle.descr_table.proofs.LinesKept.{readable}

held_word : (d : List (List ℕ)) (k : Kind) (p : Initial) → Holds d k p → InitialHasWord p
held_word d kind.Int (initial.Int z) h = record { sfits = h }
held_word d kind.Ref (initial.Int z) h = absurd h
held_word d k initial.Null h = tt
held_word d k (initial.Ptr n) h = tt

held_items : (d : List (List ℕ)) (k : Kind) (ps : List Initial) → Each (Holds d k) ps → All InitialHasWord ps
held_items d k [] h = All-nil InitialHasWord
held_items d k (p ∷ ps) h = All-cons InitialHasWord p ps (held_word d k p h.0) (held_items d k ps h.1)

held_fields : (d : List (List ℕ)) (fields : List FieldRow) (js : List ℕ) (ps : List Initial) → HoldFields d fields js ps → All InitialHasWord ps
held_fields d fields [] [] h = All-nil InitialHasWord
held_fields d fields [] (p ∷ ps) h = absurd h
held_fields d fields (j ∷ js) [] h = absurd h
held_fields d fields (j ∷ js) (p ∷ ps) h = All-cons InitialHasWord p ps (held_word d h.0.0.kind p h.0.2) (held_fields d fields js ps h.1)

held_body : (d : List (List ℕ)) (sizes : List SizeRow) (fields : List FieldRow) (arrays : List ArrayRow) (of : ShapeOf) (ps : List Initial) → HasBody d sizes fields arrays of ps → All InitialHasWord ps
held_body d sizes fields arrays (shape.Size k) ps h = held_fields d fields h.0.fields ps h.2
held_body d sizes fields arrays (shape.Array k) ps h = held_items d h.0.kind ps h.2

abbrev HasInitials : PrebuiltRow → Type 0
HasInitials row = All InitialHasWord row.parts

held_roots : (d : List (List ℕ)) (sizes : List SizeRow) (fields : List FieldRow) (arrays : List ArrayRow) (rows : List PrebuiltRow) → Each (IsRoot d sizes fields arrays) rows → All HasInitials rows
held_roots d sizes fields arrays [] h = All-nil HasInitials
held_roots d sizes fields arrays (row ∷ rows) h = All-cons HasInitials row rows (held_body d sizes fields arrays row.of row.parts h.0.body) (held_roots d sizes fields arrays rows h.1)

pub tables_have_words : LinesAreSpelled → TablesHaveWords
tables_have_words laws first text t e = held_roots (map (λ (r : PrebuiltRow). r.name) t.prebuilts) t.sizes t.fields t.arrays t.prebuilts (readable laws first text t e).prebuilts
