-- What holds of each entry that pieces are made from.
use Rattle.std.specs.Prelude.{◌≡◌, ℕ, ◌<◌, ◌≤◌, ◌≤ℤ◌, Some, List, [], ◌∷◌, ◌++◌, length, map, IsTrue}
use Rattle.std.specs.List.{All, Contains, flat_map}
use Rattle.trace_ops.specs.declared.trace.Kind.TheVariants as kind
use Rattle.trace_ops.specs.declared.trace.BoxId.{BoxId}
use Rattle.trace_ops.specs.declared.trace.Descr.TheVariants as descr
use Rattle.trace_ops.specs.declared.trace.TraceSet.{TraceSet}
use Rattle.trace_ops.specs.declared.table.Table.{Table}
use Rattle.trace_ops.specs.declared.table.ShapeOf.{ShapeOf}
use Rattle.trace_ops.specs.declared.table.ShapeOf.TheVariants as shape
use Rattle.trace_ops.specs.declared.piece.Val.{Val}
use Rattle.trace_ops.specs.declared.piece.Val.TheVariants.{Known, Virtual}
use Rattle.trace_ops.specs.declared.piece.Shape.{Shape}
use Rattle.trace_ops.specs.declared.piece.Pending.{Pending}
use Rattle.trace_ops.specs.declared.piece.Fact.{Fact}
use Rattle.trace_ops.specs.declared.piece.Fact.TheVariants as fact
use Rattle.trace_ops.specs.declared.piece.Entry.{Entry}
use Rattle.trace_ops.specs.Facts.{takes_of, gives_of}
use Rattle.trace_ops.specs.Classes.{is_pure}
use Rattle.trace_ops.specs.Parts.{boxes_of_arg, boxes_of_val, boxes_of_shape, boxes_of_pending}
use Rattle.trace_ops.specs.Kinds.{kind_of_arg, kind_of_val, kind_of_spot, HasParts, NamesClass, NamesArg, NamesVal, NamesSpot}
use Rattle.trace_ops.specs.Fits.{FitArgs}

-- no box twice
abbrev pub AreDistinct : List BoxId → Type 0
AreDistinct [] = Unit {0}
AreDistinct (b ∷ bs) = (¬ Contains bs b) × AreDistinct bs

-- the boxes that a fact tells of
abbrev pub boxes_of_fact : Fact → List BoxId
boxes_of_fact (fact.Between b low high) = b ∷ []
boxes_of_fact (fact.Nonnull b) = b ∷ []
boxes_of_fact (fact.ClassOf b k) = b ∷ []
boxes_of_fact (fact.Holds base spot value) = boxes_of_arg base ++ boxes_of_arg value
boxes_of_fact (fact.Same code args value) = flat_map boxes_of_arg args ++ boxes_of_arg value

-- the boxes in all that is known
abbrev pub boxes_of_entry : Entry → List BoxId
boxes_of_entry e = flat_map boxes_of_val e.values ++ flat_map boxes_of_shape e.shapes ++ flat_map boxes_of_pending e.pending ++ flat_map boxes_of_fact e.facts

-- the virtual is one of so many
abbrev pub IsNumbered : ℕ → Val → Type 0
IsNumbered shapes (Known a) = Unit {0}
IsNumbered shapes (Virtual k) = k < shapes

-- longer arrays are never virtual
abbrev pub FewItems : ShapeOf → ℕ → Type 0
FewItems (shape.Size k) n = Unit {0}
FewItems (shape.Array k) n = n ≤ 64

-- a part for each field of its size, or a few items, and each part of the kind that is stored there
abbrev pub IsShapeLawful : Table → Shape → Type 0
IsShapeLawful t s = HasParts t s.of (map kind_of_val s.parts) × FewItems s.of (length s.parts)

-- the base is a reference, and what is stored is of the kind of a spot that the table has
abbrev pub IsPendingLawful : Table → Pending → Type 0
IsPendingLawful t p = (kind_of_arg p.base ≡ Some kind.Ref) × NamesSpot t p.spot × (kind_of_val p.value ≡ kind_of_spot t p.spot)

-- the rows that a pending store names are there
abbrev pub NamesPending : Table → Pending → Type 0
NamesPending t p = NamesArg t p.base × NamesSpot t p.spot × NamesVal t p.value

-- words in order, boxes of the right kind, and a pure operation with what it takes and gives
abbrev pub IsFactLawful : Table → Fact → Type 0
IsFactLawful t (fact.Between b low high) = (b.kind ≡ kind.Int) × (low ≤ℤ high)
IsFactLawful t (fact.Nonnull b) = b.kind ≡ kind.Ref
IsFactLawful t (fact.ClassOf b k) = (b.kind ≡ kind.Ref) × NamesClass t k
IsFactLawful t (fact.Holds base spot value) = (kind_of_arg base ≡ Some kind.Ref) × NamesSpot t spot × (kind_of_arg value ≡ kind_of_spot t spot) × NamesArg t base × NamesArg t value
IsFactLawful t (fact.Same code args value) = IsTrue (is_pure code) × FitArgs t descr.No (takes_of code) args × (kind_of_arg value ≡ gives_of code) × All (NamesArg t) args × NamesArg t value

-- an entry that is lawful for a set
pub record IsLawful (set : TraceSet) (e : Entry) : Type 0 where
  pub label_distinct : AreDistinct e.label
  pub boxes_in_label : All (Contains e.label) (boxes_of_entry e)
  pub values_numbered : All (IsNumbered (length e.shapes)) e.values
  pub parts_numbered : All (λ (s : Shape). All (IsNumbered (length e.shapes)) s.parts) e.shapes
  pub stores_numbered : All (λ (p : Pending). IsNumbered (length e.shapes) p.value) e.pending
  pub shapes_lawful : All (IsShapeLawful set.table) e.shapes
  pub stores_lawful : All (IsPendingLawful set.table) e.pending
  pub facts_lawful : All (IsFactLawful set.table) e.facts
  pub values_named : All (NamesVal set.table) e.values
  pub parts_named : All (λ (s : Shape). All (NamesVal set.table) s.parts) e.shapes
  pub stores_named : All (NamesPending set.table) e.pending
