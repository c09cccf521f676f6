-- Where a piece is left, the entry of where it goes on admits the pair.
use Rattle.std.specs.Prelude.{◌≡◌, ℕ, List, Some, slice_get, map, []}
use Rattle.std.specs.List.{AllZip, AllByRecursion}
use Rattle.trace_ops.specs.declared.trace.BoxId.{BoxId}
use Rattle.trace_ops.specs.declared.piece.Val.{Val}
use Rattle.trace_ops.specs.declared.piece.Val.TheVariants.{Known, Virtual}
use Rattle.trace_ops.specs.declared.piece.Shape.{Shape}
use Rattle.trace_ops.specs.declared.piece.Pending.{Pending}
use Rattle.trace_ops.specs.declared.piece.Fact.{Fact}
use Rattle.trace_ops.specs.declared.piece.Snapshot.{Snapshot}
use Rattle.trace_ops.specs.declared.piece.Entry.{Entry}
use Rattle.trace_ops.specs.Parts.{boxes_of_arg, boxes_of_val}
use Rattle.trace_ops.specs.Lawful.{AreDistinct, boxes_of_fact}
use Rattle.trace_meaning.specs.declared.value.Value.{Value}
use Rattle.trace_meaning.specs.Values.{kind_of_value}
use Rattle.trace_meaning.specs.Boxes.{arg_value, all_values}
use Rattle.heap_shape.specs.Visiting.{Has, IsOnce}
use Rattle.opt_meaning.specs.Step.{resume_args}
use Rattle.opt_meaning.specs.Agrees.{MapsAt, Facts, ValIs}
use Rattle.opt_meaning.specs.Admits.{Admits, IsEntryOf, plain_entry}
use Rattle.agreement.specs.Growing.{OfAgreeing}

abbrev pub AreAmong : List BoxId → List BoxId → Type 0
AreAmong bs cs = (b : BoxId) → Has cs b → Has bs b

-- a value of the entry is this one of the piece; ns has the piece's number of each virtual object of the entry
abbrev pub IsRenamed : List ℕ → Val → Val → Type 0
IsRenamed ns (Known a) (Known c) = a ≡ c
IsRenamed ns (Virtual k) (Virtual n) = slice_get ns k ≡ Some n
IsRenamed ns (Known a) (Virtual n) = ⊥
IsRenamed ns (Virtual k) (Known c) = ⊥

abbrev pub IsShapeOf : List ℕ → Facts → Shape → ℕ → Type 0
IsShapeOf ns known s n = (old : Shape) × (slice_get known.shapes n ≡ Some (Some old)) × (s.of ≡ old.of) × AllZip (IsRenamed ns) s.parts old.parts

abbrev pub IsPendingOf : List ℕ → Pending → Pending → Type 0
IsPendingOf ns p q = (p.base ≡ q.base) × (p.spot ≡ q.spot) × IsRenamed ns p.value q.value

-- a fact that is known, of these boxes
abbrev pub IsFactOf : List BoxId → List Fact → Fact → Type 0
IsFactOf bs facts x = Has facts x × AreAmong bs (boxes_of_fact x)

-- the entry has what is known in the piece, over the boxes of its label: each virtual object that it names, all pending stores, and some facts
pub record Retells (known : Facts) (e : Entry) (ns : List ℕ) (xs : List Val) : Type 0 where
  pub once : IsOnce ns
  pub values : AllZip (IsRenamed ns) e.values xs
  pub shapes : AllZip (IsShapeOf ns known) e.shapes ns
  pub pending : AllZip (IsPendingOf ns) e.pending known.pending
  pub facts : AllByRecursion (IsFactOf e.label known.facts) e.facts

-- each box that it names is one of its label
pub record IsOverLabel (e : Entry) : Type 0 where
  pub values : AllByRecursion (λ (x : Val). AreAmong e.label (boxes_of_val x)) e.values
  pub shapes : AllByRecursion (λ (s : Shape). AllByRecursion (λ (x : Val). AreAmong e.label (boxes_of_val x)) s.parts) e.shapes
  pub pending : AllByRecursion (λ (p : Pending). AreAmong e.label (boxes_of_arg p.base) × AreAmong e.label (boxes_of_val p.value)) e.pending

-- the label's values are those of the boxes, of their kinds; xs has what the piece knows of the inputs
abbrev pub EntryAdmits : Type 0
EntryAdmits = OfAgreeing (λ t known boxes at.
    (e : Entry) (us inputs : List Value) (ns : List ℕ) (xs : List Val)
    → Retells known e ns xs → IsOverLabel e
    → AllZip (λ (b : BoxId) (u : Value). at.box b ≡ Some u) e.label us → map kind_of_value us ≡ map (λ (b : BoxId). b.kind) e.label
    → AllZip (ValIs at) xs inputs
    → Admits t e inputs at.rec us at.opt)

-- where a guard fails, with the values of the boxes of its snapshot
abbrev pub GuardAdmits : Type 0
GuardAdmits = OfAgreeing (λ t known boxes at.
    (snap : Snapshot) (e : Entry) (us vs : List Value) (ns : List ℕ) (xs : List Val)
    → IsEntryOf snap e → Retells known e ns xs
    → all_values (arg_value at.box) (resume_args snap) ≡ Some us → ((b : BoxId) (u : Value) → at.box b ≡ Some u → kind_of_value u ≡ b.kind)
    → AllZip (ValIs at) xs vs
    → Admits t e vs at.rec us at.opt)

-- where nothing is pending and each value is one of the piece, the entry that knows nothing else admits the pair: at a finish, and at a jump into a preamble
abbrev pub PlainAdmits : Type 0
PlainAdmits = OfAgreeing (λ t known boxes at.
    known.pending ≡ []
    → (bs : List BoxId) (us vs : List Value) → AreDistinct bs → map kind_of_value us ≡ map (λ (b : BoxId). b.kind) bs → AllZip (MapsAt at) us vs
    → Admits t (plain_entry bs) vs at.rec us at.opt)
