-- What holds of every set that reading gives.
use Rattle.std.proofs.Common.{◌≡◌, ℕ, ◌+◌, ◌<◌, ◌≤◌, ◌^◌, true, List, [], ◌∷◌, length, Option, Some, None}
use Rattle.std.specs.Prelude.{nat_lt}
use Rattle.std.specs.List.{AllByRecursion}
use lib.Signed.{mag}
use Rattle.text_lines.specs.Words.{is_name}
use Rattle.trace_ops.specs.declared.code.OpCode.{OpCode}
use Rattle.trace_ops.specs.declared.trace.BoxId.{BoxId}
use Rattle.trace_ops.specs.declared.trace.Arg.{Arg}
use Rattle.trace_ops.specs.declared.trace.Arg.TheVariants as arg
use Rattle.trace_ops.specs.declared.trace.Descr.{Descr}
use Rattle.trace_ops.specs.declared.trace.Descr.TheVariants as descr
use Rattle.trace_ops.specs.declared.trace.Frame.{Frame}
use Rattle.trace_ops.specs.declared.trace.Op.{Op}
use Rattle.trace_ops.specs.declared.trace.Origin.{Origin}
use Rattle.trace_ops.specs.declared.trace.Origin.TheVariants as origin
use Rattle.trace_ops.specs.declared.trace.Trace.{Trace}
use Rattle.trace_ops.specs.declared.table.Table.{Table}
use Rattle.trace_ops.specs.Facts.{part_of}
use Rattle.trace_ops.specs.Classes.{is_guard}
use Rattle.trace_ops.specs.Parts.{with_boxes}
use Rattle.trace_ops.specs.InRange.{most_inputs}
use Rattle.descr_table.specs.Names.{prebuilt_name, vtable_name, function_name}
use Rattle.trace_text.specs.Names.{look, names_of}
use Rattle.trace_text.specs.Boxes.{knows, noted}
use Rattle.trace_text.specs.Meaning.{descr_for}
use Rattle.trace_text.proofs.KeyNames.{descr_name}

abbrev pub Each : {X : Type 0} → (X → Type 0) → List X → Type 0
Each P xs = AllByRecursion P xs

-- a name that stands for this
abbrev pub Cites : {X : Type 0} → List ℕ → X → List (List ℕ × X) → Type 0
Cites n x es = (is_name n ≡ true) × (look n es ≡ Some x)

abbrev pub ReadsArg : Table → Arg → Type 0
ReadsArg t (arg.Of b) = b.number < 2 ^ 32
ReadsArg t (arg.Const z) = mag z < 2 ^ 63
ReadsArg t arg.Null = Unit {0}
ReadsArg t (arg.Class k) = Cites (vtable_name t k) (arg.Class k) (names_of t).classes
ReadsArg t (arg.Func k) = Cites (function_name t k) (arg.Func k) (names_of t).classes
ReadsArg t (arg.Ptr k) = Cites (prebuilt_name t k) (arg.Ptr k) (names_of t).prebuilts

abbrev pub ReadsSlot : Table → Arg → Type 0
ReadsSlot t (arg.Of b) = b.number < 2 ^ 32
ReadsSlot t (arg.Const z) = mag z < 2 ^ 63
ReadsSlot t arg.Null = Unit {0}
ReadsSlot t (arg.Class k) = ⊥
ReadsSlot t (arg.Func k) = ⊥
ReadsSlot t (arg.Ptr k) = Cites (prebuilt_name t k) (arg.Ptr k) (names_of t).prebuilts

-- a box is defined before
abbrev pub KnowsArg : List BoxId → Arg → Type 0
KnowsArg seen (arg.Of b) = knows seen b ≡ true
KnowsArg seen (arg.Const z) = Unit {0}
KnowsArg seen arg.Null = Unit {0}
KnowsArg seen (arg.Class k) = Unit {0}
KnowsArg seen (arg.Func k) = Unit {0}
KnowsArg seen (arg.Ptr k) = Unit {0}

abbrev pub NameOrNone : Option (List ℕ) → Type 0
NameOrNone None = Unit {0}
NameOrNone (Some n) = is_name n ≡ true

-- none, or a name that such an operation reads as this descr
abbrev pub NamesDescr : Table → OpCode → Descr → Type 0
NamesDescr t c d = (is_name (descr_name t d) ≡ true) × (descr_for (names_of t) (part_of c) (descr_name t d) ≡ Some d)

abbrev pub ReadsDescr : Table → OpCode → Descr → Type 0
ReadsDescr t c descr.No = Unit {0}
ReadsDescr t c (descr.Size k) = NamesDescr t c (descr.Size k)
ReadsDescr t c (descr.Field k) = NamesDescr t c (descr.Field k)
ReadsDescr t c (descr.Array k) = NamesDescr t c (descr.Array k)
ReadsDescr t c (descr.Call k) = NamesDescr t c (descr.Call k)
ReadsDescr t c (descr.Target n) = NamesDescr t c (descr.Target n)

abbrev pub ReadsResult : Option BoxId → Type 0
ReadsResult None = Unit {0}
ReadsResult (Some b) = b.number < 2 ^ 32

pub record ReadsFrame (t : Table) (seen : List BoxId) (f : Frame) : Type 0 where
  pub name : is_name f.name ≡ true
  pub pc : f.pc < 2 ^ 32
  pub slots : Each (ReadsSlot t) f.slots
  pub known : Each (KnowsArg seen) f.slots
  pub few : length f.slots ≤ 256

-- an operation behind so many others, where these boxes are defined
pub record ReadsOp (t : Table) (seen : List BoxId) (others : ℕ) (op : Op) : Type 0 where
  pub result : ReadsResult op.result
  pub args : Each (ReadsArg t) op.args
  pub known : Each (KnowsArg seen) op.args
  pub descr : ReadsDescr t op.code op.descr
  pub frames : Each (ReadsFrame t seen) op.snapshot
  pub framed : nat_lt 0 (length op.snapshot) ≡ is_guard op.code
  pub few : length op.snapshot ≤ 32
  pub room : others < 8192

abbrev pub ReadsOps : Table → List BoxId → ℕ → List Op → Type 0
ReadsOps t seen others [] = Unit {0}
ReadsOps t seen others (op ∷ ops) = ReadsOp t seen others op × ReadsOps t (noted seen op.result) (others + 1) ops

abbrev pub ReadsOrigin : Origin → Type 0
ReadsOrigin origin.Loop = Unit {0}
ReadsOrigin (origin.Bridge parent guard) = (is_name parent ≡ true) × (guard < 2 ^ 32)

pub record ReadsTrace (t : Table) (tr : Trace) : Type 0 where
  pub name : is_name tr.name ≡ true
  pub from : ReadsOrigin tr.origin
  pub inputs : Each (λ (b : BoxId). b.number < 2 ^ 32) tr.inputs
  pub few : length tr.inputs ≤ most_inputs tr.origin
  pub ops : ReadsOps t (with_boxes [] tr.inputs) 0 tr.ops
