-- When the piece so far is formed as a piece of a lawful set must be, whatever it does.
use Rattle.std.specs.Prelude.{◌≡◌, ℕ, ◌+◌, ◌<◌, Bool, true, false, List, [], ◌∷◌, ◌++◌, Option, Some, None, length, map, IsSome, slice_get}
use Rattle.std.specs.Option.{option_map}
use Rattle.std.specs.List.{AllByRecursion, flat_map}
use Rattle.trace_ops.specs.declared.code.OpCode.{OpCode}
use Rattle.trace_ops.specs.declared.trace.Kind.{Kind}
use Rattle.trace_ops.specs.declared.trace.BoxId.{BoxId}
use Rattle.trace_ops.specs.declared.trace.Arg.{Arg}
use Rattle.trace_ops.specs.declared.trace.Op.{Op}
use Rattle.trace_ops.specs.declared.trace.TraceSet.{TraceSet}
use Rattle.trace_ops.specs.declared.table.Table.{Table}
use Rattle.trace_ops.specs.declared.piece.Half.TheVariants as half
use Rattle.trace_ops.specs.declared.piece.PieceId.{PieceId}
use Rattle.trace_ops.specs.declared.piece.Val.{Val}
use Rattle.trace_ops.specs.declared.piece.Val.TheVariants.{Known, Virtual}
use Rattle.trace_ops.specs.declared.piece.OptOp.{OptOp}
use Rattle.trace_ops.specs.declared.piece.OptOp.TheVariants as opt
use Rattle.trace_ops.specs.declared.piece.Entry.{Entry}
use Rattle.trace_ops.specs.Facts.{takes_of, gives_of, cites_of, part_of}
use Rattle.trace_ops.specs.Fits.{FitArgs, FitsDescr}
use Rattle.trace_ops.specs.Kinds.{kind_of_arg, NamesArg, NamesDescr}
use Rattle.trace_ops.specs.Lawful.{AreDistinct, IsLawful}
use Rattle.trace_ops.specs.Parts.{boxes_of_arg}
use Rattle.trace_ops.specs.Pieces.{results_of, snapshots_of, used_by, HasItsCode, FitsTable, NamesRows}
use Rattle.trace_ops.specs.Snapshots.{IsSnapshotSound, NamesSnapshot}
use Rattle.trace_ops.specs.Rules.{HasFrames}
use Rattle.trace_ops.specs.Classes.{is_guard}
use Rattle.trace_meaning.specs.Recorded.{slots_of}
use Rattle.box_forward.specs.declared.pure.Key.{Key}
use Rattle.box_forward.specs.Noted.{at_key}
use Rattle.opt_pass.specs.declared.state.Pass.{Pass}
use Rattle.opt_pass.specs.Laws.{Laws}
use Rattle.opt_pass.specs.Tables.{Names, name_in}
use Rattle.opt_pass.specs.Ruling.{HasKind, EndsRightly}

-- a box that is defined stands at the place of its number
abbrev pub IsDefined : List BoxId → BoxId → Type 0
IsDefined defined b = slice_get defined b.number ≡ Some b

-- an argument of this kind: it names a row of the table, or a box that is defined
pub record IsArg (t : Table) (defined : List BoxId) (k : Option Kind) (a : Arg) : Type 0 where
  pub kind : kind_of_arg a ≡ k
  pub named : NamesArg t a
  pub boxes : AllByRecursion (IsDefined defined) (boxes_of_arg a)

-- the same of what a box is
abbrev pub IsNamed : Table → List BoxId → BoxId → Val → Type 0
IsNamed t defined b (Known a) = IsArg t defined (Some b.kind) a
IsNamed t defined b (Virtual n) = ⊥

-- a jump goes where its trace does, and into a preamble it passes what the inputs there are
abbrev pub FitsTarget : PieceId → List BoxId → OptOp → Type 0
FitsTarget to target (opt.Jump q args) = (q ≡ to) × (to.half ≡ half.Pre → map kind_of_arg args ≡ map (λ (b : BoxId). Some b.kind) target)
FitsTarget to target x = Unit {0}

-- an operation where these boxes are defined
pub record IsOpFormed (t : Table) (to : PieceId) (target defined : List BoxId) (x : OptOp) : Type 0 where
  pub uses : AllByRecursion (IsDefined defined) (used_by x)
  pub gives : AllByRecursion (λ (b : BoxId). b.number ≡ length defined) (results_of x)
  pub code : HasItsCode x
  pub fits : FitsTable t x
  pub rows : NamesRows t x
  pub sound : AllByRecursion (IsSnapshotSound t) (snapshots_of x)
  pub named : AllByRecursion (NamesSnapshot t) (snapshots_of x)
  pub goes : FitsTarget to target x

abbrev pub AreFormed : Table → PieceId → List BoxId → List BoxId → List OptOp → Type 0
AreFormed t to target defined [] = Unit {0}
AreFormed t to target defined (x ∷ xs) = IsOpFormed t to target defined x × AreFormed t to target (defined ++ results_of x) xs

-- the boxes of the piece so far
abbrev pub defined_in : List BoxId → Pass → List BoxId
defined_in label o = label ++ flat_map results_of o.ops

pub record Forms (set : TraceSet) (label : List BoxId) (o : Pass) : Type 0 where
  pub ops : AreFormed set.table o.to o.target label o.ops
  pub next : o.next ≡ length (defined_in label o)
  pub names : (b : BoxId) (x : Val) → name_in o.names b ≡ Some x → IsNamed set.table (defined_in label o) b x
  -- what stands for a box is a constant
  pub forward : (b : BoxId) (x : Val) → name_in o.forward b ≡ Some x → IsNamed set.table [] b x
  pub known : (k : Key) (value : Arg) → at_key k o.known ≡ Some value → IsArg set.table (defined_in label o) (gives_of k.code) value
  pub bridges : AllByRecursion (λ x. IsLawful set x.1) o.guards
  pub at_end : IsLawful set o.at_end

-- the boxes of the arguments have names
abbrev pub HasNames : Names → List Arg → Type 0
HasNames names args = AllByRecursion (λ (b : BoxId). IsSome (name_in names b)) (flat_map boxes_of_arg args)

-- what the rules of a lawful set say of an operation
pub record IsRuled (t : Table) (op : Op) : Type 0 where
  pub fits : FitArgs t op.descr (takes_of op.code) op.args
  pub gives : option_map (λ (b : BoxId). b.kind) op.result ≡ gives_of op.code
  pub cites : FitsDescr t (cites_of op.code) op.descr
  pub args : AllByRecursion (NamesArg t) op.args
  pub descr : NamesDescr t op.descr
  pub slots : AllByRecursion (NamesArg t) (slots_of op.snapshot)
  pub frames : HasFrames (is_guard op.code) op.snapshot

-- and of the boxes that it uses
pub record IsScoped (names : Names) (op : Op) : Type 0 where
  pub args : HasNames names op.args
  pub slots : HasNames names (slots_of op.snapshot)

-- what was made of an operation keeps the piece formed
abbrev pub KeepsForm : Op → Pass → Pass → Type 0
KeepsForm op old new =
    Laws → (set : TraceSet) (label : List BoxId) → AreDistinct old.target → AllByRecursion HasKind (slots_of op.snapshot) → EndsRightly (part_of op.code) old.target op.args → IsRuled set.table op → IsScoped old.names op
    → Forms set label old → Forms set label new

-- each box that had a name has one, and so has the result where the piece goes on
abbrev pub KeepsNames : Op → Pass → Pass → Type 0
KeepsNames op old new =
    ((b : BoxId) → IsSome (name_in old.names b) → IsSome (name_in new.names b))
    × (new.ended ≡ false → option_map (λ (b : BoxId). b.kind) op.result ≡ gives_of op.code → (b : BoxId) → op.result ≡ Some b → IsSome (name_in new.names b))
