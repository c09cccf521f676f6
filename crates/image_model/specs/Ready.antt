-- When an operation may ask the host: what it names is in the table, and what it passes and what objects hold is of its kind.
-- Sound pieces that run from sound worlds ask in no other way.
use Rattle.std.specs.Prelude.{◌≡◌, ℕ, ◌<◌, List, [], ◌∷◌, Option, Some, None, length, map, slice_get}
use Rattle.std.specs.List.{Contains}
use Rattle.trace_ops.specs.declared.table.Table.{Table}
use Rattle.trace_ops.specs.declared.table.CallRow.{CallRow}
use Rattle.trace_ops.specs.declared.table.ShapeOf.TheVariants.{Size, Array}
use Rattle.trace_ops.specs.declared.trace.Kind.{Kind}
use Rattle.trace_ops.specs.declared.trace.BoxId.{BoxId}
use Rattle.trace_ops.specs.declared.trace.Arg.{Arg}
use Rattle.trace_ops.specs.declared.trace.Arg.TheVariants.{Func}
use Rattle.trace_ops.specs.declared.trace.Descr.{Descr}
use Rattle.trace_ops.specs.declared.trace.Descr.TheVariants as descr
use Rattle.trace_ops.specs.declared.piece.OptOp.{OptOp}
use Rattle.trace_ops.specs.declared.piece.OptOp.TheVariants as opt
use Rattle.trace_meaning.specs.declared.value.Value.{Value}
use Rattle.trace_ops.specs.Kinds.{kind_of_arg}
use Rattle.trace_ops.specs.Parts.{parts_of}
use Rattle.trace_ops.specs.Pieces.{args_of, finished}
use Rattle.trace_meaning.specs.Kinds.{AreOfKinds, ObjectsHold}
use Rattle.trace_meaning.specs.Holding.{Holds}
use Rattle.trace_meaning.specs.Legs.{Leave, Fails, Jumps, Finishes, Waits, Misfits, Wrong, Turn, On, Off}
use Rattle.trace_meaning.specs.Values.{kind_of_value}
use Rattle.trace_meaning.specs.World.{World}
use Rattle.opt_meaning.specs.Step.{Opt, opt_step, opt_values}
use Rattle.asm_select.specs.declared.form.Access.{Access}
use Rattle.asm_select.specs.declared.form.Access.TheVariants as access
use Rattle.asm_select.specs.Chosen.{access_form}

-- a call of a function of the table, with arguments of the kinds of its row
pub record PassesKinds (t : Table) (f k : ℕ) (vs : List Value) : Type 0 where
  pub function : f < length t.functions
  pub kinds : (row : CallRow) → slice_get t.calls k ≡ Some row → map kind_of_value vs ≡ row.args

-- a size or an array of the table; or such a call
abbrev pub AsksRightly : Table → Access → List Arg → Descr → List Value → Type 0
AsksRightly t access.Structure args (descr.Size n) vs = Contains t.shapes (Size n)
AsksRightly t access.Array args (descr.Array a) vs = Contains t.shapes (Array a)
AsksRightly t access.Call (Func f ∷ args) (descr.Call k) vs = PassesKinds t f k vs
AsksRightly t form args d vs = Unit {0}

abbrev pub AsksRightlyIf : Table → Option Access → List Arg → Descr → List Value → Type 0
AsksRightlyIf t None args d vs = Unit {0}
AsksRightlyIf t (Some form) args d vs = AsksRightly t form args d vs

abbrev pub MayAsk : Table → OptOp → List Value → Type 0
MayAsk t (opt.Plain operation r args d) vs = AsksRightlyIf t (access_form operation) args d vs
MayAsk t op vs = Unit {0}

-- in this state
pub record IsReady (t : Table) (op : OptOp) (env : Opt) : Type 0 where
  pub asks : (vs : List Value) → opt_values env (args_of op) ≡ Some vs → MayAsk t op vs
  pub objects : ObjectsHold t env.world.objects

-- ---- along a piece

-- the kinds of the values with which a piece is left at an operation
abbrev pub kinds_left : OptOp → List (Option Kind)
kinds_left (opt.Plain operation r args d) = []
kinds_left (opt.Guard operation args n snap) = map (λ (b : BoxId). Some b.kind) (parts_of snap)
kinds_left (opt.Exit n snap) = map (λ (b : BoxId). Some b.kind) (parts_of snap)
kinds_left (opt.Jump to args) = map kind_of_arg args
kinds_left (opt.Finish value) = map kind_of_arg (finished value)

-- values of these kinds, each reference of which is there, in a world whose objects hold what they should
pub record AreKinded (t : Table) (ks : List (Option Kind)) (vs : List Value) (w : World) : Type 0 where
  pub values : AreOfKinds (length w.objects) ks vs
  pub world : Holds t w

abbrev pub LeavesKinds : Table → OptOp → Leave → Type 0
LeavesKinds t op (Fails n vs w) = AreKinded t (kinds_left op) vs w
LeavesKinds t op (Jumps vs w) = AreKinded t (kinds_left op) vs w
LeavesKinds t op (Finishes vs w) = AreKinded t (kinds_left op) vs w
LeavesKinds t op (Waits w) = Unit {0}
LeavesKinds t op (Misfits w) = Unit {0}
LeavesKinds t op (Wrong w) = Unit {0}

abbrev pub ReadyOn : Table → OptOp → (Opt → Type 0) → Turn Opt → Type 0
ReadyOn t op next (On s) = next s
ReadyOn t op next (Off l) = LeavesKinds t op l

-- each of these operations is ready when it is reached, and the piece is left with values of their kinds
abbrev pub StaysReady : Table → List OptOp → Opt → Type 0
StaysReady t [] env = Unit {0}
StaysReady t (op ∷ ops) env = IsReady t op env × ReadyOn t op (StaysReady t ops) (opt_step t op env)
