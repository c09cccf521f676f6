-- Operations whose arguments are of the kinds that they take, in a world whose objects hold what they should, leave such a world
-- and give a value of their kind.
use Rattle.std.specs.Prelude.{ℕ, ◌≤◌, List, Option, Some, None, length, map}
use Rattle.trace_ops.specs.declared.code.OpCode.{OpCode}
use Rattle.trace_ops.specs.declared.trace.Kind.{Kind}
use Rattle.trace_ops.specs.declared.trace.Arg.{Arg}
use Rattle.trace_ops.specs.declared.trace.Descr.{Descr}
use Rattle.trace_ops.specs.declared.table.Table.{Table}
use Rattle.trace_ops.specs.Facts.{takes_of, gives_of, cites_of}
use Rattle.trace_ops.specs.Fits.{FitsDescr}
use Rattle.trace_ops.specs.Kinds.{kind_of_arg}
use Rattle.trace_ops.specs.Rules.{AreTaken}
use Rattle.trace_meaning.specs.declared.value.Value.{Value}
use Rattle.trace_meaning.specs.World.{World}
use Rattle.trace_meaning.specs.Performing.{Done, Gave, Bad, Waited, Misfitted, perform}
use Rattle.trace_meaning.specs.Kinds.{IsValueOf, AreOfKinds, ObjectsHold}

-- a world whose objects begin with those of the table, and hold values of their kinds
pub record Holds (t : Table) (w : World) : Type 0 where
  pub prebuilts : length t.prebuilts ≤ length w.objects
  pub objects : ObjectsHold t w.objects

-- it comes from another one, and has no fewer objects
pub record Keeps (t : Table) (before after : World) : Type 0 where
  pub holds : Holds t after
  pub more : length before.objects ≤ length after.objects

abbrev pub KeepsIf : Table → World → Option World → Type 0
KeepsIf t w None = Unit {0}
KeepsIf t w (Some u) = Keeps t w u

-- what is given, if anything is, is of the kind that is wanted, if one is
abbrev pub IsGiven : ℕ → Option Kind → Option Value → Type 0
IsGiven n None x = Unit {0}
IsGiven n (Some k) None = Unit {0}
IsGiven n (Some k) (Some x) = IsValueOf n k x

-- what an operation leaves holds values of their kinds, and what it gives is of the kind that is wanted
abbrev pub DoneHolds : Table → World → Option Kind → Done → Type 0
DoneHolds t w want (Gave x u) = Keeps t w u × IsGiven (length u.objects) want x
DoneHolds t w want Bad = Unit {0}
DoneHolds t w want (Waited u) = Keeps t w u
DoneHolds t w want (Misfitted u) = Keeps t w u

-- arguments as the operation takes them, whose values are of their kinds
abbrev pub OperationsKeepKinds : Type 0
OperationsKeepKinds =
    (t : Table) (w : World) (operation : OpCode) (d : Descr) (args : List Arg) (vs : List Value)
    → Holds t w → AreTaken t (cites_of operation) d (takes_of operation) args → FitsDescr t (cites_of operation) d → AreOfKinds (length w.objects) (map kind_of_arg args) vs → DoneHolds t w (gives_of operation) (perform t operation d args vs w)
