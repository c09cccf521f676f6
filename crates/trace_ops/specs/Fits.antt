-- Which arguments, results and descrs fit an operation.
use Rattle.std.specs.Prelude.{◌≡◌, ◌<◌, Bool, true, false, Option, Some, None, List, [], ◌∷◌, length, map, slice_get, IsSome}
use Rattle.std.specs.Option.{option_map, IsSomeAnd}
use Rattle.trace_ops.specs.declared.code.OpCode.{OpCode}
use Rattle.trace_ops.specs.declared.trace.Kind.{Kind}
use Rattle.trace_ops.specs.declared.trace.Kind.TheVariants as kind
use Rattle.trace_ops.specs.declared.trace.BoxId.{BoxId}
use Rattle.trace_ops.specs.declared.trace.Arg.{Arg}
use Rattle.trace_ops.specs.declared.trace.Arg.TheVariants as arg
use Rattle.trace_ops.specs.declared.trace.Descr.{Descr}
use Rattle.trace_ops.specs.declared.trace.Descr.TheVariants as descr
use Rattle.trace_ops.specs.declared.table.Table.{Table}
use Rattle.trace_ops.specs.declared.table.SizeRow.{SizeRow}
use Rattle.trace_ops.specs.declared.table.CallRow.{CallRow}
use Rattle.trace_ops.specs.declared.facts.Want.{Want}
use Rattle.trace_ops.specs.declared.facts.Want.TheVariants as want
use Rattle.trace_ops.specs.declared.facts.Takes.{Takes}
use Rattle.trace_ops.specs.declared.facts.Takes.TheVariants as takes
use Rattle.trace_ops.specs.declared.facts.Cites.{Cites}
use Rattle.trace_ops.specs.declared.facts.Cites.TheVariants as cites
use Rattle.trace_ops.specs.Facts.{takes_of, gives_of, cites_of}
use Rattle.trace_ops.specs.Kinds.{kind_of_arg, kind_of_field, kind_of_item, NamesClass}

-- what a field or an array stores
abbrev pub kind_stored : Table → Descr → Option Kind
kind_stored t (descr.Field k) = kind_of_field t k
kind_stored t (descr.Array k) = kind_of_item t k
kind_stored t _ = None

-- an argument of this kind
abbrev pub IsOfKind : Option Kind → Arg → Type 0
IsOfKind (Some k) a = kind_of_arg a ≡ Some k
IsOfKind None a = ⊥

-- the vtable of a size that has one
abbrev pub IsClass : Table → Arg → Type 0
IsClass t (arg.Class k) = NamesClass t k
IsClass t _ = ⊥

-- an argument is what is wanted there
abbrev pub IsWanted : Table → Descr → Want → Arg → Type 0
IsWanted t d want.Int a = IsOfKind (Some kind.Int) a
IsWanted t d want.Ref a = IsOfKind (Some kind.Ref) a
IsWanted t d want.Stored a = IsOfKind (kind_stored t d) a
IsWanted t d want.Class a = IsClass t a

-- an integer and a constant one, or a reference and a constant one
abbrev pub AreCompared : Option Kind → Arg → Type 0
AreCompared (Some kind.Int) (arg.Const z) = Unit {0}
AreCompared (Some kind.Ref) arg.Null = Unit {0}
AreCompared (Some kind.Ref) (arg.Ptr k) = Unit {0}
AreCompared _ _ = ⊥

-- a function, and behind it what the descr takes
abbrev pub AreCalled : Table → Descr → List Arg → Type 0
AreCalled t (descr.Call k) (arg.Func f ∷ rest) = (f < length t.functions) × IsSomeAnd (slice_get t.calls k) (λ (row : CallRow). map kind_of_arg rest ≡ map (λ k. Some k) row.args)
AreCalled t _ _ = ⊥

-- the arguments are what the operation takes
abbrev pub FitArgs : Table → Descr → Takes → List Arg → Type 0
FitArgs t d takes.Nothing [] = Unit {0}
FitArgs t d (takes.One w) (a ∷ []) = IsWanted t d w a
FitArgs t d (takes.Two w v) (a ∷ b ∷ []) = IsWanted t d w a × IsWanted t d v b
FitArgs t d (takes.Three w v u) (a ∷ b ∷ c ∷ []) = IsWanted t d w a × IsWanted t d v b × IsWanted t d u c
FitArgs t d takes.Compared (a ∷ b ∷ []) = AreCompared (kind_of_arg a) b
FitArgs t d takes.Called args = AreCalled t d args
FitArgs t d takes.Finished [] = Unit {0}
FitArgs t d takes.Finished (a ∷ []) = IsSome (kind_of_arg a)
FitArgs t d takes.Passed args = Unit {0}
FitArgs t d _ _ = ⊥

-- the kind that is asked for, where one is
abbrev pub IsAsked : Option Kind → Option Kind → Type 0
IsAsked None have = IsSome have
IsAsked (Some k) have = have ≡ Some k

-- the size has a vtable exactly where one is asked for
abbrev pub HasVtable : Bool → SizeRow → Type 0
HasVtable true row = IsSome row.vtable
HasVtable false row = row.vtable ≡ None

-- the descr is what the operation cites
abbrev pub FitsDescr : Table → Cites → Descr → Type 0
FitsDescr t cites.Nothing descr.No = Unit {0}
FitsDescr t cites.Anything d = Unit {0}
FitsDescr t (cites.Field k) (descr.Field f) = IsAsked k (kind_of_field t f)
FitsDescr t (cites.Array k) (descr.Array a) = IsAsked k (kind_of_item t a)
FitsDescr t (cites.Size v) (descr.Size s) = IsSomeAnd (slice_get t.sizes s) (HasVtable v)
FitsDescr t (cites.Call k) (descr.Call c) = IsSomeAnd (slice_get t.calls c) (λ (row : CallRow). row.result ≡ k)
FitsDescr t cites.Target (descr.Target name) = Unit {0}
FitsDescr t cites.Target descr.No = Unit {0}
FitsDescr t _ _ = ⊥

-- an operation with its arguments, its result and its descr
pub record FitsOperation (t : Table) (code : OpCode) (result : Option BoxId) (args : List Arg) (d : Descr) : Type 0 where
  pub arguments : FitArgs t d (takes_of code) args
  pub gives : option_map (λ (b : BoxId). b.kind) result ≡ gives_of code
  pub cites : FitsDescr t (cites_of code) d
