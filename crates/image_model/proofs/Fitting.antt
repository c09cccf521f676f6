-- Arguments that fit an operation are as it takes them.
use Rattle.std.specs.Prelude.{IsSome}
use Rattle.std.proofs.Common.{◌≡◌, Option, Some, None, List, [], ◌∷◌, refl}
use Rattle.trace_ops.specs.declared.trace.Kind.{Kind}
use Rattle.trace_ops.specs.declared.trace.Arg.{Arg}
use Rattle.trace_ops.specs.declared.trace.Arg.TheVariants as arg
use Rattle.trace_ops.specs.declared.trace.Descr.{Descr}
use Rattle.trace_ops.specs.declared.trace.Descr.TheVariants as descr
use Rattle.trace_ops.specs.declared.table.Table.{Table}
use Rattle.trace_ops.specs.declared.facts.Want.{Want}
use Rattle.trace_ops.specs.declared.facts.Want.TheVariants as want
use Rattle.trace_ops.specs.declared.facts.Takes.{Takes}
use Rattle.trace_ops.specs.declared.facts.Takes.TheVariants as takes
use Rattle.trace_ops.specs.declared.facts.Cites.{Cites}
use Rattle.trace_ops.specs.declared.facts.Cites.TheVariants as cites
use Rattle.trace_ops.specs.Kinds.{kind_of_arg, kind_of_field, kind_of_item}
use Rattle.trace_ops.specs.Fits.{kind_stored, IsOfKind, IsWanted, AreCalled, FitArgs}
use Rattle.trace_ops.specs.Rules.{stored_kind, IsStored, Suits, AreCalling, AreTaken}

is_valued : (k : Kind) (o : Option Kind) → o ≡ Some k → IsSome o
is_valued k (Some x) e = refl
is_valued k None e = absurd (cc)

valued : (k : Option Kind) (a : Arg) → IsOfKind k a → IsSome (kind_of_arg a)
valued None a h = absurd h
valued (Some k) a h = is_valued k (kind_of_arg a) h

kept : (k : Option Kind) (a : Arg) → IsOfKind k a → IsStored k a
kept None a h = absurd h
kept (Some k) a h = h

stored_of : (t : Table) (c : Cites) (d : Descr) (a : Arg) → IsOfKind (kind_stored t d) a → IsStored (stored_kind t c d) a
stored_of t (cites.Field k) (descr.Field f) a h = kept (kind_of_field t f) a h
stored_of t (cites.Array k) (descr.Array x) a h = kept (kind_of_item t x) a h
stored_of t c d a h = valued (kind_stored t d) a h

suits_of : (t : Table) (c : Cites) (d : Descr) (w : Want) (a : Arg) → IsWanted t d w a → Suits t c d w a
suits_of t c d want.Int a h = h
suits_of t c d want.Ref a h = h
suits_of t c d want.Class a h = h
suits_of t c d want.Stored a h = stored_of t c d a h

called_of : (t : Table) (d : Descr) (args : List Arg) → AreCalled t d args → AreCalling t d args
called_of t (descr.Call k) (arg.Func f ∷ rest) h = h.1
called_of t d args h = absurd h

pub taken_of : (t : Table) (c : Cites) (d : Descr) (w : Takes) (args : List Arg) → FitArgs t d w args → AreTaken t c d w args
taken_of t c d takes.Nothing [] h = tt
taken_of t c d (takes.One w) (a ∷ []) h = suits_of t c d w a h
taken_of t c d (takes.Two w v) (a ∷ b ∷ []) h = (suits_of t c d w a h.0, suits_of t c d v b h.1)
taken_of t c d (takes.Three w v u) (a ∷ b ∷ e ∷ []) h = (suits_of t c d w a h.0, suits_of t c d v b h.1, suits_of t c d u e h.2)
taken_of t c d takes.Compared (a ∷ b ∷ []) h = h
taken_of t c d takes.Called args h = called_of t d args h
taken_of t c d takes.Finished [] h = tt
taken_of t c d takes.Finished (a ∷ []) h = h
taken_of t c d takes.Passed args h = tt
taken_of t c d w args h = absurd h
