-- The operations: one row for each, with its name and all that is known of it.
use Rattle.std.specs.Prelude.{ℕ, Option, Some, None, List, true, false, codes}
use Rattle.trace_ops.specs.declared.code.OpCode.{OpCode}
use Rattle.trace_ops.specs.declared.code.OpCode.TheVariants as code
use Rattle.trace_ops.specs.declared.trace.Kind.{Kind}
use Rattle.trace_ops.specs.declared.trace.Kind.TheVariants as kind
use Rattle.trace_ops.specs.declared.facts.Want.TheVariants as want
use Rattle.trace_ops.specs.declared.facts.Takes.{Takes}
use Rattle.trace_ops.specs.declared.facts.Takes.TheVariants as takes
use Rattle.trace_ops.specs.declared.facts.Cites.{Cites}
use Rattle.trace_ops.specs.declared.facts.Cites.TheVariants as cites
use Rattle.trace_ops.specs.declared.facts.Part.{Part}
use Rattle.trace_ops.specs.declared.facts.Part.TheVariants as part

-- its name, what it takes, gives and cites, and what it does beside computing
pub record OpRow : Type 0 where
  pub name : List ℕ
  pub takes : Takes
  pub gives : Option Kind
  pub cites : Cites
  pub part : Part

-- it gives a value and does nothing else
abbrev pub computes : List ℕ → Takes → Kind → OpRow
computes name args result = record { name = name; takes = args; gives = Some result; cites = cites.Nothing; part = part.Plain }

-- the same of two integers, where the guard behind it asks whether the exact result was a word
abbrev pub overflowing : List ℕ → OpRow
overflowing name = record { name = name; takes = takes.Two want.Int want.Int; gives = Some kind.Int; cites = cites.Nothing; part = part.Overflowing }

-- it is about objects, or a call
abbrev pub accesses : List ℕ → Takes → Option Kind → Cites → OpRow
accesses name args result of = record { name = name; takes = args; gives = result; cites = of; part = part.Plain }

-- it passes or fails
abbrev pub guards : List ℕ → Takes → OpRow
guards name args = record { name = name; takes = args; gives = None; cites = cites.Anything; part = part.Guard }

-- it passes or fails by the overflow of the operation before it
abbrev pub guards_overflow : List ℕ → OpRow
guards_overflow name = record { name = name; takes = takes.Nothing; gives = None; cites = cites.Anything; part = part.OverflowGuard }

-- it is the last operation
abbrev pub ends_trace : List ℕ → Takes → Cites → Part → OpRow
ends_trace name args of kind_of_end = record { name = name; takes = args; gives = None; cites = of; part = kind_of_end }

abbrev pub row_of : OpCode → OpRow
row_of code.IntAdd = computes (codes "int_add") (takes.Two want.Int want.Int) kind.Int
row_of code.IntSub = computes (codes "int_sub") (takes.Two want.Int want.Int) kind.Int
row_of code.IntMul = computes (codes "int_mul") (takes.Two want.Int want.Int) kind.Int
row_of code.IntAnd = computes (codes "int_and") (takes.Two want.Int want.Int) kind.Int
row_of code.IntOr = computes (codes "int_or") (takes.Two want.Int want.Int) kind.Int
row_of code.IntXor = computes (codes "int_xor") (takes.Two want.Int want.Int) kind.Int
row_of code.IntLshift = computes (codes "int_lshift") (takes.Two want.Int want.Int) kind.Int
row_of code.IntRshift = computes (codes "int_rshift") (takes.Two want.Int want.Int) kind.Int
row_of code.UintRshift = computes (codes "uint_rshift") (takes.Two want.Int want.Int) kind.Int
row_of code.IntLt = computes (codes "int_lt") (takes.Two want.Int want.Int) kind.Int
row_of code.IntLe = computes (codes "int_le") (takes.Two want.Int want.Int) kind.Int
row_of code.IntEq = computes (codes "int_eq") (takes.Two want.Int want.Int) kind.Int
row_of code.IntNe = computes (codes "int_ne") (takes.Two want.Int want.Int) kind.Int
row_of code.IntGt = computes (codes "int_gt") (takes.Two want.Int want.Int) kind.Int
row_of code.IntGe = computes (codes "int_ge") (takes.Two want.Int want.Int) kind.Int
row_of code.UintLt = computes (codes "uint_lt") (takes.Two want.Int want.Int) kind.Int
row_of code.UintLe = computes (codes "uint_le") (takes.Two want.Int want.Int) kind.Int
row_of code.UintGt = computes (codes "uint_gt") (takes.Two want.Int want.Int) kind.Int
row_of code.UintGe = computes (codes "uint_ge") (takes.Two want.Int want.Int) kind.Int
row_of code.IntIsZero = computes (codes "int_is_zero") (takes.One want.Int) kind.Int
row_of code.IntIsTrue = computes (codes "int_is_true") (takes.One want.Int) kind.Int
row_of code.IntNeg = computes (codes "int_neg") (takes.One want.Int) kind.Int
row_of code.IntInvert = computes (codes "int_invert") (takes.One want.Int) kind.Int
row_of code.IntForceGeZero = computes (codes "int_force_ge_zero") (takes.One want.Int) kind.Int
row_of code.SameAsI = computes (codes "same_as_i") (takes.One want.Int) kind.Int
row_of code.SameAsR = computes (codes "same_as_r") (takes.One want.Ref) kind.Ref
row_of code.PtrEq = computes (codes "ptr_eq") (takes.Two want.Ref want.Ref) kind.Int
row_of code.PtrNe = computes (codes "ptr_ne") (takes.Two want.Ref want.Ref) kind.Int
row_of code.IntAddOvf = overflowing (codes "int_add_ovf")
row_of code.IntSubOvf = overflowing (codes "int_sub_ovf")
row_of code.IntMulOvf = overflowing (codes "int_mul_ovf")
row_of code.GetfieldGcI = accesses (codes "getfield_gc_i") (takes.One want.Ref) (Some kind.Int) (cites.Field (Some kind.Int))
row_of code.GetfieldGcR = accesses (codes "getfield_gc_r") (takes.One want.Ref) (Some kind.Ref) (cites.Field (Some kind.Ref))
row_of code.SetfieldGc = accesses (codes "setfield_gc") (takes.Two want.Ref want.Stored) None (cites.Field None)
row_of code.GetarrayitemGcI = accesses (codes "getarrayitem_gc_i") (takes.Two want.Ref want.Int) (Some kind.Int) (cites.Array (Some kind.Int))
row_of code.GetarrayitemGcR = accesses (codes "getarrayitem_gc_r") (takes.Two want.Ref want.Int) (Some kind.Ref) (cites.Array (Some kind.Ref))
row_of code.SetarrayitemGc = accesses (codes "setarrayitem_gc") (takes.Three want.Ref want.Int want.Stored) None (cites.Array None)
row_of code.ArraylenGc = accesses (codes "arraylen_gc") (takes.One want.Ref) (Some kind.Int) (cites.Array None)
row_of code.New = accesses (codes "new") takes.Nothing (Some kind.Ref) (cites.Size false)
row_of code.NewWithVtable = accesses (codes "new_with_vtable") takes.Nothing (Some kind.Ref) (cites.Size true)
row_of code.NewArrayClear = accesses (codes "new_array_clear") (takes.One want.Int) (Some kind.Ref) (cites.Array None)
row_of code.CallI = accesses (codes "call_i") takes.Called (Some kind.Int) (cites.Call (Some kind.Int))
row_of code.CallR = accesses (codes "call_r") takes.Called (Some kind.Ref) (cites.Call (Some kind.Ref))
row_of code.CallN = accesses (codes "call_n") takes.Called None (cites.Call None)
row_of code.GuardTrue = guards (codes "guard_true") (takes.One want.Int)
row_of code.GuardFalse = guards (codes "guard_false") (takes.One want.Int)
row_of code.GuardValue = guards (codes "guard_value") takes.Compared
row_of code.GuardNonnull = guards (codes "guard_nonnull") (takes.One want.Ref)
row_of code.GuardIsnull = guards (codes "guard_isnull") (takes.One want.Ref)
row_of code.GuardClass = guards (codes "guard_class") (takes.Two want.Ref want.Class)
row_of code.GuardNonnullClass = guards (codes "guard_nonnull_class") (takes.Two want.Ref want.Class)
row_of code.GuardNoOverflow = guards_overflow (codes "guard_no_overflow")
row_of code.GuardOverflow = guards_overflow (codes "guard_overflow")
row_of code.GuardNoException = guards (codes "guard_no_exception") takes.Nothing
row_of code.Jump = ends_trace (codes "jump") takes.Passed cites.Target part.Jump
row_of code.Finish = ends_trace (codes "finish") takes.Finished cites.Anything part.Finish
