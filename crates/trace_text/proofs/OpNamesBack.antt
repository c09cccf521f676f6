-- The names of operations in lines.
use Rattle.std.proofs.Common.{◌≡◌, Bool, true, Some, refl}
use Rattle.std.specs.Prelude.{codes, not, ◌&&◌}
use Rattle.std.specs.Str.{bytes_eq}
use Rattle.text_lines.specs.Words.{is_name, is_name_byte, is_letter}
use Rattle.trace_ops.specs.declared.code.OpCode.{OpCode}
use Rattle.trace_ops.specs.declared.code.OpCode.TheVariants as code
use Rattle.trace_ops.specs.OpNames.{name_of, among, code_of}
use Rattle.trace_text.specs.Meaning.{has_inside, is_float_name}

-- a name, neither a float's nor that of a label or a merge point
abbrev pub is_op_name : OpCode → Bool
is_op_name c = is_name (name_of c) && (not (is_float_name (name_of c)) && (not (bytes_eq (name_of c) (codes "label")) && not (bytes_eq (name_of c) (codes "debug_merge_point"))))

pub op_name : (c : OpCode) → is_op_name c ≡ true
unfolding is_name is_name_byte is_letter has_inside
op_name code.IntAdd = refl
op_name code.IntSub = refl
op_name code.IntMul = refl
op_name code.IntAnd = refl
op_name code.IntOr = refl
op_name code.IntXor = refl
op_name code.IntLshift = refl
op_name code.IntRshift = refl
op_name code.UintRshift = refl
op_name code.IntLt = refl
op_name code.IntLe = refl
op_name code.IntEq = refl
op_name code.IntNe = refl
op_name code.IntGt = refl
op_name code.IntGe = refl
op_name code.UintLt = refl
op_name code.UintLe = refl
op_name code.UintGt = refl
op_name code.UintGe = refl
op_name code.IntIsZero = refl
op_name code.IntIsTrue = refl
op_name code.IntNeg = refl
op_name code.IntInvert = refl
op_name code.IntForceGeZero = refl
op_name code.SameAsI = refl
op_name code.SameAsR = refl
op_name code.PtrEq = refl
op_name code.PtrNe = refl
op_name code.IntAddOvf = refl
op_name code.IntSubOvf = refl
op_name code.IntMulOvf = refl
op_name code.GetfieldGcI = refl
op_name code.GetfieldGcR = refl
op_name code.SetfieldGc = refl
op_name code.GetarrayitemGcI = refl
op_name code.GetarrayitemGcR = refl
op_name code.SetarrayitemGc = refl
op_name code.ArraylenGc = refl
op_name code.New = refl
op_name code.NewWithVtable = refl
op_name code.NewArrayClear = refl
op_name code.CallI = refl
op_name code.CallR = refl
op_name code.CallN = refl
op_name code.GuardTrue = refl
op_name code.GuardFalse = refl
op_name code.GuardValue = refl
op_name code.GuardNonnull = refl
op_name code.GuardIsnull = refl
op_name code.GuardClass = refl
op_name code.GuardNonnullClass = refl
op_name code.GuardNoOverflow = refl
op_name code.GuardOverflow = refl
op_name code.GuardNoException = refl
op_name code.Jump = refl
op_name code.Finish = refl

pub code_again : (c : OpCode) → code_of (name_of c) ≡ Some c
unfolding code_of among
code_again code.IntAdd = refl
code_again code.IntSub = refl
code_again code.IntMul = refl
code_again code.IntAnd = refl
code_again code.IntOr = refl
code_again code.IntXor = refl
code_again code.IntLshift = refl
code_again code.IntRshift = refl
code_again code.UintRshift = refl
code_again code.IntLt = refl
code_again code.IntLe = refl
code_again code.IntEq = refl
code_again code.IntNe = refl
code_again code.IntGt = refl
code_again code.IntGe = refl
code_again code.UintLt = refl
code_again code.UintLe = refl
code_again code.UintGt = refl
code_again code.UintGe = refl
code_again code.IntIsZero = refl
code_again code.IntIsTrue = refl
code_again code.IntNeg = refl
code_again code.IntInvert = refl
code_again code.IntForceGeZero = refl
code_again code.SameAsI = refl
code_again code.SameAsR = refl
code_again code.PtrEq = refl
code_again code.PtrNe = refl
code_again code.IntAddOvf = refl
code_again code.IntSubOvf = refl
code_again code.IntMulOvf = refl
code_again code.GetfieldGcI = refl
code_again code.GetfieldGcR = refl
code_again code.SetfieldGc = refl
code_again code.GetarrayitemGcI = refl
code_again code.GetarrayitemGcR = refl
code_again code.SetarrayitemGc = refl
code_again code.ArraylenGc = refl
code_again code.New = refl
code_again code.NewWithVtable = refl
code_again code.NewArrayClear = refl
code_again code.CallI = refl
code_again code.CallR = refl
code_again code.CallN = refl
code_again code.GuardTrue = refl
code_again code.GuardFalse = refl
code_again code.GuardValue = refl
code_again code.GuardNonnull = refl
code_again code.GuardIsnull = refl
code_again code.GuardClass = refl
code_again code.GuardNonnullClass = refl
code_again code.GuardNoOverflow = refl
code_again code.GuardOverflow = refl
code_again code.GuardNoException = refl
code_again code.Jump = refl
code_again code.Finish = refl
