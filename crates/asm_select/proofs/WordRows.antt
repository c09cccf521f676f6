-- The instructions of operations on words have rows.
use Rattle.std.proofs.Common.{◌≡◌, ◌≤◌, length, ℕ, ◌*◌, ◌^◌, ◌<◌, Bool, true, false, cond, nat_eq, List, [], ◌∷◌, ◌++◌, refl, arith, ℤ, pos, negsuc}
use Rattle.std.specs.Prelude.{◌-ℤ◌, FitsSigned}
use Rattle.std.proofs.lemmas.Int.{ints}
use Rattle.std.specs.Int.{w32}
use Rattle.std.proofs.lemmas.Bool.{ltb-true}
use Rattle.trace_ops.specs.declared.code.OpCode.{OpCode}
use Rattle.trace_ops.specs.declared.code.OpCode.TheVariants as code
use Rattle.trace_ops.specs.Words.{shift_of}
use Rattle.guard_exit.specs.Codes.{register, frame_mem}
use Rattle.target_base.specs.declared.reg.Reg.{Reg}
use Rattle.x64_encode.specs.declared.instr.AluOp.{AluOp}
use Rattle.x64_encode.specs.declared.instr.AluOp.TheVariants as alu
use Rattle.x64_encode.specs.declared.instr.ShiftOp.{ShiftOp}
use Rattle.x64_encode.specs.declared.instr.ShiftOp.TheVariants as shift
use Rattle.x64_encode.specs.declared.instr.Cc.{Cc}
use Rattle.x64_encode.specs.declared.instr.Cc.TheVariants as cc_is
use Rattle.x64_encode.specs.declared.instr.Instr.{Instr}
use Rattle.x64_encode.specs.declared.instr.Instr.TheVariants.{MovReg, MovImm, Alu, AluImm, Imul, Not, Neg, ShiftCl, ShiftImm, Xchg}
use Rattle.target_base.specs.declared.place.Place.{Place}
use Rattle.target_base.specs.declared.place.Place.TheVariants.{In, Word}
use Rattle.x64_encode.specs.Fields.{fits_bits, alu_digit}
use Rattle.x64_encode.specs.Form.{spelling, HasRow, IsReg, IsPlace}
use Rattle.asm_select.specs.declared.form.Arith.{Arith}
use Rattle.asm_select.specs.declared.form.Arith.TheVariants.{By, Product}
use Rattle.asm_select.specs.declared.operand.Operand.{Operand}
use Rattle.asm_select.specs.declared.operand.Operand.TheVariants.{At, Imm}
use Rattle.asm_select.specs.Slots.{Slot, Jumps, puts, HaveRows}
use Rattle.asm_select.specs.Valued.{MayHold}
use Rattle.asm_select.specs.Chosen.{stands_at, reg_or, home_of, load_code, take_code, put_code, alu_code, arith_code, work_of, two_code, commuting_code, shift_code, truth_code, truth_unless, compare_code, test_code, clamp_code, one_code, unary_form, binary_form, unary_code, binary_code}
use Rattle.asm_select.proofs.Micro.{CanRead}

abbrev pub Most : Type 0
Most = (i : Instr) → length (spelling i) ≤ 16

abbrev pub AllRows : List Instr → Type 0
AllRows [] = Unit {0}
AllRows (i ∷ more) = HasRow i × AllRows more

pub both : (xs ys : List Instr) → AllRows xs → AllRows ys → AllRows (xs ++ ys)
both [] ys a b = b
both (x ∷ xs) ys a b = (a.0, both xs ys a.1 b)

pub either : (b : Bool) (xs ys : List Instr) → AllRows xs → AllRows ys → AllRows (cond b xs ys)
either true xs ys a b = a
either false xs ys a b = b

pub low : (n : ℕ) → n < 16 → IsReg (register n)
low n lt = lt

pub frame_row : (k : ℕ) → k < 1048576 → IsPlace (frame_mem k)
frame_row k lt = (omega arith, near_disp (8 * k) (omega (arith, lt)))
  where
    near_disp : (n : ℕ) → n < 8388608 → FitsSigned w32 (pos n -ℤ pos 128)
    near_disp n h = omega (arith, ints)

pub fits_32 : (v : ℤ) → fits_bits 31 v ≡ true → FitsSigned w32 v
fits_32 (pos n) h = record { sfits = ltb-true n (2 ^ 31) h }
fits_32 (negsuc n) h = record { sfits = ltb-true n (2 ^ 31) h }

pub reg_low : (n : ℕ) (d : Place) → n < 16 → MayHold d → IsReg (reg_or n d)
reg_low n (In r) lt m = m.there
reg_low n (Word k) lt m = lt

pub home_low : (n : ℕ) (a : Operand) → n < 16 → CanRead a → IsReg (home_of n a)
home_low n (At d) lt m = reg_low n d lt m
home_low n (Imm v) lt m = lt

pub work_low : (d : Place) (b : Operand) → MayHold d → IsReg (work_of d b)
work_low d b m = by (stands_at d b)
  where
    by : (x : Bool) → IsReg (cond x (register 11) (reg_or 11 d))
    by true = omega arith
    by false = reg_low 11 d (omega arith) m

pub load_rows : (w : Reg) (d : Place) → IsReg w → MayHold d → AllRows (load_code w d)
load_rows w (In r) lt m = either (nat_eq r.0 w.0) [] (MovReg w r ∷ []) tt ((lt, m.there), tt)
load_rows w (Word k) lt m = ((lt, frame_row k m.there), tt)

pub take_rows : (w : Reg) (a : Operand) → IsReg w → CanRead a → AllRows (take_code w a)
take_rows w (At d) lt m = load_rows w d lt m
take_rows w (Imm v) lt m = ((lt, m), tt)

pub put_rows : (d : Place) (w : Reg) → IsReg w → MayHold d → AllRows (put_code d w)
put_rows (In r) w lt m = either (nat_eq r.0 w.0) [] (MovReg r w ∷ []) tt ((m.there, lt), tt)
put_rows (Word k) w lt m = ((frame_row k m.there, lt), tt)

pub alu_rows : (op : AluOp) (w : Reg) (b : Operand) → alu_digit op < 8 → IsReg w → CanRead b → AllRows (alu_code op w b)
alu_rows op w (At d) e lt m =
    let h = reg_or 15 d in
    let l = reg_low 15 d (omega arith) m in
    both (load_code h d) (Alu op w h ∷ []) (load_rows h d l m) ((lt, l), tt)
alu_rows op w (Imm v) e lt m =
    elim (fits_bits 31 v) as (λ b. fits_bits 31 v ≡ b → AllRows (cond b (AluImm op w v ∷ []) (MovImm (register 15) v ∷ Alu op w (register 15) ∷ []))) [
      | true ↦ λ h. ((e, lt, fits_32 v h), tt)
      | false ↦ λ h. ((low 15 (omega arith), m), ((lt, low 15 (omega arith)), tt))
    ]
    refl

abbrev pub HasDigit : Arith → Type 0
HasDigit (By op) = alu_digit op < 8
HasDigit Product = Unit {0}

pub arith_rows : (m : Arith) (w : Reg) (b : Operand) → HasDigit m → IsReg w → CanRead b → AllRows (arith_code m w b)
arith_rows (By op) w b e lt m = alu_rows op w b e lt m
arith_rows Product w b e lt m =
    let h = home_of 15 b in
    let l = home_low 15 b (omega arith) m in
    both (take_code h b) (Imul w h ∷ []) (take_rows h b l m) ((lt, l), tt)

pub two_rows : (m : Arith) (d : Place) (a b : Operand) → HasDigit m → MayHold d → CanRead a → CanRead b → AllRows (two_code m d a b)
two_rows m d a b e md ra rb =
    let w = work_of d b in
    let l = work_low d b md in
    both (take_code w a) (arith_code m w b ++ put_code d w) (take_rows w a l ra) (both (arith_code m w b) (put_code d w) (arith_rows m w b e l rb) (put_rows d w l md))

pub commuting_rows : (m : Arith) (d : Place) (a b : Operand) → HasDigit m → MayHold d → CanRead a → CanRead b → AllRows (commuting_code m d a b)
commuting_rows m d a b e md ra rb =
    either (stands_at d b) (two_code m d b a) (two_code m d a b) (two_rows m d b a e md rb ra) (two_rows m d a b e md ra rb)

pub shift_rows : (op : ShiftOp) (d : Place) (a b : Operand) → MayHold d → CanRead a → CanRead b → AllRows (shift_code op d a b)
shift_rows op d a (Imm v) md ra rb =
    let w = reg_or 11 d in
    let l = reg_low 11 d (omega arith) md in
    both (take_code w a) (ShiftImm op w (shift_of v) ∷ put_code d w) (take_rows w a l ra) ((l, omega arith), put_rows d w l md)
shift_rows op d a (At x) md ra rb =
    let w = register 11 in
    let l : IsReg w = omega arith in
    let c = register 15 in
    let k : IsReg c = omega arith in
    let o : IsReg (register 1) = omega arith in
    let rest = Xchg (register 1) c ∷ ShiftCl op w ∷ Xchg (register 1) c ∷ put_code d w in
    both (take_code w a) (load_code c x ++ rest) (take_rows w a l ra) (both (load_code c x) rest (load_rows c x k rb) ((o, k), (l, ((o, k), put_rows d w l md))))

pub truth_rows : (test : Cc) (d : Place) → MayHold d → AllRows (truth_code test d)
truth_rows test d md = let l = reg_low 11 d (omega arith) md in (l, ((l, l), put_rows d (reg_or 11 d) l md))

pub unless_rows : (lone : Bool) (test : Cc) (d : Place) → MayHold d → AllRows (truth_unless lone test d)
unless_rows true test d md = tt
unless_rows false test d md = truth_rows test d md

pub compare_rows : (a b : Operand) → CanRead a → CanRead b → AllRows (compare_code a b)
compare_rows a b ra rb =
    let w = home_of 11 a in
    let l = home_low 11 a (omega arith) ra in
    both (take_code w a) (alu_code alu.Cmp w b) (take_rows w a l ra) (alu_rows alu.Cmp w b (omega arith) l rb)

pub test_rows : (a : Operand) → CanRead a → AllRows (test_code a)
test_rows a ra =
    let w = home_of 11 a in
    let l = home_low 11 a (omega arith) ra in
    both (take_code w a) (Alu alu.Test w w ∷ []) (take_rows w a l ra) ((l, l), tt)

pub compared_rows : (lone : Bool) (test : Cc) (d : Place) (a b : Operand) → MayHold d → CanRead a → CanRead b → AllRows (compare_code a b ++ truth_unless lone test d)
compared_rows lone test d a b md ra rb = both (compare_code a b) (truth_unless lone test d) (compare_rows a b ra rb) (unless_rows lone test d md)

pub tested_rows : (lone : Bool) (test : Cc) (d : Place) (a : Operand) → MayHold d → CanRead a → AllRows (test_code a ++ truth_unless lone test d)
tested_rows lone test d a md ra = both (test_code a) (truth_unless lone test d) (test_rows a ra) (unless_rows lone test d md)

pub one_rows : (d : Place) (a : Operand) (middle : List Instr) → AllRows middle → MayHold d → CanRead a → AllRows (one_code d a middle)
one_rows d a middle h md ra =
    let w = reg_or 11 d in
    let l = reg_low 11 d (omega arith) md in
    both (take_code w a) (middle ++ put_code d w) (take_rows w a l ra) (both middle (put_code d w) h (put_rows d w l md))

pub clamp_rows : (w : Reg) → IsReg w → AllRows (clamp_code w)
clamp_rows w l =
    let k : IsReg (register 15) = omega arith in
    ((k, l), ((k, omega arith), (k, ((l, k), tt))))

pub binary_rows : (lone : Bool) (operation : OpCode) (d : Place) (a b : Operand) → MayHold d → CanRead a → CanRead b → AllRows (binary_code lone (binary_form operation) d a b)
binary_rows lone code.IntAdd d a b m ra rb = commuting_rows (By alu.Add) d a b (omega arith) m ra rb
binary_rows lone code.IntSub d a b m ra rb = two_rows (By alu.Sub) d a b (omega arith) m ra rb
binary_rows lone code.IntMul d a b m ra rb = commuting_rows Product d a b tt m ra rb
binary_rows lone code.IntAnd d a b m ra rb = commuting_rows (By alu.And) d a b (omega arith) m ra rb
binary_rows lone code.IntOr d a b m ra rb = commuting_rows (By alu.Or) d a b (omega arith) m ra rb
binary_rows lone code.IntXor d a b m ra rb = commuting_rows (By alu.Xor) d a b (omega arith) m ra rb
binary_rows lone code.IntLshift d a b m ra rb = shift_rows shift.Shl d a b m ra rb
binary_rows lone code.IntRshift d a b m ra rb = shift_rows shift.Sar d a b m ra rb
binary_rows lone code.UintRshift d a b m ra rb = shift_rows shift.Shr d a b m ra rb
binary_rows lone code.IntLt d a b m ra rb = compared_rows lone cc_is.L d a b m ra rb
binary_rows lone code.IntLe d a b m ra rb = compared_rows lone cc_is.Le d a b m ra rb
binary_rows lone code.IntEq d a b m ra rb = compared_rows lone cc_is.E d a b m ra rb
binary_rows lone code.IntNe d a b m ra rb = compared_rows lone cc_is.Ne d a b m ra rb
binary_rows lone code.IntGt d a b m ra rb = compared_rows lone cc_is.G d a b m ra rb
binary_rows lone code.IntGe d a b m ra rb = compared_rows lone cc_is.Ge d a b m ra rb
binary_rows lone code.UintLt d a b m ra rb = compared_rows lone cc_is.B d a b m ra rb
binary_rows lone code.UintLe d a b m ra rb = compared_rows lone cc_is.Be d a b m ra rb
binary_rows lone code.UintGt d a b m ra rb = compared_rows lone cc_is.A d a b m ra rb
binary_rows lone code.UintGe d a b m ra rb = compared_rows lone cc_is.Ae d a b m ra rb
binary_rows lone code.PtrEq d a b m ra rb = compared_rows lone cc_is.E d a b m ra rb
binary_rows lone code.PtrNe d a b m ra rb = compared_rows lone cc_is.Ne d a b m ra rb
binary_rows lone code.IntAddOvf d a b m ra rb = commuting_rows (By alu.Add) d a b (omega arith) m ra rb
binary_rows lone code.IntSubOvf d a b m ra rb = two_rows (By alu.Sub) d a b (omega arith) m ra rb
binary_rows lone code.IntMulOvf d a b m ra rb = commuting_rows Product d a b tt m ra rb
binary_rows lone _ d a b m ra rb = tt

pub unary_rows : (lone : Bool) (operation : OpCode) (d : Place) (a : Operand) → MayHold d → CanRead a → AllRows (unary_code lone (unary_form operation) d a)
unary_rows lone code.IntIsZero d a m ra = tested_rows lone cc_is.E d a m ra
unary_rows lone code.IntIsTrue d a m ra = tested_rows lone cc_is.Ne d a m ra
unary_rows lone code.IntNeg d a m ra = one_rows d a (Neg (reg_or 11 d) ∷ []) (reg_low 11 d (omega arith) m, tt) m ra
unary_rows lone code.IntInvert d a m ra = one_rows d a (Not (reg_or 11 d) ∷ []) (reg_low 11 d (omega arith) m, tt) m ra
unary_rows lone code.IntForceGeZero d a m ra = one_rows d a (clamp_code (reg_or 11 d)) (clamp_rows (reg_or 11 d) (reg_low 11 d (omega arith) m)) m ra
unary_rows lone code.SameAsI d a m ra = one_rows d a [] tt m ra
unary_rows lone code.SameAsR d a m ra = one_rows d a [] tt m ra
unary_rows lone _ d a m ra = tt

pub slot_rows : (by : Jumps) (xs ys : List Slot) → HaveRows by xs → HaveRows by ys → HaveRows by (xs ++ ys)
slot_rows by [] ys a b = b
slot_rows by (x ∷ xs) ys a b = (a.0, slot_rows by xs ys a.1 b)

pub puts_rows : (by : Jumps) (xs : List Instr) → AllRows xs → HaveRows by (puts xs)
puts_rows by [] h = tt
puts_rows by (x ∷ xs) h = (h.0, puts_rows by xs h.1)
