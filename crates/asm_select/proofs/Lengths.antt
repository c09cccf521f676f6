-- The chosen code is short.
use Rattle.std.proofs.Common.{◌≡◌, ℕ, zero, suc, ◌+◌, ◌*◌, ◌≤◌, Bool, true, false, cond, nat_eq, List, [], ◌∷◌, ◌++◌, length, Option, Some, None, refl, inl, inr, ◌⊎◌, ◌^◌, ◌<◌, ap, arith, ℤ, pos}
use Rattle.std.specs.Prelude.{◌-ℤ◌, nat_lt, ◌||◌}
use Rattle.std.proofs.lemmas.List.Sums.{sum_by-cons}
use Rattle.std.proofs.lemmas.List.{length-append}
use Rattle.trace_ops.specs.declared.code.OpCode.{OpCode}
use Rattle.trace_ops.specs.declared.code.OpCode.TheVariants as code
use Rattle.trace_ops.specs.declared.trace.BoxId.{BoxId}
use Rattle.trace_ops.specs.declared.trace.Arg.{Arg}
use Rattle.trace_ops.specs.declared.trace.Arg.TheVariants.{Of, Const, Null, Class, Func, Ptr}
use Rattle.trace_ops.specs.declared.trace.Descr.{Descr}
use Rattle.trace_ops.specs.declared.trace.Descr.TheVariants as descr
use Rattle.trace_ops.specs.declared.piece.Spot.TheVariants as spot
use Rattle.trace_ops.specs.declared.table.Table.{Table}
use Rattle.trace_ops.specs.declared.table.ShapeOf.TheVariants.{Size, Array}
use Rattle.trace_ops.specs.declared.table.ShapeOf.{ShapeOf}
use Rattle.arena_objects.specs.Layout.{header_of}
use Rattle.arena_objects.specs.Spots.{spot_offset}
use Rattle.asm_select.specs.declared.form.Access.{Access}
use Rattle.asm_select.specs.declared.form.Access.TheVariants as access
use Rattle.x64_encode.specs.declared.instr.Mem.TheVariants as mem
use Rattle.trace_ops.specs.declared.piece.OptOp.{OptOp}
use Rattle.trace_ops.specs.declared.piece.OptOp.TheVariants as opt
use Rattle.trace_ops.specs.Pieces.{args_of}
use Rattle.trace_ops.specs.Words.{shift_of}
use Rattle.guard_exit.specs.Codes.{register, frame_mem, stub_code}
use Rattle.target_base.specs.declared.reg.Reg.{Reg}
use Rattle.x64_encode.specs.declared.instr.AluOp.{AluOp}
use Rattle.x64_encode.specs.declared.instr.AluOp.TheVariants as alu
use Rattle.x64_encode.specs.declared.instr.ShiftOp.{ShiftOp}
use Rattle.x64_encode.specs.declared.instr.Cc.{Cc}
use Rattle.x64_encode.specs.declared.instr.Cc.TheVariants as cc_is
use Rattle.x64_encode.specs.declared.instr.Instr.{Instr}
use Rattle.x64_encode.specs.declared.instr.Instr.TheVariants.{MovReg, Load, Store, StoreImm, MovImm, Alu, AluImm, Imul, Not, Neg, ShiftCl, ShiftImm, Lea, Jcc, Xchg, Set, Movzx}
use Rattle.target_base.specs.declared.place.Place.{Place}
use Rattle.target_base.specs.declared.place.Place.TheVariants.{In, Word}
use Rattle.x64_encode.specs.Fields.{fits_bits, disp, mode_for}
use Rattle.x64_encode.specs.Form.{spelling}
use Rattle.asm_select.specs.declared.form.Unary.{Unary}
use Rattle.asm_select.specs.declared.form.Unary.TheVariants as unary
use Rattle.asm_select.specs.declared.form.Arith.{Arith}
use Rattle.asm_select.specs.declared.form.Arith.TheVariants.{By, Product}
use Rattle.asm_select.specs.declared.form.Binary.{Binary}
use Rattle.asm_select.specs.declared.form.Binary.TheVariants as binary
use Rattle.asm_select.specs.declared.operand.Operand.{Operand}
use Rattle.asm_select.specs.declared.operand.Operand.TheVariants.{At, Imm}
use Rattle.asm_select.specs.declared.told.Told.{Told}
use Rattle.parallel_move.specs.declared.moving.Move.{Move}
use Rattle.parallel_move.specs.declared.moving.Move.TheVariants.{Copy, Swap}
use Rattle.asm_select.specs.Slots.{Leave, Go, puts, sizes_of}
use Rattle.asm_select.specs.Chosen.{Setting, entry_of, entry_number, call_code, new_code, new_array_code, for_call, function_code, operand_of, stands_at, reg_or, home_of, load_code, take_code, put_code, alu_code, arith_code, work_of, two_code, shift_code, truth_code, truth_unless, compare_code, test_code, clamp_code, one_code, unary_form, binary_form, unary_code, binary_code, is_lone, tells, plain_code, word_code, access_form, access_code, call_if, is_host_call, result_place, read_code, write_code, read_item_code, write_item_code, is_near, item_code, set_item_code, class_code, header_code, nonnull_class_code, leave_false, leave_true, guard_code, copy_code, swap_by, swap_code, move_code, moves_code, set_code, set_operand, pair_of, pairs_of, constants_code, jump_code, told_by, code_of, all_code}
use Rattle.asm_select.specs.Ended.{TableServes, IsGuardHere, IsAccess, IsPlain, IsHere}
use Rattle.asm_select.specs.Laid.{has_stub, stub_sizes, ChosenAreShort}
use Rattle.asm_select.specs.Asked.{IsAskedAs, IsAskedIf, IsAsked, AreChosen}
use Rattle.asm_select.specs.Reached.{IsWordArg}
use Rattle.asm_select.proofs.Suiting.{AreSuited}
use Rattle.asm_select.proofs.Classing.{place_few}
use Rattle.std.specs.List.{All, sum_by}
use Rattle.lists.proofs.Alls.{all_weaker}
use Rattle.std.proofs.lemmas.Bool.{lt-ltb}
use Rattle.asm_select.proofs.Steps.{sizes-append}

-- a spelling has at most sixteen bytes
abbrev pub Most : Type 0
Most = (i : Instr) → length (spelling i) ≤ 16

-- the bytes of some instructions
abbrev pub total : List Instr → ℕ
total [] = 0
total (i ∷ more) = length (spelling i) + total more

pub total-puts : (xs : List Instr) → sizes_of (puts xs) ≡ total xs
total-puts [] = refl
total-puts (x ∷ xs) = ap (λ (n : ℕ). length (spelling x) + n) (total-puts xs)

pub total-append : (xs ys : List Instr) → total (xs ++ ys) ≡ total xs + total ys
total-append [] ys = omega arith
total-append (x ∷ xs) ys = omega (arith, total-append xs ys)

pub either : (n : ℕ) (b : Bool) (xs ys : List Instr) → total xs ≤ n → total ys ≤ n → total (cond b xs ys) ≤ n
either n true xs ys h k = h
either n false xs ys h k = k

pub load_short : Most → (w : Reg) (d : Place) → total (load_code w d) ≤ 16
load_short most w (In r) = either 16 (nat_eq r.0 w.0) [] (MovReg w r ∷ []) (omega arith) (omega (arith, most (MovReg w r)))
load_short most w (Word k) = omega (arith, most (Load w (frame_mem k)))

pub take_short : Most → (w : Reg) (a : Operand) → total (take_code w a) ≤ 16
take_short most w (At d) = load_short most w d
take_short most w (Imm v) = omega (arith, most (MovImm w v))

pub put_short : Most → (d : Place) (w : Reg) → total (put_code d w) ≤ 16
put_short most (In r) w = either 16 (nat_eq r.0 w.0) [] (MovReg r w ∷ []) (omega arith) (omega (arith, most (MovReg r w)))
put_short most (Word k) w = omega (arith, most (Store (frame_mem k) w))

pub alu_short : Most → (op : AluOp) (w : Reg) (b : Operand) → total (alu_code op w b) ≤ 32
alu_short most op w (At d) =
    let h = reg_or 15 d in
    omega (arith, total-append (load_code h d) (Alu op w h ∷ []), load_short most h d, most (Alu op w h))
alu_short most op w (Imm v) =
    either 32 (fits_bits 31 v) (AluImm op w v ∷ []) (MovImm (register 15) v ∷ Alu op w (register 15) ∷ [])
    (omega (arith, most (AluImm op w v))) (omega (arith, most (MovImm (register 15) v), most (Alu op w (register 15))))

arith_short : Most → (m : Arith) (w : Reg) (b : Operand) → total (arith_code m w b) ≤ 32
arith_short most (By op) w b = alu_short most op w b
arith_short most Product w b =
    let h = home_of 15 b in
    omega (arith, total-append (take_code h b) (Imul w h ∷ []), take_short most h b, most (Imul w h))

two_short : Most → (m : Arith) (d : Place) (a b : Operand) → total (two_code m d a b) ≤ 96
two_short most m d a b =
    let w = work_of d b in
    omega (arith, total-append (take_code w a) (arith_code m w b ++ put_code d w), total-append (arith_code m w b) (put_code d w), take_short most w a, arith_short most m w b, put_short most d w)

shift_short : Most → (op : ShiftOp) (d : Place) (a b : Operand) → total (shift_code op d a b) ≤ 96
shift_short most op d a (Imm v) =
    let w = reg_or 11 d in
    omega (arith, total-append (take_code w a) (ShiftImm op w (shift_of v) ∷ put_code d w), take_short most w a, most (ShiftImm op w (shift_of v)), put_short most d w)
shift_short most op d a (At x) =
    let w = register 11 in
    let x1 = Xchg (register 1) (register 15) in
    let rest = x1 ∷ ShiftCl op w ∷ x1 ∷ put_code d w in
    omega (arith, total-append (take_code w a) (load_code (register 15) x ++ rest), total-append (load_code (register 15) x) rest, take_short most w a, load_short most (register 15) x, most x1, most (ShiftCl op w), put_short most d w)

-- a byte that isn't always there, and three more
rex_short : (b : Bool) (x : ℕ) (xs : List ℕ) → length xs ≤ 3 → length (cond b (x ∷ []) [] ++ xs) ≤ 4
rex_short true x xs h = omega arith
rex_short false x xs h = omega arith

set_short : (c : Cc) (r : Reg) → length (spelling (Set c r)) ≤ 4
set_short c r = rex_short (nat_lt 3 r.0) _ _ (omega arith)

movzx_short : (w r : Reg) → length (spelling (Movzx w r)) ≤ 4
movzx_short w r = rex_short (nat_lt 7 w.0 || nat_lt 3 r.0) _ _ (omega arith)

truth_short : Most → (c : Cc) (d : Place) → total (truth_code c d) ≤ 24
truth_short most c d =
    let w = reg_or 11 d in
    omega (arith, set_short c w, movzx_short w w, put_short most d w)

compare_short : Most → (a b : Operand) → total (compare_code a b) ≤ 48
compare_short most a b =
    let w = home_of 11 a in
    omega (arith, total-append (take_code w a) (alu_code alu.Cmp w b), take_short most w a, alu_short most alu.Cmp w b)

test_short : Most → (a : Operand) → total (test_code a) ≤ 32
test_short most a =
    let w = home_of 11 a in
    omega (arith, total-append (take_code w a) (Alu alu.Test w w ∷ []), take_short most w a, most (Alu alu.Test w w))

unless_short : Most → (lone : Bool) (c : Cc) (d : Place) → total (truth_unless lone c d) ≤ 24
unless_short most true c d = omega arith
unless_short most false c d = truth_short most c d

one_short : Most → (d : Place) (a : Operand) (middle : List Instr) → total middle ≤ 32 → total (one_code d a middle) ≤ 64
one_short most d a middle h =
    let w = reg_or 11 d in
    omega (arith, total-append (take_code w a) (middle ++ put_code d w), total-append middle (put_code d w), take_short most w a, put_short most d w)

clamp_short : (w : Reg) → total (clamp_code w) ≤ 32
clamp_short w = omega arith

binary_short : Most → (lone : Bool) (form : Option Binary) (d : Place) (a b : Operand) → total (binary_code lone form d a b) ≤ 96
binary_short most lone (Some (binary.Commuting m)) d a b = either 96 (stands_at d b) (two_code m d b a) (two_code m d a b) (two_short most m d b a) (two_short most m d a b)
binary_short most lone (Some (binary.Ordered m)) d a b = two_short most m d a b
binary_short most lone (Some (binary.Shift op)) d a b = shift_short most op d a b
binary_short most lone (Some (binary.Compare c)) d a b = omega (arith, total-append (compare_code a b) (truth_unless lone c d), compare_short most a b, unless_short most lone c d)
binary_short most lone None d a b = omega arith

unary_short : Most → (lone : Bool) (form : Option Unary) (d : Place) (a : Operand) → total (unary_code lone form d a) ≤ 64
unary_short most lone (Some (unary.Test c)) d a = omega (arith, total-append (test_code a) (truth_unless lone c d), test_short most a, unless_short most lone c d)
unary_short most lone (Some unary.Negate) d a = one_short most d a (Neg (reg_or 11 d) ∷ []) (omega arith)
unary_short most lone (Some unary.Invert) d a = one_short most d a (Not (reg_or 11 d) ∷ []) (omega arith)
unary_short most lone (Some unary.Clamp) d a = one_short most d a (clamp_code (reg_or 11 d)) (clamp_short (reg_or 11 d))
unary_short most lone (Some unary.Copy) d a = one_short most d a [] (omega arith)
unary_short most lone None d a = omega arith

word_short : Most → (c : Setting) (operation : OpCode) (r : Option BoxId) (args : List Arg) (ops : List OptOp) → total (word_code c operation r args ops) ≤ 32 * (1 + length args)
word_short most c operation None args ops = omega arith
word_short most c operation (Some r) [] ops = omega arith
word_short most c operation (Some r) (a ∷ []) ops = omega (arith, unary_short most (is_lone r ops) (unary_form operation) (c.at r.number) (operand_of c a))
word_short most c operation (Some r) (a ∷ b ∷ []) ops = omega (arith, binary_short most (is_lone r ops) (binary_form operation) (c.at r.number) (operand_of c a) (operand_of c b))
word_short most c operation (Some r) (a ∷ b ∷ d ∷ more) ops = omega arith

-- ---- objects

read_short : Most → (d : Place) (a : Operand) (k : ℕ) → total (read_code d a k) ≤ 48
read_short most d a k =
    let h = home_of 11 a in
    let w = reg_or 11 d in
    let l = Load w (mem.At h (pos k)) in
    omega (arith, total-append (take_code h a) (l ∷ put_code d w), take_short most h a, put_short most d w, most l)

write_short : Most → (a : Operand) (k : ℕ) (c : Operand) → total (write_code a k c) ≤ 48
write_short most a k (At y) =
    let h = home_of 11 a in
    let x = reg_or 15 y in
    let last = Store (mem.At h (pos k)) x in
    omega (arith, total-append (take_code h a) (take_code x (At y) ++ last ∷ []), total-append (take_code x (At y)) (last ∷ []), take_short most h a, take_short most x (At y), most last)
write_short most a k (Imm v) =
    let h = home_of 11 a in
    let there = mem.At h (pos k) in
    let one = StoreImm there v ∷ [] in
    let two = MovImm (register 15) v ∷ Store there (register 15) ∷ [] in
    let rest : total (cond (fits_bits 31 v) one two) ≤ 32 = either 32 (fits_bits 31 v) one two (omega (arith, most (StoreImm there v))) (omega (arith, most (MovImm (register 15) v), most (Store there (register 15)))) in
    omega (arith, total-append (take_code h a) (cond (fits_bits 31 v) one two), take_short most h a)

read_item_short : Most → (d : Place) (a i : Operand) → total (read_item_code d a i) ≤ 64
read_item_short most d a i =
    let h = home_of 11 a in
    let x = home_of 15 i in
    let w = reg_or 11 d in
    let l = Load w (mem.Item h x (pos 16)) in
    omega (arith, total-append (take_code h a) (take_code x i ++ (l ∷ put_code d w)), total-append (take_code x i) (l ∷ put_code d w), take_short most h a, take_short most x i, put_short most d w, most l)

write_item_short : Most → (a i c : Operand) → total (write_item_code a i c) ≤ 80
write_item_short most a i c =
    let h = home_of 11 a in
    let x = home_of 15 i in
    let y = home_of 15 c in
    let last = Store (mem.At (register 11) (pos 0)) y in
    let lea = Lea (register 11) (mem.Item h x (pos 16)) in
    omega (arith, total-append (take_code h a) (take_code x i ++ (lea ∷ (take_code y c ++ last ∷ []))), total-append (take_code x i) (lea ∷ (take_code y c ++ last ∷ [])), total-append (take_code y c) (last ∷ []), take_short most h a, take_short most x i, take_short most y c, most lea, most last)

item_short : Most → (t : Table) (x : ℕ) (d : Place) (a i : Operand) → total (item_code t x d a i) ≤ 64
item_short most t x d a (At q) = read_item_short most d a (At q)
item_short most t x d a (Imm i) = either 64 (is_near i) (read_code d a (spot_offset t (spot.Item x i))) (read_item_code d a (Imm i)) (omega (arith, read_short most d a (spot_offset t (spot.Item x i)))) (read_item_short most d a (Imm i))

set_item_short : Most → (t : Table) (x : ℕ) (a i b : Operand) → total (set_item_code t x a i b) ≤ 80
set_item_short most t x a (At q) b = write_item_short most a (At q) b
set_item_short most t x a (Imm i) b = either 80 (is_near i) (write_code a (spot_offset t (spot.Item x i)) b) (write_item_code a (Imm i) b) (omega (arith, write_short most a (spot_offset t (spot.Item x i)) b)) (write_item_short most a (Imm i) b)

class_short : Most → (a : Operand) (k : ℕ) → total (class_code a k) ≤ 48
class_short most a k =
    let h = home_of 11 a in
    omega (arith, total-append (take_code h a) (Load (register 11) (mem.At h (pos 0)) ∷ AluImm alu.Cmp (register 11) (pos k) ∷ []), take_short most h a, most (Load (register 11) (mem.At h (pos 0))), most (AluImm alu.Cmp (register 11) (pos k)))

nonnull_class_short : Most → (a : Operand) (k : ℕ) → total (nonnull_class_code a k) ≤ 58
nonnull_class_short most a k =
    let h = home_of 11 a in
    let rest = AluImm alu.Cmp h (pos 1) ∷ Jcc cc_is.B (pos (sizes_of (puts (header_code h k)))) ∷ header_code h k in
    omega (arith, total-append (take_code h a) rest, take_short most h a, most (Load (register 11) (mem.At h (pos 0))), most (AluImm alu.Cmp (register 11) (pos k)))

no_call_short : (xs : List Instr) (n : ℕ) → total xs ≤ n → total (xs ++ []) ≤ n
no_call_short xs n h = omega (arith, total-append xs [], h)

access_short : Most → (c : Setting) (k : ℕ) (form : Access) (r : Option BoxId) (args : List Arg) (d : Descr) → IsAccess c.table form r args d → total (access_code c k form r args d ++ call_if (is_host_call form) (result_place c r)) ≤ 32 * (1 + length args)
access_short most c k access.GetField (Some r) (a ∷ []) (descr.Field f) h = no_call_short (read_code (c.at r.number) (operand_of c a) (spot_offset c.table (spot.Field f))) 64 (omega (arith, read_short most (c.at r.number) (operand_of c a) (spot_offset c.table (spot.Field f))))
access_short most c k access.SetField None (a ∷ b ∷ []) (descr.Field f) h = no_call_short (write_code (operand_of c a) (spot_offset c.table (spot.Field f)) (operand_of c b)) 96 (omega (arith, write_short most (operand_of c a) (spot_offset c.table (spot.Field f)) (operand_of c b)))
access_short most c k access.GetItem (Some r) (a ∷ i ∷ []) (descr.Array x) h = no_call_short (item_code c.table x (c.at r.number) (operand_of c a) (operand_of c i)) 96 (omega (arith, item_short most c.table x (c.at r.number) (operand_of c a) (operand_of c i)))
access_short most c k access.SetItem None (a ∷ i ∷ b ∷ []) (descr.Array x) h = no_call_short (set_item_code c.table x (operand_of c a) (operand_of c i) (operand_of c b)) 128 (omega (arith, set_item_short most c.table x (operand_of c a) (operand_of c i) (operand_of c b)))
access_short most c k access.Length (Some r) (a ∷ []) (descr.Array x) h = no_call_short (read_code (c.at r.number) (operand_of c a) 8) 64 (omega (arith, read_short most (c.at r.number) (operand_of c a) 8))
access_short most c k _ r args d h = absurd h

plain_short : Most → (c : Setting) (k : ℕ) (operation : OpCode) (o : Option Access) (r : Option BoxId) (args : List Arg) (d : Descr) (ops : List OptOp) → IsPlain c.table operation o r args d → total (plain_code c k operation o r args d ops) ≤ 32 * (1 + length args)
plain_short most c k operation None r args d ops h = word_short most c operation r args ops
plain_short most c k operation (Some form) r args d ops h = access_short most c k form r args d h

-- ---- guards

left_false : Most → (c : Setting) (k : ℕ) (o : Option Cc) (a : Arg) → sizes_of (leave_false c k o a) ≤ 38
left_false most c k (Some x) a = omega arith
left_false most c k None a =
    let xs = test_code (operand_of c a) in
    omega (arith, sizes-append (puts xs) (Leave cc_is.E k ∷ []), total-puts xs, test_short most (operand_of c a))

left_true : Most → (c : Setting) (k : ℕ) (o : Option Cc) (a : Arg) → sizes_of (leave_true c k o a) ≤ 38
left_true most c k (Some x) a = omega arith
left_true most c k None a =
    let xs = test_code (operand_of c a) in
    omega (arith, sizes-append (puts xs) (Leave cc_is.Ne k ∷ []), total-puts xs, test_short most (operand_of c a))

guard_short : Most → (c : Setting) (k : ℕ) (told : Told) (operation : OpCode) (args : List Arg) → IsGuardHere operation args → sizes_of (guard_code c k told operation args) + 25 ≤ 32 * (1 + length args)
guard_short most c k told code.GuardTrue (a ∷ []) h = omega (arith, left_false most c k (tells told a) a)
guard_short most c k told code.GuardFalse (a ∷ []) h = omega (arith, left_true most c k (tells told a) a)
guard_short most c k told code.GuardNonnull (a ∷ []) h = omega (arith, left_false most c k None a)
guard_short most c k told code.GuardIsnull (a ∷ []) h = omega (arith, left_true most c k None a)
guard_short most c k told code.GuardValue (a ∷ b ∷ []) h =
    let xs = compare_code (operand_of c a) (operand_of c b) in
    omega (arith, sizes-append (puts xs) (Leave cc_is.Ne k ∷ []), total-puts xs, compare_short most (operand_of c a) (operand_of c b))
guard_short most c k told code.GuardClass (a ∷ Class n ∷ []) h =
    let xs = class_code (operand_of c a) (header_of c.table (Size n)) in
    omega (arith, sizes-append (puts xs) (Leave cc_is.Ne k ∷ []), total-puts xs, class_short most (operand_of c a) (header_of c.table (Size n)))
guard_short most c k told code.GuardNonnullClass (a ∷ Class n ∷ []) h =
    let xs = nonnull_class_code (operand_of c a) (header_of c.table (Size n)) in
    omega (arith, sizes-append (puts xs) (Leave cc_is.Ne k ∷ []), total-puts xs, nonnull_class_short most (operand_of c a) (header_of c.table (Size n)))
guard_short most c k told code.GuardNoOverflow args h = omega arith
guard_short most c k told code.GuardOverflow args h = omega arith
guard_short most c k told code.GuardNoException args h = omega arith
guard_short most c k told _ args h = absurd h

-- ---- jumps

disp_short : (n : ℕ) (d : ℤ) → length (disp n d) ≤ 4
disp_short zero d = omega arith
disp_short (suc zero) d = omega arith
disp_short (suc (suc n)) d = omega arith

frame_load : (w : Reg) (k : ℕ) → length (spelling (Load w (frame_mem k))) ≤ 8
frame_load w k = omega (arith, disp_short (mode_for 5 (pos (8 * k) -ℤ pos 128)) (pos (8 * k) -ℤ pos 128))

frame_store : (w : Reg) (k : ℕ) → length (spelling (Store (frame_mem k) w)) ≤ 8
frame_store w k = omega (arith, disp_short (mode_for 5 (pos (8 * k) -ℤ pos 128)) (pos (8 * k) -ℤ pos 128))

load_tight : (w : Reg) (d : Place) → total (load_code w d) ≤ 8
load_tight w (In r) = either 8 (nat_eq r.0 w.0) [] (MovReg w r ∷ []) (omega arith) (omega arith)
load_tight w (Word k) = omega (arith, frame_load w k)

put_tight : (d : Place) (w : Reg) → total (put_code d w) ≤ 8
put_tight (In r) w = either 8 (nat_eq r.0 w.0) [] (MovReg r w ∷ []) (omega arith) (omega arith)
put_tight (Word k) w = omega (arith, frame_store w k)

copy_short : (target source : Place) → total (copy_code target source) ≤ 32
copy_short (In r) source = omega (arith, load_tight r source)
copy_short (Word k) source =
    let w = reg_or 11 source in
    omega (arith, total-append (load_code w source) (put_code (Word k) w), load_tight w source, put_tight (Word k) w)

swap_by_short : (one other : Place) → total (swap_by one other) ≤ 32
swap_by_short one other =
    let w = register 11 in
    let h = reg_or 15 one in
    omega (arith, total-append (load_code w other) (load_code h one ++ (put_code other h ++ put_code one w)), total-append (load_code h one) (put_code other h ++ put_code one w), total-append (put_code other h) (put_code one w), load_tight w other, load_tight h one, put_tight other h, put_tight one w)

swap_short : (one other : Place) → total (swap_code one other) ≤ 32
swap_short (In a) (In b) = either 32 (nat_eq a.0 b.0) [] (Xchg a b ∷ []) (omega arith) (omega arith)
swap_short (In a) (Word k) = swap_by_short (In a) (Word k)
swap_short (Word j) (In b) = swap_by_short (In b) (Word j)
swap_short (Word j) (Word k) = swap_by_short (Word j) (Word k)

move_short : (m : Move) → total (move_code m) ≤ 32
move_short (Copy target source) = copy_short target source
move_short (Swap one other) = swap_short one other

moves_short : (ms : List Move) → total (moves_code ms) ≤ 32 * length ms
moves_short [] = omega arith
moves_short (m ∷ ms) = omega (arith, total-append (move_code m) (moves_code ms), move_short m, moves_short ms)

set_code_short : Most → (d : Place) (v : ℤ) → total (set_code d v) ≤ 32
set_code_short most (In r) v = omega (arith, most (MovImm r v))
set_code_short most (Word k) v = either 32 (fits_bits 31 v) (StoreImm (frame_mem k) v ∷ []) (MovImm (register 11) v ∷ Store (frame_mem k) (register 11) ∷ []) (omega (arith, most (StoreImm (frame_mem k) v))) (omega (arith, most (MovImm (register 11) v), most (Store (frame_mem k) (register 11))))

-- an argument is moved or set
one_short_arg : Most → (target : Place) (o : Operand) → total (set_operand target o) + 32 * length (pair_of target o) ≤ 32
one_short_arg most target (At p) = omega arith
one_short_arg most target (Imm v) = omega (arith, set_code_short most target v)

args_short : Most → (c : Setting) (args : List Arg) (targets : List Place) → total (constants_code c args targets) + 32 * length (pairs_of c args targets) ≤ 32 * length args
args_short most c [] targets = omega arith
args_short most c (a ∷ args) [] = omega arith
args_short most c (a ∷ args) (target ∷ targets) =
    let o = operand_of c a in
    omega (arith, total-append (set_operand target o) (constants_code c args targets), length-append (pair_of target o) (pairs_of c args targets), one_short_arg most target o, args_short most c args targets)

jump_short : Most → (c : Setting) (args : List Arg) → length c.moves ≤ length (pairs_of c args c.to) → total (jump_code c args) ≤ 32 * length args
jump_short most c args few = omega (arith, total-append (moves_code c.moves) (constants_code c args c.to), moves_short c.moves, args_short most c args c.to, few)

-- ---- operations and pieces

pub stub_short : Most → (to : ℤ) (exit : ℕ) → sizes_of (puts (stub_code to exit)) ≤ 25
stub_short most to exit = omega (arith, most (MovImm (register 0) (pos exit)))

op_short : Most → (c : Setting) (k : ℕ) (told : Told) (op : OptOp) (ops : List OptOp) → IsHere c told op → sizes_of (code_of c k told op ops) + cond (has_stub op) 25 0 ≤ 32 * (1 + length (args_of op))
op_short most c k told (opt.Plain operation r args d) ops h = (let xs = plain_code c k operation (access_form operation) r args d ops in omega (arith, total-puts xs, plain_short most c k operation (access_form operation) r args d ops h.0))
op_short most c k told (opt.Guard operation args n snap) ops h = guard_short most c k told operation args h.0
op_short most c k told (opt.Exit n snap) ops h = omega arith
op_short most c k told (opt.Jump to args) ops h = omega (arith, sizes-append (puts (jump_code c args)) (Go k ∷ []), total-puts (jump_code c args), jump_short most c args h.0.few)
op_short most c k told (opt.Finish value) ops h = omega arith

stub_least : (b : Bool) (n : ℕ) → n ≤ 25 → cond b n 0 ≤ cond b 25 0
stub_least true n h = h
stub_least false n h = omega arith

-- ---- calls of the host

either_bytes : (n : ℕ) (b : Bool) (xs ys : List ℕ) → b ≡ true → length xs ≤ n → length (cond b xs ys) ≤ n
either_bytes n true xs ys e h = h
either_bytes n false xs ys e h = absurd (cc)

-- a small constant takes the short row
small_short : (r : Reg) (k : ℕ) → k < 2 ^ 31 → length (spelling (MovImm r (pos k))) ≤ 7
small_short r k lt = either_bytes 7 (fits_bits 31 (pos k)) _ _ (lt-ltb k (2 ^ 31) lt) (omega arith)

call_short : (d : Place) → total (call_code d) ≤ 11
call_short d = omega (arith, put_tight d (register 0))

header_small : (t : Table) (s : ShapeOf) → TableServes t → header_of t s < 2 ^ 31
header_small t s table = omega (arith, table.few, place_few s t.shapes)

-- the entry of a function is near
abbrev pub IsNear : Arg → Type 0
IsNear (Func f) = f < 2 ^ 19
IsNear a = Unit {0}

abbrev pub CallsNear : OptOp → Type 0
CallsNear op = All IsNear (args_of op)

asked_short : Most → (c : Setting) (k : ℕ) (form : Access) (r : Option BoxId) (args : List Arg) (d : Descr) → TableServes c.table → All IsNear args → IsAskedAs c k form r args d → total (access_code c k form r args d ++ call_if (is_host_call form) (result_place c r)) ≤ 32 * (1 + length args)
asked_short most c k access.Structure (Some r) [] (descr.Size n) table w h =
    let k1 = header_of c.table (Size n) in
    omega (arith, total-append (new_code k1) (call_code (c.at r.number)), small_short (register 7) k1 (header_small c.table (Size n) table), call_short (c.at r.number))
asked_short most c k access.Array (Some r) (a ∷ []) (descr.Array x) table w h =
    let k1 = header_of c.table (Array x) in
    let o = operand_of c a in
    let asks = MovImm (register 7) (pos k1) ∷ MovImm (register 11) (pos (entry_of 2)) ∷ [] in
    omega (arith, total-append (new_array_code k1 o) (call_code (c.at r.number)), total-append (take_code (register 6) o) asks, take_short most (register 6) o, small_short (register 7) k1 (header_small c.table (Array x) table), call_short (c.at r.number))
asked_short most c k access.Call r (Func f ∷ args) (descr.Call row) table w h =
    let c2 = for_call c k args in
    let low : f < 2 ^ 19 = w 0 (Func f) (omega arith) in
    let asks = MovImm (register 10) (pos row) ∷ MovImm (register 11) (pos (entry_of (entry_number f))) ∷ [] in
    omega (arith, total-append (function_code c k f args row) (call_code (result_place c r)), total-append (jump_code c2 args) asks, jump_short most c2 args h.0.few, small_short (register 10) row h.2, small_short (register 11) (entry_of (entry_number f)) (omega (arith, low)), call_short (result_place c r))
asked_short most c k _ r args d table w h = absurd h

plain_asked_short : Most → (c : Setting) (k : ℕ) (operation : OpCode) (o : Option Access) (r : Option BoxId) (args : List Arg) (d : Descr) (ops : List OptOp) → TableServes c.table → All IsNear args → IsAskedIf c k o r args d → total (plain_code c k operation o r args d ops) ≤ 32 * (1 + length args)
plain_asked_short most c k operation None r args d ops table w h = absurd h
plain_asked_short most c k operation (Some form) r args d ops table w h = asked_short most c k form r args d table w h

host_short : Most → (c : Setting) (k : ℕ) (told : Told) (op : OptOp) (ops : List OptOp) → TableServes c.table → CallsNear op → IsAsked c k op → sizes_of (code_of c k told op ops) + cond (has_stub op) 25 0 ≤ 32 * (1 + length (args_of op))
host_short most c k told (opt.Plain operation r args d) ops table w h = (let xs = plain_code c k operation (access_form operation) r args d ops in omega (arith, total-puts xs, plain_asked_short most c k operation (access_form operation) r args d ops table w h))
host_short most c k told (opt.Guard operation args n snap) ops table w h = absurd h
host_short most c k told (opt.Exit n snap) ops table w h = absurd h
host_short most c k told (opt.Jump to args) ops table w h = absurd h
host_short most c k told (opt.Finish value) ops table w h = absurd h

one_short_op : Most → (c : Setting) (k : ℕ) (told : Told) (op : OptOp) (ops : List OptOp) → TableServes c.table → CallsNear op → IsHere c told op ⊎ IsAsked c k op → sizes_of (code_of c k told op ops) + cond (has_stub op) 25 0 ≤ 32 * (1 + length (args_of op))
one_short_op most c k told op ops table w (inl h) = op_short most c k told op ops h
one_short_op most c k told op ops table w (inr h) = host_short most c k told op ops table w h

pub suited_are_short : Most → (c : Setting) (to : ℕ → ℤ) (exit_of : ℕ → ℕ) (k : ℕ) (told : Told) (ops : List OptOp) → TableServes c.table → AreSuited CallsNear c k told ops → sizes_of (all_code c k told ops) + stub_sizes to exit_of k ops ≤ 32 * sum_by (λ (x : OptOp). 1 + length (args_of x)) ops
suited_are_short most c to exit_of k told [] table h = omega arith
suited_are_short most c to exit_of k told (op ∷ ops) table h =
    let rest = all_code c (k + 1) (told_by op ops) ops in
    omega (arith, sizes-append (code_of c k told op ops) rest, one_short_op most c k told op ops table h.1 h.0, stub_least (has_stub op) (sizes_of (puts (stub_code (to k) (exit_of k)))) (stub_short most (to k) (exit_of k)), suited_are_short most c to exit_of (k + 1) (told_by op ops) ops table h.2, sum_by-cons (λ (x : OptOp). 1 + length (args_of x)) op ops)

near_arg : (t : Table) (a : Arg) → IsWordArg t a → IsNear a
near_arg t (Of b) h = tt
near_arg t (Const w) h = tt
near_arg t Null h = tt
near_arg t (Class n) h = tt
near_arg t (Func f) h = h
near_arg t (Ptr n) h = tt

chosen_suited : (c : Setting) (k : ℕ) (told : Told) (ops : List OptOp) → AreChosen c k told ops → AreSuited CallsNear c k told ops
chosen_suited c k told [] h = tt
chosen_suited c k told (op ∷ ops) h =
    (h.0, all_weaker (IsWordArg c.table) IsNear (args_of op) (near_arg c.table) h.1, chosen_suited c (k + 1) (told_by op ops) ops h.2)

pub chosen_are_short : Most → ChosenAreShort
chosen_are_short most c to exit_of k told ops table h =
    suited_are_short most c to exit_of k told ops table (chosen_suited c k told ops h)
