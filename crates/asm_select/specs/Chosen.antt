-- The instructions that are chosen for each operation.
use Rattle.std.specs.Prelude.{ℕ, ◌+◌, ◌*◌, ◌==◌, nat_lt, Bool, true, false, not, ◌&&◌, ◌||◌, if◌then◌else◌, ℤ, pos, negsuc, Option, Some, None, List, [], ◌∷◌, ◌++◌, length, map}
use Rattle.std.specs.List.{flat_map, list_any}
use Rattle.trace_ops.specs.declared.code.OpCode.{OpCode}
use Rattle.trace_ops.specs.declared.code.OpCode.TheVariants as code
use Rattle.trace_ops.specs.declared.table.Table.{Table}
use Rattle.trace_ops.specs.declared.table.ShapeOf.TheVariants.{Size, Array}
use Rattle.trace_ops.specs.declared.trace.Descr.{Descr}
use Rattle.trace_ops.specs.declared.trace.Descr.TheVariants as descr
use Rattle.trace_ops.specs.declared.piece.Spot.TheVariants as spot
use Rattle.trace_ops.specs.declared.trace.BoxId.{BoxId}
use Rattle.trace_ops.specs.declared.trace.Arg.{Arg}
use Rattle.trace_ops.specs.declared.trace.Arg.TheVariants.{Of, Const, Null, Class, Func, Ptr}
use Rattle.trace_ops.specs.declared.piece.OptOp.{OptOp}
use Rattle.trace_ops.specs.declared.piece.OptOp.TheVariants as opt
use Rattle.trace_ops.specs.declared.piece.Piece.{Piece}
use Rattle.trace_ops.specs.Words.{shift_of}
use Rattle.trace_ops.specs.Classes.{is_overflowing}
use Rattle.trace_ops.specs.Parts.{boxes_of}
use Rattle.trace_ops.specs.Pieces.{snapshots_of, used_by}
use Rattle.trace_meaning.specs.Boxes.{same_box}
use Rattle.trace_meaning.specs.Recorded.{prebuilt_object}
use Rattle.arena_objects.specs.Layout.{header_of, address_of}
use Rattle.arena_objects.specs.Spots.{spot_offset}
use Rattle.parallel_move.specs.declared.moving.Move.{Move}
use Rattle.parallel_move.specs.declared.moving.Move.TheVariants.{Copy, Swap}
use Rattle.target_base.specs.declared.reg.Reg.{Reg}
use Rattle.x64_encode.specs.declared.instr.AluOp.{AluOp}
use Rattle.x64_encode.specs.declared.instr.AluOp.TheVariants as alu
use Rattle.x64_encode.specs.declared.instr.ShiftOp.{ShiftOp}
use Rattle.x64_encode.specs.declared.instr.ShiftOp.TheVariants as shift
use Rattle.x64_encode.specs.declared.instr.Cc.{Cc}
use Rattle.x64_encode.specs.declared.instr.Cc.TheVariants as cc_is
use Rattle.x64_encode.specs.declared.instr.Instr.{Instr}
use Rattle.x64_encode.specs.declared.instr.Instr.TheVariants.{MovReg, Load, Store, StoreImm, MovImm, Alu, AluImm, Imul, Not, Neg, ShiftCl, ShiftImm, Lea, Xchg, Set, Movzx, Jcc, CallReg}
use Rattle.x64_encode.specs.declared.instr.Mem.TheVariants as mem
use Rattle.target_base.specs.declared.place.Place.{Place}
use Rattle.target_base.specs.declared.place.Place.TheVariants.{In, Word}
use Rattle.x64_encode.specs.Fields.{fits_bits}
use Rattle.guard_exit.specs.Codes.{register, frame_mem}
use Rattle.asm_select.specs.declared.form.Unary.{Unary}
use Rattle.asm_select.specs.declared.form.Unary.TheVariants as unary
use Rattle.asm_select.specs.declared.form.Arith.{Arith}
use Rattle.asm_select.specs.declared.form.Arith.TheVariants.{By, Product}
use Rattle.asm_select.specs.declared.form.Binary.{Binary}
use Rattle.asm_select.specs.declared.form.Binary.TheVariants as binary
use Rattle.asm_select.specs.declared.operand.Operand.{Operand}
use Rattle.asm_select.specs.declared.operand.Operand.TheVariants.{At, Imm}
use Rattle.asm_select.specs.declared.told.Told.{Told}
use Rattle.asm_select.specs.declared.told.Told.TheVariants as tell
use Rattle.asm_select.specs.declared.form.Access.{Access}
use Rattle.asm_select.specs.declared.form.Access.TheVariants as access
use Rattle.asm_select.specs.Slots.{Slot, Leave, Go, puts, sizes_of}

-- the place of each box
abbrev pub Where : Type 0
Where = ℕ → Place

-- where a piece is put: the table, the place of each box, the places of the label of the piece to which its jump goes, the
-- moves that bring the jump's arguments there, and those that bring the arguments of operation k, a call, to their registers
pub record Setting : Type 0 where
  pub table : Table
  pub at : Where
  pub to : List Place
  pub moves : List Move
  pub call_moves : ℕ → List Move

-- the address of a prebuilt object
abbrev pub address_in : Table → ℕ → ℕ
address_in t k = address_of (map prebuilt_object t.prebuilts) k

-- the host's entries
abbrev pub entry_of : ℕ → ℕ
entry_of k = 0x30000000 + 16 * k

-- the number of a function's entry
abbrev pub entry_number : ℕ → ℕ
entry_number f = 16 + f

-- a class is its header's number, a function its entry, a prebuilt object its address
abbrev pub operand_of : Setting → Arg → Operand
operand_of c (Of b) = At (c.at b.number)
operand_of c (Const w) = Imm w
operand_of c Null = Imm (pos 0)
operand_of c (Class n) = Imm (pos (header_of c.table (Size n)))
operand_of c (Func k) = Imm (pos (entry_of (entry_number k)))
operand_of c (Ptr k) = Imm (pos (address_in c.table k))

abbrev pub same_place : Place → Place → Bool
same_place (In a) (In b) = a.0 == b.0
same_place (In a) (Word k) = false
same_place (Word j) (In b) = false
same_place (Word j) (Word k) = j == k

abbrev pub stands_at : Place → Operand → Bool
stands_at d (At p) = same_place d p
stands_at d (Imm v) = false

-- the place's own register, or this one for a frame word
abbrev pub reg_or : ℕ → Place → Reg
reg_or n (In r) = r
reg_or n (Word k) = register n

abbrev pub home_of : ℕ → Operand → Reg
home_of n (At p) = reg_or n p
home_of n (Imm v) = register n

-- brings a place into a register; brings an operand into a register; brings a register to a place
abbrev pub load_code : Reg → Place → List Instr
load_code w (In r) = if r.0 == w.0 then [] else MovReg w r ∷ []
load_code w (Word k) = Load w (frame_mem k) ∷ []

abbrev pub take_code : Reg → Operand → List Instr
take_code w (At p) = load_code w p
take_code w (Imm v) = MovImm w v ∷ []

abbrev pub put_code : Place → Reg → List Instr
put_code (In r) w = if r.0 == w.0 then [] else MovReg r w ∷ []
put_code (Word k) w = Store (frame_mem k) w ∷ []

-- an operation of a register with an operand: a constant that fits stands in the instruction, another one and a frame
-- word go by r15
abbrev pub alu_code : AluOp → Reg → Operand → List Instr
alu_code op w (At p) = load_code (reg_or 15 p) p ++ Alu op w (reg_or 15 p) ∷ []
alu_code op w (Imm v) =
    if fits_bits 31 v then AluImm op w v ∷ [] else MovImm (register 15) v ∷ Alu op w (register 15) ∷ []

abbrev pub product_code : Reg → Operand → List Instr
product_code w b = take_code (home_of 15 b) b ++ Imul w (home_of 15 b) ∷ []

abbrev pub arith_code : Arith → Reg → Operand → List Instr
arith_code (By op) w b = alu_code op w b
arith_code Product w b = product_code w b

-- the register in which a result is made: its own, where it has one and the second operand doesn't stand there
abbrev pub work_of : Place → Operand → Reg
work_of d b = if stands_at d b then register 11 else reg_or 11 d

abbrev pub two_code : Arith → Place → Operand → Operand → List Instr
two_code m d a b = take_code (work_of d b) a ++ (arith_code m (work_of d b) b ++ put_code d (work_of d b))

abbrev pub commuting_code : Arith → Place → Operand → Operand → List Instr
commuting_code m d a b = if stands_at d b then two_code m d b a else two_code m d a b

-- a constant count is taken modulo 64; another one goes by rcx, whose word r15 keeps meanwhile
abbrev pub shift_code : ShiftOp → Place → Operand → Operand → List Instr
shift_code op d a (Imm v) =
    take_code (reg_or 11 d) a ++ (ShiftImm op (reg_or 11 d) (shift_of v) ∷ put_code d (reg_or 11 d))
shift_code op d a (At p) =
    take_code (register 11) a ++ (load_code (register 15) p ++ (Xchg (register 1) (register 15) ∷ ShiftCl op (register 11) ∷ Xchg (register 1) (register 15) ∷ put_code d (register 11)))

-- whether the condition holds, as 1 or 0
abbrev pub truth_code : Cc → Place → List Instr
truth_code cond d = Set cond (reg_or 11 d) ∷ Movzx (reg_or 11 d) (reg_or 11 d) ∷ put_code d (reg_or 11 d)

-- the flags alone: two operands are compared, or one is tested
abbrev pub compare_code : Operand → Operand → List Instr
compare_code a b = take_code (home_of 11 a) a ++ alu_code alu.Cmp (home_of 11 a) b

abbrev pub test_code : Operand → List Instr
test_code a = take_code (home_of 11 a) a ++ Alu alu.Test (home_of 11 a) (home_of 11 a) ∷ []

-- whether the condition holds comes to the place, unless the flags are all that is asked for
abbrev pub truth_unless : Bool → Cc → Place → List Instr
truth_unless true cond d = []
truth_unless false cond d = truth_code cond d

-- the sign in every bit of r15, turned, keeps what isn't below 0
abbrev pub clamp_code : Reg → List Instr
clamp_code w =
    MovReg (register 15) w ∷ ShiftImm shift.Sar (register 15) 63 ∷ Not (register 15) ∷ Alu alu.And w (register 15) ∷ []

-- the result is made in its own register, or in r11
abbrev pub one_code : Place → Operand → List Instr → List Instr
one_code d a middle = take_code (reg_or 11 d) a ++ (middle ++ put_code d (reg_or 11 d))

-- ---- the arena

-- a spot that is known before the run is read, or written, where a constant that fits stands in the instruction
abbrev pub read_code : Place → Operand → ℕ → List Instr
read_code d a k = take_code (home_of 11 a) a ++ (Load (reg_or 11 d) (mem.At (home_of 11 a) (pos k)) ∷ put_code d (reg_or 11 d))

abbrev pub write_code : Operand → ℕ → Operand → List Instr
write_code a k (At p) =
    take_code (home_of 11 a) a ++ (take_code (reg_or 15 p) (At p) ++ Store (mem.At (home_of 11 a) (pos k)) (reg_or 15 p) ∷ [])
write_code a k (Imm v) =
    take_code (home_of 11 a) a ++ (if fits_bits 31 v then StoreImm (mem.At (home_of 11 a) (pos k)) v ∷ [] else MovImm (register 15) v ∷ Store (mem.At (home_of 11 a) (pos k)) (register 15) ∷ [])

-- an item at any index; where it is written, its address goes to r11, so that r15 is free for the value
abbrev pub read_item_code : Place → Operand → Operand → List Instr
read_item_code d a i =
    take_code (home_of 11 a) a ++ (take_code (home_of 15 i) i ++ (Load (reg_or 11 d) (mem.Item (home_of 11 a) (home_of 15 i) (pos 16)) ∷ put_code d (reg_or 11 d)))

abbrev pub write_item_code : Operand → Operand → Operand → List Instr
write_item_code a i b =
    take_code (home_of 11 a) a ++ (take_code (home_of 15 i) i ++ (Lea (register 11) (mem.Item (home_of 11 a) (home_of 15 i) (pos 16)) ∷ (take_code (home_of 15 b) b ++ Store (mem.At (register 11) (pos 0)) (home_of 15 b) ∷ [])))

-- an index that is known, and for which the instruction has room
abbrev pub is_near : ℤ → Bool
is_near (pos i) = nat_lt i 0x1000000
is_near (negsuc i) = false

abbrev pub item_code : Table → ℕ → Place → Operand → Operand → List Instr
item_code t x d a (At p) = read_item_code d a (At p)
item_code t x d a (Imm i) = if is_near i then read_code d a (spot_offset t (spot.Item x i)) else read_item_code d a (Imm i)

abbrev pub set_item_code : Table → ℕ → Operand → Operand → Operand → List Instr
set_item_code t x a (At p) b = write_item_code a (At p) b
set_item_code t x a (Imm i) b = if is_near i then write_code a (spot_offset t (spot.Item x i)) b else write_item_code a (Imm i) b

-- the header is compared with a class
abbrev pub class_code : Operand → ℕ → List Instr
class_code a header = take_code (home_of 11 a) a ++ (Load (register 11) (mem.At (home_of 11 a) (pos 0)) ∷ AluImm alu.Cmp (register 11) (pos header) ∷ [])

abbrev pub header_code : Reg → ℕ → List Instr
header_code w header = Load (register 11) (mem.At w (pos 0)) ∷ AluImm alu.Cmp (register 11) (pos header) ∷ []

-- null is below 1 and not equal to it; of null no header is loaded
abbrev pub nonnull_class_code : Operand → ℕ → List Instr
nonnull_class_code a header =
    take_code (home_of 11 a) a ++ (AluImm alu.Cmp (home_of 11 a) (pos 1) ∷ Jcc cc_is.B (pos (sizes_of (puts (header_code (home_of 11 a) header)))) ∷ header_code (home_of 11 a) header)

-- ---- calls of the host

abbrev pub new_code : ℕ → List Instr
new_code header = MovImm (register 7) (pos header) ∷ MovImm (register 11) (pos (entry_of 1)) ∷ []

abbrev pub new_array_code : ℕ → Operand → List Instr
new_array_code header n = take_code (register 6) n ++ (MovImm (register 7) (pos header) ∷ MovImm (register 11) (pos (entry_of 2)) ∷ [])

-- the registers of the arguments of a function
abbrev pub arg_places : List Place
arg_places = In (register 7) ∷ In (register 6) ∷ In (register 2) ∷ In (register 1) ∷ In (register 8) ∷ In (register 9) ∷ []

-- as many as there are arguments
abbrev pub places_for : List Arg → List Place → List Place
places_for [] ps = []
places_for (a ∷ args) [] = []
places_for (a ∷ args) (p ∷ ps) = p ∷ places_for args ps

-- the call through r11, and its result
abbrev pub call_code : Place → List Instr
call_code d = CallReg (register 11) ∷ put_code d (register 0)

-- ---- operations

abbrev pub unary_form : OpCode → Option Unary
unary_form code.IntIsZero = Some (unary.Test cc_is.E)
unary_form code.IntIsTrue = Some (unary.Test cc_is.Ne)
unary_form code.IntNeg = Some unary.Negate
unary_form code.IntInvert = Some unary.Invert
unary_form code.IntForceGeZero = Some unary.Clamp
unary_form code.SameAsI = Some unary.Copy
unary_form code.SameAsR = Some unary.Copy
unary_form _ = None

abbrev pub binary_form : OpCode → Option Binary
binary_form code.IntAdd = Some (binary.Commuting (By alu.Add))
binary_form code.IntSub = Some (binary.Ordered (By alu.Sub))
binary_form code.IntMul = Some (binary.Commuting Product)
binary_form code.IntAnd = Some (binary.Commuting (By alu.And))
binary_form code.IntOr = Some (binary.Commuting (By alu.Or))
binary_form code.IntXor = Some (binary.Commuting (By alu.Xor))
binary_form code.IntLshift = Some (binary.Shift shift.Shl)
binary_form code.IntRshift = Some (binary.Shift shift.Sar)
binary_form code.UintRshift = Some (binary.Shift shift.Shr)
binary_form code.IntLt = Some (binary.Compare cc_is.L)
binary_form code.IntLe = Some (binary.Compare cc_is.Le)
binary_form code.IntEq = Some (binary.Compare cc_is.E)
binary_form code.IntNe = Some (binary.Compare cc_is.Ne)
binary_form code.IntGt = Some (binary.Compare cc_is.G)
binary_form code.IntGe = Some (binary.Compare cc_is.Ge)
binary_form code.UintLt = Some (binary.Compare cc_is.B)
binary_form code.UintLe = Some (binary.Compare cc_is.Be)
binary_form code.UintGt = Some (binary.Compare cc_is.A)
binary_form code.UintGe = Some (binary.Compare cc_is.Ae)
binary_form code.PtrEq = Some (binary.Compare cc_is.E)
binary_form code.PtrNe = Some (binary.Compare cc_is.Ne)
binary_form code.IntAddOvf = Some (binary.Commuting (By alu.Add))
binary_form code.IntSubOvf = Some (binary.Ordered (By alu.Sub))
binary_form code.IntMulOvf = Some (binary.Commuting Product)
binary_form _ = None

abbrev pub access_form : OpCode → Option Access
access_form code.GetfieldGcI = Some access.GetField
access_form code.GetfieldGcR = Some access.GetField
access_form code.SetfieldGc = Some access.SetField
access_form code.GetarrayitemGcI = Some access.GetItem
access_form code.GetarrayitemGcR = Some access.GetItem
access_form code.SetarrayitemGc = Some access.SetItem
access_form code.ArraylenGc = Some access.Length
access_form code.New = Some access.Structure
access_form code.NewWithVtable = Some access.Structure
access_form code.NewArrayClear = Some access.Array
access_form code.CallI = Some access.Call
access_form code.CallR = Some access.Call
access_form code.CallN = Some access.Call
access_form _ = None

-- the flag says that only the flags of a comparison are asked for
abbrev pub unary_code : Bool → Option Unary → Place → Operand → List Instr
unary_code lone (Some (unary.Test cond)) d a = test_code a ++ truth_unless lone cond d
unary_code lone (Some unary.Negate) d a = one_code d a (Neg (reg_or 11 d) ∷ [])
unary_code lone (Some unary.Invert) d a = one_code d a (Not (reg_or 11 d) ∷ [])
unary_code lone (Some unary.Clamp) d a = one_code d a (clamp_code (reg_or 11 d))
unary_code lone (Some unary.Copy) d a = one_code d a []
unary_code lone None d a = []

abbrev pub binary_code : Bool → Option Binary → Place → Operand → Operand → List Instr
binary_code lone (Some (binary.Commuting m)) d a b = commuting_code m d a b
binary_code lone (Some (binary.Ordered m)) d a b = two_code m d a b
binary_code lone (Some (binary.Shift op)) d a b = shift_code op d a b
binary_code lone (Some (binary.Compare cond)) d a b = compare_code a b ++ truth_unless lone cond d
binary_code lone None d a b = []

-- ---- what the flags tell behind an operation

abbrev pub is_truth_guard : OpCode → Bool
is_truth_guard code.GuardTrue = true
is_truth_guard code.GuardFalse = true
is_truth_guard _ = false

-- the next operation is a guard on the box
abbrev pub is_tested : BoxId → List OptOp → Bool
is_tested r (opt.Guard operation (Of b ∷ []) n snap ∷ ops) = is_truth_guard operation && same_box r b
is_tested r _ = false

-- the box is used, but not as the argument of the next operation
abbrev pub is_needed : BoxId → List OptOp → Bool
is_needed r [] = false
is_needed r (op ∷ ops) =
    list_any (same_box r) (flat_map boxes_of (snapshots_of op)) || list_any (same_box r) (flat_map used_by ops)

-- the flags are all that is asked for of a comparison
abbrev pub is_lone : BoxId → List OptOp → Bool
is_lone r ops = is_tested r ops && not (is_needed r ops)

abbrev pub unary_cond : Option Unary → Option Cc
unary_cond (Some (unary.Test cond)) = Some cond
unary_cond _ = None

abbrev pub binary_cond : Option Binary → Option Cc
binary_cond (Some (binary.Compare cond)) = Some cond
binary_cond _ = None

abbrev pub told_if : Bool → Option Cc → BoxId → Told
told_if true (Some cond) r = tell.Whether cond r
told_if _ _ r = tell.Nothing

abbrev pub told_over : Bool → Told → Told
told_over true other = tell.Overflow
told_over false other = other

-- what the flags tell behind an operation, in front of these
abbrev pub told_by : OptOp → List OptOp → Told
told_by (opt.Plain operation (Some r) (a ∷ []) d) ops = told_if (is_tested r ops) (unary_cond (unary_form operation)) r
told_by (opt.Plain operation (Some r) (a ∷ b ∷ []) d) ops =
    told_over (is_overflowing operation) (told_if (is_tested r ops) (binary_cond (binary_form operation)) r)
told_by _ ops = tell.Nothing

-- the condition that tells a box
abbrev pub tells : Told → Arg → Option Cc
tells (tell.Whether cond r) (Of b) = if same_box r b then Some cond else None
tells _ a = None

-- ---- jumps

-- a copy from place to place, by r11 where both are words
abbrev pub copy_code : Place → Place → List Instr
copy_code (In r) source = load_code r source
copy_code (Word k) source = load_code (reg_or 11 source) source ++ put_code (Word k) (reg_or 11 source)

-- an exchange of two places, by r11 where one of them is a word, and by r15 too where both are
abbrev pub swap_by : Place → Place → List Instr
swap_by one other =
    load_code (register 11) other ++ (load_code (reg_or 15 one) one ++ (put_code other (reg_or 15 one) ++ put_code one (register 11)))

abbrev pub swap_code : Place → Place → List Instr
swap_code (In a) (In b) = if a.0 == b.0 then [] else Xchg a b ∷ []
swap_code (In a) (Word k) = swap_by (In a) (Word k)
swap_code (Word j) (In b) = swap_by (In b) (Word j)
swap_code (Word j) (Word k) = swap_by (Word j) (Word k)

abbrev pub move_code : Move → List Instr
move_code (Copy target source) = copy_code target source
move_code (Swap one other) = swap_code one other

abbrev pub moves_code : List Move → List Instr
moves_code [] = []
moves_code (m ∷ ms) = move_code m ++ moves_code ms

-- a constant comes to a place
abbrev pub set_code : Place → ℤ → List Instr
set_code (In r) v = MovImm r v ∷ []
set_code (Word k) v =
    if fits_bits 31 v then StoreImm (frame_mem k) v ∷ [] else MovImm (register 11) v ∷ Store (frame_mem k) (register 11) ∷ []

abbrev pub set_operand : Place → Operand → List Instr
set_operand target (At p) = []
set_operand target (Imm v) = set_code target v

-- those of a jump's arguments that stand at places are moved, all at once; then constants are set
abbrev pub pair_of : Place → Operand → List (Place × Place)
pair_of target (At p) = (target, p) ∷ []
pair_of target (Imm v) = []

abbrev pub pairs_of : Setting → List Arg → List Place → List (Place × Place)
pairs_of c [] targets = []
pairs_of c (a ∷ args) [] = []
pairs_of c (a ∷ args) (target ∷ targets) = pair_of target (operand_of c a) ++ pairs_of c args targets

abbrev pub constants_code : Setting → List Arg → List Place → List Instr
constants_code c [] targets = []
constants_code c (a ∷ args) [] = []
constants_code c (a ∷ args) (target ∷ targets) = set_operand target (operand_of c a) ++ constants_code c args targets

abbrev pub jump_code : Setting → List Arg → List Instr
jump_code c args = moves_code c.moves ++ constants_code c args c.to

-- ---- the code of operations

abbrev pub word_code : Setting → OpCode → Option BoxId → List Arg → List OptOp → List Instr
word_code c operation (Some r) (a ∷ []) ops = unary_code (is_lone r ops) (unary_form operation) (c.at r.number) (operand_of c a)
word_code c operation (Some r) (a ∷ b ∷ []) ops =
    binary_code (is_lone r ops) (binary_form operation) (c.at r.number) (operand_of c a) (operand_of c b)
word_code c operation r args ops = []

-- the setting of a call's arguments
abbrev pub for_call : Setting → ℕ → List Arg → Setting
for_call c k args = record c { to = places_for args arg_places; moves = c.call_moves k }

-- a function's arguments, the number of the call's row and the entry
abbrev pub function_code : Setting → ℕ → ℕ → List Arg → ℕ → List Instr
function_code c k f args row =
    jump_code (for_call c k args) args ++ (MovImm (register 10) (pos row) ∷ MovImm (register 11) (pos (entry_of (entry_number f))) ∷ [])

-- a result is in rax, if there is one
abbrev pub result_place : Setting → Option BoxId → Place
result_place c None = In (register 0)
result_place c (Some r) = c.at r.number

-- operation k on objects, up to the host's call where there is one
abbrev pub access_code : Setting → ℕ → Access → Option BoxId → List Arg → Descr → List Instr
access_code c k access.GetField (Some r) (a ∷ []) (descr.Field f) = read_code (c.at r.number) (operand_of c a) (spot_offset c.table (spot.Field f))
access_code c k access.SetField None (a ∷ b ∷ []) (descr.Field f) = write_code (operand_of c a) (spot_offset c.table (spot.Field f)) (operand_of c b)
access_code c k access.GetItem (Some r) (a ∷ i ∷ []) (descr.Array x) = item_code c.table x (c.at r.number) (operand_of c a) (operand_of c i)
access_code c k access.SetItem None (a ∷ i ∷ b ∷ []) (descr.Array x) = set_item_code c.table x (operand_of c a) (operand_of c i) (operand_of c b)
access_code c k access.Length (Some r) (a ∷ []) (descr.Array x) = read_code (c.at r.number) (operand_of c a) 8
access_code c k access.Structure (Some r) [] (descr.Size n) = new_code (header_of c.table (Size n))
access_code c k access.Array (Some r) (a ∷ []) (descr.Array x) = new_array_code (header_of c.table (Array x)) (operand_of c a)
access_code c k access.Call r (Func f ∷ args) (descr.Call row) = function_code c k f args row
access_code c k form r args d = []

abbrev pub is_host_call : Access → Bool
is_host_call access.Structure = true
is_host_call access.Array = true
is_host_call access.Call = true
is_host_call form = false

abbrev pub call_if : Bool → Place → List Instr
call_if true d = call_code d
call_if false d = []

abbrev pub plain_code : Setting → ℕ → OpCode → Option Access → Option BoxId → List Arg → Descr → List OptOp → List Instr
plain_code c k operation None r args d ops = word_code c operation r args ops
plain_code c k operation (Some form) r args d ops = access_code c k form r args d ++ call_if (is_host_call form) (result_place c r)

-- the condition that holds where this one doesn't
abbrev pub opposite : Cc → Cc
opposite cc_is.O = cc_is.No
opposite cc_is.No = cc_is.O
opposite cc_is.B = cc_is.Ae
opposite cc_is.Ae = cc_is.B
opposite cc_is.E = cc_is.Ne
opposite cc_is.Ne = cc_is.E
opposite cc_is.Be = cc_is.A
opposite cc_is.A = cc_is.Be
opposite cc_is.S = cc_is.Ns
opposite cc_is.Ns = cc_is.S
opposite cc_is.L = cc_is.Ge
opposite cc_is.Ge = cc_is.L
opposite cc_is.Le = cc_is.G
opposite cc_is.G = cc_is.Le

-- leaves where a box that is told is 0, or else where a word that is tested is 0
abbrev pub leave_false : Setting → ℕ → Option Cc → Arg → List Slot
leave_false c k (Some cond) a = Leave (opposite cond) k ∷ []
leave_false c k None a = puts (test_code (operand_of c a)) ++ Leave cc_is.E k ∷ []

abbrev pub leave_true : Setting → ℕ → Option Cc → Arg → List Slot
leave_true c k (Some cond) a = Leave cond k ∷ []
leave_true c k None a = puts (test_code (operand_of c a)) ++ Leave cc_is.Ne k ∷ []

abbrev pub guard_code : Setting → ℕ → Told → OpCode → List Arg → List Slot
guard_code c k told code.GuardTrue (a ∷ []) = leave_false c k (tells told a) a
guard_code c k told code.GuardFalse (a ∷ []) = leave_true c k (tells told a) a
guard_code c k told code.GuardNonnull (a ∷ []) = leave_false c k None a
guard_code c k told code.GuardIsnull (a ∷ []) = leave_true c k None a
guard_code c k told code.GuardValue (a ∷ b ∷ []) = puts (compare_code (operand_of c a) (operand_of c b)) ++ Leave cc_is.Ne k ∷ []
guard_code c k told code.GuardClass (a ∷ Class n ∷ []) = puts (class_code (operand_of c a) (header_of c.table (Size n))) ++ Leave cc_is.Ne k ∷ []
guard_code c k told code.GuardNonnullClass (a ∷ Class n ∷ []) = puts (nonnull_class_code (operand_of c a) (header_of c.table (Size n))) ++ Leave cc_is.Ne k ∷ []
guard_code c k told code.GuardNoOverflow args = Leave cc_is.O k ∷ []
guard_code c k told code.GuardOverflow args = Leave cc_is.No k ∷ []
guard_code c k told operation args = []

-- ---- pieces

-- the code of operation k, in front of these
abbrev pub code_of : Setting → ℕ → Told → OptOp → List OptOp → List Slot
code_of c k told (opt.Plain operation r args d) ops = puts (plain_code c k operation (access_form operation) r args d ops)
code_of c k told (opt.Guard operation args n snap) ops = guard_code c k told operation args
code_of c k told (opt.Exit n snap) ops = Go k ∷ []
code_of c k told (opt.Jump to args) ops = puts (jump_code c args) ++ Go k ∷ []
code_of c k told (opt.Finish value) ops = Go k ∷ []

-- the code of operations, of which the first is operation k, where the flags tell this
abbrev pub all_code : Setting → ℕ → Told → List OptOp → List Slot
all_code c k told [] = []
all_code c k told (op ∷ ops) = code_of c k told op ops ++ all_code c (k + 1) (told_by op ops) ops

-- the code of a piece
abbrev pub piece_code : Setting → ℕ → Piece → List Slot
piece_code c k piece = all_code c k tell.Nothing piece.ops

-- the first instruction of each operation, where the first of all is instruction n
abbrev pub starts_from : ℕ → Setting → ℕ → Told → List OptOp → List ℕ
starts_from n c k told [] = []
starts_from n c k told (op ∷ ops) = n ∷ starts_from (n + length (code_of c k told op ops)) c (k + 1) (told_by op ops) ops
