-- What is chosen for some short pieces.
use Rattle.std.proofs.Common.{◌≡◌, ℕ, ◌+◌, [], ◌∷◌, Some, None, refl, pos}
use Rattle.trace_ops.specs.declared.code.OpCode.TheVariants as code
use Rattle.trace_ops.specs.declared.table.Table.{Table}
use Rattle.trace_ops.specs.declared.trace.Kind.TheVariants as kind
use Rattle.trace_ops.specs.declared.trace.BoxId.{BoxId}
use Rattle.trace_ops.specs.declared.trace.Arg.TheVariants.{Of, Const, Class, Func}
use Rattle.trace_ops.specs.declared.trace.Descr.TheVariants as descr
use Rattle.trace_ops.specs.declared.piece.OptOp.TheVariants as opt
use Rattle.trace_ops.specs.declared.piece.Snapshot.{Snapshot}
use Rattle.x64_encode.specs.declared.instr.AluOp.TheVariants as alu
use Rattle.x64_encode.specs.declared.instr.Cc.TheVariants as cc_is
use Rattle.x64_encode.specs.declared.instr.Instr.TheVariants.{Alu, AluImm, Load, MovImm, Jcc, CallReg, Set, Movzx, MovReg}
use Rattle.x64_encode.specs.declared.instr.Mem.TheVariants as mem
use Rattle.target_base.specs.declared.place.Place.TheVariants.{In, Word}
use Rattle.parallel_move.specs.declared.moving.Move.TheVariants.{Copy}
use Rattle.guard_exit.specs.Codes.{register}
use Rattle.asm_select.specs.declared.told.Told.TheVariants as tell
use Rattle.asm_select.specs.Slots.{Put, Leave, Go, sizes_of, bytes_of, unset}
use Rattle.asm_select.specs.Chosen.{Setting, all_code}

abbrev int : ℕ → BoxId
int n = record { kind = kind.Int; number = n }

abbrev no_table : Table
no_table = record { shapes = []; sizes = []; fields = []; arrays = []; calls = []; functions = []; prebuilts = [] }

-- box n stands in register n
abbrev low : Setting
low = record { table = no_table; at = λ n. In (register n); to = []; moves = []; call_moves = λ k. [] }

abbrev ref : ℕ → BoxId
ref n = record { kind = kind.Ref; number = n }

abbrev none : Snapshot
none = record { frames = []; shapes = []; pending = [] }

-- a comparison and the guard on it: nine bytes, and the box isn't made
fused : all_code low 0 tell.Nothing (opt.Plain code.IntLt (Some (int 2)) (Of (int 0) ∷ Of (int 1) ∷ []) descr.No ∷ opt.Guard code.GuardTrue (Of (int 2) ∷ []) 0 none ∷ opt.Finish None ∷ [])
    ≡ Put (Alu alu.Cmp (register 0) (register 1)) ∷ Leave cc_is.Ge 1 ∷ Go 2 ∷ []
fused = refl

-- where the box is shown later, it is made as well
made : all_code low 0 tell.Nothing (opt.Plain code.IntLt (Some (int 2)) (Of (int 0) ∷ Of (int 1) ∷ []) descr.No ∷ opt.Guard code.GuardFalse (Of (int 2) ∷ []) 0 none ∷ opt.Finish (Some (Of (int 2))) ∷ [])
    ≡ Put (Alu alu.Cmp (register 0) (register 1)) ∷ Put (Set cc_is.L (register 2)) ∷ Put (Movzx (register 2) (register 2)) ∷ Leave cc_is.L 1 ∷ Go 2 ∷ []
made = refl

-- an operation that may overflow, and its guard
overflowing : all_code low 0 tell.Nothing (opt.Plain code.IntAddOvf (Some (int 2)) (Of (int 0) ∷ Const (pos 1) ∷ []) descr.No ∷ opt.Guard code.GuardNoOverflow [] 0 none ∷ opt.Finish None ∷ [])
    ≡ Put (MovReg (register 2) (register 0)) ∷ Put (AluImm alu.Add (register 2) (pos 1)) ∷ Leave cc_is.O 1 ∷ Go 2 ∷ []
overflowing = refl

short : sizes_of (Put (Alu alu.Cmp (register 0) (register 1)) ∷ Leave cc_is.Ge 1 ∷ []) ≡ 9
short = refl

-- a field whose base and result have registers: four bytes
reads : all_code low 0 tell.Nothing (opt.Plain code.GetfieldGcI (Some (int 1)) (Of (ref 0) ∷ []) (descr.Field 0) ∷ opt.Finish None ∷ [])
    ≡ Put (Load (register 1) (mem.At (register 0) (pos 8))) ∷ Go 1 ∷ []
reads = refl

-- null leaves by the same jump as another class
classes : all_code low 0 tell.Nothing (opt.Guard code.GuardNonnullClass (Of (ref 0) ∷ Class 0 ∷ []) 0 none ∷ opt.Finish None ∷ [])
    ≡ Put (AluImm alu.Cmp (register 0) (pos 1)) ∷ Put (Jcc cc_is.B (pos 7)) ∷ Put (Load (register 11) (mem.At (register 0) (pos 0))) ∷ Put (AluImm alu.Cmp (register 11) (pos 1)) ∷ Leave cc_is.Ne 0 ∷ Go 1 ∷ []
classes = refl

-- an allocation: entry 1, and the address comes from rax
allocates : all_code low 0 tell.Nothing (opt.Plain code.New (Some (ref 1)) [] (descr.Size 0) ∷ opt.Finish None ∷ [])
    ≡ Put (MovImm (register 7) (pos 1)) ∷ Put (MovImm (register 11) (pos 0x30000010)) ∷ Put (CallReg (register 11)) ∷ Put (MovReg (register 1) (register 0)) ∷ Go 1 ∷ []
allocates = refl

-- function 2 with the row 3, its argument moved from register 3
calls : all_code (record low { call_moves = λ k. Copy (In (register 7)) (In (register 3)) ∷ [] }) 0 tell.Nothing (opt.Plain code.CallN None (Func 2 ∷ Of (int 3) ∷ []) (descr.Call 3) ∷ opt.Finish None ∷ [])
    ≡ Put (MovReg (register 7) (register 3)) ∷ Put (MovImm (register 10) (pos 3)) ∷ Put (MovImm (register 11) (pos 0x30000120)) ∷ Put (CallReg (register 11)) ∷ Go 1 ∷ []
calls = refl

class_size : sizes_of (Put (AluImm alu.Cmp (register 0) (pos 1)) ∷ Put (Jcc cc_is.B (pos 7)) ∷ Put (Load (register 11) (mem.At (register 0) (pos 0))) ∷ Put (AluImm alu.Cmp (register 11) (pos 1)) ∷ Leave cc_is.Ne 0 ∷ []) ≡ 23
class_size = refl

-- ---- bytes

-- cmp rax, rcx; jge with its displacement still to be set
fused_bytes : bytes_of unset (Put (Alu alu.Cmp (register 0) (register 1)) ∷ Leave cc_is.Ge 1 ∷ []) ≡ 0x48 ∷ 0x39 ∷ 0xC8 ∷ 0x0F ∷ 0x8D ∷ 0 ∷ 0 ∷ 0 ∷ 0 ∷ []
fused_bytes = refl

-- mov rcx, [rax + 8]
field_bytes : bytes_of unset (Put (Load (register 1) (mem.At (register 0) (pos 8))) ∷ []) ≡ 0x48 ∷ 0x8B ∷ 0x48 ∷ 0x08 ∷ []
field_bytes = refl

-- box n stands in frame word 16 + n
abbrev spilled : Setting
spilled = record { table = no_table; at = λ n. Word (16 + n); to = []; moves = []; call_moves = λ k. [] }

-- a sum of words: mov r11, [rbp]; mov r15, [rbp + 8]; add r11, r15; mov [rbp + 16], r11
sum_of_words : bytes_of unset (all_code spilled 0 tell.Nothing (opt.Plain code.IntAdd (Some (int 2)) (Of (int 0) ∷ Of (int 1) ∷ []) descr.No ∷ [])) ≡ 0x4C ∷ 0x8B ∷ 0x5D ∷ 0x00 ∷ 0x4C ∷ 0x8B ∷ 0x7D ∷ 0x08 ∷ 0x4D ∷ 0x01 ∷ 0xFB ∷ 0x4C ∷ 0x89 ∷ 0x5D ∷ 0x10 ∷ []
sum_of_words = refl
