-- The chosen instructions have rows.
use Rattle.std.proofs.Common.{◌≡◌, ◌≢◌, ◌≤◌, ℕ, suc, ◌+◌, ◌^◌, ◌<◌, true, false, cond, nat_eq, List, [], ◌∷◌, ◌++◌, Option, Some, None, refl, inl, inr, arith, ℤ, pos, negsuc}
use Rattle.std.specs.Prelude.{FitsSigned}
use Rattle.std.specs.Int.{w32, w64}
use Rattle.std.specs.List.{All}
use Rattle.std.proofs.lemmas.Bool.{ltb-true}
use Rattle.trace_ops.specs.declared.code.OpCode.{OpCode}
use Rattle.trace_ops.specs.declared.code.OpCode.TheVariants as code
use Rattle.trace_ops.specs.declared.trace.BoxId.{BoxId}
use Rattle.trace_ops.specs.declared.trace.Arg.{Arg}
use Rattle.trace_ops.specs.declared.trace.Arg.TheVariants.{Class, Func}
use Rattle.trace_ops.specs.declared.trace.Descr.{Descr}
use Rattle.trace_ops.specs.declared.trace.Descr.TheVariants as descr
use Rattle.trace_ops.specs.declared.piece.Spot.TheVariants as spot
use Rattle.trace_ops.specs.declared.table.Table.{Table}
use Rattle.trace_ops.specs.declared.table.ShapeOf.TheVariants.{Size, Array}
use Rattle.arena_objects.specs.Layout.{header_of}
use Rattle.arena_objects.specs.Spots.{spot_offset}
use Rattle.asm_select.specs.declared.form.Access.{Access}
use Rattle.asm_select.specs.declared.form.Access.TheVariants as access
use Rattle.asm_select.proofs.Effects.{in_ne}
use Rattle.asm_select.proofs.Classing.{short_header, header_fits}
use Rattle.asm_select.specs.Asked.{IsAskedAs, IsAskedIf, IsAsked}
use Rattle.trace_ops.specs.declared.piece.OptOp.{OptOp}
use Rattle.trace_ops.specs.declared.piece.OptOp.TheVariants as opt
use Rattle.guard_exit.specs.Codes.{register, frame_mem, saved, save_code}
use Rattle.x64_encode.specs.declared.instr.AluOp.TheVariants as alu
use Rattle.x64_encode.specs.declared.instr.Cc.{Cc}
use Rattle.x64_encode.specs.declared.instr.Cc.TheVariants as cc_is
use Rattle.x64_encode.specs.declared.instr.Instr.{Instr}
use Rattle.x64_encode.specs.declared.instr.Instr.TheVariants.{Load, Lea, Jcc, Store, StoreImm, MovImm, AluImm, Xchg}
use Rattle.target_base.specs.declared.place.Place.{Place}
use Rattle.target_base.specs.declared.place.Place.TheVariants.{In, Word}
use Rattle.x64_encode.specs.Fields.{fits_bits}
use Rattle.x64_encode.specs.declared.instr.Mem.TheVariants as mem
use Rattle.x64_encode.specs.Form.{IsReg}
use Rattle.asm_select.specs.declared.operand.Operand.{Operand}
use Rattle.asm_select.specs.declared.operand.Operand.TheVariants.{At, Imm}
use Rattle.asm_select.specs.declared.told.Told.{Told}
use Rattle.parallel_move.specs.Moving as moving
use Rattle.parallel_move.specs.declared.moving.Move.{Move}
use Rattle.parallel_move.specs.declared.moving.Move.TheVariants.{Copy, Swap}
use Rattle.asm_select.specs.Slots.{Leave, Go, Jumps, puts, sizes_of, HaveRows}
use Rattle.asm_select.specs.Valued.{MayHold}
use Rattle.asm_select.specs.Chosen.{Setting, entry_of, entry_number, call_code, new_array_code, for_call, function_code, operand_of, reg_or, home_of, load_code, take_code, put_code, compare_code, test_code, is_lone, tells, word_code, access_form, access_code, call_if, is_host_call, result_place, plain_code, read_code, write_code, read_item_code, write_item_code, is_near, item_code, set_item_code, class_code, header_code, nonnull_class_code, leave_false, leave_true, guard_code, copy_code, swap_by, swap_code, move_code, moves_code, set_code, set_operand, constants_code, jump_code, told_by, code_of, all_code}
use Rattle.asm_select.specs.Ended.{TableServes, IsGuardHere, IsAccess, IsPlain, IsHere, AreMoved}
use Rattle.asm_select.proofs.Jumps.{may_be, test_holds, lawful, AreLawful, pairs_hold}
use Rattle.asm_select.specs.Reached.{HasWords, IsWordArg}
use Rattle.asm_select.specs.Laid.{AreNear, ChosenHaveRows, ExitsHaveRows}
use Rattle.asm_select.proofs.Micro.{CanRead}
use Rattle.asm_select.proofs.Values.{arg_reads}
use Rattle.asm_select.proofs.WordRows.{Most, AllRows, both, either, low, frame_row, fits_32, reg_low, home_low, load_rows, take_rows, put_rows, compare_rows, test_rows, binary_rows, unary_rows, slot_rows, puts_rows}

-- ---- the arena

small : (k : ℕ) → k < 2 ^ 31 → FitsSigned w32 (pos k)
small k lt = record { sfits = omega arith }

word_of_small : (k : ℕ) → k < 2 ^ 31 → FitsSigned w64 (pos k)
word_of_small k lt = record { sfits = omega arith }

home_11 : (a : Operand) → CanRead a → (home_of 11 a).0 < 16
home_11 a ra = home_low 11 a (omega arith) ra

home_15 : (a : Operand) → CanRead a → (home_of 15 a).0 < 16
home_15 a ra = home_low 15 a (omega arith) ra

taken_11 : (a : Operand) → CanRead a → AllRows (take_code (home_of 11 a) a)
taken_11 a ra = take_rows (home_of 11 a) a (home_11 a ra) ra

taken_15 : (a : Operand) → CanRead a → AllRows (take_code (home_of 15 a) a)
taken_15 a ra = take_rows (home_of 15 a) a (home_15 a ra) ra

-- no index is rsp
index_not_4 : (i : Operand) → CanRead i → (home_of 15 i).0 ≢ 4
index_not_4 (At (In r)) m = in_ne r (register 4) m.not_rsp
index_not_4 (At (Word k)) m = λ e. absurd (omega arith)
index_not_4 (Imm w) m = λ e. absurd (omega arith)

reads_rows : (d : Place) (a : Operand) (k : ℕ) → MayHold d → CanRead a → k < 2 ^ 31 → AllRows (read_code d a k)
reads_rows d a k md ra lt =
    let h = home_of 11 a in
    let w = reg_or 11 d in
    let l = reg_low 11 d (omega arith) md in
    both (take_code h a) (Load w (mem.At h (pos k)) ∷ put_code d w) (taken_11 a ra) ((l, (home_11 a ra, small k lt)), put_rows d w l md)

writes_rows : (a : Operand) (k : ℕ) (c : Operand) → CanRead a → CanRead c → k < 2 ^ 31 → AllRows (write_code a k c)
writes_rows a k (At y) ra rc lt =
    let h = home_of 11 a in
    let x = reg_or 15 y in
    both (take_code h a) (take_code x (At y) ++ Store (mem.At h (pos k)) x ∷ []) (taken_11 a ra)
    (both (take_code x (At y)) (Store (mem.At h (pos k)) x ∷ []) (taken_15 (At y) rc) (((home_11 a ra, small k lt), home_15 (At y) rc), tt))
writes_rows a k (Imm v) ra rc lt =
    let h = home_of 11 a in
    let there = mem.At h (pos k) in
    both (take_code h a) (cond (fits_bits 31 v) (StoreImm there v ∷ []) (MovImm (register 15) v ∷ Store there (register 15) ∷ [])) (taken_11 a ra)
    (elim (fits_bits 31 v) as (λ b. fits_bits 31 v ≡ b → AllRows (cond b (StoreImm there v ∷ []) (MovImm (register 15) v ∷ Store there (register 15) ∷ []))) [
      | true ↦ λ e. (((home_11 a ra, small k lt), fits_32 v e), tt)
      | false ↦ λ e. ((low 15 (omega arith), rc), (((home_11 a ra, small k lt), low 15 (omega arith)), tt))
    ]
    refl)

read_items_rows : (d : Place) (a i : Operand) → MayHold d → CanRead a → CanRead i → AllRows (read_item_code d a i)
read_items_rows d a i md ra ri =
    let h = home_of 11 a in
    let x = home_of 15 i in
    let w = reg_or 11 d in
    let l = reg_low 11 d (omega arith) md in
    let load = Load w (mem.Item h x (pos 16)) ∷ put_code d w in
    both (take_code h a) (take_code x i ++ load) (taken_11 a ra)
    (both (take_code x i) load (taken_15 i ri) ((l, (home_11 a ra, home_15 i ri, index_not_4 i ri, small 16 (omega arith))), put_rows d w l md))

write_items_rows : (a i c : Operand) → CanRead a → CanRead i → CanRead c → AllRows (write_item_code a i c)
write_items_rows a i c ra ri rc =
    let h = home_of 11 a in
    let x = home_of 15 i in
    let y = home_of 15 c in
    let last = Store (mem.At (register 11) (pos 0)) y ∷ [] in
    let lea = Lea (register 11) (mem.Item h x (pos 16)) ∷ (take_code y c ++ last) in
    both (take_code h a) (take_code x i ++ lea) (taken_11 a ra)
    (both (take_code x i) lea (taken_15 i ri) (
      (low 11 (omega arith), (home_11 a ra, home_15 i ri, index_not_4 i ri, small 16 (omega arith))),
      both (take_code y c) last (taken_15 c rc) (((low 11 (omega arith), small 0 (omega arith)), home_15 c rc), tt),
    ))

classes_rows : (a : Operand) (header : ℕ) → CanRead a → header < 2 ^ 31 → AllRows (class_code a header)
classes_rows a header ra lt =
    let h = home_of 11 a in
    both (take_code h a) (Load (register 11) (mem.At h (pos 0)) ∷ AluImm alu.Cmp (register 11) (pos header) ∷ []) (taken_11 a ra)
    ((low 11 (omega arith), (home_11 a ra, small 0 (omega arith))), ((omega arith, low 11 (omega arith), small header lt), tt))

nonnull_classes_rows : Most → (a : Operand) (header : ℕ) → CanRead a → header < 2 ^ 31 → AllRows (nonnull_class_code a header)
nonnull_classes_rows most a header ra lt =
    let h = home_of 11 a in
    let zs = header_code h header in
    let few : sizes_of (puts zs) ≤ 32 = short_header most h header in
    both (take_code h a) (AluImm alu.Cmp h (pos 1) ∷ Jcc cc_is.B (pos (sizes_of (puts zs))) ∷ zs) (taken_11 a ra)
    ((omega arith, home_11 a ra, small 1 (omega arith)), (small (sizes_of (puts zs)) (omega arith), ((low 11 (omega arith), (home_11 a ra, small 0 (omega arith))), ((omega arith, low 11 (omega arith), small header lt), tt))))

leave_row : (by : Jumps) (xs : List Instr) (cond : Cc) (k : ℕ) → AreNear by → AllRows xs → HaveRows by (puts xs ++ Leave cond k ∷ [])
leave_row by xs cond k near h = slot_rows by (puts xs) (Leave cond k ∷ []) (puts_rows by xs h) (near k, tt)

false_rows : (by : Jumps) (c : Setting) (k : ℕ) (o : Option Cc) (a : Arg) → AreNear by → CanRead (operand_of c a) → HaveRows by (leave_false c k o a)
false_rows by c k (Some x) a near r = (near k, tt)
false_rows by c k None a near r = leave_row by (test_code (operand_of c a)) cc_is.E k near (test_rows (operand_of c a) r)

true_rows : (by : Jumps) (c : Setting) (k : ℕ) (o : Option Cc) (a : Arg) → AreNear by → CanRead (operand_of c a) → HaveRows by (leave_true c k o a)
true_rows by c k (Some x) a near r = (near k, tt)
true_rows by c k None a near r = leave_row by (test_code (operand_of c a)) cc_is.Ne k near (test_rows (operand_of c a) r)

guard_rows : Most → (by : Jumps) (c : Setting) (k : ℕ) (told : Told) (operation : OpCode) (args : List Arg) → AreNear by → ((b : ℕ) → MayHold (c.at b)) → All (IsWordArg c.table) args → IsGuardHere operation args → HaveRows by (guard_code c k told operation args)
guard_rows most by c k told code.GuardTrue (a ∷ []) near m w h = false_rows by c k (tells told a) a near (arg_reads c a m (w 0 a (omega arith)))
guard_rows most by c k told code.GuardFalse (a ∷ []) near m w h = true_rows by c k (tells told a) a near (arg_reads c a m (w 0 a (omega arith)))
guard_rows most by c k told code.GuardNonnull (a ∷ []) near m w h = false_rows by c k None a near (arg_reads c a m (w 0 a (omega arith)))
guard_rows most by c k told code.GuardIsnull (a ∷ []) near m w h = true_rows by c k None a near (arg_reads c a m (w 0 a (omega arith)))
guard_rows most by c k told code.GuardValue (a ∷ b ∷ []) near m w h =
    leave_row by (compare_code (operand_of c a) (operand_of c b)) cc_is.Ne k near (compare_rows (operand_of c a) (operand_of c b) (arg_reads c a m (w 0 a (omega arith))) (arg_reads c b m (w 1 b (omega arith))))
guard_rows most by c k told code.GuardClass (a ∷ Class n ∷ []) near m w h = leave_row by (class_code (operand_of c a) (header_of c.table (Size n))) cc_is.Ne k near (classes_rows (operand_of c a) (header_of c.table (Size n)) (arg_reads c a m (w 0 a (omega arith))) (w 1 (Class n) (omega arith)).0)
guard_rows most by c k told code.GuardNonnullClass (a ∷ Class n ∷ []) near m w h = leave_row by (nonnull_class_code (operand_of c a) (header_of c.table (Size n))) cc_is.Ne k near (nonnull_classes_rows most (operand_of c a) (header_of c.table (Size n)) (arg_reads c a m (w 0 a (omega arith))) (w 1 (Class n) (omega arith)).0)
guard_rows most by c k told code.GuardNoOverflow args near m w h = (near k, tt)
guard_rows most by c k told code.GuardOverflow args near m w h = (near k, tt)
guard_rows most by c k told code.GuardNoException args near m w h = tt
guard_rows most by c k told _ args near m w h = absurd h

-- ---- jumps

copy_rows : (target source : Place) → MayHold target → MayHold source → AllRows (copy_code target source)
copy_rows (In r) source mt ms = load_rows r source mt.there ms
copy_rows (Word k) source mt ms =
    let l = reg_low 11 source (omega arith) ms in
    both (load_code (reg_or 11 source) source) (put_code (Word k) (reg_or 11 source)) (load_rows (reg_or 11 source) source l ms) (put_rows (Word k) (reg_or 11 source) l mt)

swap_by_rows : (one other : Place) → MayHold one → MayHold other → AllRows (swap_by one other)
swap_by_rows one other m1 m2 =
    let w = register 11 in
    let h = reg_or 15 one in
    let l = reg_low 15 one (omega arith) m1 in
    let e : IsReg w = omega arith in
    both (load_code w other) (load_code h one ++ (put_code other h ++ put_code one w)) (load_rows w other e m2)
    (both (load_code h one) (put_code other h ++ put_code one w) (load_rows h one l m1) (both (put_code other h) (put_code one w) (put_rows other h l m2) (put_rows one w e m1)))

swap_rows : (one other : Place) → MayHold one → MayHold other → AllRows (swap_code one other)
swap_rows (In a) (In b) m1 m2 = either (nat_eq a.0 b.0) [] (Xchg a b ∷ []) tt ((m1.there, m2.there), tt)
swap_rows (In a) (Word k) m1 m2 = swap_by_rows (In a) (Word k) m1 m2
swap_rows (Word j) (In b) m1 m2 = swap_by_rows (In b) (Word j) m2 m1
swap_rows (Word j) (Word k) m1 m2 = swap_by_rows (Word j) (Word k) m1 m2

move_rows : (m : Move) → MayHold (moving.target_of m) → MayHold (moving.source_of m) → AllRows (move_code m)
move_rows (Copy target source) a b = copy_rows target source a b
move_rows (Swap one other) a b = swap_rows one other a b

moves_rows : (ms : List Move) → moving.MovePlaces may_be ms → AllRows (moves_code ms)
moves_rows [] h = tt
moves_rows (m ∷ ms) h = both (move_code m) (moves_code ms) (move_rows m (test_holds (moving.target_of m) h.0) (test_holds (moving.source_of m) h.1)) (moves_rows ms h.2)

set_rows : (d : Place) (v : ℤ) → MayHold d → CanRead (Imm v) → AllRows (set_code d v)
set_rows (In r) v m w = ((m.there, w), tt)
set_rows (Word k) v m w =
    elim (fits_bits 31 v) as (λ b. fits_bits 31 v ≡ b → AllRows (cond b (StoreImm (frame_mem k) v ∷ []) (MovImm (register 11) v ∷ Store (frame_mem k) (register 11) ∷ []))) [
      | true ↦ λ h. ((frame_row k m.there, fits_32 v h), tt)
      | false ↦ λ h. ((low 11 (omega arith), w), ((frame_row k m.there, low 11 (omega arith)), tt))
    ]
    refl

set_operand_rows : (d : Place) (o : Operand) → MayHold d → CanRead o → AllRows (set_operand d o)
set_operand_rows d (At p) m r = tt
set_operand_rows d (Imm v) m r = set_rows d v m r

constants_rows : (c : Setting) (args : List Arg) (targets : List Place) → ((b : ℕ) → MayHold (c.at b)) → All (IsWordArg c.table) args → AreLawful targets → AllRows (constants_code c args targets)
constants_rows c [] targets m w l = tt
constants_rows c (a ∷ args) [] m w l = tt
constants_rows c (a ∷ args) (target ∷ targets) m w l =
    both (set_operand target (operand_of c a)) (constants_code c args targets) (set_operand_rows target (operand_of c a) l.0 (arg_reads c a m (w 0 a (omega arith)))) (constants_rows c args targets m (λ n x lt. w (suc n) x (omega (arith, lt))) l.1)

jump_rows : (by : Jumps) (c : Setting) (k : ℕ) (args : List Arg) → AreNear by → ((b : ℕ) → MayHold (c.at b)) → All (IsWordArg c.table) args → AreMoved c args → HaveRows by (puts (jump_code c args) ++ Go k ∷ [])
jump_rows by c k args near m w mv =
    let l = lawful c.to mv.lawful in
    slot_rows by (puts (jump_code c args)) (Go k ∷ []) (puts_rows by (jump_code c args) (both (moves_code c.moves) (constants_code c args c.to) (moves_rows c.moves (mv.among may_be (pairs_hold c args c.to m w l))) (constants_rows c args c.to m w l))) (near k, tt)

word_rows : (c : Setting) (operation : OpCode) (r : Option BoxId) (args : List Arg) (ops : List OptOp) → ((b : ℕ) → MayHold (c.at b)) → All (IsWordArg c.table) args → AllRows (word_code c operation r args ops)
word_rows c operation None args ops m w = tt
word_rows c operation (Some r) [] ops m w = tt
word_rows c operation (Some r) (a ∷ []) ops m w = unary_rows (is_lone r ops) operation (c.at r.number) (operand_of c a) (m r.number) (arg_reads c a m (w 0 a (omega arith)))
word_rows c operation (Some r) (a ∷ b ∷ []) ops m w = binary_rows (is_lone r ops) operation (c.at r.number) (operand_of c a) (operand_of c b) (m r.number) (arg_reads c a m (w 0 a (omega arith))) (arg_reads c b m (w 1 b (omega arith)))
word_rows c operation (Some r) (a ∷ b ∷ d ∷ more) ops m w = tt

-- ---- objects

near_rows : (t : Table) (x : ℕ) (i : ℤ) → is_near i ≡ true → spot_offset t (spot.Item x i) < 2 ^ 31
near_rows t x (pos n) e = (let h : n < 0x1000000 = ltb-true n 0x1000000 e in omega arith)
near_rows t x (negsuc n) e = absurd (cc)

item_rows : (t : Table) (x : ℕ) (d : Place) (a i : Operand) → MayHold d → CanRead a → CanRead i → AllRows (item_code t x d a i)
item_rows t x d a (At q) md ra ri = read_items_rows d a (At q) md ra ri
item_rows t x d a (Imm i) md ra ri =
    elim (is_near i) as (λ b. is_near i ≡ b → AllRows (cond b (read_code d a (spot_offset t (spot.Item x i))) (read_item_code d a (Imm i)))) [
      | true ↦ λ e. reads_rows d a (spot_offset t (spot.Item x i)) md ra (near_rows t x i e)
      | false ↦ λ e. read_items_rows d a (Imm i) md ra ri
    ]
    refl

set_item_rows : (t : Table) (x : ℕ) (a i b : Operand) → CanRead a → CanRead i → CanRead b → AllRows (set_item_code t x a i b)
set_item_rows t x a (At q) b ra ri rb = write_items_rows a (At q) b ra ri rb
set_item_rows t x a (Imm i) b ra ri rb =
    elim (is_near i) as (λ y. is_near i ≡ y → AllRows (cond y (write_code a (spot_offset t (spot.Item x i)) b) (write_item_code a (Imm i) b))) [
      | true ↦ λ e. writes_rows a (spot_offset t (spot.Item x i)) b ra rb (near_rows t x i e)
      | false ↦ λ e. write_items_rows a (Imm i) b ra ri rb
    ]
    refl

access_rows : (c : Setting) (k : ℕ) (form : Access) (r : Option BoxId) (args : List Arg) (d : Descr) → ((b : ℕ) → MayHold (c.at b)) → All (IsWordArg c.table) args → IsAccess c.table form r args d → AllRows (access_code c k form r args d ++ call_if (is_host_call form) (result_place c r))
access_rows c k access.GetField (Some r) (a ∷ []) (descr.Field f) m w h = both (read_code (c.at r.number) (operand_of c a) (spot_offset c.table (spot.Field f))) [] (reads_rows (c.at r.number) (operand_of c a) (spot_offset c.table (spot.Field f)) (m r.number) (arg_reads c a m (w 0 a (omega arith))) h) tt
access_rows c k access.SetField None (a ∷ b ∷ []) (descr.Field f) m w h = both (write_code (operand_of c a) (spot_offset c.table (spot.Field f)) (operand_of c b)) [] (writes_rows (operand_of c a) (spot_offset c.table (spot.Field f)) (operand_of c b) (arg_reads c a m (w 0 a (omega arith))) (arg_reads c b m (w 1 b (omega arith))) h) tt
access_rows c k access.GetItem (Some r) (a ∷ i ∷ []) (descr.Array x) m w h = both (item_code c.table x (c.at r.number) (operand_of c a) (operand_of c i)) [] (item_rows c.table x (c.at r.number) (operand_of c a) (operand_of c i) (m r.number) (arg_reads c a m (w 0 a (omega arith))) (arg_reads c i m (w 1 i (omega arith)))) tt
access_rows c k access.SetItem None (a ∷ i ∷ b ∷ []) (descr.Array x) m w h = both (set_item_code c.table x (operand_of c a) (operand_of c i) (operand_of c b)) [] (set_item_rows c.table x (operand_of c a) (operand_of c i) (operand_of c b) (arg_reads c a m (w 0 a (omega arith))) (arg_reads c i m (w 1 i (omega arith))) (arg_reads c b m (w 2 b (omega arith)))) tt
access_rows c k access.Length (Some r) (a ∷ []) (descr.Array x) m w h = both (read_code (c.at r.number) (operand_of c a) 8) [] (reads_rows (c.at r.number) (operand_of c a) 8 (m r.number) (arg_reads c a m (w 0 a (omega arith))) (omega arith)) tt
access_rows c k _ r args d m w h = absurd h

plain_rows : (c : Setting) (k : ℕ) (operation : OpCode) (o : Option Access) (r : Option BoxId) (args : List Arg) (d : Descr) (ops : List OptOp) → ((b : ℕ) → MayHold (c.at b)) → All (IsWordArg c.table) args → IsPlain c.table operation o r args d → AllRows (plain_code c k operation o r args d ops)
plain_rows c k operation None r args d ops m w h = word_rows c operation r args ops m w
plain_rows c k operation (Some form) r args d ops m w h = access_rows c k form r args d m w h

-- ---- calls of the host

called_rows : (c : Setting) (r : Option BoxId) → ((b : ℕ) → MayHold (c.at b)) → AllRows (call_code (result_place c r))
called_rows c None m = (low 11 (omega arith), tt)
called_rows c (Some r) m = (low 11 (omega arith), put_rows (c.at r.number) (register 0) (low 0 (omega arith)) (m r.number))

asked_rows : (c : Setting) (k : ℕ) (form : Access) (r : Option BoxId) (args : List Arg) (d : Descr) → TableServes c.table → ((b : ℕ) → MayHold (c.at b)) → All (IsWordArg c.table) args → IsAskedAs c k form r args d → AllRows (access_code c k form r args d ++ call_if (is_host_call form) (result_place c r))
asked_rows c k access.Structure (Some r) [] (descr.Size n) table m w h =
    ((low 7 (omega arith), header_fits c.table (Size n) table.few), ((low 11 (omega arith), word_of_small (entry_of 1) (omega arith)), called_rows c (Some r) m))
asked_rows c k access.Array (Some r) (a ∷ []) (descr.Array x) table m w h =
    let o = operand_of c a in
    let asks = MovImm (register 7) (pos (header_of c.table (Array x))) ∷ MovImm (register 11) (pos (entry_of 2)) ∷ [] in
    both (new_array_code (header_of c.table (Array x)) o) (call_code (c.at r.number))
    (both (take_code (register 6) o) asks (take_rows (register 6) o (low 6 (omega arith)) (arg_reads c a m (w 0 a (omega arith)))) ((low 7 (omega arith), header_fits c.table (Array x) table.few), ((low 11 (omega arith), word_of_small (entry_of 2) (omega arith)), tt)))
    (called_rows c (Some r) m)
asked_rows c k access.Call r (Func f ∷ args) (descr.Call row) table m w h =
    let c2 = for_call c k args in
    let l = lawful c2.to h.0.lawful in
    let w2 : All (IsWordArg c.table) args = λ n x lt. w (suc n) x (omega (arith, lt)) in
    let f_low : f < 2 ^ 19 = w 0 (Func f) (omega arith) in
    let asks = MovImm (register 10) (pos row) ∷ MovImm (register 11) (pos (entry_of (entry_number f))) ∷ [] in
    both (function_code c k f args row) (call_code (result_place c r))
    (both (jump_code c2 args) asks (both (moves_code c2.moves) (constants_code c2 args c2.to) (moves_rows c2.moves (h.0.among may_be (pairs_hold c2 args c2.to m w2 l))) (constants_rows c2 args c2.to m w2 l))
    ((low 10 (omega arith), word_of_small row h.2), ((low 11 (omega arith), word_of_small (entry_of (entry_number f)) (omega (arith, f_low))), tt)))
    (called_rows c r m)
asked_rows c k _ r args d table m w h = absurd h

plain_asked_rows : (c : Setting) (k : ℕ) (operation : OpCode) (o : Option Access) (r : Option BoxId) (args : List Arg) (d : Descr) (ops : List OptOp) → TableServes c.table → ((b : ℕ) → MayHold (c.at b)) → All (IsWordArg c.table) args → IsAskedIf c k o r args d → AllRows (plain_code c k operation o r args d ops)
plain_asked_rows c k operation None r args d ops table m w h = absurd h
plain_asked_rows c k operation (Some form) r args d ops table m w h = asked_rows c k form r args d table m w h

call_rows : (by : Jumps) (c : Setting) (k : ℕ) (told : Told) (op : OptOp) (ops : List OptOp) → TableServes c.table → ((b : ℕ) → MayHold (c.at b)) → HasWords c.table op → IsAsked c k op → HaveRows by (code_of c k told op ops)
call_rows by c k told (opt.Plain operation r args d) ops table m w h = puts_rows by (plain_code c k operation (access_form operation) r args d ops) (plain_asked_rows c k operation (access_form operation) r args d ops table m w h)
call_rows by c k told (opt.Guard operation args n snap) ops table m w h = absurd h
call_rows by c k told (opt.Exit n snap) ops table m w h = absurd h
call_rows by c k told (opt.Jump to args) ops table m w h = absurd h
call_rows by c k told (opt.Finish value) ops table m w h = absurd h

-- ---- pieces

op_rows : Most → (by : Jumps) (c : Setting) (k : ℕ) (told : Told) (op : OptOp) (ops : List OptOp) → AreNear by → ((b : ℕ) → MayHold (c.at b)) → HasWords c.table op → IsHere c told op → HaveRows by (code_of c k told op ops)
op_rows most by c k told (opt.Plain operation r args d) ops near m w h = puts_rows by (plain_code c k operation (access_form operation) r args d ops) (plain_rows c k operation (access_form operation) r args d ops m w h.0)
op_rows most by c k told (opt.Guard operation args n snap) ops near m w h = guard_rows most by c k told operation args near m w h.0
op_rows most by c k told (opt.Exit n snap) ops near m w h = (near k, tt)
op_rows most by c k told (opt.Jump to args) ops near m w h = jump_rows by c k args near m w h.0
op_rows most by c k told (opt.Finish value) ops near m w h = (near k, tt)

pub chosen_have_rows : Most → ChosenHaveRows
chosen_have_rows most by c k told [] table near m h = tt
chosen_have_rows most by c k told (op ∷ ops) table near m (inl here, w, h) =
    slot_rows by (code_of c k told op ops) (all_code c (k + 1) (told_by op ops) ops) (op_rows most by c k told op ops near m w here) (chosen_have_rows most by c (k + 1) (told_by op ops) ops table near m h)
chosen_have_rows most by c k told (op ∷ ops) table near m (inr asked, w, h) =
    slot_rows by (code_of c k told op ops) (all_code c (k + 1) (told_by op ops) ops) (call_rows by c k told op ops table m w asked) (chosen_have_rows most by c (k + 1) (told_by op ops) ops table near m h)

AreLow : List ℕ → Type 0
AreLow [] = Unit {0}
AreLow (n ∷ more) = (n < 16) × AreLow more

save_rows : (ns : List ℕ) → AreLow ns → AllRows (save_code ns)
unfolding AreLow
save_rows [] h = (tt, tt)
save_rows (n ∷ more) h = ((frame_row n (omega (arith, h.0)), low n h.0), save_rows more h.1)

saved_low : AreLow saved
unfolding AreLow
saved_low = (omega arith, (omega arith, (omega arith, (omega arith, (omega arith, (omega arith, (omega arith, (omega arith, (omega arith, (omega arith, (omega arith, (omega arith, tt))))))))))))

pub exits_have_rows : ExitsHaveRows
exits_have_rows by to exit near few = (
  ((frame_row 0 (omega arith), low 0 (omega arith)), ((low 0 (omega arith), record { sfits = omega arith }), (near, tt))),
  puts_rows by (save_code saved) (save_rows saved saved_low),
)
