-- The code of operations under other keys: the same slots, but for the keys.
use Rattle.std.proofs.Common.{◌≡◌, ℕ, ◌+◌, Option, Some, None, List, [], ◌∷◌, ◌++◌, map, refl, sym, ap, ◌∙◌, arith, pos}
use Rattle.std.proofs.lemmas.List.{map-append}
use Rattle.trace_ops.specs.declared.code.OpCode.{OpCode}
use Rattle.trace_ops.specs.declared.code.OpCode.TheVariants as code
use Rattle.trace_ops.specs.declared.trace.BoxId.{BoxId}
use Rattle.trace_ops.specs.declared.trace.Arg.{Arg}
use Rattle.trace_ops.specs.declared.trace.Arg.TheVariants.{Of, Const, Null, Class, Func, Ptr}
use Rattle.trace_ops.specs.declared.trace.Descr.{Descr}
use Rattle.trace_ops.specs.declared.trace.Descr.TheVariants as descr
use Rattle.trace_ops.specs.declared.table.ShapeOf.TheVariants.{Size, Array}
use Rattle.trace_ops.specs.declared.piece.Spot.TheVariants as spot
use Rattle.trace_ops.specs.declared.piece.OptOp.{OptOp}
use Rattle.trace_ops.specs.declared.piece.OptOp.TheVariants as opt
use Rattle.target_base.specs.declared.place.Place.{Place}
use Rattle.parallel_move.specs.declared.moving.Move.{Move}
use Rattle.x64_encode.specs.declared.instr.Cc.{Cc}
use Rattle.x64_encode.specs.declared.instr.Cc.TheVariants as cc_is
use Rattle.x64_encode.specs.declared.instr.Instr.{Instr}
use Rattle.x64_encode.specs.declared.instr.Instr.TheVariants.{MovImm}
use Rattle.guard_exit.specs.Codes.{register}
use Rattle.arena_objects.specs.Layout.{header_of}
use Rattle.arena_objects.specs.Spots.{spot_offset}
use Rattle.asm_select.specs.declared.form.Access.{Access}
use Rattle.asm_select.specs.declared.form.Access.TheVariants as access
use Rattle.asm_select.specs.declared.operand.Operand.{Operand}
use Rattle.asm_select.specs.declared.told.Told.{Told}
use Rattle.asm_select.specs.Slots.{Slot, Put, Leave, Go, puts}
use Rattle.asm_select.specs.Chosen.{Setting, operand_of, entry_of, entry_number, read_code, write_code, item_code, set_item_code, new_array_code, call_if, is_host_call, unary_form, binary_form, access_form, unary_code, binary_code, is_lone, compare_code, test_code, class_code, nonnull_class_code, tells, told_by, set_operand, moves_code, constants_code, jump_code, word_code, for_call, result_place, access_code, function_code, plain_code, leave_false, leave_true, guard_code, code_of, all_code}

-- the slot, with a key that is so much greater
abbrev pub rekeyed : ℕ → Slot → Slot
rekeyed n (Put i) = Put i
rekeyed n (Leave cond k) = Leave cond (n + k)
rekeyed n (Go k) = Go (n + k)

-- the setting with other moves
abbrev pub over : Setting → List Move → (ℕ → List Move) → Setting
over c ms f = record c { moves = ms; call_moves = f }

-- ---- what doesn't depend on keys

operand_same : (c : Setting) (ms : List Move) (f : ℕ → List Move) (a : Arg) → operand_of (over c ms f) a ≡ operand_of c a
operand_same c ms f (Of b) = refl
operand_same c ms f (Const w) = refl
operand_same c ms f Null = refl
operand_same c ms f (Class n) = refl
operand_same c ms f (Func n) = refl
operand_same c ms f (Ptr n) = refl

one_same : {X : Type 0} (g : Operand → X) (c : Setting) (ms : List Move) (f : ℕ → List Move) (a : Arg) → g (operand_of (over c ms f) a) ≡ g (operand_of c a)
one_same g c ms f a = ap g (operand_same c ms f a)

two_same : {X : Type 0} (g : Operand → Operand → X) (c : Setting) (ms : List Move) (f : ℕ → List Move) (a b : Arg) → g (operand_of (over c ms f) a) (operand_of (over c ms f) b) ≡ g (operand_of c a) (operand_of c b)
two_same g c ms f a b =
    ap (λ (o : Operand). g o (operand_of (over c ms f) b)) (operand_same c ms f a) ∙ ap (g (operand_of c a)) (operand_same c ms f b)

constants_same : (c : Setting) (ms : List Move) (f : ℕ → List Move) (args : List Arg) (targets : List Place) → constants_code (over c ms f) args targets ≡ constants_code c args targets
constants_same c ms f [] targets = refl
constants_same c ms f (a ∷ args) [] = refl
constants_same c ms f (a ∷ args) (p ∷ ps) =
    ap (λ (l : List Instr). l ++ constants_code (over c ms f) args ps) (one_same (set_operand p) c ms f a)
    ∙ ap (λ (l : List Instr). set_operand p (operand_of c a) ++ l) (constants_same c ms f args ps)

jump_same : (c : Setting) (ms : List Move) (f : ℕ → List Move) (args : List Arg) → ms ≡ c.moves → jump_code (over c ms f) args ≡ jump_code c args
jump_same c ms f args e =
    ap (λ (l : List Move). moves_code l ++ constants_code (over c ms f) args c.to) e
    ∙ ap (λ (l : List Instr). moves_code c.moves ++ l) (constants_same c ms f args c.to)

word_same : (c : Setting) (ms : List Move) (f : ℕ → List Move) (operation : OpCode) (r : Option BoxId) (args : List Arg) (ops : List OptOp) → word_code (over c ms f) operation r args ops ≡ word_code c operation r args ops
word_same c ms f operation None args ops = refl
word_same c ms f operation (Some r) [] ops = refl
word_same c ms f operation (Some r) (a ∷ []) ops = one_same (unary_code (is_lone r ops) (unary_form operation) (c.at r.number)) c ms f a
word_same c ms f operation (Some r) (a ∷ b ∷ []) ops = two_same (binary_code (is_lone r ops) (binary_form operation) (c.at r.number)) c ms f a b
word_same c ms f operation (Some r) (a ∷ b ∷ x ∷ more) ops = refl

result_same : (c : Setting) (ms : List Move) (f : ℕ → List Move) (r : Option BoxId) → result_place (over c ms f) r ≡ result_place c r
result_same c ms f None = refl
result_same c ms f (Some r) = refl

-- ---- operations on objects

function_same : (c : Setting) (f : ℕ → List Move) (n k g : ℕ) (args : List Arg) (row : ℕ) → f (n + k) ≡ c.call_moves k → function_code (over c c.moves f) (n + k) g args row ≡ function_code c k g args row
function_same c f n k g args row e =
    ap (λ (l : List Instr). l ++ (MovImm (register 10) (pos row) ∷ MovImm (register 11) (pos (entry_of (entry_number g))) ∷ []))
    (jump_same (for_call c k args) (f (n + k)) f args e)

access_same : (c : Setting) (f : ℕ → List Move) (n k : ℕ) (form : Access) (r : Option BoxId) (args : List Arg) (d : Descr) → f (n + k) ≡ c.call_moves k → access_code (over c c.moves f) (n + k) form r args d ≡ access_code c k form r args d
access_same c f n k access.GetField (Some r) (a ∷ []) (descr.Field x) e = one_same (λ (o : Operand). read_code (c.at r.number) o (spot_offset c.table (spot.Field x))) c c.moves f a
access_same c f n k access.SetField None (a ∷ b ∷ []) (descr.Field x) e = two_same (λ (o q : Operand). write_code o (spot_offset c.table (spot.Field x)) q) c c.moves f a b
access_same c f n k access.GetItem (Some r) (a ∷ i ∷ []) (descr.Array x) e = two_same (item_code c.table x (c.at r.number)) c c.moves f a i
access_same c f n k access.SetItem None (a ∷ i ∷ b ∷ []) (descr.Array x) e =
    two_same (λ (o q : Operand). set_item_code c.table x o q (operand_of (over c c.moves f) b)) c c.moves f a i
    ∙ one_same (set_item_code c.table x (operand_of c a) (operand_of c i)) c c.moves f b
access_same c f n k access.Length (Some r) (a ∷ []) (descr.Array x) e = one_same (λ (o : Operand). read_code (c.at r.number) o 8) c c.moves f a
access_same c f n k access.Structure (Some r) [] (descr.Size x) e = refl
access_same c f n k access.Array (Some r) (a ∷ []) (descr.Array x) e = one_same (new_array_code (header_of c.table (Array x))) c c.moves f a
access_same c f n k access.Call r (Func g ∷ args) (descr.Call row) e = function_same c f n k g args row e
access_same c f n k form r args d e = refl

plain_same : (c : Setting) (f : ℕ → List Move) (n k : ℕ) (operation : OpCode) (o : Option Access) (r : Option BoxId) (args : List Arg) (d : Descr) (ops : List OptOp) → f (n + k) ≡ c.call_moves k → plain_code (over c c.moves f) (n + k) operation o r args d ops ≡ plain_code c k operation o r args d ops
plain_same c f n k operation None r args d ops e = word_same c c.moves f operation r args ops
plain_same c f n k operation (Some form) r args d ops e =
    ap (λ (l : List Instr). l ++ call_if (is_host_call form) (result_place (over c c.moves f) r)) (access_same c f n k form r args d e)
    ∙ ap (λ (p : Place). access_code c k form r args d ++ call_if (is_host_call form) p) (result_same c c.moves f r)

-- ---- slots

puts_same : (n : ℕ) (xs : List Instr) → map (rekeyed n) (puts xs) ≡ puts xs
puts_same n [] = refl
puts_same n (x ∷ xs) = ap (λ (l : List Slot). Put x ∷ l) (puts_same n xs)

behind_puts : (n : ℕ) (xs : List Instr) (x y : Slot) → rekeyed n x ≡ y → puts xs ++ y ∷ [] ≡ map (rekeyed n) (puts xs ++ x ∷ [])
behind_puts n xs x y e =
    ap (λ (z : Slot). puts xs ++ z ∷ []) (sym e)
    ∙ ap (λ (l : List Slot). l ++ rekeyed n x ∷ []) (sym (puts_same n xs))
    ∙ sym (map-append (rekeyed n) (puts xs) (x ∷ []))

-- instructions that are the same, and behind them a jump
leaves_same : (n k : ℕ) (cond : Cc) (xs ys : List Instr) → ys ≡ xs → puts ys ++ Leave cond (n + k) ∷ [] ≡ map (rekeyed n) (puts xs ++ Leave cond k ∷ [])
leaves_same n k cond xs ys e =
    ap (λ (l : List Instr). puts l ++ Leave cond (n + k) ∷ []) e ∙ behind_puts n xs (Leave cond k) (Leave cond (n + k)) refl

false_same : (c : Setting) (f : ℕ → List Move) (n k : ℕ) (o : Option Cc) (a : Arg) → leave_false (over c c.moves f) (n + k) o a ≡ map (rekeyed n) (leave_false c k o a)
false_same c f n k (Some cond) a = refl
false_same c f n k None a = leaves_same n k cc_is.E _ _ (one_same test_code c c.moves f a)

true_same : (c : Setting) (f : ℕ → List Move) (n k : ℕ) (o : Option Cc) (a : Arg) → leave_true (over c c.moves f) (n + k) o a ≡ map (rekeyed n) (leave_true c k o a)
true_same c f n k (Some cond) a = refl
true_same c f n k None a = leaves_same n k cc_is.Ne _ _ (one_same test_code c c.moves f a)

guard_same : (c : Setting) (f : ℕ → List Move) (n k : ℕ) (told : Told) (operation : OpCode) (args : List Arg) → guard_code (over c c.moves f) (n + k) told operation args ≡ map (rekeyed n) (guard_code c k told operation args)
guard_same c f n k told code.GuardTrue (a ∷ []) = false_same c f n k (tells told a) a
guard_same c f n k told code.GuardFalse (a ∷ []) = true_same c f n k (tells told a) a
guard_same c f n k told code.GuardNonnull (a ∷ []) = false_same c f n k None a
guard_same c f n k told code.GuardIsnull (a ∷ []) = true_same c f n k None a
guard_same c f n k told code.GuardValue (a ∷ b ∷ []) = leaves_same n k cc_is.Ne _ _ (two_same compare_code c c.moves f a b)
guard_same c f n k told code.GuardClass (a ∷ Class x ∷ []) = leaves_same n k cc_is.Ne _ _ (one_same (λ (o : Operand). class_code o (header_of c.table (Size x))) c c.moves f a)
guard_same c f n k told code.GuardNonnullClass (a ∷ Class x ∷ []) = leaves_same n k cc_is.Ne _ _ (one_same (λ (o : Operand). nonnull_class_code o (header_of c.table (Size x))) c c.moves f a)
guard_same c f n k told code.GuardNoOverflow args = refl
guard_same c f n k told code.GuardOverflow args = refl
guard_same c f n k told operation args = refl

code_same : (c : Setting) (f : ℕ → List Move) (n k : ℕ) (told : Told) (op : OptOp) (ops : List OptOp) → f (n + k) ≡ c.call_moves k → code_of (over c c.moves f) (n + k) told op ops ≡ map (rekeyed n) (code_of c k told op ops)
code_same c f n k told (opt.Plain operation r args d) ops e =
    ap puts (plain_same c f n k operation (access_form operation) r args d ops e) ∙ sym (puts_same n (plain_code c k operation (access_form operation) r args d ops))
code_same c f n k told (opt.Guard operation args x snap) ops e = guard_same c f n k told operation args
code_same c f n k told (opt.Exit x snap) ops e = refl
code_same c f n k told (opt.Jump to args) ops e =
    ap (λ (l : List Instr). puts l ++ Go (n + k) ∷ []) (jump_same c c.moves f args refl) ∙ behind_puts n (jump_code c args) (Go k) (Go (n + k)) refl
code_same c f n k told (opt.Finish value) ops e = refl

pub all_same : (c : Setting) (f : ℕ → List Move) (n k : ℕ) (told : Told) (ops : List OptOp) → ((j : ℕ) → f (n + j) ≡ c.call_moves j) → all_code (over c c.moves f) (n + k) told ops ≡ map (rekeyed n) (all_code c k told ops)
all_same c f n k told [] e = refl
all_same c f n k told (op ∷ ops) e =
    let d = over c c.moves f in
    let next : n + k + 1 ≡ n + (k + 1) = omega arith in
    let rest = all_code c (k + 1) (told_by op ops) ops in
    ap (λ (l : List Slot). l ++ all_code d (n + k + 1) (told_by op ops) ops) (code_same c f n k told op ops (e k))
    ∙ ap (λ (j : ℕ). map (rekeyed n) (code_of c k told op ops) ++ all_code d j (told_by op ops) ops) next
    ∙ ap (λ (l : List Slot). map (rekeyed n) (code_of c k told op ops) ++ l) (all_same c f n (k + 1) (told_by op ops) ops e)
    ∙ sym (map-append (rekeyed n) (code_of c k told op ops) rest)
