-- The code of each operation ends with its jump, if it has one.
use Rattle.std.proofs.Common.{◌≡◌, ◌≢◌, ◌⊎◌, inl, inr, ℕ, ◌+◌, ◌<◌, ◌≤◌, Bool, true, false, Option, Some, None, List, [], ◌∷◌, ◌++◌, length, refl, sym, ap, ◌∙◌, subst, append_assoc, arith}
use Rattle.trace_ops.specs.declared.code.OpCode.{OpCode}
use Rattle.trace_ops.specs.declared.code.OpCode.TheVariants as code
use Rattle.trace_ops.specs.declared.table.ShapeOf.TheVariants.{Size}
use Rattle.trace_ops.specs.declared.trace.Arg.{Arg}
use Rattle.trace_ops.specs.declared.trace.Arg.TheVariants.{Class}
use Rattle.trace_ops.specs.declared.piece.OptOp.{OptOp}
use Rattle.trace_ops.specs.declared.piece.OptOp.TheVariants as opt
use Rattle.arena_objects.specs.Layout.{header_of}
use Rattle.x64_encode.specs.declared.instr.Instr.{Instr}
use Rattle.x64_encode.specs.declared.instr.Cc.{Cc}
use Rattle.x64_encode.specs.declared.instr.Cc.TheVariants as cc_is
use Rattle.asm_select.specs.declared.told.Told.{Told}
use Rattle.asm_select.specs.Slots.{Slot, Put, Leave, Go, puts, size_of, sizes_of, jumps_from}
use Rattle.asm_select.specs.Chosen.{Setting, operand_of, tells, opposite, test_code, compare_code, class_code, nonnull_class_code, plain_code, access_form, jump_code, leave_false, leave_true, guard_code, told_by, code_of, all_code}
use Rattle.asm_select.specs.Ended.{IsGuardHere, IsHere}
use Rattle.asm_select.specs.Asked.{IsAsked, AreChosen}
use Rattle.code_layout.specs.Leading.{JumpIs, IsAway, JumpsOnce}
use Rattle.code_layout.specs.Emitting.{KeysBelow}
use Rattle.code_layout.specs.Chosen.{can_fail, has_jump, ChosenJumps}

-- ---- how the code of an operation ends

data Tail : Type 0 where
  Nothing : Tail
  On : Cc → Tail
  Always : Tail

abbrev tail_slots : Tail → ℕ → List Slot
tail_slots Nothing k = []
tail_slots (On cond) k = Leave cond k ∷ []
tail_slots Always k = Go k ∷ []

abbrev leaves : Tail → Bool
leaves Nothing = false
leaves (On cond) = true
leaves Always = true

record Ends (k : ℕ) (b : Bool) (xs : List Slot) : Type 0 where
  instrs : List Instr
  tail : Tail
  split : xs ≡ puts instrs ++ tail_slots tail k
  left : leaves tail ≡ b

false_ends : (c : Setting) (k : ℕ) (o : Option Cc) (a : Arg) → Ends k true (leave_false c k o a)
false_ends c k (Some cond) a = record { instrs = []; tail = On (opposite cond); split = refl; left = refl }
false_ends c k None a = record { instrs = test_code (operand_of c a); tail = On cc_is.E; split = refl; left = refl }

true_ends : (c : Setting) (k : ℕ) (o : Option Cc) (a : Arg) → Ends k true (leave_true c k o a)
true_ends c k (Some cond) a = record { instrs = []; tail = On cond; split = refl; left = refl }
true_ends c k None a = record { instrs = test_code (operand_of c a); tail = On cc_is.Ne; split = refl; left = refl }

guard_ends : (c : Setting) (k : ℕ) (told : Told) (operation : OpCode) (args : List Arg) → IsGuardHere operation args → Ends k (can_fail operation) (guard_code c k told operation args)
guard_ends c k told code.GuardTrue (a ∷ []) h = false_ends c k (tells told a) a
guard_ends c k told code.GuardFalse (a ∷ []) h = true_ends c k (tells told a) a
guard_ends c k told code.GuardNonnull (a ∷ []) h = false_ends c k None a
guard_ends c k told code.GuardIsnull (a ∷ []) h = true_ends c k None a
guard_ends c k told code.GuardValue (a ∷ b ∷ []) h = record { instrs = compare_code (operand_of c a) (operand_of c b); tail = On cc_is.Ne; split = refl; left = refl }
guard_ends c k told code.GuardClass (a ∷ Class n ∷ []) h = record { instrs = class_code (operand_of c a) (header_of c.table (Size n)); tail = On cc_is.Ne; split = refl; left = refl }
guard_ends c k told code.GuardNonnullClass (a ∷ Class n ∷ []) h = record { instrs = nonnull_class_code (operand_of c a) (header_of c.table (Size n)); tail = On cc_is.Ne; split = refl; left = refl }
guard_ends c k told code.GuardNoOverflow args h = record { instrs = []; tail = On cc_is.O; split = refl; left = refl }
guard_ends c k told code.GuardOverflow args h = record { instrs = []; tail = On cc_is.No; split = refl; left = refl }
guard_ends c k told code.GuardNoException args h = record { instrs = []; tail = Nothing; split = refl; left = refl }
guard_ends c k told operation args h = absurd h

plain_ends : (k : ℕ) (is : List Instr) → Ends k false (puts is)
plain_ends k is = record { instrs = is; tail = Nothing; split = no_more is; left = refl }
  where
    no_more : (is : List Instr) → puts is ≡ puts is ++ []
    no_more [] = refl
    no_more (i ∷ more) = ap (λ (l : List Slot). Put i ∷ l) (no_more more)

op_ends : (c : Setting) (k : ℕ) (told : Told) (op : OptOp) (ops : List OptOp) → IsHere c told op ⊎ IsAsked c k op → Ends k (has_jump op) (code_of c k told op ops)
op_ends c k told (opt.Plain operation r args d) ops h = plain_ends k (plain_code c k operation (access_form operation) r args d ops)
op_ends c k told (opt.Guard operation args n snap) ops (inl h) = guard_ends c k told operation args h.0
op_ends c k told (opt.Guard operation args n snap) ops (inr h) = absurd h
op_ends c k told (opt.Exit n snap) ops h = record { instrs = []; tail = Always; split = refl; left = refl }
op_ends c k told (opt.Jump to args) ops h = record { instrs = jump_code c args; tail = Always; split = refl; left = refl }
op_ends c k told (opt.Finish value) ops h = record { instrs = []; tail = Always; split = refl; left = refl }

-- ---- keys from a number on and below another one

abbrev AllFrom : ℕ → List Slot → Type 0
AllFrom m [] = Unit {0}
AllFrom m (Put i ∷ xs) = AllFrom m xs
AllFrom m (Leave cond k ∷ xs) = (m ≤ k) × AllFrom m xs
AllFrom m (Go k ∷ xs) = (m ≤ k) × AllFrom m xs

abbrev AllBelow : ℕ → List Slot → Type 0
AllBelow m [] = Unit {0}
AllBelow m (Put i ∷ xs) = AllBelow m xs
AllBelow m (Leave cond k ∷ xs) = (k < m) × AllBelow m xs
AllBelow m (Go k ∷ xs) = (k < m) × AllBelow m xs

from_less : (m n : ℕ) (xs : List Slot) → n ≤ m → AllFrom m xs → AllFrom n xs
from_less m n [] le h = tt
from_less m n (Put i ∷ xs) le h = from_less m n xs le h
from_less m n (Leave cond k ∷ xs) le h = (omega (arith, le, h.0), from_less m n xs le h.1)
from_less m n (Go k ∷ xs) le h = (omega (arith, le, h.0), from_less m n xs le h.1)

apart : (j k m : ℕ) → k < m → m ≤ j → j ≢ k
apart j k m lt le e = omega (arith, lt, le, e)

away : (k m : ℕ) (xs : List Slot) → k < m → AllFrom m xs → IsAway k xs
away k m [] lt h = tt
away k m (Put i ∷ xs) lt h = away k m xs lt h
away k m (Leave cond j ∷ xs) lt h = (apart j k m lt h.0, away k m xs lt h.1)
away k m (Go j ∷ xs) lt h = (apart j k m lt h.0, away k m xs lt h.1)

keys_below : (m n : ℕ) (xs : List Slot) → AllBelow m xs → KeysBelow m (jumps_from n xs)
keys_below m n [] h = tt
keys_below m n (Put i ∷ xs) h = keys_below m (n + 1) xs h
keys_below m n (Leave cond k ∷ xs) h = (h.0, keys_below m (n + 1) xs h.1)
keys_below m n (Go k ∷ xs) h = (h.0, keys_below m (n + 1) xs h.1)

-- ---- behind instructions, and behind an operation's end

puts_from : (m : ℕ) (is : List Instr) (ys : List Slot) → AllFrom m ys → AllFrom m (puts is ++ ys)
puts_from m [] ys h = h
puts_from m (i ∷ is) ys h = puts_from m is ys h

puts_below : (m : ℕ) (is : List Instr) (ys : List Slot) → AllBelow m ys → AllBelow m (puts is ++ ys)
puts_below m [] ys h = h
puts_below m (i ∷ is) ys h = puts_below m is ys h

puts_once : (is : List Instr) (ys : List Slot) → JumpsOnce ys → JumpsOnce (puts is ++ ys)
puts_once [] ys h = h
puts_once (i ∷ is) ys h = puts_once is ys h

tail_from : (t : Tail) (k m : ℕ) (ys : List Slot) → m ≤ k → AllFrom m ys → AllFrom m (tail_slots t k ++ ys)
tail_from Nothing k m ys le h = h
tail_from (On cond) k m ys le h = (le, h)
tail_from Always k m ys le h = (le, h)

tail_below : (t : Tail) (k m : ℕ) (ys : List Slot) → k < m → AllBelow m ys → AllBelow m (tail_slots t k ++ ys)
tail_below Nothing k m ys lt h = h
tail_below (On cond) k m ys lt h = (lt, h)
tail_below Always k m ys lt h = (lt, h)

tail_once : (t : Tail) (k m : ℕ) (ys : List Slot) → k < m → AllFrom m ys → JumpsOnce ys → JumpsOnce (tail_slots t k ++ ys)
tail_once Nothing k m ys lt from h = h
tail_once (On cond) k m ys lt from h = (away k m ys lt from, h)
tail_once Always k m ys lt from h = (away k m ys lt from, h)

is_behind : (k at p : ℕ) (xs ys : List Slot) → JumpIs k at (p + sizes_of xs) ys → JumpIs k at p (xs ++ ys)
is_behind k at p [] ys h = let n : p + 0 ≡ p = omega arith in subst (λ (q : ℕ). JumpIs k at q ys) n h
is_behind k at p (Put i ∷ xs) ys h =
    let n : p + sizes_of (Put i ∷ xs) ≡ p + size_of (Put i) + sizes_of xs = omega arith in
    is_behind k at (p + size_of (Put i)) xs ys (subst (λ (q : ℕ). JumpIs k at q ys) n h)
is_behind k at p (Leave cond j ∷ xs) ys h =
    let n : p + sizes_of (Leave cond j ∷ xs) ≡ p + 6 + sizes_of xs = omega arith in
    inr (is_behind k at (p + 6) xs ys (subst (λ (q : ℕ). JumpIs k at q ys) n h))
is_behind k at p (Go j ∷ xs) ys h =
    let n : p + sizes_of (Go j ∷ xs) ≡ p + 5 + sizes_of xs = omega arith in
    inr (is_behind k at (p + 5) xs ys (subst (λ (q : ℕ). JumpIs k at q ys) n h))

tail_is : (t : Tail) (k p : ℕ) (ys : List Slot) → leaves t ≡ true → (at : ℕ) × JumpIs k at p (tail_slots t k ++ ys)
tail_is Nothing k p ys e = absurd (cc)
tail_is (On cond) k p ys e = (p + 2, inl (refl, refl))
tail_is Always k p ys e = (p + 1, inl (refl, refl))

-- ---- all operations

whole : (k : ℕ) (b : Bool) (xs ys : List Slot) (e : Ends k b xs) → xs ++ ys ≡ puts e.instrs ++ (tail_slots e.tail k ++ ys)
whole k b xs ys e = ap (λ (l : List Slot). l ++ ys) e.split ∙ append_assoc (puts e.instrs) (tail_slots e.tail k) ys

all_from : (c : Setting) (k : ℕ) (told : Told) (ops : List OptOp) → AreChosen c k told ops → AllFrom k (all_code c k told ops)
all_from c k told [] h = tt
all_from c k told (op ∷ ops) h =
    let e = op_ends c k told op ops h.0 in
    let rest = all_code c (k + 1) (told_by op ops) ops in
    let r = from_less (k + 1) k rest (omega arith) (all_from c (k + 1) (told_by op ops) ops h.2) in
    subst (AllFrom k) (sym (whole k (has_jump op) (code_of c k told op ops) rest e)) (puts_from k e.instrs (tail_slots e.tail k ++ rest) (tail_from e.tail k k rest (omega arith) r))

all_below : (c : Setting) (k m : ℕ) (told : Told) (ops : List OptOp) → AreChosen c k told ops → k + length ops ≤ m → AllBelow m (all_code c k told ops)
all_below c k m told [] h le = tt
all_below c k m told (op ∷ ops) h le =
    let e = op_ends c k told op ops h.0 in
    let rest = all_code c (k + 1) (told_by op ops) ops in
    let r = all_below c (k + 1) m (told_by op ops) ops h.2 (omega (arith, le)) in
    subst (AllBelow m) (sym (whole k (has_jump op) (code_of c k told op ops) rest e)) (puts_below m e.instrs (tail_slots e.tail k ++ rest) (tail_below e.tail k m rest (omega (arith, le)) r))

all_once : (c : Setting) (k : ℕ) (told : Told) (ops : List OptOp) → AreChosen c k told ops → JumpsOnce (all_code c k told ops)
all_once c k told [] h = tt
all_once c k told (op ∷ ops) h =
    let e = op_ends c k told op ops h.0 in
    let rest = all_code c (k + 1) (told_by op ops) ops in
    let r = all_once c (k + 1) (told_by op ops) ops h.2 in
    subst JumpsOnce (sym (whole k (has_jump op) (code_of c k told op ops) rest e)) (puts_once e.instrs (tail_slots e.tail k ++ rest) (tail_once e.tail k (k + 1) rest (omega arith) (all_from c (k + 1) (told_by op ops) ops h.2) r))

abbrev Found : ℕ → ℕ → List Slot → Type 0
Found k p xs = (at : ℕ) × JumpIs k at p xs

each_has : (c : Setting) (k : ℕ) (told : Told) (done rest : List OptOp) (op : OptOp) (p : ℕ) → AreChosen c k told (done ++ op ∷ rest) → has_jump op ≡ true → Found (k + length done) p (all_code c k told (done ++ op ∷ rest))
each_has c k told [] rest op p h e =
    let s = op_ends c k told op rest h.0 in
    let more = all_code c (k + 1) (told_by op rest) rest in
    let n : k ≡ k + 0 = omega arith in
    let f = tail_is s.tail k (p + sizes_of (puts s.instrs)) more (s.left ∙ e) in
    let g : Found k p (code_of c k told op rest ++ more) = subst (Found k p) (sym (whole k (has_jump op) (code_of c k told op rest) more s)) (f.0, is_behind k f.0 p (puts s.instrs) (tail_slots s.tail k ++ more) f.1) in
    subst (λ (j : ℕ). Found j p (code_of c k told op rest ++ more)) n g
each_has c k told (d ∷ done) rest op p h e =
    let here = code_of c k told d (done ++ op ∷ rest) in
    let more = all_code c (k + 1) (told_by d (done ++ op ∷ rest)) (done ++ op ∷ rest) in
    let f = each_has c (k + 1) (told_by d (done ++ op ∷ rest)) done rest op (p + sizes_of here) h.2 e in
    let n : k + 1 + length done ≡ k + length (d ∷ done) = omega arith in
    subst (λ (j : ℕ). Found j p (here ++ more)) n (f.0, is_behind (k + 1 + length done) f.0 p here more f.1)

pub chosen_jumps : ChosenJumps
chosen_jumps c k told ops h = record {
  once = all_once c k told ops h;
  below = λ n. keys_below (k + length ops) n (all_code c k told ops) (all_below c k (k + length ops) told ops h (omega arith));
  each = λ done rest op p split e. has done rest op p ops split h e;
}
  where
    has : (done rest : List OptOp) (op : OptOp) (p : ℕ) (ops : List OptOp) → ops ≡ done ++ op ∷ rest → AreChosen c k told ops → has_jump op ≡ true → Found (k + length done) p (all_code c k told ops)
    has done rest op p ops split h e = subst (λ (l : List OptOp). Found (k + length done) p (all_code c k told l)) (sym split) (each_has c k told done rest op p (subst (AreChosen c k told) split h) e)
