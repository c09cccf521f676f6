-- The code of operations, one behind the other.
use Rattle.std.proofs.Common.{◌≡◌, ℕ, suc, ◌+◌, ◌<◌, ◌≤◌, Option, Some, None, List, [], ◌∷◌, ◌++◌, length, drop, get_or, refl, sym, ap, subst, ◌∙◌, arith, drop-cons, append_assoc, append-nil, pos}
use Rattle.std.specs.Prelude.{slice_get}
use Rattle.std.proofs.lemmas.List.{length-append}
use Rattle.std.proofs.lemmas.Option.{slice_get_within, get_or_from_slice_get}
use Rattle.trace_ops.specs.declared.code.OpCode.{OpCode}
use Rattle.trace_ops.specs.declared.code.OpCode.TheVariants as code
use Rattle.trace_ops.specs.declared.trace.Arg.{Arg}
use Rattle.trace_ops.specs.declared.trace.Arg.TheVariants.{Of, Const, Null, Class, Func, Ptr}
use Rattle.trace_ops.specs.declared.piece.OptOp.{OptOp}
use Rattle.trace_ops.specs.declared.piece.OptOp.TheVariants as opt
use Rattle.trace_ops.specs.declared.table.ShapeOf.TheVariants.{Size}
use Rattle.x64_encode.specs.declared.instr.Cc.{Cc}
use Rattle.x64_encode.specs.declared.instr.Cc.TheVariants as cc_is
use Rattle.x64_encode.specs.declared.instr.Instr.{Instr}
use Rattle.x64_encode.specs.declared.instr.Instr.TheVariants.{Jcc, Jmp}
use Rattle.arena_objects.specs.Layout.{header_of}
use Rattle.asm_select.specs.declared.told.Told.{Told}
use Rattle.asm_select.specs.declared.told.Told.TheVariants as tell
use Rattle.asm_select.specs.Slots.{Slot, Put, Leave, Go, puts, instr_of, unset, instrs_of, jumps_from}
use Rattle.asm_select.specs.Chosen.{Setting, operand_of, test_code, compare_code, class_code, nonnull_class_code, jump_code, tells, leave_false, leave_true, guard_code, plain_code, access_form, told_by, code_of, all_code, starts_from}
use Rattle.asm_select.specs.declared.selected.Selected.{Selected}
use Rattle.asm_select.specs.Selecting.{IsCodeOf}
use Rattle.asm_select.proofs.Pushes.{none_left}
use Rattle.asm_select.specs.Drafting.{Drafted, with_start, with_instrs, with_jump, with_leave, with_leave_false, with_leave_true, with_bare, with_one, with_class, with_nonnull_class, with_two, with_guard, with_body, with_op}

-- ---- slots as lists of instructions and of jumps

instrs-append : (xs ys : List Slot) → instrs_of (xs ++ ys) ≡ instrs_of xs ++ instrs_of ys
instrs-append [] ys = refl
instrs-append (x ∷ xs) ys = ap (λ (l : List Instr). instr_of unset x ∷ l) (instrs-append xs ys)

instrs-puts : (xs : List Instr) → instrs_of (puts xs) ≡ xs
instrs-puts [] = refl
instrs-puts (x ∷ xs) = ap (λ (l : List Instr). x ∷ l) (instrs-puts xs)

length-instrs : (xs : List Slot) → length (instrs_of xs) ≡ length xs
length-instrs [] = refl
length-instrs (x ∷ xs) = ap suc (length-instrs xs)

length-puts : (xs : List Instr) → length (puts xs) ≡ length xs
length-puts [] = refl
length-puts (x ∷ xs) = ap suc (length-puts xs)

jumps-append : (n : ℕ) (xs ys : List Slot) → jumps_from n (xs ++ ys) ≡ jumps_from n xs ++ jumps_from (n + length xs) ys
jumps-append n [] ys = let e : n ≡ n + 0 = omega arith in ap (λ (k : ℕ). jumps_from k ys) e
jumps-append n (Put i ∷ xs) ys = let e : n + 1 + length xs ≡ n + suc (length xs) = omega arith in jumps-append (n + 1) xs ys ∙ ap (λ (k : ℕ). jumps_from (n + 1) xs ++ jumps_from k ys) e
jumps-append n (Leave c k ∷ xs) ys = let e : n + 1 + length xs ≡ n + suc (length xs) = omega arith in ap (λ (l : List (ℕ × ℕ)). (n, k) ∷ l) (jumps-append (n + 1) xs ys ∙ ap (λ (m : ℕ). jumps_from (n + 1) xs ++ jumps_from m ys) e)
jumps-append n (Go k ∷ xs) ys = let e : n + 1 + length xs ≡ n + suc (length xs) = omega arith in ap (λ (l : List (ℕ × ℕ)). (n, k) ∷ l) (jumps-append (n + 1) xs ys ∙ ap (λ (m : ℕ). jumps_from (n + 1) xs ++ jumps_from m ys) e)

jumps-puts : (n : ℕ) (xs : List Instr) → jumps_from n (puts xs) ≡ []
jumps-puts n [] = refl
jumps-puts n (x ∷ xs) = jumps-puts (n + 1) xs

-- ---- what one operation appends

-- these slots come next
abbrev pub with_slots : List Slot → Drafted → Drafted
with_slots xs d = record { instrs = d.instrs ++ instrs_of xs; starts = d.starts; jumps = d.jumps ++ jumps_from (length d.instrs) xs }

abbrev draft_of : List ℕ → List Instr → List (ℕ × ℕ) → Drafted
draft_of s is js = record { instrs = is; starts = s; jumps = js }

same_draft : (s : List ℕ) (a b : List Instr) (i j : List (ℕ × ℕ)) → a ≡ b → i ≡ j → draft_of s a i ≡ draft_of s b j
same_draft s a b i j e f = λ t. record { instrs = e t; starts = s; jumps = f t }

none_slots : (d : Drafted) → d ≡ with_slots [] d
none_slots d = same_draft d.starts d.instrs (d.instrs ++ []) d.jumps (d.jumps ++ []) (sym (append-nil d.instrs)) (sym (append-nil d.jumps))

put_slots : (xs : List Instr) (d : Drafted) → with_instrs xs d ≡ with_slots (puts xs) d
put_slots xs d =
    same_draft d.starts (d.instrs ++ xs) (d.instrs ++ instrs_of (puts xs)) d.jumps (d.jumps ++ jumps_from (length d.instrs) (puts xs))
    (ap (λ (l : List Instr). d.instrs ++ l) (sym (instrs-puts xs)))
    (sym (ap (λ (l : List (ℕ × ℕ)). d.jumps ++ l) (jumps-puts (length d.instrs) xs) ∙ append-nil d.jumps))

-- instructions, and behind them a slot that is a jump
jump_slots : (xs : List Instr) (x : Slot) (i : Instr) (k : ℕ) (d : Drafted) → instr_of unset x ≡ i → ((n : ℕ) → jumps_from n (x ∷ []) ≡ (n, k) ∷ []) → with_jump i k (with_instrs xs d) ≡ with_slots (puts xs ++ x ∷ []) d
jump_slots xs x i k d same one =
    let n = length d.instrs in
    same_draft d.starts ((d.instrs ++ xs) ++ i ∷ []) (d.instrs ++ instrs_of (puts xs ++ x ∷ [])) (d.jumps ++ (length (d.instrs ++ xs), k) ∷ []) (d.jumps ++ jumps_from n (puts xs ++ x ∷ []))
    (append_assoc d.instrs xs (i ∷ []) ∙ ap (λ (j : Instr). d.instrs ++ (xs ++ j ∷ [])) (sym same) ∙ ap (λ (l : List Instr). d.instrs ++ (l ++ instr_of unset x ∷ [])) (sym (instrs-puts xs)) ∙ ap (λ (l : List Instr). d.instrs ++ l) (sym (instrs-append (puts xs) (x ∷ []))))
    (ap (λ (m : ℕ). d.jumps ++ (m, k) ∷ []) (length-append d.instrs xs ∙ ap (λ (m : ℕ). n + m) (sym (length-puts xs)))
    ∙ ap (λ (l : List (ℕ × ℕ)). d.jumps ++ l) (sym (one (n + length (puts xs)))) ∙ ap (λ (l : List (ℕ × ℕ)). d.jumps ++ (l ++ jumps_from (n + length (puts xs)) (x ∷ []))) (sym (jumps-puts n xs))
    ∙ ap (λ (l : List (ℕ × ℕ)). d.jumps ++ l) (sym (jumps-append n (puts xs) (x ∷ []))))

leave_slots : (xs : List Instr) (cond : Cc) (k : ℕ) (d : Drafted) → with_leave cond k (with_instrs xs d) ≡ with_slots (puts xs ++ Leave cond k ∷ []) d
leave_slots xs cond k d = jump_slots xs (Leave cond k) (Jcc cond (pos 0)) k d refl (λ n. refl)

false_slots : (c : Setting) (k : ℕ) (told : Option Cc) (a : Arg) (d : Drafted) → with_leave_false c k told a d ≡ with_slots (leave_false c k told a) d
false_slots c k (Some cond) a d = refl
false_slots c k None a d = leave_slots (test_code (operand_of c a)) cc_is.E k d

true_slots : (c : Setting) (k : ℕ) (told : Option Cc) (a : Arg) (d : Drafted) → with_leave_true c k told a d ≡ with_slots (leave_true c k told a) d
true_slots c k (Some cond) a d = refl
true_slots c k None a d = leave_slots (test_code (operand_of c a)) cc_is.Ne k d

bare_slots : (c : Setting) (k : ℕ) (told : Told) (operation : OpCode) (d : Drafted) → with_bare k operation d ≡ with_slots (guard_code c k told operation []) d
bare_slots c k told code.GuardNoOverflow d = refl
bare_slots c k told code.GuardOverflow d = refl
bare_slots c k told _ d = none_slots d

more_slots : (c : Setting) (k : ℕ) (told : Told) (operation : OpCode) (x y z : Arg) (args : List Arg) (d : Drafted) → with_bare k operation d ≡ with_slots (guard_code c k told operation (x ∷ y ∷ z ∷ args)) d
more_slots c k told code.GuardNoOverflow x y z args d = refl
more_slots c k told code.GuardOverflow x y z args d = refl
more_slots c k told code.GuardClass x (Class n) z args d = none_slots d
more_slots c k told code.GuardClass x (Of b) z args d = none_slots d
more_slots c k told code.GuardClass x (Const w) z args d = none_slots d
more_slots c k told code.GuardClass x Null z args d = none_slots d
more_slots c k told code.GuardClass x (Func n) z args d = none_slots d
more_slots c k told code.GuardClass x (Ptr n) z args d = none_slots d
more_slots c k told code.GuardNonnullClass x (Class n) z args d = none_slots d
more_slots c k told code.GuardNonnullClass x (Of b) z args d = none_slots d
more_slots c k told code.GuardNonnullClass x (Const w) z args d = none_slots d
more_slots c k told code.GuardNonnullClass x Null z args d = none_slots d
more_slots c k told code.GuardNonnullClass x (Func n) z args d = none_slots d
more_slots c k told code.GuardNonnullClass x (Ptr n) z args d = none_slots d
more_slots c k told _ x y z args d = none_slots d

one_slots : (c : Setting) (k : ℕ) (told : Told) (operation : OpCode) (a : Arg) (d : Drafted) → with_one c k told operation a d ≡ with_slots (guard_code c k told operation (a ∷ [])) d
one_slots c k told code.GuardTrue a d = false_slots c k (tells told a) a d
one_slots c k told code.GuardFalse a d = true_slots c k (tells told a) a d
one_slots c k told code.GuardNonnull a d = false_slots c k None a d
one_slots c k told code.GuardIsnull a d = true_slots c k None a d
one_slots c k told code.GuardNoOverflow a d = refl
one_slots c k told code.GuardOverflow a d = refl
one_slots c k told _ a d = none_slots d

class_slots : (c : Setting) (k : ℕ) (told : Told) (a b : Arg) (d : Drafted) → with_class c k a b d ≡ with_slots (guard_code c k told code.GuardClass (a ∷ b ∷ [])) d
class_slots c k told a (Class n) d = leave_slots (class_code (operand_of c a) (header_of c.table (Size n))) cc_is.Ne k d
class_slots c k told a (Of b) d = none_slots d
class_slots c k told a (Const w) d = none_slots d
class_slots c k told a Null d = none_slots d
class_slots c k told a (Func n) d = none_slots d
class_slots c k told a (Ptr n) d = none_slots d

nonnull_class_slots : (c : Setting) (k : ℕ) (told : Told) (a b : Arg) (d : Drafted) → with_nonnull_class c k a b d ≡ with_slots (guard_code c k told code.GuardNonnullClass (a ∷ b ∷ [])) d
nonnull_class_slots c k told a (Class n) d = leave_slots (nonnull_class_code (operand_of c a) (header_of c.table (Size n))) cc_is.Ne k d
nonnull_class_slots c k told a (Of b) d = none_slots d
nonnull_class_slots c k told a (Const w) d = none_slots d
nonnull_class_slots c k told a Null d = none_slots d
nonnull_class_slots c k told a (Func n) d = none_slots d
nonnull_class_slots c k told a (Ptr n) d = none_slots d

two_slots : (c : Setting) (k : ℕ) (told : Told) (operation : OpCode) (a b : Arg) (d : Drafted) → with_two c k operation a b d ≡ with_slots (guard_code c k told operation (a ∷ b ∷ [])) d
two_slots c k told code.GuardValue a b d = leave_slots (compare_code (operand_of c a) (operand_of c b)) cc_is.Ne k d
two_slots c k told code.GuardClass a b d = class_slots c k told a b d
two_slots c k told code.GuardNonnullClass a b d = nonnull_class_slots c k told a b d
two_slots c k told code.GuardNoOverflow a b d = refl
two_slots c k told code.GuardOverflow a b d = refl
two_slots c k told _ a b d = none_slots d

guard_slots : (c : Setting) (k : ℕ) (told : Told) (operation : OpCode) (args : List Arg) (d : Drafted) → with_guard c k told operation args d ≡ with_slots (guard_code c k told operation args) d
guard_slots c k told operation [] d = bare_slots c k told operation d
guard_slots c k told operation (a ∷ []) d = one_slots c k told operation a d
guard_slots c k told operation (a ∷ b ∷ []) d = two_slots c k told operation a b d
guard_slots c k told operation (a ∷ b ∷ x ∷ args) d = more_slots c k told operation a b x args d

body_slots : (c : Setting) (k : ℕ) (told : Told) (op : OptOp) (ops : List OptOp) (d : Drafted) → with_body c k told op ops d ≡ with_slots (code_of c k told op ops) d
body_slots c k told (opt.Plain operation r args e) ops d = put_slots (plain_code c k operation (access_form operation) r args e ops) d
body_slots c k told (opt.Guard operation args n snap) ops d = guard_slots c k told operation args d
body_slots c k told (opt.Exit n snap) ops d = refl
body_slots c k told (opt.Jump to args) ops d = jump_slots (jump_code c args) (Go k) (Jmp (pos 0)) k d refl (λ n. refl)
body_slots c k told (opt.Finish value) ops d = refl

-- ---- the loop that selects, operation by operation

-- what the loop keeps at operation i
pub record Kept (c : Setting) (ops : List OptOp) (i : ℕ) (told : Told) (d : Drafted) : Type 0 where
  pub instrs : d.instrs ++ instrs_of (all_code c i told (drop i ops)) ≡ instrs_of (all_code c 0 tell.Nothing ops)
  pub starts : d.starts ++ starts_from (length d.instrs) c i told (drop i ops) ≡ starts_from 0 c 0 tell.Nothing ops
  pub jumps : d.jumps ++ jumps_from (length d.instrs) (all_code c i told (drop i ops)) ≡ jumps_from 0 (all_code c 0 tell.Nothing ops)

front : (ops : List OptOp) (i : ℕ) (x : OptOp) → i < length ops → x ≡ get_or ops i x → drop i ops ≡ x ∷ drop (i + 1) ops
front ops i x lt e =
    let n : suc i ≡ i + 1 = omega arith in
    drop-cons ops i x lt ∙ ap (λ (y : OptOp). y ∷ drop (suc i) ops) (sym e) ∙ ap (λ (m : ℕ). x ∷ drop m ops) n

pub keep : (c : Setting) (ops : List OptOp) (i : ℕ) (told : Told) (d d' : Drafted) (x : OptOp) → i < length ops → x ≡ get_or ops i x → Kept c ops i told d → d' ≡ with_op c i told x (drop (i + 1) ops) d → Kept c ops (i + 1) (told_by x (drop (i + 1) ops)) d'
keep c ops i told d d' x lt e k pushed =
    let f = front ops i x lt e in
    let behind = drop (i + 1) ops in
    let after = told_by x behind in
    let rest = all_code c (i + 1) after behind in
    let code = code_of c i told x behind in
    let whole : all_code c i told (drop i ops) ≡ code ++ rest = ap (all_code c i told) f in
    let made = pushed ∙ body_slots c i told x behind (with_start d) in
    let instrs : d'.instrs ≡ d.instrs ++ instrs_of code = ap (λ (y : Drafted). y.instrs) made in
    let jumps : d'.jumps ≡ d.jumps ++ jumps_from (length d.instrs) code = ap (λ (y : Drafted). y.jumps) made in
    let starts : d'.starts ≡ d.starts ++ length d.instrs ∷ [] = ap (λ (y : Drafted). y.starts) made in
    let long : length d'.instrs ≡ length d.instrs + length code = ap length instrs ∙ length-append d.instrs (instrs_of code) ∙ ap (λ (m : ℕ). length d.instrs + m) (length-instrs code) in
    record {
      instrs =
          ap (λ (l : List Instr). l ++ instrs_of rest) instrs ∙ append_assoc d.instrs (instrs_of code) (instrs_of rest)
          ∙ ap (λ (l : List Instr). d.instrs ++ l) (sym (instrs-append code rest)) ∙ ap (λ (l : List Slot). d.instrs ++ instrs_of l) (sym whole) ∙ k.instrs;
      starts =
          ap (λ (l : List ℕ). l ++ starts_from (length d'.instrs) c (i + 1) after behind) starts
          ∙ append_assoc d.starts (length d.instrs ∷ []) (starts_from (length d'.instrs) c (i + 1) after behind)
          ∙ ap (λ (m : ℕ). d.starts ++ length d.instrs ∷ starts_from m c (i + 1) after behind) long
          ∙ ap (λ (l : List OptOp). d.starts ++ starts_from (length d.instrs) c i told l) (sym f) ∙ k.starts;
      jumps =
          ap (λ (l : List (ℕ × ℕ)). l ++ jumps_from (length d'.instrs) rest) jumps ∙ append_assoc d.jumps (jumps_from (length d.instrs) code) (jumps_from (length d'.instrs) rest)
          ∙ ap (λ (m : ℕ). d.jumps ++ (jumps_from (length d.instrs) code ++ jumps_from m rest)) long
          ∙ ap (λ (l : List (ℕ × ℕ)). d.jumps ++ l) (sym (jumps-append (length d.instrs) code rest))
          ∙ ap (λ (l : List Slot). d.jumps ++ jumps_from (length d.instrs) l) (sym whole) ∙ k.jumps;
    }

-- the same of the operation at its place, in front of those behind it
pub keep_on : (c : Setting) (ops rest : List OptOp) (i : ℕ) (told told' : Told) (d d' : Drafted) (x : OptOp) → slice_get ops i ≡ Some x → rest ≡ drop (i + 1) ops → Kept c ops i told d → d' ≡ with_op c i told x rest d → told' ≡ told_by x rest → Kept c ops (i + 1) told' d'
keep_on c ops rest i told told' d d' x here behind k pushed tells =
    subst (λ (t : Told). Kept c ops (i + 1) t d') (sym (tells ∙ ap (told_by x) behind))
    (keep c ops i told d d' x (slice_get_within ops i x here) (sym (get_or_from_slice_get ops i x x here)) k (pushed ∙ ap (λ (l : List OptOp). with_op c i told x l d) behind))

pub first_kept : (c : Setting) (ops : List OptOp) → Kept c ops 0 tell.Nothing (draft_of [] [] [])
first_kept c ops = record { instrs = refl; starts = refl; jumps = refl }

-- where no operation is left, the whole code is there
pub all_kept : (c : Setting) (ops : List OptOp) (i : ℕ) (told : Told) (d : Drafted) (s : Selected) → Kept c ops i told d → length ops ≤ i → s.instrs ≡ d.instrs → s.starts ≡ d.starts → s.jumps ≡ d.jumps → IsCodeOf c ops s
all_kept c ops i told d s k le a b e =
    let z = none_left ops i le in
    record {
      instrs = a ∙ sym (append-nil d.instrs) ∙ ap (λ (l : List OptOp). d.instrs ++ instrs_of (all_code c i told l)) (sym z) ∙ k.instrs;
      starts = b ∙ sym (append-nil d.starts) ∙ ap (λ (l : List OptOp). d.starts ++ starts_from (length d.instrs) c i told l) (sym z) ∙ k.starts;
      jumps = e ∙ sym (append-nil d.jumps) ∙ ap (λ (l : List OptOp). d.jumps ++ jumps_from (length d.instrs) (all_code c i told l)) (sym z) ∙ k.jumps;
    }
