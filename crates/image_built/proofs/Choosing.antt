-- The code of a piece whose first operation has another key.
use Rattle.std.proofs.Common.{◌≡◌, ◌⊎◌, inl, inr, ℕ, ◌+◌, ◌-◌, ◌≤◌, Bool, true, false, Option, Some, None, List, [], ◌∷◌, ◌++◌, length, map, refl, sym, ap, ◌∙◌, subst, arith}
use Rattle.std.specs.Prelude.{slice_get}
use Rattle.trace_ops.specs.declared.code.OpCode.{OpCode}
use Rattle.trace_ops.specs.declared.code.OpCode.TheVariants as code
use Rattle.trace_ops.specs.declared.trace.BoxId.{BoxId}
use Rattle.trace_ops.specs.declared.trace.Arg.{Arg}
use Rattle.trace_ops.specs.declared.trace.Arg.TheVariants.{Of, Const, Null, Class, Func, Ptr}
use Rattle.trace_ops.specs.declared.trace.Descr.{Descr}
use Rattle.trace_ops.specs.declared.trace.Descr.TheVariants as descr
use Rattle.trace_ops.specs.declared.piece.OptOp.{OptOp}
use Rattle.trace_ops.specs.declared.piece.OptOp.TheVariants as opt
use Rattle.target_base.specs.declared.place.Place.{Place}
use Rattle.parallel_move.specs.declared.moving.Move.{Move}
use Rattle.parallel_move.specs.Moving.{at_once, after}
use Rattle.parallel_move.specs.Moving as moving
use Rattle.x64_encode.specs.declared.instr.Cc.{Cc}
use Rattle.asm_select.specs.declared.form.Access.{Access}
use Rattle.asm_select.specs.declared.form.Access.TheVariants as access
use Rattle.asm_select.specs.declared.operand.Operand.{Operand}
use Rattle.asm_select.specs.declared.told.Told.{Told}
use Rattle.asm_select.specs.Slots.{Slot, puts}
use Rattle.asm_select.specs.Chosen.{Setting, operand_of, pair_of, pairs_of, access_form, plain_code, tells, told_by, for_call, leave_false, leave_true, guard_code, code_of, all_code, compare_code, class_code, nonnull_class_code, jump_code, test_code}
use Rattle.asm_select.specs.Ended.{AreMoved, IsHere}
use Rattle.asm_select.specs.Asked.{IsAsked, IsAskedIf, IsAskedAs, AreChosen}
use Rattle.image_runs.specs.Selection.{joined}
use Rattle.image_model.specs.Laws.{codes_from}
use Rattle.image_built.specs.Built.{keyed}
use Rattle.image_built.proofs.Rekeying.{rekeyed, all_same}
use Rattle.image_built.proofs.Leading.{KeysAre, keys-append, keys-puts, keys_weaker}

-- ---- the same slots, but for the keys

less_back : (b j : ℕ) → b + j - b ≡ j
less_back b j = omega arith

pub all-keyed : (b k : ℕ) (st : Setting) (told : Told) (ops : List OptOp) → all_code (keyed b st) (b + k) told ops ≡ map (rekeyed b) (all_code st k told ops)
all-keyed b k st told ops = all_same st (λ (i : ℕ). st.call_moves (i - b)) b k told ops (λ j. ap st.call_moves (less_back b j))

pub first-keyed : (b : ℕ) (st : Setting) (told : Told) (ops : List OptOp) → all_code (keyed b st) b told ops ≡ map (rekeyed b) (all_code st 0 told ops)
first-keyed b st told ops =
    let n : b ≡ b + 0 = omega arith in
    ap (λ (k : ℕ). all_code (keyed b st) k told ops) n ∙ all-keyed b 0 st told ops

pub joined-codes : (c : Setting) (k : ℕ) (told : Told) (ops : List OptOp) → joined (codes_from c k told ops) ≡ all_code c k told ops
joined-codes c k told [] = refl
joined-codes c k told (op ∷ ops) = ap (λ (l : List Slot). code_of c k told op ops ++ l) (joined-codes c (k + 1) (told_by op ops) ops)

pub codes_long : (c : Setting) (k : ℕ) (told : Told) (ops : List OptOp) → length (codes_from c k told ops) ≡ length ops
codes_long c k told [] = refl
codes_long c k told (op ∷ ops) = omega (arith, codes_long c (k + 1) (told_by op ops) ops)

-- ---- it is chosen as well

operand_alike : (c d : Setting) (a : Arg) → c.table ≡ d.table → c.at ≡ d.at → operand_of c a ≡ operand_of d a
operand_alike c d (Of b) t e = cc
operand_alike c d (Const w) t e = refl
operand_alike c d Null t e = refl
operand_alike c d (Class n) t e = cc
operand_alike c d (Func n) t e = refl
operand_alike c d (Ptr n) t e = cc

pairs_alike : (c d : Setting) (args : List Arg) (targets : List Place) → c.table ≡ d.table → c.at ≡ d.at → pairs_of c args targets ≡ pairs_of d args targets
pairs_alike c d [] targets t e = refl
pairs_alike c d (a ∷ args) [] t e = refl
pairs_alike c d (a ∷ args) (p ∷ ps) t e =
    ap (λ (o : Operand). pair_of p o ++ pairs_of c args ps) (operand_alike c d a t e)
    ∙ ap (λ (l : List (Place × Place)). pair_of p (operand_of d a) ++ l) (pairs_alike c d args ps t e)

moved_alike : (c d : Setting) (args : List Arg) → c.table ≡ d.table → c.at ≡ d.at → c.to ≡ d.to → c.moves ≡ d.moves → AreMoved c args → AreMoved d args
moved_alike c d args t e to moves h =
    let pairs : pairs_of c args c.to ≡ pairs_of d args d.to = pairs_alike c d args c.to t e ∙ ap (pairs_of d args) to in record {
      count = h.count ∙ ap length to;
      lawful = λ p i s. h.lawful p i (ap (λ (l : List Place). slice_get l i) to ∙ s);
      distinct = λ i j p q lt s r. h.distinct i j p q lt (ap (λ (l : List Place). slice_get l i) to ∙ s) (ap (λ (l : List Place). slice_get l j) to ∙ r);
      acts = λ words p. ap (λ (ms : List Move). after ms words p) (sym moves) ∙ h.acts words p ∙ ap (λ (ps : List (Place × Place)). at_once ps words p) pairs;
      among = subst (λ (ms : List Move). moving.MovesAmong (pairs_of d args d.to) ms) moves (subst (λ (ps : List (Place × Place)). moving.MovesAmong ps c.moves) pairs h.among);
      few = subst (λ (ms : List Move). length ms ≤ length (pairs_of d args d.to)) moves (subst (λ (ps : List (Place × Place)). length c.moves ≤ length ps) pairs h.few);
    }

here_keyed : (b : ℕ) (c : Setting) (told : Told) (op : OptOp) → IsHere c told op → IsHere (keyed b c) told op
here_keyed b c told (opt.Plain operation r args d) h = h
here_keyed b c told (opt.Guard operation args n snap) h = h
here_keyed b c told (opt.Exit n snap) h = h
here_keyed b c told (opt.Jump to args) h = (moved_alike c (keyed b c) args refl refl refl refl h.0, h.1)
here_keyed b c told (opt.Finish a) h = h

asked_as : (b : ℕ) (c : Setting) (k : ℕ) (form : Access) (r : Option BoxId) (args : List Arg) (d : Descr) → IsAskedAs c k form r args d → IsAskedAs (keyed b c) (b + k) form r args d
asked_as b c k access.Structure (Some r) [] (descr.Size n) h = h
asked_as b c k access.Array (Some r) (a ∷ []) (descr.Array x) h = h
asked_as b c k access.Call r (Func f ∷ args) (descr.Call row) h =
    (moved_alike (for_call c k args) (for_call (keyed b c) (b + k) args) args refl refl refl (ap c.call_moves (sym (less_back b k))) h.0, h.1, h.2)
asked_as b c k form r args d h = absurd h

asked_if : (b : ℕ) (c : Setting) (k : ℕ) (form : Option Access) (r : Option BoxId) (args : List Arg) (d : Descr) → IsAskedIf c k form r args d → IsAskedIf (keyed b c) (b + k) form r args d
asked_if b c k None r args d h = h
asked_if b c k (Some form) r args d h = asked_as b c k form r args d h

asked_keyed : (b : ℕ) (c : Setting) (k : ℕ) (op : OptOp) → IsAsked c k op → IsAsked (keyed b c) (b + k) op
asked_keyed b c k (opt.Plain operation r args d) h = asked_if b c k (access_form operation) r args d h
asked_keyed b c k (opt.Guard operation args n snap) h = absurd h
asked_keyed b c k (opt.Exit n snap) h = absurd h
asked_keyed b c k (opt.Jump to args) h = absurd h
asked_keyed b c k (opt.Finish a) h = absurd h

either_keyed : (b : ℕ) (c : Setting) (k : ℕ) (told : Told) (op : OptOp) → (IsHere c told op ⊎ IsAsked c k op) → (IsHere (keyed b c) told op ⊎ IsAsked (keyed b c) (b + k) op)
either_keyed b c k told op (inl h) = inl (here_keyed b c told op h)
either_keyed b c k told op (inr h) = inr (asked_keyed b c k op h)

pub chosen-keyed : (b : ℕ) (c : Setting) (k : ℕ) (told : Told) (ops : List OptOp) → AreChosen c k told ops → AreChosen (keyed b c) (b + k) told ops
chosen-keyed b c k told [] h = tt
chosen-keyed b c k told (op ∷ ops) h =
    let n : b + (k + 1) ≡ b + k + 1 = omega arith in
    (either_keyed b c k told op h.0, h.1, subst (λ (i : ℕ). AreChosen (keyed b c) i (told_by op ops) ops) n (chosen-keyed b c (k + 1) (told_by op ops) ops h.2))

pub chosen_first : (b : ℕ) (c : Setting) (told : Told) (ops : List OptOp) → AreChosen c 0 told ops → AreChosen (keyed b c) b told ops
chosen_first b c told ops h =
    let n : b + 0 ≡ b = omega arith in
    subst (λ (i : ℕ). AreChosen (keyed b c) i told ops) n (chosen-keyed b c 0 told ops h)

-- ---- whose jumps they are

-- anything but a plain operation
abbrev pub is_off : OptOp → Bool
is_off (opt.Plain operation r args d) = false
is_off (opt.Guard operation args n snap) = true
is_off (opt.Exit n snap) = true
is_off (opt.Jump to args) = true
is_off (opt.Finish value) = true

-- the key of such an operation, where the first has key k
pub record IsOff (k : ℕ) (ops : List OptOp) (e : ℕ) : Type 0 where
  pub done : List OptOp
  pub op : OptOp
  pub rest : List OptOp
  pub split : ops ≡ done ++ op ∷ rest
  pub key : e ≡ k + length done
  pub off : is_off op ≡ true

false_keys : (P : ℕ → Type 0) (c : Setting) (k : ℕ) (o : Option Cc) (a : Arg) → P k → KeysAre P (leave_false c k o a)
false_keys P c k (Some cond) a p = (p, tt)
false_keys P c k None a p = keys-append P (puts (test_code (operand_of c a))) _ (keys-puts P (test_code (operand_of c a))) (p, tt)

true_keys : (P : ℕ → Type 0) (c : Setting) (k : ℕ) (o : Option Cc) (a : Arg) → P k → KeysAre P (leave_true c k o a)
true_keys P c k (Some cond) a p = (p, tt)
true_keys P c k None a p = keys-append P (puts (test_code (operand_of c a))) _ (keys-puts P (test_code (operand_of c a))) (p, tt)

guard_keys : (P : ℕ → Type 0) (c : Setting) (k : ℕ) (told : Told) (operation : OpCode) (args : List Arg) → P k → KeysAre P (guard_code c k told operation args)
guard_keys P c k told code.GuardTrue (a ∷ []) p = false_keys P c k (tells told a) a p
guard_keys P c k told code.GuardFalse (a ∷ []) p = true_keys P c k (tells told a) a p
guard_keys P c k told code.GuardNonnull (a ∷ []) p = false_keys P c k None a p
guard_keys P c k told code.GuardIsnull (a ∷ []) p = true_keys P c k None a p
guard_keys P c k told code.GuardValue (a ∷ b ∷ []) p = keys-append P (puts (compare_code (operand_of c a) (operand_of c b))) _ (keys-puts P (compare_code (operand_of c a) (operand_of c b))) (p, tt)
guard_keys P c k told code.GuardClass (a ∷ Class n ∷ []) p = keys-append P (puts (class_code (operand_of c a) _)) _ (keys-puts P (class_code (operand_of c a) _)) (p, tt)
guard_keys P c k told code.GuardNonnullClass (a ∷ Class n ∷ []) p = keys-append P (puts (nonnull_class_code (operand_of c a) _)) _ (keys-puts P (nonnull_class_code (operand_of c a) _)) (p, tt)
guard_keys P c k told code.GuardNoOverflow args p = (p, tt)
guard_keys P c k told code.GuardOverflow args p = (p, tt)
guard_keys P c k told operation args p = tt

code_keys : (P : ℕ → Type 0) (c : Setting) (k : ℕ) (told : Told) (op : OptOp) (ops : List OptOp) → (is_off op ≡ true → P k) → KeysAre P (code_of c k told op ops)
code_keys P c k told (opt.Plain operation r args d) ops p = keys-puts P (plain_code c k operation (access_form operation) r args d ops)
code_keys P c k told (opt.Guard operation args n snap) ops p = guard_keys P c k told operation args (p refl)
code_keys P c k told (opt.Exit n snap) ops p = (p refl, tt)
code_keys P c k told (opt.Jump to args) ops p = keys-append P (puts (jump_code c args)) _ (keys-puts P (jump_code c args)) (p refl, tt)
code_keys P c k told (opt.Finish value) ops p = (p refl, tt)

further : (k : ℕ) (op : OptOp) (ops : List OptOp) (e : ℕ) → IsOff (k + 1) ops e → IsOff k (op ∷ ops) e
further k op ops e h = record {
  done = op ∷ h.done;
  op = h.op;
  rest = h.rest;
  split = ap (λ (l : List OptOp). op ∷ l) h.split;
  key = omega (arith, h.key);
  off = h.off;
}

pub all_keys : (c : Setting) (k : ℕ) (told : Told) (ops : List OptOp) → KeysAre (IsOff k ops) (all_code c k told ops)
all_keys c k told [] = tt
all_keys c k told (op ∷ ops) =
    let n : k ≡ k + 0 = omega arith in
    keys-append (IsOff k (op ∷ ops)) (code_of c k told op ops) (all_code c (k + 1) (told_by op ops) ops)
    (code_keys (IsOff k (op ∷ ops)) c k told op ops (λ h. record { done = []; op = op; rest = ops; split = refl; key = n; off = h }))
    (keys_weaker (IsOff (k + 1) ops) (IsOff k (op ∷ ops)) (all_code c (k + 1) (told_by op ops) ops) (further k op ops) (all_keys c (k + 1) (told_by op ops) ops))
