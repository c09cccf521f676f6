-- The code of each operation gives what the operation gives.
use Rattle.std.proofs.Common.{◌≡◌, ℕ, ◌+◌, Bool, not, List, ◌++◌, Option, Some, None, refl, sym, ap, ◌∙◌, ℤ, pos, negsuc}
use Rattle.std.specs.Prelude.{◌+ℤ◌, ◌-ℤ◌, ◌*ℤ◌}
use Rattle.std.specs.Ordering.{int_eq}
use Rattle.std.specs.Int.{w64, cast_signed, cast_unsigned}
use Rattle.std.proofs.Math.IntN.{+ℤ_comm, *ℤ_comm}
use Rattle.std.proofs.lemmas.Nat.{and_comm, or_comm, xor_comm}
use Rattle.trace_ops.specs.declared.code.OpCode.{OpCode}
use Rattle.trace_ops.specs.declared.code.OpCode.TheVariants as code
use Rattle.trace_ops.specs.Words.{wrap, truth, overflows}
use Rattle.x64_machine.specs.Words as machine
use Rattle.trace_ops.specs.Folds as fold
use Rattle.x64_encode.specs.declared.instr.AluOp.TheVariants as alu
use Rattle.x64_encode.specs.declared.instr.ShiftOp.TheVariants as shift
use Rattle.x64_encode.specs.declared.instr.Cc.{Cc}
use Rattle.x64_encode.specs.declared.instr.Cc.TheVariants as cc_is
use Rattle.target_base.specs.declared.place.Place.{Place}
use Rattle.x64_machine.specs.State.{State}
use Rattle.asm_select.specs.declared.form.Arith.TheVariants.{By, Product}
use Rattle.asm_select.specs.declared.form.Unary.TheVariants as unary
use Rattle.asm_select.specs.declared.form.Binary.TheVariants as binary
use Rattle.asm_select.specs.declared.operand.Operand.{Operand}
use Rattle.asm_select.specs.Slots.{Slot, puts}
use Rattle.asm_select.specs.Valued.{MayHold, IsFit}
use Rattle.asm_select.specs.Chosen.{unary_form, binary_form, unary_cond, binary_cond, unary_code, binary_code, compare_code, test_code}
use Rattle.asm_select.specs.Reached.{Reach, read}
use Rattle.asm_select.proofs.Steps.{weaker}
use Rattle.asm_select.proofs.Micro.{CanRead, read_fits}
use Rattle.asm_select.proofs.Arms.{Gives, GivesOver, Swaps, Truth, two_over, commuting_over, shift_gives, compare_tells, test_tells, truths_unless, copy_gives, neg_gives, not_gives, clamp_gives}
use Rattle.asm_select.proofs.Flagging.{holds_l, holds_le, holds_e, holds_ne, holds_g, holds_ge, holds_b, holds_be, holds_a, holds_ae, tests_zero, tests_some, left_is, not_is, clamp_is}
use Rattle.asm_select.proofs.Relying.{Relied}

-- ---- the order of two words doesn't matter

add_swaps : Swaps (By alu.Add)
add_swaps = record {
  result = λ x y. ap wrap (+ℤ_comm x y);
  over = λ x y. ap (λ (z : ℤ). Some (machine.overflows z)) (+ℤ_comm x y);
}

mul_swaps : Swaps Product
mul_swaps = record {
  result = λ x y. ap wrap (*ℤ_comm x y);
  over = λ x y. ap (λ (z : ℤ). Some (machine.overflows z)) (*ℤ_comm x y);
}

and_swaps : Swaps (By alu.And)
and_swaps = record { result = λ x y. ap (cast_signed w64) (and_comm (cast_unsigned w64 x) (cast_unsigned w64 y)); over = λ x y. refl }

or_swaps : Swaps (By alu.Or)
or_swaps = record { result = λ x y. ap (cast_signed w64) (or_comm (cast_unsigned w64 x) (cast_unsigned w64 y)); over = λ x y. refl }

xor_swaps : Swaps (By alu.Xor)
xor_swaps = record { result = λ x y. ap (cast_signed w64) (xor_comm (cast_unsigned w64 x) (cast_unsigned w64 y)); over = λ x y. refl }

-- ---- what the code of an operation leaves: the word at its place, or, of a comparison, what the flags tell

abbrev pub Left : Bool → Option Cc → Place → ℤ → State → State → Type 0
Left lone None d v s t = Gives d v s t
Left lone (Some cond) d v s t = (x : Bool) × (v ≡ truth x) × Truth lone cond d x s t

some_is : (w v : ℤ) → Some w ≡ Some v → w ≡ v
some_is w v e = cc

-- the word that is given is the operation's
given : (p : ℕ) (d : Place) (w v : ℤ) (xs ys : List Slot) (s : State) → Some w ≡ Some v → Reach p xs s ys (Gives d w s) → Reach p xs s ys (Gives d v s)
given p d w v xs ys s h f = let e = some_is w v h in weaker p xs ys s (λ t g. (g.0 ∙ e, g.1, g.2)) f

over_given : (p : ℕ) (d : Place) (w v : ℤ) (o : Option Bool) (xs ys : List Slot) (s : State) → Some w ≡ Some v → Reach p xs s ys (GivesOver d w o s) → Reach p xs s ys (Gives d v s)
over_given p d w v o xs ys s h f = let e = some_is w v h in weaker p xs ys s (λ t (g, k). (g.0 ∙ e, g.1, g.2)) f

compared : (lone : Bool) (p : ℕ) (cond : Cc) (d : Place) (a b : Operand) (x : Bool) (v : ℤ) (ys : List Slot) (s : State) → Some (truth x) ≡ Some v → MayHold d → CanRead a → CanRead b → IsFit s → machine.holds cond (machine.alu_flags alu.Cmp (read s a) (read s b)) ≡ Some x → s.at ≡ 0x40000000 + p → Reach p (puts (binary_code lone (Some (binary.Compare cond)) d a b) ++ ys) s ys (Left lone (Some cond) d v s)
compared lone p cond d a b x v ys s h m ra rb f e at =
    let w = sym (some_is (truth x) v h) in
    weaker p (puts (binary_code lone (Some (binary.Compare cond)) d a b) ++ ys) ys s (λ t g. (x, w, g))
    (truths_unless lone p cond (compare_code a b) d x ys s m (λ zs. compare_tells p cond a b x zs s ra rb f e at))

tested : (lone : Bool) (p : ℕ) (cond : Cc) (d : Place) (a : Operand) (x : Bool) (v : ℤ) (ys : List Slot) (s : State) → Some (truth x) ≡ Some v → MayHold d → CanRead a → IsFit s → machine.holds cond (machine.alu_flags alu.Test (read s a) (read s a)) ≡ Some x → s.at ≡ 0x40000000 + p → Reach p (puts (unary_code lone (Some (unary.Test cond)) d a) ++ ys) s ys (Left lone (Some cond) d v s)
tested lone p cond d a x v ys s h m ra f e at =
    let w = sym (some_is (truth x) v h) in
    weaker p (puts (unary_code lone (Some (unary.Test cond)) d a) ++ ys) ys s (λ t g. (x, w, g))
    (truths_unless lone p cond (test_code a) d x ys s m (λ zs. test_tells p cond a x zs s ra f e at))

pub binaries : Relied → (lone : Bool) (operation : OpCode) (p : ℕ) (d : Place) (a b : Operand) (v : ℤ) (ys : List Slot) (s : State) → fold.binary operation (read s a) (read s b) ≡ Some v → MayHold d → CanRead a → CanRead b → IsFit s → s.at ≡ 0x40000000 + p → Reach p (puts (binary_code lone (binary_form operation) d a b) ++ ys) s ys (Left lone (binary_cond (binary_form operation)) d v s)
binaries relied lone code.IntAdd p d a b v ys s h m ra rb f at = over_given p d _ v _ _ ys s h (commuting_over p (By alu.Add) d a b ys s refl add_swaps m ra rb f at)
binaries relied lone code.IntSub p d a b v ys s h m ra rb f at = over_given p d _ v _ _ ys s h (two_over p (By alu.Sub) d a b ys s refl m ra rb f at)
binaries relied lone code.IntMul p d a b v ys s h m ra rb f at = over_given p d _ v _ _ ys s h (commuting_over p Product d a b ys s tt mul_swaps m ra rb f at)
binaries relied lone code.IntAnd p d a b v ys s h m ra rb f at = over_given p d _ v _ _ ys s h (commuting_over p (By alu.And) d a b ys s refl and_swaps m ra rb f at)
binaries relied lone code.IntOr p d a b v ys s h m ra rb f at = over_given p d _ v _ _ ys s h (commuting_over p (By alu.Or) d a b ys s refl or_swaps m ra rb f at)
binaries relied lone code.IntXor p d a b v ys s h m ra rb f at = over_given p d _ v _ _ ys s h (commuting_over p (By alu.Xor) d a b ys s refl xor_swaps m ra rb f at)
binaries relied lone code.IntLshift p d a b v ys s h m ra rb f at = given p d _ v _ ys s (ap Some (left_is relied (read s a) (read s b) (read_fits s a ra f)) ∙ h) (shift_gives p shift.Shl d a b ys s m ra rb f at)
binaries relied lone code.IntRshift p d a b v ys s h m ra rb f at = given p d _ v _ ys s h (shift_gives p shift.Sar d a b ys s m ra rb f at)
binaries relied lone code.UintRshift p d a b v ys s h m ra rb f at = given p d _ v _ ys s h (shift_gives p shift.Shr d a b ys s m ra rb f at)
binaries relied lone code.IntLt p d a b v ys s h m ra rb f at = compared lone p cc_is.L d a b _ v ys s h m ra rb f (holds_l (read s a) (read s b) (read_fits s a ra f) (read_fits s b rb f)) at
binaries relied lone code.IntLe p d a b v ys s h m ra rb f at = compared lone p cc_is.Le d a b _ v ys s h m ra rb f (holds_le (read s a) (read s b) (read_fits s a ra f) (read_fits s b rb f)) at
binaries relied lone code.IntEq p d a b v ys s h m ra rb f at = compared lone p cc_is.E d a b _ v ys s h m ra rb f (holds_e (read s a) (read s b) (read_fits s a ra f) (read_fits s b rb f)) at
binaries relied lone code.IntNe p d a b v ys s h m ra rb f at = compared lone p cc_is.Ne d a b _ v ys s h m ra rb f (holds_ne (read s a) (read s b) (read_fits s a ra f) (read_fits s b rb f)) at
binaries relied lone code.IntGt p d a b v ys s h m ra rb f at = compared lone p cc_is.G d a b _ v ys s h m ra rb f (holds_g (read s a) (read s b) (read_fits s a ra f) (read_fits s b rb f)) at
binaries relied lone code.IntGe p d a b v ys s h m ra rb f at = compared lone p cc_is.Ge d a b _ v ys s h m ra rb f (holds_ge (read s a) (read s b) (read_fits s a ra f) (read_fits s b rb f)) at
binaries relied lone code.UintLt p d a b v ys s h m ra rb f at = compared lone p cc_is.B d a b _ v ys s h m ra rb f (holds_b (read s a) (read s b)) at
binaries relied lone code.UintLe p d a b v ys s h m ra rb f at = compared lone p cc_is.Be d a b _ v ys s h m ra rb f (holds_be (read s a) (read s b) (read_fits s a ra f) (read_fits s b rb f)) at
binaries relied lone code.UintGt p d a b v ys s h m ra rb f at = compared lone p cc_is.A d a b _ v ys s h m ra rb f (holds_a (read s a) (read s b) (read_fits s a ra f) (read_fits s b rb f)) at
binaries relied lone code.UintGe p d a b v ys s h m ra rb f at = compared lone p cc_is.Ae d a b _ v ys s h m ra rb f (holds_ae (read s a) (read s b)) at
binaries relied lone _ p d a b v ys s h m ra rb f at = absurd (cc)

pub unaries : (lone : Bool) (operation : OpCode) (p : ℕ) (d : Place) (a : Operand) (v : ℤ) (ys : List Slot) (s : State) → fold.unary operation (read s a) ≡ Some v → MayHold d → CanRead a → IsFit s → s.at ≡ 0x40000000 + p → Reach p (puts (unary_code lone (unary_form operation) d a) ++ ys) s ys (Left lone (unary_cond (unary_form operation)) d v s)
unaries lone code.IntIsZero p d a v ys s h m ra f at = tested lone p cc_is.E d a _ v ys s h m ra f (tests_zero (read s a) (read_fits s a ra f)) at
unaries lone code.IntIsTrue p d a v ys s h m ra f at = tested lone p cc_is.Ne d a _ v ys s h m ra f (tests_some (read s a) (read_fits s a ra f)) at
unaries lone code.IntNeg p d a v ys s h m ra f at = given p d _ v _ ys s h (neg_gives p d a ys s m ra f at)
unaries lone code.IntInvert p d a v ys s h m ra f at = given p d _ v _ ys s (ap Some (not_is (read s a) (read_fits s a ra f)) ∙ h) (not_gives p d a ys s m ra f at)
unaries lone code.IntForceGeZero p d a v ys s h m ra f at = given p d _ v _ ys s (ap Some (clamp_is (read s a) (read_fits s a ra f)) ∙ h) (clamp_gives p d a ys s m ra f at)
unaries lone code.SameAsI p d a v ys s h m ra f at = given p d _ v _ ys s h (copy_gives p d a ys s m ra f at)
unaries lone _ p d a v ys s h m ra f at = absurd (cc)

-- ---- operations that may overflow

-- a machine's word overflows where an exact result is no word
over_is : (z : ℤ) → machine.overflows z ≡ overflows z
over_is (pos n) = refl
over_is (negsuc n) = refl

exactly : (p : ℕ) (d : Place) (v z : ℤ) (xs ys : List Slot) (s : State) → Reach p xs s ys (GivesOver d v (Some (machine.overflows z)) s) → Reach p xs s ys (GivesOver d v (Some (overflows z)) s)
exactly p d v z xs ys s f = weaker p xs ys s (λ t (g, k). (g, k ∙ ap Some (over_is z))) f

pub adds_over : (lone : Bool) (p : ℕ) (d : Place) (a b : Operand) (ys : List Slot) (s : State) → MayHold d → CanRead a → CanRead b → IsFit s → s.at ≡ 0x40000000 + p → Reach p (puts (binary_code lone (binary_form code.IntAddOvf) d a b) ++ ys) s ys (GivesOver d (wrap (read s a +ℤ read s b)) (Some (overflows (read s a +ℤ read s b))) s)
adds_over lone p d a b ys s m ra rb f at = exactly p d _ (read s a +ℤ read s b) _ ys s (commuting_over p (By alu.Add) d a b ys s refl add_swaps m ra rb f at)

pub subs_over : (lone : Bool) (p : ℕ) (d : Place) (a b : Operand) (ys : List Slot) (s : State) → MayHold d → CanRead a → CanRead b → IsFit s → s.at ≡ 0x40000000 + p → Reach p (puts (binary_code lone (binary_form code.IntSubOvf) d a b) ++ ys) s ys (GivesOver d (wrap (read s a -ℤ read s b)) (Some (overflows (read s a -ℤ read s b))) s)
subs_over lone p d a b ys s m ra rb f at = exactly p d _ (read s a -ℤ read s b) _ ys s (two_over p (By alu.Sub) d a b ys s refl m ra rb f at)

pub muls_over : (lone : Bool) (p : ℕ) (d : Place) (a b : Operand) (ys : List Slot) (s : State) → MayHold d → CanRead a → CanRead b → IsFit s → s.at ≡ 0x40000000 + p → Reach p (puts (binary_code lone (binary_form code.IntMulOvf) d a b) ++ ys) s ys (GivesOver d (wrap (read s a *ℤ read s b)) (Some (overflows (read s a *ℤ read s b))) s)
muls_over lone p d a b ys s m ra rb f at = exactly p d _ (read s a *ℤ read s b) _ ys s (commuting_over p Product d a b ys s tt mul_swaps m ra rb f at)

-- ---- references

pub copies : (lone : Bool) (p : ℕ) (d : Place) (a : Operand) (ys : List Slot) (s : State) → MayHold d → CanRead a → IsFit s → s.at ≡ 0x40000000 + p → Reach p (puts (unary_code lone (unary_form code.SameAsR) d a) ++ ys) s ys (Gives d (read s a) s)
copies lone p d a ys s m ra f at = copy_gives p d a ys s m ra f at

pub equals : (lone : Bool) (p : ℕ) (d : Place) (a b : Operand) (ys : List Slot) (s : State) → MayHold d → CanRead a → CanRead b → IsFit s → s.at ≡ 0x40000000 + p → Reach p (puts (binary_code lone (binary_form code.PtrEq) d a b) ++ ys) s ys (Truth lone cc_is.E d (int_eq (read s a) (read s b)) s)
equals lone p d a b ys s m ra rb f at =
    truths_unless lone p cc_is.E (compare_code a b) d _ ys s m (λ zs. compare_tells p cc_is.E a b _ zs s ra rb f (holds_e (read s a) (read s b) (read_fits s a ra f) (read_fits s b rb f)) at)

pub differs : (lone : Bool) (p : ℕ) (d : Place) (a b : Operand) (ys : List Slot) (s : State) → MayHold d → CanRead a → CanRead b → IsFit s → s.at ≡ 0x40000000 + p → Reach p (puts (binary_code lone (binary_form code.PtrNe) d a b) ++ ys) s ys (Truth lone cc_is.Ne d (not (int_eq (read s a) (read s b))) s)
differs lone p d a b ys s m ra rb f at =
    truths_unless lone p cc_is.Ne (compare_code a b) d _ ys s m (λ zs. compare_tells p cc_is.Ne a b _ zs s ra rb f (holds_ne (read s a) (read s b) (read_fits s a ra f) (read_fits s b rb f)) at)
