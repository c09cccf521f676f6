-- How many instructions a step makes.
use Rattle.std.proofs.Common.{◌≡◌, ℕ, ◌+◌, ◌-◌, List, Bool, true, false, Option, Some, None, refl, sym, ap, ◌∙◌, subst, arith, inl, inr}
use Rattle.std.specs.Prelude.{ℤ, pos, ◌/◌, ◌+ℤ◌, ◌-ℤ◌, ◌==◌, if◌then◌else◌}
use Rattle.target_base.specs.declared.reg.Reg.{Reg}
use Rattle.x64_encode.specs.declared.instr.Instr.{Instr}
use Rattle.x64_encode.specs.declared.instr.Instr.TheVariants.{MovReg, Load, Store, StoreImm, MovImm, Alu, AluImm, Imul, Not, Neg, ShiftCl, ShiftImm, Lea, Xchg, Set, Movzx, Jcc, Jmp, CallReg, JmpReg, Ret}
use Rattle.x64_machine.specs.declared.state.Turn.TheVariants.{Stopped}
use Rattle.x64_machine.specs.declared.state.Stop.TheVariants.{Returned, HostCall}
use Rattle.x64_machine.specs.State.{State, Acted, act, went, stops, loaded, stored, jumps_where, set_where, calls, returns_to, reg, with_reg, rsp, is_entry, word_at}
use Rattle.x64_machine.specs.Words.{writes, alu_result, wrap, unsigned}
use Rattle.x64_machine.specs.Step.{MachineStep, StepWhere, Decoded, is_in, ahead}
use Rattle.x64_machine.specs.Running.{made_by, InstructionsAreCounted}

abbrev IsCounted : State → Acted → Type 0
IsCounted s done = done.state.instructions ≡ s.instructions + made_by done.turn

none_more : (s : State) → s.instructions ≡ s.instructions + 0
none_more s = omega arith

one_loaded : (o : Option ℤ) (a : ℕ) (s : State) (go : ℤ → State → Acted) → ((w : ℤ) (t : State) → t.instructions ≡ s.instructions → IsCounted s (go w t)) → IsCounted s (loaded o a s go)
one_loaded None a s go h = none_more s
one_loaded (Some w) a s go h = h w _ refl

one_stored : (o : Option ℤ) (a : ℕ) (w : ℤ) (s : State) (go : State → Acted) → ((t : State) → t.instructions ≡ s.instructions → IsCounted s (go t)) → IsCounted s (stored o a w s go)
one_stored None a w s go h = none_more s
one_stored (Some old) a w s go h = h _ refl

one_went : (at : ℕ) (s t : State) → t.instructions ≡ s.instructions → IsCounted s (went at t)
one_went at s t e = ap (λ (n : ℕ). n + 1) e

one_jump : (o : Option Bool) (next : ℕ) (d : ℤ) (s : State) → IsCounted s (jumps_where o next d s)
one_jump None next d s = none_more s
one_jump (Some true) next d s = refl
one_jump (Some false) next d s = refl

one_set : (o : Option Bool) (next : ℕ) (r : Reg) (s : State) → IsCounted s (set_where o next r s)
one_set None next r s = none_more s
one_set (Some b) next r s = refl

one_where : (b : Bool) (s : State) (x y : Acted) → IsCounted s x → IsCounted s y → IsCounted s (if b then x else y)
one_where true s x y h g = h
one_where false s x y h g = g

same_where : (b : Bool) (s t : State) → t.instructions ≡ s.instructions → (if b then t else s).instructions ≡ s.instructions
same_where true s t e = e
same_where false s t e = refl

one_return : (a : ℕ) (s t : State) → t.instructions ≡ s.instructions → IsCounted s (returns_to a s t)
one_return a s t e = one_where (a == 0x30000000) s (stops Returned s) (went a t) (none_more s) (one_went a s t e)

one_call : (a : ℕ) (s t : State) → t.instructions ≡ s.instructions → IsCounted s (calls a t)
one_call a s t e =
    one_where (is_entry a) s (record { turn = Stopped (HostCall ((a - 0x30000000) / 16)); state = (went a t).state }) (went a t) (ap (λ (n : ℕ). n + 1) e) (one_went a s t e)

one_made : (i : Instr) (next : ℕ) (s : State) → IsCounted s (act i next s)
one_made (MovReg to from) next s = refl
one_made (Load to mem) next s = one_loaded _ _ s _ (λ w t e. one_went next s (with_reg to w t) e)
one_made (Store mem from) next s = one_stored _ _ _ s _ (λ t e. one_went next s t e)
one_made (StoreImm mem v) next s = one_stored _ _ _ s _ (λ t e. one_went next s t e)
one_made (MovImm to v) next s = refl
one_made (Alu op to from) next s = ap (λ (n : ℕ). n + 1) (same_where (writes op) s (with_reg to (alu_result op (reg s to) (reg s from)) s) refl)
one_made (AluImm op to v) next s = ap (λ (n : ℕ). n + 1) (same_where (writes op) s (with_reg to (alu_result op (reg s to) v) s) refl)
one_made (Imul to from) next s = refl
one_made (Not r) next s = refl
one_made (Neg r) next s = refl
one_made (ShiftCl op r) next s = refl
one_made (ShiftImm op r n) next s = refl
one_made (Lea to mem) next s = refl
one_made (Xchg a b) next s = refl
one_made (Set cond r) next s = one_set _ next r s
one_made (Movzx to from) next s = refl
one_made (Jcc cond d) next s = one_jump _ next d s
one_made (Jmp d) next s = refl
one_made (CallReg r) next s =
    one_stored _ _ _ s (λ t. calls (unsigned (reg s r)) (with_reg rsp (wrap (reg s rsp -ℤ pos 8)) t)) (λ t e. one_call (unsigned (reg s r)) s (with_reg rsp (wrap (reg s rsp -ℤ pos 8)) t) e)
one_made (JmpReg r) next s = refl
one_made Ret next s =
    one_loaded (word_at s (unsigned (reg s rsp))) (unsigned (reg s rsp)) s (λ w t. returns_to (unsigned w) s (with_reg rsp (wrap (reg s rsp +ℤ pos 8)) t)) (λ w t e. one_return (unsigned w) s (with_reg rsp (wrap (reg s rsp +ℤ pos 8)) t) e)

one_decoded : (bytes : List ℕ) (s : State) (done : Acted) → Decoded bytes s done → IsCounted s done
one_decoded bytes s done (inl d) = subst (IsCounted s) (sym d.3) (one_made d.0 _ s)
one_decoded bytes s done (inr d) = subst (IsCounted s) (sym d.1) (none_more s)

one_at : (b : Bool) (bytes : List ℕ) (s : State) (done : Acted) → StepWhere b bytes s done → IsCounted s done
one_at true bytes s done h = one_decoded bytes s done h
one_at false bytes s done h = subst (IsCounted s) (sym h) (none_more s)

pub instructions_are_counted : InstructionsAreCounted
instructions_are_counted code s done h = one_at (is_in code s.at) (ahead code s.at) s done h
