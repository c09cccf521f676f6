-- Calls of the host and their answers.
use Rattle.std.proofs.Common.{◌≡◌, ◌≢◌, ℕ, ◌+◌, ◌-◌, ◌*◌, ◌/◌, ◌%◌, ◌^◌, ◌<◌, ◌≤◌, Bool, true, false, cond, length, Option, Some, refl, sym, ap, ◌∙◌, subst, arith, ℤ, pos}
use Rattle.std.specs.Prelude.{◌==◌, nat_lt, FitsSigned, slice_set, ◌+ℤ◌, ◌-ℤ◌}
use Rattle.std.specs.Int.{w64, cast_signed}
use Rattle.std.proofs.lemmas.Int.{int_wrap_fits, to_z_pos}
use Rattle.std.proofs.lemmas.List.{get_or-set_same, get_or-set_other, length-set}
use Rattle.std.proofs.lemmas.Option.{slice_get-get_or}
use Rattle.std.proofs.lemmas.Bool.{lt-ltb}
use Rattle.std.proofs.lemmas.Bool.Decides.{nat_tests}
use Rattle.trace_ops.specs.Words.{IsWord}
use Rattle.guard_exit.specs.Codes.{register}
use Rattle.x64_encode.specs.declared.instr.Instr.TheVariants.{CallReg}
use Rattle.target_base.specs.declared.place.Place.{Place}
use Rattle.target_base.specs.declared.place.Place.TheVariants.{In, Word}
use Rattle.x64_encode.specs.Form.{spelling}
use Rattle.x64_machine.specs.declared.state.Stop.TheVariants.{HostCall}
use Rattle.x64_machine.specs.declared.state.Turn.TheVariants.{Stopped}
use Rattle.x64_machine.specs.Words.{wrap, unsigned}
use Rattle.x64_machine.specs.State.{State, Acted, acted, reg, rsp, with_reg, with_flags, word_at, stored, is_entry, calls, went, act, with_lost, resumed}
use Rattle.x64_machine.specs.State as machine
use Rattle.x64_machine.specs.Step.{MachineStep}
use Rattle.asm_select.specs.Valued.{value, IsFit}
use Rattle.asm_select.specs.Chosen.{same_place}
use Rattle.asm_select.proofs.Steps.{stands_step}
use Rattle.asm_select.proofs.Effects.{Has, CanWrite, in_ne, number, reg_has, word_has, scratch, same_is, same_not, in_other, word_other}
use Rattle.asm_select.specs.Chosen.{entry_of}
use Rattle.asm_select.specs.Calls.{called, answered, Survives, CallsHost, HostAnswers}
use Rattle.asm_select.proofs.Memory.{value_same}

-- ---- the call

pushed : wrap (pos 0x207FFFF8 -ℤ pos 8) ≡ pos 0x207FFFF0
pushed = (let fits : FitsSigned w64 (pos 0x207FFFF0) = record { sfits = omega arith } in int_wrap_fits w64 (pos 0x207FFFF0) fits)

word_below : (s : State) → IsFit s → word_at s 0x207FFFF0 ≡ Some (value s (Word 1048574))
word_below s f = slice_get-get_or s.frame 1048574 (pos 0) (omega (arith, f.frame))

entry_is : (k : ℕ) → 1 ≤ k → k < 2 ^ 20 → is_entry (entry_of k) ≡ true
entry_is k some few =
    let a : ((0x30000000 + 16 * k) % 16 == 0) ≡ true = grind (arith, nat_tests) in
    let b : nat_lt 0x30000000 (0x30000000 + 16 * k) ≡ true = lt-ltb 0x30000000 (0x30000000 + 16 * k) (omega arith) in
    let c : nat_lt (0x30000000 + 16 * k) 0x40000000 ≡ true = lt-ltb (0x30000000 + 16 * k) 0x40000000 (omega arith) in
    rw (a, b, c) refl

entry_number : (k : ℕ) → (entry_of k - 0x30000000) / 16 ≡ k
entry_number k = grind arith

at_entry : (k : ℕ) (t : State) → 1 ≤ k → k < 2 ^ 20 → calls (entry_of k) t ≡ acted (Stopped (HostCall k)) (record t { at = entry_of k; instructions = t.instructions + 1 })
at_entry k t some few =
    ap (λ (b : Bool). cond b (record { turn = Stopped (HostCall ((entry_of k - 0x30000000) / 16)); state = (went (entry_of k) t).state }) (went (entry_of k) t)) (entry_is k some few)
    ∙ ap (λ (n : ℕ). acted (Stopped (HostCall n)) (record t { at = entry_of k; instructions = t.instructions + 1 })) (entry_number k)

call_acts : (next k r : ℕ) (s : State) → IsFit s → next < 2 ^ 63 → 1 ≤ k → k < 2 ^ 20 → value s (In (register r)) ≡ pos (entry_of k) → act (CallReg (register r)) next s ≡ acted (Stopped (HostCall k)) (called (entry_of k) next s)
call_acts next k r s f small some few e =
    let none : s.stores + 0 ≡ s.stores = omega arith in
    let go = λ (z : ℤ) (t : State). calls (unsigned (reg s (register r))) (with_reg rsp z t) in
    let base = record s { frame = slice_set s.frame 1048574 (pos next) } in
    ap (λ (z : ℤ). machine.puts (unsigned (wrap (z -ℤ pos 8))) (cast_signed w64 next) s (go (wrap (z -ℤ pos 8)))) f.stack
    ∙ ap (λ (z : ℤ). machine.puts (unsigned z) (cast_signed w64 next) s (go z)) pushed
    ∙ ap (λ (z : ℤ). machine.puts 0x207FFFF0 z s (go (pos 0x207FFFF0))) (to_z_pos w64 next small)
    ∙ ap (λ (o : Option ℤ). stored o 0x207FFFF0 (pos next) s (go (pos 0x207FFFF0))) (word_below s f)
    ∙ ap (λ (n : ℕ). go (pos 0x207FFFF0) (record base { stores = n })) none
    ∙ ap (λ (z : ℤ). calls (unsigned z) (with_reg rsp (pos 0x207FFFF0) base)) e
    ∙ at_entry k (with_reg rsp (pos 0x207FFFF0) base) some few

pub calls_host : CallsHost
calls_host code p k r s small st f some few e at =
    let n = length (spelling (CallReg (register r))) in
    let inside : p + n ≤ length code = st.inside in
    subst (MachineStep code s) (call_acts (0x40000000 + (p + n)) k r s f (omega arith) some few e) (stands_step code p (CallReg (register r)) s small at st)

-- ---- the answer

-- the state from which the registers that are lost are written one by one
abbrev kept_from : ℕ → State → State
kept_from back s = record s { frame = slice_set s.frame 1048574 (pos back) }

words_apart : (j k : ℕ) → j < k → Word j ≢ Word k
words_apart j k lt e = (let n : 16 + j ≡ 16 + k = ap number e in absurd (omega arith))

-- all but the register that is written
others_of : (s : State) (n : ℕ) (w : ℤ) (q : Place) → q ≢ In (register n) → value (with_reg (register n) w s) q ≡ value s q
others_of s n w (In x) ne = get_or-set_other s.regs n x.0 w (pos 0) (in_ne x (register n) ne)
others_of s n w (Word k) ne = refl

write_below : CanWrite (Word 1048574)
write_below = record {
  there = omega arith;
  not_rsp = word_other 1048574 4 (omega arith);
  not_rbp = word_other 1048574 5 (omega arith);
  not_top = words_apart 1048574 1048575 (omega arith);
}

-- one register is lost
lost_one : (n : ℕ) (w : ℤ) (s : State) → n < 16 → n ≢ 4 → n ≢ 5 → IsWord w → IsFit s → Has (In (register n)) w s (with_reg (register n) w s)
lost_one n w s lt n4 n5 fits f = reg_has s (with_reg (register n) w s) (register n) w refl refl refl refl refl (scratch n lt n4 n5) fits f

-- what holds of the nine registers
record Lost (given lost : ℤ) (s t : State) : Type 0 where
  given_is : value t (In (register 0)) ≡ given
  kept : (q : Place) → Survives q → value t q ≡ value s q
  fit : IsFit t

loses : (given lost : ℤ) (back : ℕ) (s : State) → IsFit s → IsWord given → IsWord lost → back < 2 ^ 63 → Lost given lost s (with_lost given lost (kept_from back s))
loses given lost back s f fg fl small =
    let fits : IsWord (pos back) = record { sfits = omega arith } in
    let r = kept_from back s in
    let hr = word_has s r 1048574 (pos back) refl refl refl refl refl write_below fits f in
    let s0 = with_reg (register 0) given r in
    let h0 = lost_one 0 given r (omega arith) (omega arith) (omega arith) fg hr.2 in
    let s1 = with_reg (register 1) lost s0 in
    let h1 = lost_one 1 lost s0 (omega arith) (omega arith) (omega arith) fl h0.2 in
    let s2 = with_reg (register 2) lost s1 in
    let h2 = lost_one 2 lost s1 (omega arith) (omega arith) (omega arith) fl h1.2 in
    let s6 = with_reg (register 6) lost s2 in
    let h6 = lost_one 6 lost s2 (omega arith) (omega arith) (omega arith) fl h2.2 in
    let s7 = with_reg (register 7) lost s6 in
    let h7 = lost_one 7 lost s6 (omega arith) (omega arith) (omega arith) fl h6.2 in
    let s8 = with_reg (register 8) lost s7 in
    let h8 = lost_one 8 lost s7 (omega arith) (omega arith) (omega arith) fl h7.2 in
    let s9 = with_reg (register 9) lost s8 in
    let h9 = lost_one 9 lost s8 (omega arith) (omega arith) (omega arith) fl h8.2 in
    let s10 = with_reg (register 10) lost s9 in
    let h10 = lost_one 10 lost s9 (omega arith) (omega arith) (omega arith) fl h9.2 in
    let h11 = lost_one 11 lost s10 (omega arith) (omega arith) (omega arith) fl h10.2 in
    record {
      given_is =
          h11.1.others (In (register 0)) (in_other 0 11 (omega arith))
          ∙ h10.1.others (In (register 0)) (in_other 0 10 (omega arith))
          ∙ h9.1.others (In (register 0)) (in_other 0 9 (omega arith))
          ∙ h8.1.others (In (register 0)) (in_other 0 8 (omega arith))
          ∙ h7.1.others (In (register 0)) (in_other 0 7 (omega arith))
          ∙ h6.1.others (In (register 0)) (in_other 0 6 (omega arith))
          ∙ h2.1.others (In (register 0)) (in_other 0 2 (omega arith))
          ∙ h1.1.others (In (register 0)) (in_other 0 1 (omega arith))
          ∙ h0.0;
      kept = λ q l. h11.1.others q l.not_11 ∙ h10.1.others q l.not_10 ∙ h9.1.others q l.not_9 ∙ h8.1.others q l.not_8 ∙ h7.1.others q l.not_7 ∙ h6.1.others q l.not_6 ∙ h2.1.others q l.not_2 ∙ h1.1.others q l.not_1 ∙ h0.1.others q l.not_0 ∙ hr.1.others q l.not_pushed;
      fit = h11.2;
    }

-- one register more is written in two states
both_write : (a b : State) (n : ℕ) (w : ℤ) (q : Place) → length a.regs ≡ 16 → length b.regs ≡ 16 → n < 16 → value a q ≡ value b q → value (with_reg (register n) w a) q ≡ value (with_reg (register n) w b) q
both_write a b n w q la lb lt e =
    elim (same_place q (In (register n))) as (λ x. same_place q (In (register n)) ≡ x → value (with_reg (register n) w a) q ≡ value (with_reg (register n) w b) q) [
      | true ↦ λ h. subst (λ z. value (with_reg (register n) w a) z ≡ value (with_reg (register n) w b) z) (sym (same_is q (In (register n)) h)) (get_or-set_same a.regs n w (pos 0) (omega arith) ∙ sym (get_or-set_same b.regs n w (pos 0) (omega arith)))
      | false ↦ λ h. (let ne = same_not q (In (register n)) h in
          others_of a n w q ne ∙ e ∙ sym (others_of b n w q ne))
    ]
    refl

sixteen : (a : State) (n : ℕ) (w : ℤ) → length a.regs ≡ 16 → length (with_reg (register n) w a).regs ≡ 16
sixteen a n w e = length-set a.regs n w ∙ e

both_lose : (given lost : ℤ) (a b : State) (q : Place) → length a.regs ≡ 16 → length b.regs ≡ 16 → value a q ≡ value b q → (value (with_lost given lost a) q ≡ value (with_lost given lost b) q) × (length (with_lost given lost a).regs ≡ 16)
both_lose given lost a b q la lb e =
    let a0 = with_reg (register 0) given a in
    let b0 = with_reg (register 0) given b in
    let a1 = with_reg (register 1) lost a0 in
    let b1 = with_reg (register 1) lost b0 in
    let a2 = with_reg (register 2) lost a1 in
    let b2 = with_reg (register 2) lost b1 in
    let a6 = with_reg (register 6) lost a2 in
    let b6 = with_reg (register 6) lost b2 in
    let a7 = with_reg (register 7) lost a6 in
    let b7 = with_reg (register 7) lost b6 in
    let a8 = with_reg (register 8) lost a7 in
    let b8 = with_reg (register 8) lost b7 in
    let a9 = with_reg (register 9) lost a8 in
    let b9 = with_reg (register 9) lost b8 in
    let a10 = with_reg (register 10) lost a9 in
    let b10 = with_reg (register 10) lost b9 in
    let la0 = sixteen a 0 given la in
    let lb0 = sixteen b 0 given lb in
    let la1 = sixteen a0 1 lost la0 in
    let lb1 = sixteen b0 1 lost lb0 in
    let la2 = sixteen a1 2 lost la1 in
    let lb2 = sixteen b1 2 lost lb1 in
    let la6 = sixteen a2 6 lost la2 in
    let lb6 = sixteen b2 6 lost lb2 in
    let la7 = sixteen a6 7 lost la6 in
    let lb7 = sixteen b6 7 lost lb6 in
    let la8 = sixteen a7 8 lost la7 in
    let lb8 = sixteen b7 8 lost lb7 in
    let la9 = sixteen a8 9 lost la8 in
    let lb9 = sixteen b8 9 lost lb8 in
    let la10 = sixteen a9 10 lost la9 in
    let lb10 = sixteen b9 10 lost lb9 in
    let e0 = both_write a b 0 given q la lb (omega arith) e in
    let e1 = both_write a0 b0 1 lost q la0 lb0 (omega arith) e0 in
    let e2 = both_write a1 b1 2 lost q la1 lb1 (omega arith) e1 in
    let e6 = both_write a2 b2 6 lost q la2 lb2 (omega arith) e2 in
    let e7 = both_write a6 b6 7 lost q la6 lb6 (omega arith) e6 in
    let e8 = both_write a7 b7 8 lost q la7 lb7 (omega arith) e7 in
    let e9 = both_write a8 b8 9 lost q la8 lb8 (omega arith) e8 in
    let e10 = both_write a9 b9 10 lost q la9 lb9 (omega arith) e9 in
    (both_write a10 b10 11 lost q la10 lb10 (omega arith) e10, sixteen a10 11 lost la10)

popped : wrap (pos 0x207FFFF0 +ℤ pos 8) ≡ pos 0x207FFFF8
popped = (let fits : FitsSigned w64 (pos 0x207FFFF8) = record { sfits = omega arith } in int_wrap_fits w64 (pos 0x207FFFF8) fits)

fit_by : (s t : State) → length t.regs ≡ 16 → length t.frame ≡ length s.frame → ((q : Place) → value t q ≡ value s q) → IsFit s → IsFit t
fit_by s t regs frame same f = record {
  regs = regs;
  frame = frame ∙ f.frame;
  words = λ q. subst IsWord (sym (same q)) (f.words q);
  base = same (In (register 5)) ∙ f.base;
  stack = same (In (register 4)) ∙ f.stack;
  top = same (Word 1048575) ∙ f.top;
}

pub host_answers : HostAnswers
host_answers entry back given lost arena s f small fg fl =
    let u : State = record (called entry back s) { arena = arena } in
    let r = kept_from back s in
    let l = loses given lost back s f fg fl small in
    let a = with_lost given lost u in
    let b = with_lost given lost r in
    let t = answered given lost back arena (called entry back s) in
    let lu : length u.regs ≡ 16 = length-set s.regs 4 (pos 0x207FFFF0) ∙ f.regs in
    let la : length a.regs ≡ 16 = (both_lose given lost u u (In (register 0)) lu lu refl).1 in
    let low : value u (In (register 4)) ≡ pos 0x207FFFF0 = get_or-set_same s.regs 4 (pos 0x207FFFF0) (pos 0) (omega (arith, f.regs)) in
    let z = wrap (reg u rsp +ℤ pos 8) in
    let back_up : z ≡ pos 0x207FFFF8 = ap (λ (y : ℤ). wrap (y +ℤ pos 8)) low ∙ popped in
    let c = with_reg rsp z a in
    let same : (q : Place) → value t q ≡ value b q = λ q.
    (elim (same_place q (In (register 4))) as (λ x. same_place q (In (register 4)) ≡ x → value t q ≡ value b q) [
      | true ↦ λ h. subst (λ y. value t y ≡ value b y) (sym (same_is q (In (register 4)) h)) (get_or-set_same a.regs 4 z (pos 0) (omega arith) ∙ back_up ∙ sym l.fit.stack)
      | false ↦ λ h. (let ne = same_not q (In (register 4)) h in
          value_same c t refl refl q
          ∙ others_of a 4 z q ne
          ∙ (both_lose given lost u r q lu f.regs (value_same (with_reg rsp (pos 0x207FFFF0) r) u refl refl q ∙ others_of r 4 (pos 0x207FFFF0) q ne)).0)
    ]
    refl) in
    record {
      at = refl;
      given_is = same (In (register 0)) ∙ l.given_is;
      kept = λ q k. same q ∙ l.kept q k;
      arena = refl;
      loads = refl;
      stores = refl;
      fit = fit_by b t (length-set a.regs 4 z ∙ la) refl same l.fit;
    }
