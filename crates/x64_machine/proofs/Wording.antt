-- What instructions leave in registers, frame and arena are words.
use Rattle.std.proofs.Common.{◌≡◌, ◌≢◌, ◌⊎◌, ℕ, zero, suc, ◌+◌, ◌-◌, ◌*◌, ◌/◌, ◌%◌, ◌^◌, ◌<◌, ◌≤◌, Bool, true, false, cond, List, [], ◌∷◌, length, Option, Some, None, refl, sym, ap, ◌∙◌, subst, inl, inr, arith, ⊎_elim, ℤ, pos}
use Rattle.std.specs.Prelude.{◌==◌, nat_eq, nat_le, ◌&&◌, FitsSigned, slice_get, slice_set, slice_index_or, ◌+ℤ◌, ◌-ℤ◌, ◌*ℤ◌, neg_ℤ}
use Rattle.std.specs.Int.{w64, cast_signed, int_bit_not}
use Rattle.std.proofs.lemmas.List.{get_or-set_same, get_or-set_other, get_or_past, length-set}
use Rattle.std.proofs.lemmas.Option.{get_or_from_slice_get}
use Rattle.std.proofs.lemmas.Bool.{eqb-true, eqb-false, cases_lt}
use Rattle.std.proofs.lemmas.Int.{SFits-int_wrap}
use Rattle.target_base.specs.declared.reg.Reg.{Reg}
use Rattle.x64_encode.specs.declared.instr.Instr.{Instr}
use Rattle.x64_encode.specs.declared.instr.Mem.{Mem}
use Rattle.x64_encode.specs.declared.instr.Mem.TheVariants.{At, Item}
use Rattle.x64_encode.specs.declared.instr.Instr.TheVariants.{MovReg, Load, Store, StoreImm, MovImm, Alu, AluImm, Imul, Not, Neg, ShiftCl, ShiftImm, Lea, Xchg, Set, Movzx, Jcc, Jmp, CallReg, JmpReg, Ret}
use Rattle.x64_encode.specs.declared.instr.AluOp.{AluOp}
use Rattle.x64_encode.specs.Form.{HasRow}
use Rattle.target_base.specs.Arena.{arena_word}
use Rattle.x64_machine.specs.declared.state.Flags.{Flags}
use Rattle.x64_machine.specs.declared.state.Turn.TheVariants.{Went, Stopped}
use Rattle.x64_machine.specs.declared.state.Stop.TheVariants.{Returned, HostCall}
use Rattle.x64_machine.specs.State.{State, Acted, act, went, stops, loaded, stored, jumps_where, set_where, calls, returns_to, reg, with_reg, with_flags, with_word, rsp, is_entry, in_arena, frame_word, word_at, address, computes, one_if, with_low_byte}
use Rattle.x64_machine.specs.Words.{writes, alu_result, alu_flags, wrap, unsigned, holds, shifted}
use Rattle.x64_machine.specs.Step.{MachineStep, StepWhere, Decoded, is_in, ahead}
use Rattle.x64_machine.specs.Running.{HasWords, WordsStayWords}
use Rattle.x64_machine.proofs.Fits.{IsWord, near_fits, bits_fit, bits_of, pos_fits, result_fits, not_fits, shifted_fits, one_small, low_byte_fits, byte_fits}

zero_fits : IsWord (pos 0)
zero_fits = record { sfits = omega arith }

abbrev AreWords : List ℤ → Type 0
AreWords xs = (n : ℕ) → IsWord (slice_index_or xs n (pos 0))

set_same : (xs : List ℤ) (i : ℕ) (w : ℤ) → IsWord w → IsWord (slice_index_or (slice_set xs i w) i (pos 0))
set_same xs i w f = ⊎_elim
    (λ lt. subst IsWord (sym (get_or-set_same xs i w (pos 0) lt)) f)
    (λ le. subst IsWord (sym (get_or_past (slice_set xs i w) i (pos 0) (omega (arith, length-set xs i w, le)))) zero_fits)
    (cases_lt i (length xs))

set_words : (xs : List ℤ) (i : ℕ) (w : ℤ) → IsWord w → AreWords xs → AreWords (slice_set xs i w)
set_words xs i w f h n =
    elim (nat_eq n i) as (λ b. nat_eq n i ≡ b → IsWord (slice_index_or (slice_set xs i w) n (pos 0))) [
      | true ↦ λ e. subst (λ (k : ℕ). IsWord (slice_index_or (slice_set xs i w) k (pos 0))) (sym (eqb-true n i e)) (set_same xs i w f)
      | false ↦ λ e. subst IsWord (sym (get_or-set_other xs i n w (pos 0) (eqb-false n i e))) (h n)
    ]
    refl

got_word : (xs : List ℤ) (i : ℕ) (w : ℤ) → AreWords xs → slice_get xs i ≡ Some w → IsWord w
got_word xs i w h e = subst IsWord (get_or_from_slice_get xs i w (pos 0) e) (h i)

if_word : (b : Bool) (xs : List ℤ) (i : ℕ) (w : ℤ) → AreWords xs → cond b (slice_get xs i) None ≡ Some w → IsWord w
if_word true xs i w h e = got_word xs i w h e
if_word false xs i w h e = absurd (cc)

word_read : (s : State) (a : ℕ) (w : ℤ) → HasWords s → word_at s a ≡ Some w → IsWord w
word_read s a w h e = which (in_arena a) e
  where
    which : (b : Bool) → cond b (arena_word s.arena a) (frame_word s.frame a) ≡ Some w → IsWord w
    which true g = if_word (a % 8 == 0 && nat_le 0x10000000 a) s.arena.words ((a - 0x10000000) / 8) w h.arena g
    which false g = if_word (a % 8 == 0) s.frame ((a - 0x20000000) / 8) w h.frame g

reg_words : (r : Reg) (w : ℤ) (s : State) → IsWord w → HasWords s → HasWords (with_reg r w s)
reg_words r w s f h = record { regs = set_words s.regs r.0 w f h.regs; frame = h.frame; arena = h.arena }

same_words : (s t : State) → t.regs ≡ s.regs → t.frame ≡ s.frame → t.arena.words ≡ s.arena.words → HasWords s → HasWords t
same_words s t a b c h = record {
  regs = subst AreWords (sym a) h.regs;
  frame = subst AreWords (sym b) h.frame;
  arena = subst AreWords (sym c) h.arena;
}

went_words : (at : ℕ) (s : State) → HasWords s → HasWords (went at s).state
went_words at s h = same_words s (went at s).state refl refl refl h

flag_words : (f : Flags) (s : State) → HasWords s → HasWords (with_flags f s)
flag_words f s h = same_words s (with_flags f s) refl refl refl h

put_words : (b : Bool) (a : ℕ) (w : ℤ) (s : State) → IsWord w → HasWords s → HasWords (record s { arena = cond b (record s.arena { words = slice_set s.arena.words ((a - 0x10000000) / 8) w }) s.arena; frame = cond b s.frame (slice_set s.frame ((a - 0x20000000) / 8) w); stores = s.stores + one_if b })
put_words true a w s f h = record { regs = h.regs; frame = h.frame; arena = set_words s.arena.words ((a - 0x10000000) / 8) w f h.arena }
put_words false a w s f h = record { regs = h.regs; frame = set_words s.frame ((a - 0x20000000) / 8) w f h.frame; arena = h.arena }

loaded_words : (o : Option ℤ) (a : ℕ) (s : State) (go : ℤ → State → Acted) → ((w : ℤ) → o ≡ Some w → IsWord w) → HasWords s → ((w : ℤ) (t : State) → IsWord w → HasWords t → HasWords (go w t).state) → HasWords (loaded o a s go).state
loaded_words None a s go f h k = h
loaded_words (Some w) a s go f h k = k w _ (f w refl) (same_words s (record s { loads = s.loads + one_if (in_arena a) }) refl refl refl h)

stored_words : (o : Option ℤ) (a : ℕ) (w : ℤ) (s : State) (go : State → Acted) → IsWord w → HasWords s → ((t : State) → HasWords t → HasWords (go t).state) → HasWords (stored o a w s go).state
stored_words None a w s go f h k = h
stored_words (Some old) a w s go f h k = k _ (put_words (in_arena a) a w s f h)

jump_words : (o : Option Bool) (next : ℕ) (d : ℤ) (s : State) → HasWords s → HasWords (jumps_where o next d s).state
jump_words None next d s h = h
jump_words (Some true) next d s h = went_words _ s h
jump_words (Some false) next d s h = went_words next s h

flag_set_words : (o : Option Bool) (next : ℕ) (r : Reg) (s : State) → HasWords s → HasWords (set_where o next r s).state
flag_set_words None next r s h = h
flag_set_words (Some b) next r s h = went_words next _ (reg_words r _ s (low_byte_fits (one_if b) (reg s r) (one_small b) (h.regs r.0)) h)

either_words : (b : Bool) (x y : Acted) → HasWords x.state → HasWords y.state → HasWords (cond b x y).state
either_words true x y h k = h
either_words false x y h k = k

alu_words : (b : Bool) (op : AluOp) (to : Reg) (w : ℤ) (s : State) → IsWord w → HasWords s → HasWords (cond b (with_reg to w s) s)
alu_words true op to w s f h = reg_words to w s f h
alu_words false op to w s f h = h

computes_words : (op : AluOp) (to : Reg) (b : ℤ) (next : ℕ) (s : State) → IsWord b → HasWords s → HasWords (computes op to b next s).state
computes_words op to b next s f h =
    went_words next _ (flag_words (alu_flags op (reg s to) b) _ (alu_words (writes op) op to (alu_result op (reg s to) b) s (result_fits op (reg s to) b (h.regs to.0) f) h))

made_words : (i : Instr) (next : ℕ) (s : State) → HasRow i → next < 2 ^ 64 → HasWords s → HasWords (act i next s).state
made_words (MovReg to from) next s r lt h = went_words next _ (reg_words to _ s (h.regs from.0) h)
made_words (Load to mem) next s r lt h = loaded_words (word_at s (address s mem)) _ s _ (λ w e. word_read s (address s mem) w h e) h (λ w t f k. went_words next _ (reg_words to w t f k))
made_words (Store mem from) next s r lt h = stored_words (word_at s (address s mem)) _ _ s _ (h.regs from.0) h (λ t k. went_words next t k)
made_words (StoreImm mem v) next s r lt h = stored_words (word_at s (address s mem)) _ _ s _ (near_fits v r.1) h (λ t k. went_words next t k)
made_words (MovImm to v) next s r lt h = went_words next _ (reg_words to v s r.1 h)
made_words (Alu op to from) next s r lt h = computes_words op to (reg s from) next s (h.regs from.0) h
made_words (AluImm op to v) next s r lt h = computes_words op to v next s (near_fits v r.2) h
made_words (Imul to from) next s r lt h = went_words next _ (flag_words _ _ (reg_words to _ s (SFits-int_wrap w64 (reg s to *ℤ reg s from)) h))
made_words (Not a) next s r lt h = went_words next _ (reg_words a _ s (not_fits (reg s a)) h)
made_words (Neg a) next s r lt h = went_words next _ (flag_words _ _ (reg_words a _ s (SFits-int_wrap w64 (neg_ℤ (reg s a))) h))
made_words (ShiftCl op a) next s r lt h = went_words next _ (flag_words _ _ (reg_words a _ s (shifted_fits op (reg s a) _ (h.regs a.0)) h))
made_words (ShiftImm op a n) next s r lt h = went_words next _ (flag_words _ _ (reg_words a _ s (shifted_fits op (reg s a) n (h.regs a.0)) h))
made_words (Lea to mem) next s r lt h = went_words next _ (reg_words to _ s (bits_fit (address s mem) (address_fits s mem)) h)
  where
    address_fits : (s : State) (mem : Mem) → address s mem < 2 ^ 64
    address_fits s (At base d) = bits_of (wrap (reg s base +ℤ d)) (SFits-int_wrap w64 (reg s base +ℤ d))
    address_fits s (Item base index d) = bits_of (wrap ((reg s base +ℤ pos 8 *ℤ reg s index) +ℤ d)) (SFits-int_wrap w64 ((reg s base +ℤ pos 8 *ℤ reg s index) +ℤ d))
made_words (Xchg a b) next s r lt h = went_words next _ (reg_words b _ _ (h.regs a.0) (reg_words a _ s (h.regs b.0) h))
made_words (Set cond a) next s r lt h = flag_set_words (holds cond s.flags) next a s h
made_words (Movzx to from) next s r lt h = went_words next _ (reg_words to _ s (byte_fits (unsigned (reg s from))) h)
made_words (Jcc cond d) next s r lt h = jump_words (holds cond s.flags) next d s h
made_words (Jmp d) next s r lt h = went_words _ s h
made_words (CallReg a) next s r lt h =
    stored_words (word_at s (unsigned (wrap (reg s rsp -ℤ pos 8)))) _ _ s (λ t. calls (unsigned (reg s a)) (with_reg rsp (wrap (reg s rsp -ℤ pos 8)) t)) (bits_fit next lt) h
    (λ t k. (let on = reg_words rsp (wrap (reg s rsp -ℤ pos 8)) t (SFits-int_wrap w64 (reg s rsp -ℤ pos 8)) k in either_words (is_entry (unsigned (reg s a))) _ _ (went_words _ _ on) (went_words _ _ on)))
made_words (JmpReg a) next s r lt h = went_words _ s h
made_words Ret next s r lt h =
    loaded_words (word_at s (unsigned (reg s rsp))) _ s (λ w t. returns_to (unsigned w) s (with_reg rsp (wrap (reg s rsp +ℤ pos 8)) t)) (λ w e. word_read s (unsigned (reg s rsp)) w h e) h
    (λ w t f k. either_words (unsigned w == 0x30000000) (stops Returned s) (went (unsigned w) (with_reg rsp (wrap (reg s rsp +ℤ pos 8)) t)) h (went_words _ _ (reg_words rsp _ t (SFits-int_wrap w64 (reg s rsp +ℤ pos 8)) k)))

decoded_words : (bytes : List ℕ) (s : State) (done : Acted) → Decoded bytes s done → HasWords s → HasWords done.state
decoded_words bytes s done (inl (i, n, h, e)) k =
    subst (λ (x : Acted). HasWords x.state) (sym e) (made_words i ((s.at + n) % 2 ^ 64) s h.1.0 (omega arith) k)
decoded_words bytes s done (inr d) k = subst (λ (x : Acted). HasWords x.state) (sym d.1) k

words_at : (b : Bool) (bytes : List ℕ) (s : State) (done : Acted) → StepWhere b bytes s done → HasWords s → HasWords done.state
words_at true bytes s done h k = decoded_words bytes s done h k
words_at false bytes s done h k = subst (λ (x : Acted). HasWords x.state) (sym h) k

pub words_stay : WordsStayWords
words_stay code s done h k = words_at (is_in code s.at) (ahead code s.at) s done h k
