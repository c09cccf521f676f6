-- The first state is fit for code, and holds the inputs.
use Rattle.std.proofs.Common.{◌≡◌, true, false, ℕ, zero, suc, ◌+◌, ◌-◌, ◌<◌, ◌≤◌, ℤ, pos, List, [], ◌∷◌, ◌++◌, length, refl, sym, ap, subst, ◌∙◌, arith, slice_index_or, ⊎_elim}
use Rattle.std.specs.List.{All}
use Rattle.std.proofs.lemmas.Bool.{cases_lt}
use Rattle.std.proofs.lemmas.List.{length-append, length-replicate, get_or-append-add, get_or_append_left}
use Rattle.std.proofs.lemmas.List.Elements.{All-nil, All-cons, All-append, All-replicate, All-get_or}
use Rattle.trace_ops.specs.Words.{IsWord}
use Rattle.target_base.specs.declared.place.Place.{Place}
use Rattle.target_base.specs.declared.place.Place.TheVariants.{In, Word}
use Rattle.x64_machine.specs.State.{State}
use Rattle.x64_machine.specs.Start.{zeros, first_regs, first_frame, IsStart}
use Rattle.asm_select.specs.Valued.{value, IsFit}
use Rattle.std.specs.Prelude.{FitsSigned, negsuc, nat_eq, slice_set, ◌-ℤ◌}
use Rattle.std.specs.Int.{w64}
use Rattle.std.proofs.lemmas.Bool.{eqb-true, eqb-false}
use Rattle.std.proofs.lemmas.Int.{ints, int_wrap_fits}
use Rattle.std.proofs.lemmas.List.{get_or-set_same, get_or-set_other, length-set}
use Rattle.guard_exit.specs.Codes.{register}
use Rattle.x64_encode.specs.declared.instr.AluOp.TheVariants as alu
use Rattle.x64_encode.specs.declared.instr.Instr.TheVariants.{AluImm}
use Rattle.x64_machine.specs.Words.{wrap, alu_result, alu_flags}
use Rattle.x64_machine.specs.State.{reg, with_reg, with_flags}
use Rattle.asm_select.specs.Reached.{SameArena}
use Rattle.asm_select.proofs.Steps.{one, moved}
use Rattle.asm_select.specs.Exited.{StartFits}

length-zeros : (n : ℕ) → length (zeros n) ≡ n
unfolding zeros
length-zeros n = length-replicate n (pos 0)

zero_word : IsWord (pos 0)
zero_word = record { sfits = omega arith }

zeros_words : (n : ℕ) → All IsWord (zeros n)
unfolding zeros
zeros_words n = All-replicate IsWord n (pos 0) zero_word

past_end : (xs : List ℤ) (k : ℕ) → length xs ≤ k → slice_index_or xs k (pos 0) ≡ pos 0
past_end [] k le = refl
past_end (x ∷ xs) zero le = absurd (omega (arith, le))
past_end (x ∷ xs) (suc k) le = past_end xs k (omega (arith, le))

some_word : (xs : List ℤ) (k : ℕ) → All IsWord xs → IsWord (slice_index_or xs k (pos 0))
some_word xs k h =
    ⊎_elim
    (λ lt. All-get_or IsWord xs k (pos 0) lt h)
    (λ le. subst IsWord (sym (past_end xs k le)) zero_word)
    (cases_lt k (length xs))

-- ---- registers

regs_length : length first_regs ≡ 16
unfolding first_regs zeros
regs_length = refl

regs_words : All IsWord first_regs
unfolding first_regs
regs_words =
    All-append IsWord (zeros 4) (pos 0x207FFFF8 ∷ pos 0x20000000 ∷ zeros 10) (zeros_words 4)
    (All-cons IsWord (pos 0x207FFFF8) (pos 0x20000000 ∷ zeros 10) (record { sfits = omega arith }) (All-cons IsWord (pos 0x20000000) (zeros 10) (record { sfits = omega arith }) (zeros_words 10)))

rbp_is : slice_index_or first_regs 5 (pos 0) ≡ pos 0x20000000
unfolding first_regs zeros
rbp_is = refl

rsp_is : slice_index_or first_regs 4 (pos 0) ≡ pos 0x207FFFF8
unfolding first_regs zeros
rsp_is = refl

-- ---- frame words

-- the last of a frame's words
last_of : (a b c : List ℤ) (w : ℤ) (n : ℕ) → length a + (length b + length c) ≡ n → slice_index_or (a ++ (b ++ (c ++ w ∷ []))) n (pos 0) ≡ w
last_of a b c w n e =
    let m : n ≡ length a + (length b + (length c + 0)) = omega (arith, e) in
    ap (λ (k : ℕ). slice_index_or (a ++ (b ++ (c ++ w ∷ []))) k (pos 0)) m
    ∙ get_or-append-add a (b ++ (c ++ w ∷ [])) (length b + (length c + 0)) (pos 0)
    ∙ get_or-append-add b (c ++ w ∷ []) (length c + 0) (pos 0)
    ∙ get_or-append-add c (w ∷ []) 0 (pos 0)

-- a word in the middle
middle_of : (a b c : List ℤ) (n k : ℕ) → length a ≡ n → k < length b → slice_index_or (a ++ (b ++ c)) (n + k) (pos 0) ≡ slice_index_or b k (pos 0)
middle_of a b c n k e lt =
    ap (λ (j : ℕ). slice_index_or (a ++ (b ++ c)) (j + k) (pos 0)) (sym e)
    ∙ get_or-append-add a (b ++ c) k (pos 0)
    ∙ get_or_append_left b c (pos 0) k lt

frame_length : (inputs : List ℤ) → length inputs ≤ 64 → length (first_frame inputs) ≡ 1048576
unfolding first_frame
frame_length inputs few =
    let z = zeros 16 in
    let y = zeros (1048559 - length inputs) in
    omega (arith, few, length-append z (inputs ++ (y ++ pos 0x30000000 ∷ [])), length-append inputs (y ++ pos 0x30000000 ∷ []), length-append y (pos 0x30000000 ∷ []), length-zeros 16, length-zeros (1048559 - length inputs))

frame_words : (inputs : List ℤ) → All IsWord inputs → All IsWord (first_frame inputs)
unfolding first_frame
frame_words inputs h =
    let y = zeros (1048559 - length inputs) in
    let last : All IsWord (pos 0x30000000 ∷ []) = All-cons IsWord (pos 0x30000000) [] (record { sfits = omega arith }) (All-nil IsWord) in
    All-append IsWord (zeros 16) (inputs ++ (y ++ pos 0x30000000 ∷ [])) (zeros_words 16)
    (All-append IsWord inputs (y ++ pos 0x30000000 ∷ []) h (All-append IsWord y (pos 0x30000000 ∷ []) (zeros_words (1048559 - length inputs)) last))

top_is : (inputs : List ℤ) → length inputs ≤ 64 → slice_index_or (first_frame inputs) 1048575 (pos 0) ≡ pos 0x30000000
unfolding first_frame
top_is inputs few =
    last_of (zeros 16) inputs (zeros (1048559 - length inputs)) (pos 0x30000000) 1048575 (omega (arith, few, length-zeros 16, length-zeros (1048559 - length inputs)))

input_is : (inputs : List ℤ) (k : ℕ) → k < length inputs → slice_index_or (first_frame inputs) (16 + k) (pos 0) ≡ slice_index_or inputs k (pos 0)
unfolding first_frame
input_is inputs k lt = middle_of (zeros 16) inputs (zeros (1048559 - length inputs) ++ pos 0x30000000 ∷ []) 16 k (length-zeros 16) lt

-- ---- the state

holds_input : (n : ℕ) (prebuilt : List ℤ) (entry : ℕ) (inputs : List ℤ) (s : State) (k : ℕ) → IsStart n prebuilt entry inputs s → k < length inputs → value s (Word (16 + k)) ≡ slice_index_or inputs k (pos 0)
holds_input n prebuilt entry inputs s k h lt = ap (λ (xs : List ℤ). slice_index_or xs (16 + k) (pos 0)) h.frame ∙ input_is inputs k lt

place_word : (n : ℕ) (prebuilt : List ℤ) (entry : ℕ) (inputs : List ℤ) (s : State) (p : Place) → IsStart n prebuilt entry inputs s → All IsWord inputs → IsWord (value s p)
place_word n prebuilt entry inputs s (In r) h w = subst (λ (xs : List ℤ). IsWord (slice_index_or xs r.0 (pos 0))) (sym h.regs) (some_word first_regs r.0 regs_words)
place_word n prebuilt entry inputs s (Word k) h w = subst (λ (xs : List ℤ). IsWord (slice_index_or xs k (pos 0))) (sym h.frame) (some_word (first_frame inputs) k (frame_words inputs w))

set_word : (xs : List ℤ) (n : ℕ) (v : ℤ) → IsWord v → length xs ≡ 16 → (r : ℕ) → IsWord (slice_index_or xs r (pos 0)) → IsWord (slice_index_or (slice_set xs 5 v) r (pos 0))
set_word xs n v f len r h =
    elim (nat_eq r 5) as (λ b. nat_eq r 5 ≡ b → IsWord (slice_index_or (slice_set xs 5 v) r (pos 0))) [
      | true ↦ λ e. subst (λ (k : ℕ). IsWord (slice_index_or (slice_set xs 5 v) k (pos 0))) (sym (eqb-true r 5 e)) (subst IsWord (sym (get_or-set_same xs 5 v (pos 0) (omega (arith, len)))) f)
      | false ↦ λ e. subst IsWord (sym (get_or-set_other xs 5 r v (pos 0) (eqb-false r 5 e))) h
    ]
    refl

base_is : wrap (pos 0x20000000 -ℤ negsuc 127) ≡ pos 0x20000080
base_is =
    let fits : FitsSigned w64 (pos 536871040) = record { sfits = omega arith } in
    let e : pos 0x20000000 -ℤ negsuc 127 ≡ pos 536871040 = omega (arith, ints) in
    ap wrap e ∙ int_wrap_fits w64 (pos 536871040) fits

pub start_fits : StartFits
start_fits n prebuilt entry inputs ys s h few w =
    let rbp = register 5 in
    let v = alu_result alu.Sub (reg s rbp) (negsuc 127) in
    let fl = alu_flags alu.Sub (reg s rbp) (negsuc 127) in
    let x = with_flags fl (with_reg rbp v s) in
    let v_is : v ≡ pos 0x20000080 = ap (λ (xs : List ℤ). wrap (slice_index_or xs 5 (pos 0) -ℤ negsuc 127)) h.regs ∙ ap (λ (z : ℤ). wrap (z -ℤ negsuc 127)) rbp_is ∙ base_is in
    let v_word : IsWord v = subst IsWord (sym v_is) (record { sfits = omega arith }) in
    let len : length s.regs ≡ 16 = ap length h.regs ∙ regs_length in
    one entry (AluImm alu.Sub rbp (negsuc 127)) ys s x (λ t. IsFit t × SameArena s t × ((k : ℕ) → k < length inputs → value t (Word (16 + k)) ≡ slice_index_or inputs k (pos 0))) h.at (λ next. refl)
    (λ next. (
      record {
        regs = length-set s.regs 5 v ∙ len;
        frame = ap length h.frame ∙ frame_length inputs few;
        words = λ p. words (moved next x) p v_word len next;
        base = get_or-set_same s.regs 5 v (pos 0) (omega (arith, len)) ∙ v_is;
        stack = get_or-set_other s.regs 5 4 v (pos 0) (omega arith) ∙ ap (λ (xs : List ℤ). slice_index_or xs 4 (pos 0)) h.regs ∙ rsp_is;
        top = ap (λ (xs : List ℤ). slice_index_or xs 1048575 (pos 0)) h.frame ∙ top_is inputs few;
      },
      record { arena = refl; loads = refl; stores = refl },
      λ k lt. holds_input n prebuilt entry inputs s k h lt,
    ))
  where
    words : (t : State) (p : Place) → IsWord (alu_result alu.Sub (reg s (register 5)) (negsuc 127)) → length s.regs ≡ 16 → (next : ℕ) → IsWord (value (moved next (with_flags (alu_flags alu.Sub (reg s (register 5)) (negsuc 127)) (with_reg (register 5) (alu_result alu.Sub (reg s (register 5)) (negsuc 127)) s))) p)
    words t (In r) f len next = set_word s.regs 0 (alu_result alu.Sub (reg s (register 5)) (negsuc 127)) f len r.0 (place_word n prebuilt entry inputs s (In r) h w)
    words t (Word k) f len next = place_word n prebuilt entry inputs s (Word k) h w
