-- Where one jump leads elsewhere, four bytes are others.
use Rattle.std.proofs.Common.{◌≡◌, ◌≢◌, inl, inr, ℕ, ◌+◌, List, [], ◌∷◌, ◌++◌, length, take, drop, append_assoc, refl, sym, ap, ◌∙◌, subst, arith, ℤ}
use Rattle.std.proofs.lemmas.List.{length-append, take_at, drop_at}
use Rattle.std.specs.Int.{to_le_bytes, cast_unsigned, w32}
use Rattle.x64_encode.specs.declared.instr.Instr.TheVariants.{Jcc, Jmp}
use Rattle.x64_encode.specs.Fields.{imm32, cc_number}
use Rattle.x64_encode.specs.Form.{spelling}
use Rattle.asm_select.specs.Slots.{Slot, Put, Leave, Go, size_of}
use Rattle.code_layout.specs.Leading.{way, led_bytes, JumpIs, IsAway, JumpsOnce, patched}
use Rattle.code_layout.specs.Laws.{JumpsArePatched}

abbrev Only : ℕ → (ℕ → ℕ) → (ℕ → ℕ) → Type 0
Only k to next = (j : ℕ) → j ≢ k → next j ≡ to j

away : (to next : ℕ → ℕ) (k p : ℕ) (xs : List Slot) → Only k to next → IsAway k xs → led_bytes next p xs ≡ led_bytes to p xs
away to next k p [] same h = refl
away to next k p (Put i ∷ xs) same h = ap (λ (l : List ℕ). spelling i ++ l) (away to next k (p + size_of (Put i)) xs same h)
away to next k p (Leave c j ∷ xs) same h =
    ap (λ (d : ℕ). spelling (Jcc c (way (p + 6) d)) ++ led_bytes next (p + 6) xs) (same j h.0) ∙ ap (λ (l : List ℕ). spelling (Jcc c (way (p + 6) (to j))) ++ l) (away to next k (p + 6) xs same h.1)
away to next k p (Go j ∷ xs) same h =
    ap (λ (d : ℕ). spelling (Jmp (way (p + 5) d)) ++ led_bytes next (p + 5) xs) (same j h.0) ∙ ap (λ (l : List ℕ). spelling (Jmp (way (p + 5) (to j))) ++ l) (away to next k (p + 5) xs same h.1)

-- a jump among slots isn't that of an operation that is away
other : (k j at p : ℕ) (xs : List Slot) → JumpIs k at p xs → IsAway j xs → j ≢ k
other k j at p [] h a = absurd h
other k j at p (Put i ∷ xs) h a = other k j at (p + size_of (Put i)) xs h a
other k j at p (Leave c m ∷ xs) (inl h) a = λ (e : j ≡ k). a.0 (h.0 ∙ sym e)
other k j at p (Leave c m ∷ xs) (inr h) a = other k j at (p + 6) xs h a.1
other k j at p (Go m ∷ xs) (inl h) a = λ (e : j ≡ k). a.0 (h.0 ∙ sym e)
other k j at p (Go m ∷ xs) (inr h) a = other k j at (p + 5) xs h a.1

-- the bytes around the displacement
record Around (to next : ℕ → ℕ) (k at p : ℕ) (xs : List Slot) : Type 0 where
  front : List ℕ
  back : List ℕ
  old : led_bytes to p xs ≡ front ++ (imm32 (way (at + 4) (to k)) ++ back)
  new : led_bytes next p xs ≡ front ++ (imm32 (way (at + 4) (next k)) ++ back)
  place : p + length front ≡ at

behind_one : (to next : ℕ → ℕ) (k at p : ℕ) (x : Slot) (xs : List Slot) (sp sp' : List ℕ) → sp ≡ sp' → length sp ≡ size_of x → Around to next k at (p + size_of x) xs
    → led_bytes to p (x ∷ xs) ≡ sp ++ led_bytes to (p + size_of x) xs → led_bytes next p (x ∷ xs) ≡ sp' ++ led_bytes next (p + size_of x) xs → Around to next k at p (x ∷ xs)
behind_one to next k at p x xs sp sp' same long a e f = record {
  front = sp ++ a.front;
  back = a.back;
  old = e ∙ ap (λ (l : List ℕ). sp ++ l) a.old ∙ sym (append_assoc sp a.front (imm32 (way (at + 4) (to k)) ++ a.back));
  new = f ∙ ap (λ (l : List ℕ). l ++ led_bytes next (p + size_of x) xs) (sym same) ∙ ap (λ (l : List ℕ). sp ++ l) a.new ∙ sym (append_assoc sp a.front (imm32 (way (at + 4) (next k)) ++ a.back));
  place = omega (arith, length-append sp a.front, long, a.place);
}

leave_here : (to next : ℕ → ℕ) (c : _) (k at p : ℕ) (xs : List Slot) → at ≡ p + 2 → led_bytes next (p + 6) xs ≡ led_bytes to (p + 6) xs → Around to next k at p (Leave c k ∷ xs)
leave_here to next c k at p xs e same =
    let n : p + 6 ≡ at + 4 = omega (arith, e) in record {
      front = 0x0F ∷ (0x80 + cc_number c) ∷ [];
      back = led_bytes to (p + 6) xs;
      old = ap (λ (q : ℕ). 0x0F ∷ (0x80 + cc_number c) ∷ (imm32 (way q (to k)) ++ led_bytes to (p + 6) xs)) n;
      new = ap (λ (q : ℕ). 0x0F ∷ (0x80 + cc_number c) ∷ (imm32 (way q (next k)) ++ led_bytes next (p + 6) xs)) n ∙ ap (λ (l : List ℕ). 0x0F ∷ (0x80 + cc_number c) ∷ (imm32 (way (at + 4) (next k)) ++ l)) same;
      place = sym e;
    }

go_here : (to next : ℕ → ℕ) (k at p : ℕ) (xs : List Slot) → at ≡ p + 1 → led_bytes next (p + 5) xs ≡ led_bytes to (p + 5) xs → Around to next k at p (Go k ∷ xs)
go_here to next k at p xs e same =
    let n : p + 5 ≡ at + 4 = omega (arith, e) in record {
      front = 0xE9 ∷ [];
      back = led_bytes to (p + 5) xs;
      old = ap (λ (q : ℕ). 0xE9 ∷ (imm32 (way q (to k)) ++ led_bytes to (p + 5) xs)) n;
      new = ap (λ (q : ℕ). 0xE9 ∷ (imm32 (way q (next k)) ++ led_bytes next (p + 5) xs)) n ∙ ap (λ (l : List ℕ). 0xE9 ∷ (imm32 (way (at + 4) (next k)) ++ l)) same;
      place = sym e;
    }

around : (to next : ℕ → ℕ) (k at p : ℕ) (xs : List Slot) → Only k to next → JumpsOnce xs → JumpIs k at p xs → Around to next k at p xs
around to next k at p [] same once h = absurd h
around to next k at p (Put i ∷ xs) same once h = behind_one to next k at p (Put i) xs (spelling i) (spelling i) refl refl (around to next k at (p + size_of (Put i)) xs same once h) refl refl
around to next k at p (Leave c j ∷ xs) same once (inl h) =
    subst (λ (m : ℕ). Around to next k at p (Leave c m ∷ xs)) (sym h.0) (leave_here to next c k at p xs h.1 (away to next k (p + 6) xs same (subst (λ (m : ℕ). IsAway m xs) h.0 once.0)))
around to next k at p (Leave c j ∷ xs) same once (inr h) =
    let e : next j ≡ to j = same j (other k j at (p + 6) xs h once.0) in
    behind_one to next k at p (Leave c j) xs (spelling (Jcc c (way (p + 6) (to j)))) (spelling (Jcc c (way (p + 6) (next j)))) (ap (λ (d : ℕ). spelling (Jcc c (way (p + 6) d))) (sym e)) refl (around to next k at (p + 6) xs same once.1 h) refl refl
around to next k at p (Go j ∷ xs) same once (inl h) =
    subst (λ (m : ℕ). Around to next k at p (Go m ∷ xs)) (sym h.0) (go_here to next k at p xs h.1 (away to next k (p + 5) xs same (subst (λ (m : ℕ). IsAway m xs) h.0 once.0)))
around to next k at p (Go j ∷ xs) same once (inr h) =
    let e : next j ≡ to j = same j (other k j at (p + 5) xs h once.0) in
    behind_one to next k at p (Go j) xs (spelling (Jmp (way (p + 5) (to j)))) (spelling (Jmp (way (p + 5) (next j)))) (ap (λ (d : ℕ). spelling (Jmp (way (p + 5) d))) (sym e)) refl (around to next k at (p + 5) xs same once.1 h) refl refl

-- four bytes in the middle
middle : (front a back : List ℕ) (v : ℤ) (n : ℕ) → length front ≡ n → length a ≡ 4 → front ++ (imm32 v ++ back) ≡ patched n v (front ++ (a ++ back))
middle front a back v n len four =
    let whole : front ++ (a ++ back) ≡ (front ++ a) ++ back = sym (append_assoc front a back) in
    let both : length (front ++ a) ≡ n + 4 = length-append front a ∙ omega (arith, len, four) in
    let taken : take n (front ++ (a ++ back)) ≡ front = take_at front (a ++ back) n len in
    let dropped : drop (n + 4) (front ++ (a ++ back)) ≡ back = ap (drop (n + 4)) whole ∙ drop_at (front ++ a) back (n + 4) both in
    let spelled : imm32 v ≡ to_le_bytes w32 (cast_unsigned w32 v) = refl in
    sym (ap (λ (l : List ℕ). l ++ (to_le_bytes w32 (cast_unsigned w32 v) ++ drop (n + 4) (front ++ (a ++ back)))) taken ∙ ap (λ (l : List ℕ). front ++ (to_le_bytes w32 (cast_unsigned w32 v) ++ l)) dropped ∙ ap (λ (l : List ℕ). front ++ (l ++ back)) (sym spelled))
    ∙ sym (append_assoc (take n (front ++ (a ++ back))) (to_le_bytes w32 (cast_unsigned w32 v)) (drop (n + 4) (front ++ (a ++ back))))

-- bytes in front and behind
within : (before front a back behind : List ℕ) → before ++ ((front ++ (a ++ back)) ++ behind) ≡ (before ++ front) ++ (a ++ (back ++ behind))
within before front a back behind =
    ap (λ (l : List ℕ). before ++ l) (append_assoc front (a ++ back) behind ∙ ap (λ (l : List ℕ). front ++ l) (append_assoc a back behind)) ∙ sym (append_assoc before front (a ++ (back ++ behind)))

pub jumps_are_patched : JumpsArePatched
jumps_are_patched to next k at xs before behind same once h =
    let a = around to next k at (length before) xs same once h in
    let v = way (at + 4) (next k) in
    let u = way (at + 4) (to k) in
    let n : length (before ++ a.front) ≡ at = length-append before a.front ∙ a.place in
    ap (λ (l : List ℕ). before ++ (l ++ behind)) a.new
    ∙ within before a.front (imm32 v) a.back behind
    ∙ middle (before ++ a.front) (imm32 u) (a.back ++ behind) v at n refl
    ∙ ap (patched at v) (sym (ap (λ (l : List ℕ). before ++ (l ++ behind)) a.old ∙ within before a.front (imm32 u) a.back behind))
