-- Stubs, one behind the other.
use Rattle.std.proofs.Common.{◌≡◌, ℕ, suc, ◌+◌, ◌-◌, ◌*◌, ◌<◌, ◌^◌, List, [], ◌∷◌, ◌++◌, length, refl, sym, ap, ◌∙◌, arith, append_assoc, append-nil, length-append, ℤ, pos, Bool, true, false, cond, nat_lt, lt-ltb, ◌%◌}
use Rattle.x64_encode.specs.declared.instr.Instr.{Instr}
use Rattle.x64_encode.specs.declared.instr.Instr.TheVariants.{MovImm}
use Rattle.x64_encode.specs.Fields.{rex, modrm, imm32, imm64}
use Rattle.x64_encode.specs.Form.{spelling}
use Rattle.guard_exit.specs.Codes.{register, stub_code}
use Rattle.code_layout.specs.Leading.{way}
use Rattle.code_layout.specs.Emitting.{total_size, emitted, noted}
use Rattle.bridge_patch.specs.Pieces.{spelled, stubs_from}

pub record AddsStubs (from-0 : ℕ) (bytes-0 : List ℕ) (jumps-0 : List (ℕ × ℕ)) (exit count k from : ℕ) (bytes : List ℕ) (jumps : List (ℕ × ℕ)) : Type 0 where
  pub same : from ≡ from-0
  pub so : bytes ++ spelled (stubs_from (from-0 + length bytes) (exit + k) (count - k)) ≡ bytes-0 ++ spelled (stubs_from (from-0 + length bytes-0) exit count)
  pub jumps_same : jumps ≡ jumps-0
  pub long : length bytes ≡ length bytes-0 + 16 * k

pub spelled-append : (a b : List Instr) → spelled (a ++ b) ≡ spelled a ++ spelled b
spelled-append [] b = refl
spelled-append (i ∷ is) b = ap (λ (l : List ℕ). spelling i ++ l) (spelled-append is b) ∙ sym (append_assoc (spelling i) (spelled is) (spelled b))

pub spelled_long : (is : List Instr) → length (spelled is) ≡ total_size is
spelled_long [] = refl
spelled_long (i ∷ is) = length-append (spelling i) (spelled is) ∙ ap (λ (n : ℕ). length (spelling i) + n) (spelled_long is)

small_mov : (e : ℕ) → e < 2 ^ 31 → length (spelling (MovImm (register 0) (pos e))) ≡ 7
small_mov e lt = either (nat_lt e (2 ^ 31)) (lt-ltb e (2 ^ 31) lt)
  where
    either : (b : Bool) → b ≡ true → length (cond b (rex 1 0 0 0 ∷ 0xC7 ∷ modrm 3 0 0 ∷ imm32 (pos e)) (rex 1 0 0 0 ∷ (0xB8 + 0 % 8) ∷ imm64 (pos e))) ≡ 7
    either true h = refl
    either false h = absurd (cc)

pub stub_long : (v : ℤ) (e : ℕ) → e < 2 ^ 31 → length (spelled (stub_code v e)) ≡ 16
stub_long v e lt = spelled_long (stub_code v e) ∙ omega (arith, small_mov e lt)

pub emitted_none : (to : ℕ → ℕ) (p n : ℕ) (is : List Instr) → emitted to p n is [] ≡ spelled is
emitted_none to p n [] = refl
emitted_none to p n (i ∷ is) = ap (λ (l : List ℕ). spelling i ++ l) (emitted_none to (p + length (spelling i)) (n + 1) is)

pub noted_none : (p n : ℕ) (is : List Instr) → noted p n is [] ≡ []
noted_none p n [] = refl
noted_none p n (i ∷ is) = noted_none (p + length (spelling i)) (n + 1) is

pub stub_added : (to : ℕ → ℕ) (from-0 : ℕ) (bytes-0 : List ℕ) (jumps-0 : List (ℕ × ℕ)) (exit count k from end : ℕ) (bytes : List ℕ) (jumps : List (ℕ × ℕ)) (from' : ℕ) (bytes' : List ℕ) (jumps' : List (ℕ × ℕ)) (stub : List Instr)
    → AddsStubs from-0 bytes-0 jumps-0 exit count k from bytes jumps → k < count → exit + count < 2 ^ 31
    → end ≡ from + length bytes + 16 → stub ≡ stub_code (way end 0) (exit + k)
    → from' ≡ from → bytes' ≡ bytes ++ emitted to (from + length bytes) 0 stub [] → jumps' ≡ jumps ++ noted (from + length bytes) 0 stub []
    → AddsStubs from-0 bytes-0 jumps-0 exit count (k + 1) from' bytes' jumps'
stub_added to from-0 bytes-0 jumps-0 exit count k from end bytes jumps from' bytes' jumps' stub h lt few e s f b j =
    let p = from-0 + length bytes in
    let code = stub_code (way (p + 16) 0) (exit + k) in
    let at : end ≡ p + 16 = omega (arith, e, h.same) in
    let same : stub ≡ code = s ∙ ap (λ (n : ℕ). stub_code (way n 0) (exit + k)) at in
    let made : bytes' ≡ bytes ++ spelled code = b ∙ ap (λ (l : List ℕ). bytes ++ l) (emitted_none to (from + length bytes) 0 stub ∙ ap spelled same) in
    let long : length bytes' ≡ length bytes + 16 = ap length made ∙ length-append bytes (spelled code) ∙ ap (λ (n : ℕ). length bytes + n) (stub_long (way (p + 16) 0) (exit + k) (omega (arith, lt, few))) in
    let place : from-0 + length bytes' ≡ p + 16 = omega (arith, long) in
    let next : exit + (k + 1) ≡ exit + k + 1 = omega arith in
    let left : count - k ≡ suc (count - (k + 1)) = omega (arith, lt) in
    let more = count - (k + 1) in record {
      same = f ∙ h.same;
      so =
          ap (λ (l : List ℕ). l ++ spelled (stubs_from (from-0 + length bytes') (exit + (k + 1)) more)) made
          ∙ append_assoc bytes (spelled code) (spelled (stubs_from (from-0 + length bytes') (exit + (k + 1)) more))
          ∙ ap (λ (q : ℕ). bytes ++ (spelled code ++ spelled (stubs_from q (exit + (k + 1)) more))) place
          ∙ ap (λ (q : ℕ). bytes ++ (spelled code ++ spelled (stubs_from (p + 16) q more))) next
          ∙ ap (λ (l : List ℕ). bytes ++ l) (sym (spelled-append code (stubs_from (p + 16) (exit + k + 1) more)))
          ∙ ap (λ (n : ℕ). bytes ++ spelled (stubs_from p (exit + k) n)) (sym left)
          ∙ h.so;
      jumps_same = j ∙ ap (λ (l : List (ℕ × ℕ)). jumps ++ l) (noted_none (from + length bytes) 0 stub) ∙ append-nil jumps ∙ h.jumps_same;
      long = omega (arith, long, h.long);
    }

-- what stands in front, the operations and the stubs, one added behind the other
pub parts_join : (old a b c one two three : List ℕ) → one ≡ old ++ a → two ≡ one ++ b → three ≡ two ++ c → three ≡ old ++ (a ++ (b ++ c))
parts_join old a b c one two three x y z =
    z ∙ ap (λ (l : List ℕ). l ++ c) y ∙ ap (λ (l : List ℕ). (l ++ b) ++ c) x ∙ append_assoc (old ++ a) b c ∙ append_assoc old a (b ++ c)
