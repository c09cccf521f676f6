-- Stubs, one behind the other.
use Rattle.std.proofs.Common.{◌≡◌, ℕ, zero, suc, ◌+◌, ◌*◌, ◌<◌, ◌≤◌, ◌^◌, ◌%◌, Bool, true, false, cond, nat_lt, lt-ltb, List, [], ◌∷◌, ◌++◌, length, append_assoc, refl, sym, ap, ◌∙◌, arith, ℤ, pos}
use Rattle.trace_ops.specs.declared.piece.OptOp.{OptOp}
use Rattle.x64_encode.specs.declared.instr.Instr.{Instr}
use Rattle.x64_encode.specs.declared.instr.Instr.TheVariants.{MovImm}
use Rattle.x64_encode.specs.Fields.{rex, modrm, imm32, imm64}
use Rattle.x64_encode.specs.Form.{spelling}
use Rattle.guard_exit.specs.Codes.{register, stub_code}
use Rattle.asm_select.specs.Slots.{Slot, Put, puts, sizes_of}
use Rattle.asm_select.specs.Laid.{has_stub}
use Rattle.code_layout.specs.Leading.{way}
use Rattle.code_layout.specs.Emitting.{total_size}
use Rattle.bridge_patch.specs.Pieces.{stubs_from, exits_in}
use Rattle.image_built.proofs.Leading.{sizes-append, sizes-puts}

mov_long : (e : ℕ) → e < 2 ^ 31 → length (spelling (MovImm (register 0) (pos e))) ≡ 7
mov_long e lt = either (nat_lt e (2 ^ 31)) (lt-ltb e (2 ^ 31) lt)
  where
    either : (b : Bool) → b ≡ true → length (cond b (rex 1 0 0 0 ∷ 0xC7 ∷ modrm 3 0 0 ∷ imm32 (pos e)) (rex 1 0 0 0 ∷ (0xB8 + 0 % 8) ∷ imm64 (pos e))) ≡ 7
    either true h = refl
    either false h = absurd (cc)

mov_least : (e : ℕ) → 7 ≤ length (spelling (MovImm (register 0) (pos e)))
mov_least e = either (nat_lt e (2 ^ 31))
  where
    either : (b : Bool) → 7 ≤ length (cond b (rex 1 0 0 0 ∷ 0xC7 ∷ modrm 3 0 0 ∷ imm32 (pos e)) (rex 1 0 0 0 ∷ (0xB8 + 0 % 8) ∷ imm64 (pos e)))
    either true = omega arith
    either false = omega arith

mov_most : (e : ℕ) → length (spelling (MovImm (register 0) (pos e))) ≤ 10
mov_most e = either (nat_lt e (2 ^ 31))
  where
    either : (b : Bool) → length (cond b (rex 1 0 0 0 ∷ 0xC7 ∷ modrm 3 0 0 ∷ imm32 (pos e)) (rex 1 0 0 0 ∷ (0xB8 + 0 % 8) ∷ imm64 (pos e))) ≤ 10
    either true = omega arith
    either false = omega arith

stub_long : (v : ℤ) (e : ℕ) → e < 2 ^ 31 → total_size (stub_code v e) ≡ 16
stub_long v e lt = omega (arith, mov_long e lt)

stub_least : (v : ℤ) (e : ℕ) → 16 ≤ total_size (stub_code v e)
stub_least v e = omega (arith, mov_least e)

pub puts-append : (a b : List Instr) → puts (a ++ b) ≡ puts a ++ puts b
puts-append [] b = refl
puts-append (i ∷ a) b = ap (λ (l : List Slot). Put i ∷ l) (puts-append a b)

total-append : (a b : List Instr) → total_size (a ++ b) ≡ total_size a + total_size b
total-append [] b = omega arith
total-append (i ∷ a) b = omega (arith, total-append a b)

pub stubs_long : (p e n : ℕ) → e + n ≤ 2 ^ 31 → total_size (stubs_from p e n) ≡ 16 * n
stubs_long p e zero le = refl
stubs_long p e (suc n) le =
    let code = stub_code (way (p + 16) 0) e in
    omega (arith, total-append code (stubs_from (p + 16) (e + 1) n), stub_long (way (p + 16) 0) e (omega (arith, le)), stubs_long (p + 16) (e + 1) n (omega (arith, le)))

-- however great the numbers are
pub stubs_least : (p e n : ℕ) → 16 * n ≤ total_size (stubs_from p e n)
stubs_least p e zero = omega arith
stubs_least p e (suc n) =
    let code = stub_code (way (p + 16) 0) e in
    omega (arith, total-append code (stubs_from (p + 16) (e + 1) n), stub_least (way (p + 16) 0) e, stubs_least (p + 16) (e + 1) n)

stub_most : (v : ℤ) (e : ℕ) → total_size (stub_code v e) ≤ 19
stub_most v e = omega (arith, mov_most e)

pub stubs_most : (p e n : ℕ) → total_size (stubs_from p e n) ≤ 19 * n
stubs_most p e zero = omega arith
stubs_most p e (suc n) =
    let code = stub_code (way (p + 16) 0) e in
    omega (arith, total-append code (stubs_from (p + 16) (e + 1) n), stub_most (way (p + 16) 0) e, stubs_most (p + 16) (e + 1) n)

-- one of them in the midst of them
pub record StubAt (p e n i : ℕ) : Type 0 where
  pub before : List Slot
  pub behind : List Slot
  pub split : puts (stubs_from p e n) ≡ before ++ (puts (stub_code (way (p + 16 * i + 16) 0) (e + i)) ++ behind)
  pub place : sizes_of before ≡ 16 * i

pub stub_at : (p e n i : ℕ) → i < n → e + n ≤ 2 ^ 31 → StubAt p e n i
stub_at p e zero i lt le = absurd (omega (arith, lt))
stub_at p e (suc n) zero lt le =
    let q : p + 16 ≡ p + 16 * 0 + 16 = omega arith in
    let k : e ≡ e + 0 = omega arith in record {
      before = [];
      behind = puts (stubs_from (p + 16) (e + 1) n);
      split =
          puts-append (stub_code (way (p + 16) 0) e) (stubs_from (p + 16) (e + 1) n)
          ∙ ap (λ (m : ℕ). puts (stub_code (way m 0) e) ++ puts (stubs_from (p + 16) (e + 1) n)) q
          ∙ ap (λ (m : ℕ). puts (stub_code (way (p + 16 * 0 + 16) 0) m) ++ puts (stubs_from (p + 16) (e + 1) n)) k;
      place = refl;
    }
stub_at p e (suc n) (suc i) lt le =
    let code = stub_code (way (p + 16) 0) e in
    let h = stub_at (p + 16) (e + 1) n i (omega (arith, lt)) (omega (arith, le)) in
    let q : p + 16 + 16 * i + 16 ≡ p + 16 * suc i + 16 = omega arith in
    let k : e + 1 + i ≡ e + suc i = omega arith in record {
      before = puts code ++ h.before;
      behind = h.behind;
      split =
          puts-append code (stubs_from (p + 16) (e + 1) n)
          ∙ ap (λ (l : List Slot). puts code ++ l) h.split
          ∙ sym (append_assoc (puts code) h.before (puts (stub_code (way (p + 16 + 16 * i + 16) 0) (e + 1 + i)) ++ h.behind))
          ∙ ap (λ (m : ℕ). (puts code ++ h.before) ++ (puts (stub_code (way m 0) (e + 1 + i)) ++ h.behind)) q
          ∙ ap (λ (m : ℕ). (puts code ++ h.before) ++ (puts (stub_code (way (p + 16 * suc i + 16) 0) m) ++ h.behind)) k;
      place = sizes-append (puts code) h.before ∙ omega (arith, sizes-puts code, stub_long (way (p + 16) 0) e (omega (arith, le)), h.place);
    }

-- ---- how many there are

pub exits-append : (a b : List OptOp) → exits_in (a ++ b) ≡ exits_in a + exits_in b
exits-append [] b = omega arith
exits-append (op ∷ a) b = omega (arith, exits-append a b)

pub exits_one : (op : OptOp) (rest : List OptOp) → has_stub op ≡ true → exits_in (op ∷ rest) ≡ 1 + exits_in rest
exits_one op rest h = ap (λ (t : Bool). cond t 1 0 + exits_in rest) h

pub stub_size : (v : ℤ) (e : ℕ) → e < 2 ^ 31 → sizes_of (puts (stub_code v e)) ≡ 16
stub_size v e lt = sizes-puts (stub_code v e) ∙ stub_long v e lt
