-- Emitting instructions, one after the other.
use Rattle.std.proofs.Common.{◌≡◌, ℕ, suc, ◌+◌, ◌-◌, ◌*◌, ◌<◌, ◌≤◌, Bool, true, false, cond, nat_eq, List, [], ◌∷◌, ◌++◌, length, drop, get_or, refl, sym, ap, ◌∙◌, subst, append_assoc, arith, pos, Option, Some, None, length-append, drop-cons}
use Rattle.std.specs.Option.{option_map}
use Rattle.std.specs.Prelude.{IfSome}
use Rattle.std.proofs.lemmas.Bool.{eq-eqb, ne_eqb}
use Rattle.x64_encode.specs.declared.instr.Instr.{Instr}
use Rattle.x64_encode.specs.declared.instr.Instr.TheVariants.{Jcc, Jmp}
use Rattle.x64_encode.specs.Form.{spelling}
use Rattle.asm_select.specs.Slots.{Slot, Put, Leave, Go, sizes_of, instrs_of, jumps_from, unset, HaveRows}
use Rattle.code_layout.specs.Leading.{led, led_bytes, jumps_at}
use Rattle.code_layout.specs.Emitting.{AllHaveRows, KeysBelow, total_size, key_at, jumps_behind, aimed, aimed_if, emitted, noted_if, noted}

pub front_at : {X : Type 0} (xs : List X) (i : ℕ) (d : X) → i < length xs → drop i xs ≡ get_or xs i d ∷ drop (i + 1) xs
front_at xs i d lt =
    let n : suc i ≡ i + 1 = omega arith in
    drop-cons xs i d lt ∙ ap (λ m. get_or xs i d ∷ drop m xs) n

-- the size of the instructions so far, of all and of the others
pub record Sized (instrs rest : List Instr) (n size : ℕ) : Type 0 where
  pub rows : AllHaveRows rest
  pub whole : size + total_size rest ≡ total_size instrs
  pub few : size ≤ 16 * n

-- ---- a jump is as long wherever it leads

pub aimed_long : (from to : ℕ) (i : Instr) → length (spelling (aimed from to i)) ≡ length (spelling i)
aimed_long from to (Jcc c d) = refl
aimed_long from to (Jmp d) = refl
aimed_long from to i = refl

pub aimed_if_long : (p : ℕ) (to : Option ℕ) (i : Instr) → length (spelling (aimed_if p to i)) ≡ length (spelling i)
aimed_if_long p None i = refl
aimed_if_long p (Some to) i = aimed_long (p + length (spelling i)) to i

-- ---- one instruction more

-- what was emitted in front, and what is left to be emitted
pub record Emits (to : ℕ → ℕ) (count from : ℕ) (bytes-0 : List ℕ) (jumps-0 : List (ℕ × ℕ)) (instrs : List Instr) (all : List (ℕ × ℕ)) (n : ℕ) (rest : List Instr) (left : List (ℕ × ℕ)) (bytes : List ℕ) (jumps : List (ℕ × ℕ)) : Type 0 where
  pub rows : AllHaveRows rest
  pub keys : KeysBelow count left
  pub bytes_so : bytes ++ emitted to (from + length bytes) n rest left ≡ bytes-0 ++ emitted to (from + length bytes-0) 0 instrs all
  pub jumps_so : jumps ++ noted (from + length bytes) n rest left ≡ jumps-0 ++ noted (from + length bytes-0) 0 instrs all
  pub room : length bytes + total_size rest ≡ length bytes-0 + total_size instrs

if_below : (count k : ℕ) (js : List (ℕ × ℕ)) (m : ℕ) (b : Bool) → k < count → KeysBelow count js → KeysBelow count (cond b js ((m, k) ∷ js))
if_below count k js m true lt h = h
if_below count k js m false lt h = (lt, h)

pub behind_below : (count n : ℕ) (js : List (ℕ × ℕ)) → KeysBelow count js → KeysBelow count (jumps_behind n js)
behind_below count n [] h = tt
behind_below count n ((m, k) ∷ js) h = if_below count k js m (nat_eq m n) h.0 h.1

key_if : (count k : ℕ) (b : Bool) → k < count → IfSome (cond b (Some k) None) (λ k. k < count)
key_if count k true lt = lt
key_if count k false lt = tt

pub key_below : (count n : ℕ) (js : List (ℕ × ℕ)) → KeysBelow count js → IfSome (key_at n js) (λ k. k < count)
key_below count n [] h = tt
key_below count n ((m, k) ∷ js) h = key_if count k (nat_eq m n) h.0

pub emits_more : (to : ℕ → ℕ) (count from : ℕ) (bytes-0 : List ℕ) (jumps-0 : List (ℕ × ℕ)) (instrs : List Instr) (all : List (ℕ × ℕ)) (n : ℕ) (x : Instr) (rest : List Instr) (left left' : List (ℕ × ℕ)) (bytes bytes' : List ℕ) (jumps jumps' : List (ℕ × ℕ))
    → Emits to count from bytes-0 jumps-0 instrs all n (x ∷ rest) left bytes jumps
    → bytes' ≡ bytes ++ spelling (aimed_if (from + length bytes) (option_map to (key_at n left)) x)
    → jumps' ≡ jumps ++ noted_if (key_at n left) (from + length bytes + length (spelling x))
    → left' ≡ jumps_behind n left
    → Emits to count from bytes-0 jumps-0 instrs all (n + 1) rest left' bytes' jumps'
emits_more to count from bytes-0 jumps-0 instrs all n x rest left left' bytes bytes' jumps jumps' h b j l =
    let y = aimed_if (from + length bytes) (option_map to (key_at n left)) x in
    let long : length bytes' ≡ length bytes + length (spelling x) = ap length b ∙ length-append bytes (spelling y) ∙ ap (λ (k : ℕ). length bytes + k) (aimed_if_long (from + length bytes) (option_map to (key_at n left)) x) in
    let place : from + length bytes' ≡ from + length bytes + length (spelling x) = omega (arith, long) in
    record {
      rows = h.rows.1;
      keys = subst (KeysBelow count) (sym l) (behind_below count n left h.keys);
      bytes_so =
          ap (λ (z : List ℕ). z ++ emitted to (from + length bytes') (n + 1) rest left') b
          ∙ append_assoc bytes (spelling y) (emitted to (from + length bytes') (n + 1) rest left')
          ∙ ap (λ (p : ℕ). bytes ++ (spelling y ++ emitted to p (n + 1) rest left')) place
          ∙ ap (λ (z : List (ℕ × ℕ)). bytes ++ (spelling y ++ emitted to (from + length bytes + length (spelling x)) (n + 1) rest z)) l
          ∙ h.bytes_so;
      jumps_so =
          ap (λ (z : List (ℕ × ℕ)). z ++ noted (from + length bytes') (n + 1) rest left') j
          ∙ append_assoc jumps (noted_if (key_at n left) (from + length bytes + length (spelling x))) (noted (from + length bytes') (n + 1) rest left')
          ∙ ap (λ (p : ℕ). jumps ++ (noted_if (key_at n left) (from + length bytes + length (spelling x)) ++ noted p (n + 1) rest left')) place
          ∙ ap (λ (z : List (ℕ × ℕ)). jumps ++ (noted_if (key_at n left) (from + length bytes + length (spelling x)) ++ noted (from + length bytes + length (spelling x)) (n + 1) rest z)) l
          ∙ h.jumps_so;
      room = omega (arith, long, h.room);
    }

-- ---- what is emitted are the bytes of slots

-- no jump among slots is in front of the first of them
none_before : (n m : ℕ) (xs : List Slot) → n < m → key_at n (jumps_from m xs) ≡ None
none_before n m [] lt = refl
none_before n m (Put i ∷ xs) lt = none_before n (m + 1) xs (omega (arith, lt))
none_before n m (Leave c k ∷ xs) lt = ap (λ (b : Bool). cond b (Some k) None) (ne_eqb m n (omega (arith, lt)))
none_before n m (Go k ∷ xs) lt = ap (λ (b : Bool). cond b (Some k) None) (ne_eqb m n (omega (arith, lt)))

all_behind : (n m : ℕ) (xs : List Slot) → n < m → jumps_behind n (jumps_from m xs) ≡ jumps_from m xs
all_behind n m [] lt = refl
all_behind n m (Put i ∷ xs) lt = all_behind n (m + 1) xs (omega (arith, lt))
all_behind n m (Leave c k ∷ xs) lt = ap (λ (b : Bool). cond b (jumps_from (m + 1) xs) ((m, k) ∷ jumps_from (m + 1) xs)) (ne_eqb m n (omega (arith, lt)))
all_behind n m (Go k ∷ xs) lt = ap (λ (b : Bool). cond b (jumps_from (m + 1) xs) ((m, k) ∷ jumps_from (m + 1) xs)) (ne_eqb m n (omega (arith, lt)))

same_num : (n : ℕ) → nat_eq n n ≡ true
same_num n = eq-eqb n n refl

pub emitted_led : (to : ℕ → ℕ) (p n : ℕ) (xs : List Slot) → emitted to p n (instrs_of xs) (jumps_from n xs) ≡ led_bytes to p xs
emitted_led to p n [] = refl
emitted_led to p n (Put i ∷ xs) =
    let q = p + length (spelling i) in
    ap (λ (k : Option ℕ). spelling (aimed_if p (option_map to k) i) ++ emitted to q (n + 1) (instrs_of xs) (jumps_behind n (jumps_from (n + 1) xs))) (none_before n (n + 1) xs (omega arith))
    ∙ ap (λ (js : List (ℕ × ℕ)). spelling i ++ emitted to q (n + 1) (instrs_of xs) js) (all_behind n (n + 1) xs (omega arith))
    ∙ ap (λ (l : List ℕ). spelling i ++ l) (emitted_led to q (n + 1) xs)
emitted_led to p n (Leave c k ∷ xs) =
    let js = jumps_from (n + 1) xs in
    ap (λ (b : Bool). spelling (aimed_if p (option_map to (cond b (Some k) None)) (Jcc c (pos 0))) ++ emitted to (p + 6) (n + 1) (instrs_of xs) (cond b js ((n, k) ∷ js))) (same_num n)
    ∙ ap (λ (l : List ℕ). spelling (led to p (Leave c k)) ++ l) (emitted_led to (p + 6) (n + 1) xs)
emitted_led to p n (Go k ∷ xs) =
    let js = jumps_from (n + 1) xs in
    ap (λ (b : Bool). spelling (aimed_if p (option_map to (cond b (Some k) None)) (Jmp (pos 0))) ++ emitted to (p + 5) (n + 1) (instrs_of xs) (cond b js ((n, k) ∷ js))) (same_num n)
    ∙ ap (λ (l : List ℕ). spelling (led to p (Go k)) ++ l) (emitted_led to (p + 5) (n + 1) xs)

pub noted_jumps : (p n : ℕ) (xs : List Slot) → noted p n (instrs_of xs) (jumps_from n xs) ≡ jumps_at p xs
noted_jumps p n [] = refl
noted_jumps p n (Put i ∷ xs) =
    let q = p + length (spelling i) in
    ap (λ (k : Option ℕ). noted_if k q ++ noted q (n + 1) (instrs_of xs) (jumps_behind n (jumps_from (n + 1) xs))) (none_before n (n + 1) xs (omega arith))
    ∙ ap (λ (js : List (ℕ × ℕ)). noted q (n + 1) (instrs_of xs) js) (all_behind n (n + 1) xs (omega arith))
    ∙ noted_jumps q (n + 1) xs
noted_jumps p n (Leave c k ∷ xs) =
    let js = jumps_from (n + 1) xs in
    let e : p + 6 - 4 ≡ p + 2 = omega arith in
    ap (λ (b : Bool). noted_if (cond b (Some k) None) (p + 6) ++ noted (p + 6) (n + 1) (instrs_of xs) (cond b js ((n, k) ∷ js))) (same_num n)
    ∙ ap (λ (q : ℕ). (k, q) ∷ noted (p + 6) (n + 1) (instrs_of xs) js) e
    ∙ ap (λ (l : List (ℕ × ℕ)). (k, p + 2) ∷ l) (noted_jumps (p + 6) (n + 1) xs)
noted_jumps p n (Go k ∷ xs) =
    let js = jumps_from (n + 1) xs in
    let e : p + 5 - 4 ≡ p + 1 = omega arith in
    ap (λ (b : Bool). noted_if (cond b (Some k) None) (p + 5) ++ noted (p + 5) (n + 1) (instrs_of xs) (cond b js ((n, k) ∷ js))) (same_num n)
    ∙ ap (λ (q : ℕ). (k, q) ∷ noted (p + 5) (n + 1) (instrs_of xs) js) e
    ∙ ap (λ (l : List (ℕ × ℕ)). (k, p + 1) ∷ l) (noted_jumps (p + 5) (n + 1) xs)

pub sized_slots : (xs : List Slot) → total_size (instrs_of xs) ≡ sizes_of xs
sized_slots [] = refl
sized_slots (Put i ∷ xs) = ap (λ (k : ℕ). length (spelling i) + k) (sized_slots xs)
sized_slots (Leave c k ∷ xs) = ap (λ (n : ℕ). 6 + n) (sized_slots xs)
sized_slots (Go k ∷ xs) = ap (λ (n : ℕ). 5 + n) (sized_slots xs)

pub slots_rows : (xs : List Slot) → HaveRows unset xs → AllHaveRows (instrs_of xs)
slots_rows [] h = tt
slots_rows (x ∷ xs) h = (h.0, slots_rows xs h.1)
