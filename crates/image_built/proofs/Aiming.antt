-- The displacements of slots that are led.
use Rattle.std.proofs.Common.{◌≡◌, ℕ, ◌+◌, ◌<◌, ◌^◌, ◌%◌, Bool, true, false, cond, nat_eq, List, [], ◌∷◌, ◌++◌, refl, ap, ◌∙◌, subst, arith, ℤ, pos, ◌+ℤ◌, ◌-ℤ◌, FitsSigned}
use Rattle.std.specs.Int.{w32, w64, cast_signed, int_wrap}
use Rattle.std.proofs.lemmas.Int.{ints, of_z-to_z}
use Rattle.std.proofs.lemmas.Bool.{eq-eqb, ne_eqb}
use Rattle.x64_encode.specs.declared.instr.Instr.TheVariants.{Jcc, Jmp}
use Rattle.x64_encode.specs.Form.{spelling}
use Rattle.x64_machine.specs.State.{target}
use Rattle.x64_machine.specs.Words.{wrap, unsigned}
use Rattle.asm_select.specs.Slots.{Slot, Put, Leave, Go, Jumps, size_of, sizes_of, bytes_of}
use Rattle.asm_select.specs.Laid.{AreNear}
use Rattle.code_layout.specs.Leading.{way, led_bytes, IsAway, JumpsOnce}
use Rattle.image_runs.specs.Reached.{IsJumpOf}
use Rattle.image_built.specs.Built.{by_of}
use Rattle.image_built.proofs.Leading.{KeysAre}

-- they lead to the places
abbrev pub Aims : Jumps → (ℕ → ℕ) → ℕ → List Slot → Type 0
Aims by to p [] = Unit {0}
Aims by to p (Put i ∷ xs) = Aims by to (p + size_of (Put i)) xs
Aims by to p (Leave c k ∷ xs) = (by k ≡ way (p + 6) (to k)) × Aims by to (p + 6) xs
Aims by to p (Go k ∷ xs) = (by k ≡ way (p + 5) (to k)) × Aims by to (p + 5) xs

aims_off : (by : Jumps) (to : ℕ → ℕ) (k : ℕ) (d : ℤ) (p : ℕ) (xs : List Slot) → IsAway k xs → Aims by to p xs → Aims (λ j. cond (nat_eq j k) d (by j)) to p xs
aims_off by to k d p [] a h = tt
aims_off by to k d p (Put i ∷ xs) a h = aims_off by to k d (p + size_of (Put i)) xs a h
aims_off by to k d p (Leave c m ∷ xs) a h = (ap (λ (b : Bool). cond b d (by m)) (ne_eqb m k a.0) ∙ h.0, aims_off by to k d (p + 6) xs a.1 h.1)
aims_off by to k d p (Go m ∷ xs) a h = (ap (λ (b : Bool). cond b d (by m)) (ne_eqb m k a.0) ∙ h.0, aims_off by to k d (p + 5) xs a.1 h.1)

pub aims : (to : ℕ → ℕ) (p : ℕ) (xs : List Slot) → JumpsOnce xs → Aims (by_of to p xs) to p xs
aims to p [] once = tt
aims to p (Put i ∷ xs) once = aims to (p + size_of (Put i)) xs once
aims to p (Leave c k ∷ xs) once =
    (ap (λ (b : Bool). cond b (way (p + 6) (to k)) (by_of to (p + 6) xs k)) (eq-eqb k k refl), aims_off (by_of to (p + 6) xs) to k (way (p + 6) (to k)) (p + 6) xs once.0 (aims to (p + 6) xs once.1))
aims to p (Go k ∷ xs) once =
    (ap (λ (b : Bool). cond b (way (p + 5) (to k)) (by_of to (p + 5) xs k)) (eq-eqb k k refl), aims_off (by_of to (p + 5) xs) to k (way (p + 5) (to k)) (p + 5) xs once.0 (aims to (p + 5) xs once.1))

pub way_near : (from to : ℕ) → from < 2 ^ 31 → to < 2 ^ 31 → FitsSigned w32 (way from to)
way_near from to f t = omega (arith, ints, f, t)

either_near : (b : Bool) (x y : ℤ) → FitsSigned w32 x → FitsSigned w32 y → FitsSigned w32 (cond b x y)
either_near true x y hx hy = hx
either_near false x y hx hy = hy

-- each jump leads below this
abbrev pub Low : (ℕ → ℕ) → ℕ → Type 0
Low to k = to k < 2 ^ 31

pub by_near : (to : ℕ → ℕ) (p : ℕ) (xs : List Slot) → KeysAre (Low to) xs → p + sizes_of xs < 2 ^ 31 → AreNear (by_of to p xs)
by_near to p [] low room j = omega (arith, ints)
by_near to p (Put i ∷ xs) low room j = by_near to (p + size_of (Put i)) xs low (omega (arith, room)) j
by_near to p (Leave c k ∷ xs) low room j = either_near (nat_eq j k) _ _ (way_near (p + 6) (to k) (omega (arith, room)) low.0) (by_near to (p + 6) xs low.1 (omega (arith, room)) j)
by_near to p (Go k ∷ xs) low room j = either_near (nat_eq j k) _ _ (way_near (p + 5) (to k) (omega (arith, room)) low.0) (by_near to (p + 5) xs low.1 (omega (arith, room)) j)

pub led_is : (by : Jumps) (to : ℕ → ℕ) (p : ℕ) (xs : List Slot) → Aims by to p xs → bytes_of by xs ≡ led_bytes to p xs
led_is by to p [] h = refl
led_is by to p (Put i ∷ xs) h = ap (λ (l : List ℕ). spelling i ++ l) (led_is by to (p + size_of (Put i)) xs h)
led_is by to p (Leave c k ∷ xs) h = ap (λ (d : ℤ). spelling (Jcc c d) ++ bytes_of by xs) h.0 ∙ ap (λ (l : List ℕ). spelling (Jcc c (way (p + 6) (to k))) ++ l) (led_is by to (p + 6) xs h.1)
led_is by to p (Go k ∷ xs) h = ap (λ (d : ℤ). spelling (Jmp d) ++ bytes_of by xs) h.0 ∙ ap (λ (l : List ℕ). spelling (Jmp (way (p + 5) (to k))) ++ l) (led_is by to (p + 5) xs h.1)

-- ---- where they lead

wrap_pos : (n : ℕ) → n < 2 ^ 62 → wrap (pos n) ≡ cast_signed w64 n
unfolding int_wrap
wrap_pos n lt = let e : n % 2 ^ 64 ≡ n = grind arith in ap (cast_signed w64) e

word_target : (k : ℕ) → k < 2 ^ 62 → unsigned (wrap (pos k)) ≡ k
word_target k lt = ap unsigned (wrap_pos k lt) ∙ of_z-to_z w64 k (omega (arith, lt))

pub target_is : (from to : ℕ) → from < 2 ^ 31 → to < 2 ^ 31 → target (0x40000000 + from) (way from to) ≡ 0x40000000 + to
target_is from to f t =
    let e : pos (0x40000000 + from) +ℤ (pos to -ℤ pos from) ≡ pos (0x40000000 + to) = omega (arith, ints) in
    ap (λ (z : ℤ). unsigned (wrap z)) e ∙ word_target (0x40000000 + to) (omega (arith, t))

-- the jump in the midst of slots
pub lead_at : (by : Jumps) (to : ℕ → ℕ) (p e : ℕ) (front behind : List Slot) (x : Slot) → Aims by to p (front ++ x ∷ behind) → IsJumpOf x e → to e < 2 ^ 31 → p + (sizes_of front + size_of x) < 2 ^ 31
    → target (0x40000000 + (p + (sizes_of front + size_of x))) (by e) ≡ 0x40000000 + to e
lead_at by to p e [] behind (Put i) h j low room = absurd j
lead_at by to p e [] behind (Leave c k) h j low room =
    let same : by e ≡ way (p + 6) (to e) = subst (λ (m : ℕ). by m ≡ way (p + 6) (to m)) j h.0 in
    ap (target (0x40000000 + (p + 6))) same ∙ target_is (p + 6) (to e) room low
lead_at by to p e [] behind (Go k) h j low room =
    let same : by e ≡ way (p + 5) (to e) = subst (λ (m : ℕ). by m ≡ way (p + 5) (to m)) j h.0 in
    ap (target (0x40000000 + (p + 5))) same ∙ target_is (p + 5) (to e) room low
lead_at by to p e (Put i ∷ front) behind x h j low room =
    let n : p + size_of (Put i) + (sizes_of front + size_of x) ≡ p + (size_of (Put i) + sizes_of front + size_of x) = omega arith in
    subst (λ (m : ℕ). target (0x40000000 + m) (by e) ≡ 0x40000000 + to e) n (lead_at by to (p + size_of (Put i)) e front behind x h j low (omega (arith, room)))
lead_at by to p e (Leave c k ∷ front) behind x h j low room =
    let n : p + 6 + (sizes_of front + size_of x) ≡ p + (6 + sizes_of front + size_of x) = omega arith in
    subst (λ (m : ℕ). target (0x40000000 + m) (by e) ≡ 0x40000000 + to e) n (lead_at by to (p + 6) e front behind x h.1 j low (omega (arith, room)))
lead_at by to p e (Go k ∷ front) behind x h j low room =
    let n : p + 5 + (sizes_of front + size_of x) ≡ p + (5 + sizes_of front + size_of x) = omega arith in
    subst (λ (m : ℕ). target (0x40000000 + m) (by e) ≡ 0x40000000 + to e) n (lead_at by to (p + 5) e front behind x h.1 j low (omega (arith, room)))
