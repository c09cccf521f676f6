-- The bytes of slots, and steps at instructions that stand in a code.
use Rattle.std.proofs.Common.{◌≡◌, ℕ, ◌+◌, ◌-◌, ◌%◌, ◌^◌, ◌<◌, ◌≤◌, true, List, [], ◌∷◌, ◌++◌, length, drop, append_assoc, refl, sym, ap, ◌∙◌, subst, inl, arith}
use Rattle.std.proofs.lemmas.List.{length-drop, length-append}
use Rattle.std.proofs.lemmas.Bool.Decides.{nat_tests}
use Rattle.x64_encode.specs.declared.instr.Instr.{Instr}
use Rattle.x64_encode.specs.Form.{spelling}
use Rattle.x64_encode.specs.Listing.{Stands}
use Rattle.x64_machine.specs.State.{State, Acted, act}
use Rattle.x64_machine.specs.Step.{ahead, is_in, Decoded, MachineStep}
use Rattle.x64_machine.specs.Running.{Along}
use Rattle.asm_select.specs.Slots.{Slot, Put, Leave, Go, Jumps, instr_of, size_of, sizes_of, bytes_of, Lists}
use Rattle.image_runs.specs.Relying.{Relies}

pub size_is : (by : Jumps) (x : Slot) → length (spelling (instr_of by x)) ≡ size_of x
size_is by (Put i) = refl
size_is by (Leave cond e) = refl
size_is by (Go e) = refl

pub size_some : Relies → (x : Slot) → 1 ≤ size_of x
size_some law (Put i) = law.least i
size_some law (Leave cond e) = omega arith
size_some law (Go e) = omega arith

pub slots_few : Relies → (xs : List Slot) → length xs ≤ sizes_of xs
slots_few law [] = omega arith
slots_few law (x ∷ xs) = omega (arith, slots_few law xs, size_some law x)

pub sizes-append : (xs ys : List Slot) → sizes_of (xs ++ ys) ≡ sizes_of xs + sizes_of ys
sizes-append [] ys = omega arith
sizes-append (x ∷ xs) ys = omega (arith, sizes-append xs ys)

pub bytes-append : (by : Jumps) (xs ys : List Slot) → bytes_of by (xs ++ ys) ≡ bytes_of by xs ++ bytes_of by ys
bytes-append by [] ys = refl
bytes-append by (x ∷ xs) ys =
    ap (λ (l : List ℕ). spelling (instr_of by x) ++ l) (bytes-append by xs ys) ∙ sym (append_assoc (spelling (instr_of by x)) (bytes_of by xs) (bytes_of by ys))

pub length-bytes : (by : Jumps) (xs : List Slot) → length (bytes_of by xs) ≡ sizes_of xs
length-bytes by [] = refl
length-bytes by (x ∷ xs) = length-append (spelling (instr_of by x)) (bytes_of by xs) ∙ omega (arith, size_is by x, length-bytes by xs)

pub lists_right : (by : Jumps) (code : List ℕ) (p : ℕ) (xs ys : List Slot) → Lists by code p (xs ++ ys) → Lists by code (p + sizes_of xs) ys
lists_right by code p [] ys l =
    let n : p + 0 ≡ p = omega arith in
    subst (λ (k : ℕ). Lists by code k ys) (sym n) l
lists_right by code p (x ∷ xs) ys l =
    let n : p + size_of x + sizes_of xs ≡ p + (size_of x + sizes_of xs) = omega arith in
    subst (λ (k : ℕ). Lists by code k ys) n (lists_right by code (p + size_of x) xs ys l.1)

in_both : (code : List ℕ) (at p : ℕ) → at ≡ 0x40000000 + p → p < length code → is_in code at ≡ true
in_both code at p e h = grind (arith, nat_tests)

pub stands_step : (code : List ℕ) (p : ℕ) (i : Instr) (s : State) → length code < 2 ^ 32 → s.at ≡ 0x40000000 + p → Stands code p i → MachineStep code s (act i (0x40000000 + (p + length (spelling i))) s)
stands_step code p i s small at h =
    let t : is_in code s.at ≡ true = in_both code s.at p at h.room in
    let off : s.at - 0x40000000 ≡ p = omega arith in
    let n = length (spelling i) in
    let next : (s.at + n) % 2 ^ 64 ≡ 0x40000000 + (p + n) = grind (arith, h.inside) in
    let fits : n ≤ length (drop p code) = omega (arith, length-drop p code, h.inside) in
    let here : Decoded (drop p code) s (act i (0x40000000 + (p + n)) s) = inl (i, n, (fits, (h.row, h.spelled)), ap (λ (k : ℕ). act i k s) (sym next)) in
    let there : Decoded (ahead code s.at) s (act i (0x40000000 + (p + n)) s) = subst (λ (k : ℕ). Decoded (drop k code) s (act i (0x40000000 + (p + n)) s)) (sym off) here in
    rw t there

pub along_on : (code : List ℕ) (us vs : List State) (s t u : State) → Along code us s t → Along code vs t u → Along code (us ++ vs) s u
along_on code [] vs s t u f g = subst (λ (x : State). Along code vs x u) (sym f) g
along_on code (x ∷ us) vs s t u f g = (f.0, along_on code us vs x t u f.1 g)

-- a step has one outcome
pub step_one : (code : List ℕ) (s : State) (a b : Acted) → Relies → MachineStep code s a → MachineStep code s b → a ≡ b
step_one code s a b law f g = law.outcome code s a b f g
