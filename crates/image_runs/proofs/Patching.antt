-- Patched code is the code of other displacements.
use Rattle.std.proofs.Common.{◌≡◌, ℕ, ◌+◌, Bool, false, cond, nat_eq, List, [], ◌∷◌, ◌++◌, length, take, drop, map, append_assoc, refl, sym, ap, ◌∙◌, arith, ℤ}
use Rattle.std.specs.List.{AllByRecursion}
use Rattle.std.proofs.lemmas.List.{length-append, take_at, drop_at}
use Rattle.std.proofs.lemmas.Bool.{eq-eqb, ne_eqb}
use Rattle.x64_encode.specs.declared.instr.Instr.TheVariants.{Jcc, Jmp}
use Rattle.x64_encode.specs.Fields.{imm32, cc_number}
use Rattle.x64_encode.specs.Form.{spelling}
use Rattle.asm_select.specs.Slots.{Slot, Put, Leave, Go, Jumps, instr_of, sizes_of, bytes_of}
use Rattle.image_runs.specs.Printed.{Patch, Part, patched, all_patched, with_part}
use Rattle.image_runs.specs.Reached.{IsJumpOf}
use Rattle.image_runs.specs.Image.{Image, code_in, disp_in}
use Rattle.image_runs.specs.Attached.{Grown}
use Rattle.image_runs.specs.Patched.{with_jump, IsAway, Copy, IsCopy, patch_of, with_copies, IsPart}
use Rattle.image_runs.proofs.Bytes.{bytes-append, length-bytes}

away : (by : Jumps) (e : ℕ) (d : ℤ) (xs : List Slot) → IsAway e xs → bytes_of (with_jump e d by) xs ≡ bytes_of by xs
away by e d [] h = refl
away by e d (Put i ∷ xs) h = ap (λ (l : List ℕ). spelling i ++ l) (away by e d xs h)
away by e d (Leave c x ∷ xs) h =
    let t : nat_eq x e ≡ false = ne_eqb x e h.0 in
    ap (λ (b : Bool). spelling (Jcc c (cond b d (by x))) ++ bytes_of (with_jump e d by) xs) t ∙ ap (λ (l : List ℕ). spelling (Jcc c (by x)) ++ l) (away by e d xs h.1)
away by e d (Go x ∷ xs) h =
    let t : nat_eq x e ≡ false = ne_eqb x e h.0 in
    ap (λ (b : Bool). spelling (Jmp (cond b d (by x))) ++ bytes_of (with_jump e d by) xs) t ∙ ap (λ (l : List ℕ). spelling (Jmp (by x)) ++ l) (away by e d xs h.1)

-- four bytes in the middle
middle : (front a back : List ℕ) (d : ℤ) (n : ℕ) → length front ≡ n → length a ≡ 4 → front ++ (imm32 d ++ back) ≡ patched n d (front ++ (a ++ back))
middle front a back d n len four =
    let whole : front ++ (a ++ back) ≡ (front ++ a) ++ back = sym (append_assoc front a back) in
    let both : length (front ++ a) ≡ n + 4 = length-append front a ∙ omega (arith, len, four) in
    let taken : take n (front ++ (a ++ back)) ≡ front = take_at front (a ++ back) n len in
    let dropped : drop (n + 4) (front ++ (a ++ back)) ≡ back = ap (drop (n + 4)) whole ∙ drop_at (front ++ a) back (n + 4) both in
    sym (ap (λ (l : List ℕ). l ++ (imm32 d ++ drop (n + 4) (front ++ (a ++ back)))) taken ∙ ap (λ (l : List ℕ). front ++ (imm32 d ++ l)) dropped)

-- the bytes of a jump in front of its displacement
abbrev opcode : Slot → List ℕ
opcode (Put i) = []
opcode (Leave c e) = 0x0F ∷ (0x80 + cc_number c) ∷ []
opcode (Go e) = 0xE9 ∷ []

opcode_long : (x : Slot) (e : ℕ) → IsJumpOf x e → length (opcode x) ≡ disp_in x
opcode_long (Put i) e h = absurd h
opcode_long (Leave c k) e h = refl
opcode_long (Go k) e h = refl

spelled : (by : Jumps) (x : Slot) (e : ℕ) → IsJumpOf x e → spelling (instr_of by x) ≡ opcode x ++ imm32 (by e)
spelled by (Put i) e h = absurd h
spelled by (Leave c k) e h = ap (λ (y : ℕ). spelling (Jcc c (by y))) h
spelled by (Go k) e h = ap (λ (y : ℕ). spelling (Jmp (by y))) h

around : (by : Jumps) (front behind : List Slot) (x : Slot) (e : ℕ) → IsJumpOf x e → bytes_of by (front ++ x ∷ behind) ≡ (bytes_of by front ++ opcode x) ++ (imm32 (by e) ++ bytes_of by behind)
around by front behind x e h =
    bytes-append by front (x ∷ behind)
    ∙ ap (λ (l : List ℕ). bytes_of by front ++ (l ++ bytes_of by behind)) (spelled by x e h)
    ∙ ap (λ (l : List ℕ). bytes_of by front ++ l) (append_assoc (opcode x) (imm32 (by e)) (bytes_of by behind))
    ∙ sym (append_assoc (bytes_of by front) (opcode x) (imm32 (by e) ++ bytes_of by behind))

-- another displacement at one key is a patch of four bytes
pub one_patch : (by : Jumps) (xs : List Slot) (c : Copy) → IsCopy xs c → bytes_of (with_jump c.key c.after by) xs ≡ patched (sizes_of c.front + disp_in c.slot) c.after (bytes_of by xs)
one_patch by xs c z =
    let e = c.key in
    let to = with_jump e c.after by in
    let here : to e ≡ c.after = ap (λ (b : Bool). cond b c.after (by e)) (eq-eqb e e refl) in
    let n : length (bytes_of by c.front ++ opcode c.slot) ≡ sizes_of c.front + disp_in c.slot = length-append (bytes_of by c.front) (opcode c.slot) ∙ omega (arith, length-bytes by c.front, opcode_long c.slot e z.jump) in
    ap (bytes_of to) z.split
    ∙ around to c.front c.behind c.slot e z.jump
    ∙ ap (λ (l : List ℕ). (l ++ opcode c.slot) ++ (imm32 (to e) ++ bytes_of to c.behind)) (away by e c.after c.front z.front)
    ∙ ap (λ (l : List ℕ). (bytes_of by c.front ++ opcode c.slot) ++ (imm32 (to e) ++ l)) (away by e c.after c.behind z.behind)
    ∙ ap (λ (d : ℤ). (bytes_of by c.front ++ opcode c.slot) ++ (imm32 d ++ bytes_of by c.behind)) here
    ∙ middle (bytes_of by c.front ++ opcode c.slot) (imm32 (by e)) (bytes_of by c.behind) c.after (sizes_of c.front + disp_in c.slot) n refl
    ∙ ap (patched (sizes_of c.front + disp_in c.slot) c.after) (sym (ap (bytes_of by) z.split ∙ around by c.front c.behind c.slot e z.jump))

pub all_patches : (cs : List Copy) (by : Jumps) (xs : List Slot) → AllByRecursion (IsCopy xs) cs → bytes_of (with_copies cs by) xs ≡ all_patched (map patch_of cs) (bytes_of by xs)
all_patches [] by xs h = refl
all_patches (c ∷ cs) by xs h = all_patches cs (with_jump c.key c.after by) xs h.1 ∙ ap (all_patched (map patch_of cs)) (one_patch by xs c h.0)

-- only the jumps' displacements count
alike : (a b : Jumps) (xs : List Slot) → ((e : ℕ) (front behind : List Slot) (y : Slot) → xs ≡ front ++ y ∷ behind → IsJumpOf y e → a e ≡ b e) → bytes_of a xs ≡ bytes_of b xs
alike a b [] h = refl
alike a b (x ∷ xs) h =
    ap (λ (l : List ℕ). l ++ bytes_of a xs) (first x (λ e j. h e [] xs x refl j))
    ∙ ap (λ (l : List ℕ). spelling (instr_of b x) ++ l) (alike a b xs (λ e front behind y split j. h e (x ∷ front) behind y (ap (λ (l : List Slot). x ∷ l) split) j))
  where
    first : (x : Slot) → ((e : ℕ) → IsJumpOf x e → a e ≡ b e) → spelling (instr_of a x) ≡ spelling (instr_of b x)
    first (Put i) k = refl
    first (Leave c e) k = ap (λ (d : ℤ). spelling (Jcc c d)) (k e refl)
    first (Go e) k = ap (λ (d : ℤ). spelling (Jmp d)) (k e refl)

-- the code of the grown image is the old code with the part appended and patched
pub part_is_code : (g h : Image) (grown : Grown g h) (x : Part) → IsPart g h grown x → code_in h ≡ with_part (code_in g) x
part_is_code g h grown x z =
    alike h.by (with_copies z.copies z.by) h.slots (λ e front behind y split j. z.now e)
    ∙ all_patches z.copies z.by h.slots z.are
    ∙ ap (λ (l : List Slot). all_patched (map patch_of z.copies) (bytes_of z.by l)) grown.slots
    ∙ ap (all_patched (map patch_of z.copies)) (bytes-append z.by g.slots grown.more)
    ∙ ap (λ (l : List ℕ). all_patched (map patch_of z.copies) (l ++ bytes_of z.by grown.more)) (alike z.by g.by g.slots z.old)
    ∙ ap (λ (l : List ℕ). all_patched (map patch_of z.copies) (code_in g ++ l)) (sym z.bytes)
    ∙ ap (λ (ps : List Patch). all_patched ps (code_in g ++ x.bytes)) (sym z.patches)
