-- Slots stand where their bytes stand, and their jumps lead where they are to.
use Rattle.std.proofs.Common.{◌≡◌, ℕ, ◌+◌, ◌<◌, ◌≤◌, ◌^◌, ◌%◌, Bool, true, false, cond, nat_eq, List, [], ◌∷◌, ◌++◌, length, take, append_assoc, append-nil, refl, sym, ap, ◌∙◌, subst, arith, ℤ, pos, ◌+ℤ◌, ◌-ℤ◌, FitsSigned}
use Rattle.std.specs.Int.{w32, w64, cast_signed, int_wrap}
use Rattle.std.proofs.lemmas.Int.{ints, of_z-to_z}
use Rattle.std.proofs.lemmas.Bool.{eq-eqb, ne_eqb}
use Rattle.std.proofs.lemmas.List.{length-append, take_at, drop_at}
use Rattle.x64_encode.specs.declared.instr.Instr.{Instr}
use Rattle.x64_encode.specs.declared.instr.Instr.TheVariants.{Jcc, Jmp}
use Rattle.x64_encode.specs.Form.{HasRow, spelling}
use Rattle.x64_encode.specs.Listing.{Stands, Leads, IsWhole}
use Rattle.x64_machine.specs.State.{target}
use Rattle.x64_machine.specs.Words.{wrap, unsigned}
use Rattle.asm_select.specs.Slots.{Slot, Put, Leave, Go, Jumps, instr_of, size_of, sizes_of, bytes_of, unset, HaveRows, Lists}
use Rattle.asm_select.specs.Laid.{AreNear}
use Rattle.asm_select.specs.Exited.{AllLead}
use Rattle.code_layout.specs.Leading.{way, led_bytes, IsAway, JumpsOnce}
use Rattle.code_layout.specs.Laws.{LedSlotsStand}

-- ---- displacements

-- the displacement of each operation's jump
abbrev by_of : (ℕ → ℕ) → ℕ → List Slot → Jumps
by_of to p [] j = pos 0
by_of to p (Put i ∷ xs) j = by_of to (p + size_of (Put i)) xs j
by_of to p (Leave c k ∷ xs) j = cond (nat_eq j k) (way (p + 6) (to k)) (by_of to (p + 6) xs j)
by_of to p (Go k ∷ xs) j = cond (nat_eq j k) (way (p + 5) (to k)) (by_of to (p + 5) xs j)

-- they lead to the places
abbrev Aims : Jumps → (ℕ → ℕ) → ℕ → List Slot → Type 0
Aims by to p [] = Unit {0}
Aims by to p (Put i ∷ xs) = Aims by to (p + size_of (Put i)) xs
Aims by to p (Leave c k ∷ xs) = (by k ≡ way (p + 6) (to k)) × Aims by to (p + 6) xs
Aims by to p (Go k ∷ xs) = (by k ≡ way (p + 5) (to k)) × Aims by to (p + 5) xs

aims_off : (by : Jumps) (to : ℕ → ℕ) (k : ℕ) (d : ℤ) (p : ℕ) (xs : List Slot) → IsAway k xs → Aims by to p xs → Aims (λ j. cond (nat_eq j k) d (by j)) to p xs
aims_off by to k d p [] a h = tt
aims_off by to k d p (Put i ∷ xs) a h = aims_off by to k d (p + size_of (Put i)) xs a h
aims_off by to k d p (Leave c m ∷ xs) a h = (ap (λ (b : Bool). cond b d (by m)) (ne_eqb m k a.0) ∙ h.0, aims_off by to k d (p + 6) xs a.1 h.1)
aims_off by to k d p (Go m ∷ xs) a h = (ap (λ (b : Bool). cond b d (by m)) (ne_eqb m k a.0) ∙ h.0, aims_off by to k d (p + 5) xs a.1 h.1)

aims : (to : ℕ → ℕ) (p : ℕ) (xs : List Slot) → JumpsOnce xs → Aims (by_of to p xs) to p xs
aims to p [] once = tt
aims to p (Put i ∷ xs) once = aims to (p + size_of (Put i)) xs once
aims to p (Leave c k ∷ xs) once =
    (ap (λ (b : Bool). cond b (way (p + 6) (to k)) (by_of to (p + 6) xs k)) (eq-eqb k k refl), aims_off (by_of to (p + 6) xs) to k (way (p + 6) (to k)) (p + 6) xs once.0 (aims to (p + 6) xs once.1))
aims to p (Go k ∷ xs) once =
    (ap (λ (b : Bool). cond b (way (p + 5) (to k)) (by_of to (p + 5) xs k)) (eq-eqb k k refl), aims_off (by_of to (p + 5) xs) to k (way (p + 5) (to k)) (p + 5) xs once.0 (aims to (p + 5) xs once.1))

way_near : (from to : ℕ) → from < 2 ^ 31 → to < 2 ^ 31 → FitsSigned w32 (way from to)
way_near from to f t = omega (arith, ints, f, t)

either_near : (b : Bool) (x y : ℤ) → FitsSigned w32 x → FitsSigned w32 y → FitsSigned w32 (cond b x y)
either_near true x y hx hy = hx
either_near false x y hx hy = hy

by_near : (to : ℕ → ℕ) (p : ℕ) (xs : List Slot) → ((k : ℕ) → to k < 2 ^ 31) → p + sizes_of xs < 2 ^ 31 → AreNear (by_of to p xs)
by_near to p [] low room j = omega (arith, ints)
by_near to p (Put i ∷ xs) low room j = by_near to (p + size_of (Put i)) xs low (omega (arith, room)) j
by_near to p (Leave c k ∷ xs) low room j = either_near (nat_eq j k) _ _ (way_near (p + 6) (to k) (omega (arith, room)) (low k)) (by_near to (p + 6) xs low (omega (arith, room)) j)
by_near to p (Go k ∷ xs) low room j = either_near (nat_eq j k) _ _ (way_near (p + 5) (to k) (omega (arith, room)) (low k)) (by_near to (p + 5) xs low (omega (arith, room)) j)

pub led_is : (by : Jumps) (to : ℕ → ℕ) (p : ℕ) (xs : List Slot) → Aims by to p xs → bytes_of by xs ≡ led_bytes to p xs
led_is by to p [] h = refl
led_is by to p (Put i ∷ xs) h = ap (λ (l : List ℕ). spelling i ++ l) (led_is by to (p + size_of (Put i)) xs h)
led_is by to p (Leave c k ∷ xs) h = ap (λ (d : ℤ). spelling (Jcc c d) ++ bytes_of by xs) h.0 ∙ ap (λ (l : List ℕ). spelling (Jcc c (way (p + 6) (to k))) ++ l) (led_is by to (p + 6) xs h.1)
led_is by to p (Go k ∷ xs) h = ap (λ (d : ℤ). spelling (Jmp d) ++ bytes_of by xs) h.0 ∙ ap (λ (l : List ℕ). spelling (Jmp (way (p + 5) (to k))) ++ l) (led_is by to (p + 5) xs h.1)

-- ---- where they lead

wrap_pos : (n : ℕ) → n < 2 ^ 62 → wrap (pos n) ≡ cast_signed w64 n
unfolding int_wrap
wrap_pos n lt = let e : n % 2 ^ 64 ≡ n = grind arith in ap (cast_signed w64) e

word_target : (k : ℕ) → k < 2 ^ 62 → unsigned (wrap (pos k)) ≡ k
word_target k lt = ap unsigned (wrap_pos k lt) ∙ of_z-to_z w64 k (omega (arith, lt))

target_is : (from to : ℕ) → from < 2 ^ 31 → to < 2 ^ 31 → target (0x40000000 + from) (way from to) ≡ 0x40000000 + to
target_is from to f t =
    let e : pos (0x40000000 + from) +ℤ (pos to -ℤ pos from) ≡ pos (0x40000000 + to) = omega (arith, ints) in
    ap (λ (z : ℤ). unsigned (wrap z)) e ∙ word_target (0x40000000 + to) (omega (arith, t))

all_lead : (by : Jumps) (to : ℕ → ℕ) (p : ℕ) (xs : List Slot) → ((k : ℕ) → to k < 2 ^ 31) → p + sizes_of xs < 2 ^ 31 → Aims by to p xs → AllLead by to p xs
all_lead by to p [] low room h = tt
all_lead by to p (Put i ∷ xs) low room h = (tt, all_lead by to (p + size_of (Put i)) xs low (omega (arith, room)) h)
all_lead by to p (Leave c k ∷ xs) low room h =
    (ap (target (0x40000000 + (p + 6))) h.0 ∙ target_is (p + 6) (to k) (omega (arith, room)) (low k), all_lead by to (p + 6) xs low (omega (arith, room)) h.1)
all_lead by to p (Go k ∷ xs) low room h =
    (ap (target (0x40000000 + (p + 5))) h.0 ∙ target_is (p + 5) (to k) (omega (arith, room)) (low k), all_lead by to (p + 5) xs low (omega (arith, room)) h.1)

rows_near : (by : Jumps) (xs : List Slot) → AreNear by → HaveRows unset xs → HaveRows by xs
rows_near by [] near h = tt
rows_near by (Put i ∷ xs) near h = (h.0, rows_near by xs near h.1)
rows_near by (Leave c k ∷ xs) near h = (near k, rows_near by xs near h.1)
rows_near by (Go k ∷ xs) near h = (near k, rows_near by xs near h.1)

-- ---- bytes in the midst of others

abbrev pub Least : Type 0
Least = (i : Instr) → 1 ≤ length (spelling i)

size_is : (by : Jumps) (x : Slot) → length (spelling (instr_of by x)) ≡ size_of x
size_is by (Put i) = refl
size_is by (Leave c e) = refl
size_is by (Go e) = refl

pub length_led : (to : ℕ → ℕ) (p : ℕ) (xs : List Slot) → length (led_bytes to p xs) ≡ sizes_of xs
length_led to p [] = refl
length_led to p (Put i ∷ xs) = length-append (spelling i) (led_bytes to (p + size_of (Put i)) xs) ∙ ap (λ (n : ℕ). length (spelling i) + n) (length_led to (p + size_of (Put i)) xs)
length_led to p (Leave c k ∷ xs) = omega (arith, length_led to (p + 6) xs)
length_led to p (Go k ∷ xs) = omega (arith, length_led to (p + 5) xs)

stands_at : Least → (i : Instr) (front back : List ℕ) → HasRow i → Stands (front ++ (spelling i ++ back)) (length front) i
stands_at least i front back row =
    let n = length (spelling i) in
    let long : length (front ++ (spelling i ++ back)) ≡ length front + (n + length back) = length-append front (spelling i ++ back) ∙ ap (λ (k : ℕ). length front + k) (length-append (spelling i) back) in
    record {
      row = row;
      room = omega (arith, long, least i);
      inside = omega (arith, long);
      spelled = ap (take n) (drop_at front (spelling i ++ back) (length front) refl) ∙ take_at (spelling i) back n refl;
    }

lists_at : Least → (by : Jumps) (xs : List Slot) (front back : List ℕ) → HaveRows by xs → Lists by (front ++ (bytes_of by xs ++ back)) (length front) xs
lists_at least by [] front back rows = tt
lists_at least by (x ∷ xs) front back rows =
    let sp = spelling (instr_of by x) in
    let head : front ++ ((sp ++ bytes_of by xs) ++ back) ≡ front ++ (sp ++ (bytes_of by xs ++ back)) = ap (λ (l : List ℕ). front ++ l) (append_assoc sp (bytes_of by xs) back) in
    let tail : (front ++ sp) ++ (bytes_of by xs ++ back) ≡ front ++ ((sp ++ bytes_of by xs) ++ back) = append_assoc front sp (bytes_of by xs ++ back) ∙ sym head in
    let next : length (front ++ sp) ≡ length front + size_of x = length-append front sp ∙ ap (λ (k : ℕ). length front + k) (size_is by x) in
    let more = lists_at least by xs (front ++ sp) back rows.1 in (
      subst (λ (code : List ℕ). Stands code (length front) (instr_of by x)) (sym head) (stands_at least (instr_of by x) front (bytes_of by xs ++ back) rows.0),
      subst (λ (k : ℕ). Lists by (front ++ ((sp ++ bytes_of by xs) ++ back)) k xs) next (subst (λ (code : List ℕ). Lists by code (length (front ++ sp)) xs) tail more),
    )

leads_on : (by : Jumps) (code : List ℕ) (p : ℕ) (xs : List Slot) → Lists by code p xs → (places : List ℕ) × Leads code p places (p + sizes_of xs)
leads_on by code p [] h = ([], omega arith)
leads_on by code p (x ∷ xs) h =
    let rest = leads_on by code (p + size_of x) xs h.1 in
    let n : p + size_of x + sizes_of xs ≡ p + (size_of x + sizes_of xs) = omega arith in
    let m : p + size_of x ≡ p + length (spelling (instr_of by x)) = ap (λ (k : ℕ). p + k) (sym (size_is by x)) in
    (p ∷ rest.0, (refl, (instr_of by x, h.0, subst (λ (k : ℕ). Leads code k rest.0 (p + (size_of x + sizes_of xs))) m (subst (λ (k : ℕ). Leads code (p + size_of x) rest.0 k) n rest.1))))

whole_bytes : Least → (by : Jumps) (xs : List Slot) → HaveRows by xs → length (bytes_of by xs) ≡ sizes_of xs → IsWhole (bytes_of by xs)
whole_bytes least by xs rows long =
    let same : bytes_of by xs ++ [] ≡ bytes_of by xs = append-nil (bytes_of by xs) in
    let here = subst (λ (code : List ℕ). Lists by code 0 xs) same (lists_at least by xs [] [] rows) in
    let found = leads_on by (bytes_of by xs) 0 xs here in
    let n : 0 + sizes_of xs ≡ length (bytes_of by xs) = omega (arith, long) in
    (found.0, subst (λ (k : ℕ). Leads (bytes_of by xs) 0 found.0 k) n found.1)

pub led_slots_stand : Least → LedSlotsStand
led_slots_stand least to xs before behind once rows room low =
    let p = length before in
    let by = by_of to p xs in
    let near = by_near to p xs low room in
    let aimed = aims to p xs once in
    let have = rows_near by xs near rows in
    let same = led_is by to p xs aimed in (
      record {
        by = by;
        near = near;
        lists = subst (λ (l : List ℕ). Lists by (before ++ (l ++ behind)) p xs) same (lists_at least by xs before behind have);
        leads = all_lead by to p xs low room aimed;
      },
      subst IsWhole same (whole_bytes least by xs have (ap length same ∙ length_led to p xs)),
    )
