-- Paths that are the same for all displacements, and that they count no failure.
use Rattle.std.proofs.Common.{◌≡◌, ℕ, suc, ◌+◌, ◌^◌, ◌<◌, ◌≤◌, List, [], ◌∷◌, ◌++◌, length, take, drop, append_assoc, append-nil, refl, sym, ap, ◌∙◌, subst, arith, ℤ, pos}
use Rattle.std.specs.Prelude.{FitsSigned}
use Rattle.std.specs.Int.{w32, w64}
use Rattle.std.specs.List.{AllByRecursion}
use Rattle.std.proofs.lemmas.Int.{int_wrap_fits}
use Rattle.std.proofs.lemmas.List.{take-append-drop, drop-drop}
use Rattle.x64_encode.specs.declared.instr.Cc.{Cc}
use Rattle.x64_encode.specs.declared.instr.Cc.TheVariants as cc_is
use Rattle.x64_encode.specs.declared.instr.Instr.{Instr}
use Rattle.x64_encode.specs.declared.instr.Instr.TheVariants.{Jcc, Jmp}
use Rattle.x64_machine.specs.declared.state.Turn.TheVariants.{Went}
use Rattle.x64_encode.specs.Fields.{cc_number}
use Rattle.x64_encode.specs.Form.{spelling}
use Rattle.x64_encode.specs.Listing.{Stands}
use Rattle.x64_machine.specs.Words.{unsigned, holds}
use Rattle.x64_machine.specs.State.{State, Acted, acted, went, target, jumps_where}
use Rattle.x64_machine.specs.Step.{MachineStep}
use Rattle.asm_select.specs.Slots.{Slot, Put, Leave, Go, Jumps, Lists, instr_of, size_of, sizes_of, bytes_of, HaveRows}
use Rattle.guard_exit.specs.declared.row.ExitRow.{ExitRow}
use Rattle.image_runs.specs.Counted.{JumpsBy, CountsFailure}
use Rattle.image_runs.specs.Reached.{Comes, IsSpot, IsJumpOf}
use Rattle.asm_select.specs.Ended.{IsTaken}
use Rattle.image_runs.specs.Image.{Image, code_in, HasSlots, disp_in, JumpAt, RowsAre}
use Rattle.image_runs.specs.Selection as sel
use Rattle.image_runs.specs.Standing.{Way}
use Rattle.image_runs.proofs.Bytes.{stands_step, along_on, lists_right, sizes-append, step_one, length-bytes}
use Rattle.lists.proofs.Eaches.{each_weaker}
use Rattle.image_runs.specs.Relying.{Relies}

pub lists_left : (by : Jumps) (code : List ℕ) (p : ℕ) (xs ys : List Slot) → Lists by code p (xs ++ ys) → Lists by code p xs
lists_left by code p [] ys l = tt
lists_left by code p (x ∷ xs) ys l = (l.0, lists_left by code (p + size_of x) xs ys l.1)

-- a part of the slots stands where it is
pub part : (by : Jumps) (code : List ℕ) (slots : List Slot) (p : ℕ) (xs : List Slot) → HasSlots slots p xs → Lists by code 0 slots → Lists by code p xs
part by code slots p xs h l =
    let all = subst (Lists by code 0) h.2 l in
    let n : 0 + sizes_of h.0 ≡ p = omega (arith, h.3) in
    lists_left by code p xs h.1 (subst (λ (k : ℕ). Lists by code k (xs ++ h.1)) n (lists_right by code 0 h.0 (xs ++ h.1) all))

pub has_inside : (slots : List Slot) (p : ℕ) (xs front ys : List Slot) → HasSlots slots p xs → xs ≡ front ++ ys → HasSlots slots (p + sizes_of front) ys
has_inside slots p xs front ys h e =
    (h.0 ++ front, h.1, h.2 ∙ ap (λ (l : List Slot). h.0 ++ (l ++ h.1)) e ∙ ap (λ (l : List Slot). h.0 ++ l) (append_assoc front ys h.1) ∙ sym (append_assoc h.0 front (ys ++ h.1)), omega (arith, h.3, sizes-append h.0 front))

pub has_left : (slots : List Slot) (p : ℕ) (xs ys : List Slot) → HasSlots slots p (xs ++ ys) → HasSlots slots p xs
has_left slots p xs ys h = (h.0, ys ++ h.1, h.2 ∙ ap (λ (l : List Slot). h.0 ++ l) (append_assoc xs ys h.1), h.3)

pub has_more : (slots more : List Slot) (p : ℕ) (xs : List Slot) → HasSlots slots p xs → HasSlots (slots ++ more) p xs
has_more slots more p xs h =
    (h.0, h.1 ++ more, ap (λ (l : List Slot). l ++ more) h.2 ∙ append_assoc h.0 (xs ++ h.1) more ∙ ap (λ (l : List Slot). h.0 ++ l) (append_assoc xs h.1 more), h.3)

-- the slots stand in their own bytes
pub in_code : Relies → (by : Jumps) (slots : List Slot) → HaveRows by slots → Lists by (bytes_of by slots) 0 slots
in_code law by slots rows =
    let e : slots ++ [] ≡ slots = append-nil slots in
    subst (λ (l : List Slot). Lists by (bytes_of by l) 0 slots) e (law.stand by [] slots [] (subst (HaveRows by) (sym e) rows))

pub way_reached : {followed : Type 0} {R : State → Type 0} (slots : List Slot) (p : ℕ) (xs ys : List Slot) (s : State) → HasSlots slots p xs → (r : Comes followed p xs s ys R) → Way slots r.run.path s r.run.t
way_reached slots p xs ys s h r by code small l = r.run.comes by code small (part by code slots p xs h l)

pub way_on : (slots : List Slot) (us vs : List State) (s t u : State) → Way slots us s t → Way slots vs t u → Way slots (us ++ vs) s u
way_on slots us vs s t u f g by code small l = along_on code us vs s t u (f by code small l) (g by code small l)

pub way_more : (slots more : List Slot) (us : List State) (s t : State) → Way slots us s t → Way (slots ++ more) us s t
way_more slots more us s t f by code small l = f by code small (lists_left by code 0 slots more l)

pub way_tail : (slots : List Slot) (w : State) (us : List State) (s t : State) → Way slots (w ∷ us) s t → Way slots us w t
way_tail slots w us s t f by code small l = (f by code small l).1

-- a spot of a part is one of the whole
pub spot_in : (slots : List Slot) (p : ℕ) (xs : List Slot) → HasSlots slots p xs → (u : State) → IsSpot p xs u → IsSpot 0 slots u
spot_in slots p xs h u k =
    (h.0 ++ k.0, k.1 ++ h.1, h.2 ∙ ap (λ (l : List Slot). h.0 ++ (l ++ h.1)) k.2 ∙ ap (λ (l : List Slot). h.0 ++ l) (append_assoc k.0 k.1 h.1) ∙ sym (append_assoc h.0 k.0 (k.1 ++ h.1)), omega (arith, h.3, k.3, sizes-append h.0 k.0))

pub spots_reached : {followed : Type 0} {R : State → Type 0} (slots : List Slot) (p : ℕ) (xs ys : List Slot) (s : State) → HasSlots slots p xs → s.at ≡ 0x40000000 + p → (r : Comes followed p xs s ys R) → followed → AllByRecursion (IsSpot 0 slots) (s ∷ r.run.path)
spots_reached slots p xs ys s h at r f =
    (spot_in slots p xs h s ([], xs, refl, omega (arith, at)), each_weaker (IsSpot p xs) (IsSpot 0 slots) (spot_in slots p xs h) r.run.path (r.spots f))

pub weaker : {followed : Type 0} {R Q : State → Type 0} (p : ℕ) (xs ys : List Slot) (s : State) → ((t : State) → R t → Q t) → Comes followed p xs s ys R → Comes followed p xs s ys Q
weaker p xs ys s f h = record {
  run = record {
    path = h.run.path;
    few = h.run.few;
    t = h.run.t;
    q = h.run.q;
    comes = h.run.comes;
    front = h.run.front;
    split = h.run.split;
    place = h.run.place;
    at = h.run.at;
    holds = f h.run.t h.run.holds;
  };
  spots = h.spots;
}

pub spot_more : (slots more : List Slot) (u : State) → IsSpot 0 slots u → IsSpot 0 (slots ++ more) u
spot_more slots more u k = (k.0, k.1 ++ more, ap (λ (l : List Slot). l ++ more) k.2 ∙ append_assoc k.0 k.1 more, k.3)

-- ---- the jump that a row names

same_place : (code : List ℕ) (p : ℕ) (i j : Instr) → Relies → Stands code p i → Stands code p j → i ≡ j
same_place code p i j law h k =
    let n = length (spelling i) in
    let m = length (spelling j) in
    let both : spelling i ++ drop n (drop p code) ≡ spelling j ++ drop m (drop p code) =
    ap (λ (l : List ℕ). l ++ drop n (drop p code)) (sym h.spelled) ∙ take-append-drop n (drop p code) ∙ sym (take-append-drop m (drop p code)) ∙ ap (λ (l : List ℕ). l ++ drop m (drop p code)) k.spelled in
    (law.instruction i j (spelling i) (spelling j) (drop n (drop p code)) (drop m (drop p code)) (h.row, refl) (k.row, refl) both).0

cc_low : (c : Cc) → cc_number c ≤ 15
cc_low cc_is.O = omega arith
cc_low cc_is.No = omega arith
cc_low cc_is.B = omega arith
cc_low cc_is.Ae = omega arith
cc_low cc_is.E = omega arith
cc_low cc_is.Ne = omega arith
cc_low cc_is.Be = omega arith
cc_low cc_is.A = omega arith
cc_low cc_is.S = omega arith
cc_low cc_is.Ns = omega arith
cc_low cc_is.L = omega arith
cc_low cc_is.Ge = omega arith
cc_low cc_is.Le = omega arith
cc_low cc_is.G = omega arith

abbrev head_of : ℕ → List ℕ → ℕ
head_of d [] = d
head_of d (x ∷ xs) = x

second : (ys front back : List ℕ) (a b c : ℕ) → take 6 ys ≡ a ∷ b ∷ front → take 5 (drop 1 ys) ≡ c ∷ back → b ≡ c
second [] front back a b c e f = absurd (let n : 0 ≡ suc (suc (length front)) = ap length e in omega (arith, n))
second (x ∷ []) front back a b c e f = absurd (let n : 0 ≡ suc (length back) = ap length f in omega (arith, n))
second (x ∷ y ∷ ys) front back a b c e f =
    let p : y ≡ b = ap (λ (l : List ℕ). head_of 0 (drop 1 l)) e in
    let q : y ≡ c = ap (head_of 0) f in
    sym p ∙ q

drop_one : (p : ℕ) (code : List ℕ) → drop (p + 1) code ≡ drop 1 (drop p code)
drop_one p code = sym (drop-drop 1 p code)

not_inside : (code : List ℕ) (p : ℕ) (c : Cc) (d e : ℤ) → Stands code p (Jcc c d) → Stands code (p + 1) (Jmp e) → ⊥
not_inside code p c d e h k =
    let one : 0x80 + cc_number c ≡ 0xE9 = second (drop p code) _ _ 0x0F (0x80 + cc_number c) 0xE9 h.spelled (ap (take 5) (sym (drop_one p code)) ∙ k.spelled) in
    omega (arith, one, cc_low c)

-- the instruction that jumps by the displacement of a slot is that slot's
pub record IsSlots (code : List ℕ) (by : Jumps) (f e : ℕ) (x : Slot) (s : State) : Type 0 where
  here : s.at ≡ 0x40000000 + f
  taken : IsTaken e x s

is_slots : (code : List ℕ) (by : Jumps) (f e : ℕ) (x : Slot) (s : State) (place : ℕ) (i : Instr) → Relies → s.at ≡ 0x40000000 + place → Stands code place i → JumpsBy i place (f + disp_in x) s.flags → Stands code f (instr_of by x) → IsJumpOf x e → IsSlots code by f e x s
is_slots code by f e (Put k) s place i law at h jumps there jump = absurd jump
is_slots code by f e (Leave c k) s place (Jcc d z) law at h jumps there jump =
    let n : place ≡ f = omega (arith, jumps.0) in
    let same : Jcc d z ≡ Jcc c (by k) = same_place code f (Jcc d z) (Jcc c (by k)) law (subst (λ (m : ℕ). Stands code m (Jcc d z)) n h) there in
    record { here = at ∙ ap (λ (m : ℕ). 0x40000000 + m) n; taken = (jump, ap (λ (y : Cc). holds y s.flags) (sym (cond_same d c z (by k) same)) ∙ jumps.1) }
  where
    cond_in : Instr → Cc
    cond_in (Jcc y w) = y
    cond_in j = cc_is.O

    cond_same : (d c : Cc) (z w : ℤ) → Jcc d z ≡ Jcc c w → d ≡ c
    cond_same d c z w same = ap cond_in same
is_slots code by f e (Leave c k) s place (Jmp z) law at h jumps there jump =
    let n : place ≡ f + 1 = omega (arith, jumps) in
    absurd (not_inside code f c (by k) z there (subst (λ (m : ℕ). Stands code m (Jmp z)) n h))
is_slots code by f e (Go k) s place (Jcc d z) law at h jumps there jump =
    let n : f ≡ place + 1 = omega (arith, jumps.0) in
    absurd (not_inside code place d z (by k) h (subst (λ (m : ℕ). Stands code m (Jmp (by k))) n there))
is_slots code by f e (Go k) s place (Jmp z) law at h jumps there jump =
    let n : place ≡ f = omega (arith, jumps) in
    record { here = at ∙ ap (λ (m : ℕ). 0x40000000 + m) n; taken = jump }
is_slots code by f e (Leave c k) s place _ law at h jumps there jump = absurd jumps
is_slots code by f e (Go k) s place _ law at h jumps there jump = absurd jumps

-- ---- a slot that is taken

pub target_ahead : (n k : ℕ) → n + k < 2 ^ 63 → target n (pos k) ≡ n + k
target_ahead n k lt =
    let fits : FitsSigned w64 (pos (n + k)) = record { sfits = omega arith } in
    ap unsigned (int_wrap_fits w64 (pos (n + k)) fits)

pub stands_slot : (by : Jumps) (code : List ℕ) (slots front behind : List Slot) (x : Slot) → slots ≡ front ++ x ∷ behind → Lists by code 0 slots → Stands code (sizes_of front) (instr_of by x)
stands_slot by code slots front behind x split l =
    let n : 0 + sizes_of front ≡ sizes_of front = omega arith in
    subst (λ (k : ℕ). Stands code k (instr_of by x)) n (lists_right by code 0 front (x ∷ behind) (subst (Lists by code 0) split l)).0

-- it goes where its displacement leads
pub taken_goes : (by : Jumps) (code : List ℕ) (f e : ℕ) (x : Slot) (s : State) → length code < 2 ^ 32 → s.at ≡ 0x40000000 + f → IsTaken e x s → Stands code f (instr_of by x) → MachineStep code s (went (target (0x40000000 + (f + size_of x)) (by e)) s)
taken_goes by code f e (Put i) s small at taken h = absurd taken
taken_goes by code f e (Leave c k) s small at taken h =
    let d = by k in
    let n = 0x40000000 + (f + 6) in
    subst (λ (y : ℕ). MachineStep code s (went (target n (by y)) s)) taken.0
    (subst (MachineStep code s) (ap (λ o. jumps_where o n d s) taken.1) (stands_step code f (Jcc c d) s small at h))
taken_goes by code f e (Go k) s small at taken h =
    subst (λ (y : ℕ). MachineStep code s (went (target (0x40000000 + (f + 5)) (by y)) s)) taken (stands_step code f (Jmp (by k)) s small at h)

have_const : (by : Jumps) (d : ℤ) (xs : List Slot) → FitsSigned w32 d → HaveRows by xs → HaveRows (λ k. d) xs
have_const by d [] f h = tt
have_const by d (Put i ∷ xs) f h = (h.0, have_const by d xs f h.1)
have_const by d (Leave c k ∷ xs) f h = (f, have_const by d xs f h.1)
have_const by d (Go k ∷ xs) f h = (f, have_const by d xs f h.1)

-- where a path begins at a slot that is taken, it leads where any displacement would
leads_all : Relies → (by : Jumps) (d : ℤ) (slots front behind : List Slot) (x : Slot) (e : ℕ) (s w t : State) (us : List State) → slots ≡ front ++ x ∷ behind → HaveRows by slots → length (bytes_of by slots) < 2 ^ 32 → FitsSigned w32 d → s.at ≡ 0x40000000 + sizes_of front → IsTaken e x s → Way slots (w ∷ us) s t → w.at ≡ target (0x40000000 + (sizes_of front + size_of x)) d
leads_all law by d slots front behind x e s w t us split rows small fits at taken way =
    let to : Jumps = λ k. d in
    let code = bytes_of to slots in
    let listed = in_code law to slots (have_const by d slots fits rows) in
    let few : length code < 2 ^ 32 = omega (arith, small, length-bytes by slots, length-bytes to slots) in
    let one = (way to code few listed).0 in
    let other = taken_goes to code (sizes_of front) e x s few at taken (stands_slot to code slots front behind x split listed) in
    ap (λ (a : Acted). a.state.at) (step_one code s (acted Went w) (went (target (0x40000000 + (sizes_of front + size_of x)) d) s) law one other)

slot_room : (by : Jumps) (slots front behind : List Slot) (x : Slot) → slots ≡ front ++ x ∷ behind → sizes_of front + size_of x ≤ length (bytes_of by slots)
slot_room by slots front behind x split = omega (arith, length-bytes by slots, ap sizes_of split, sizes-append front (x ∷ behind))

-- so no jump is taken on a path
pub not_taken : Relies → (by : Jumps) (slots front behind : List Slot) (x : Slot) (e : ℕ) (s w t : State) (us : List State) → slots ≡ front ++ x ∷ behind → HaveRows by slots → length (bytes_of by slots) < 2 ^ 32 → s.at ≡ 0x40000000 + sizes_of front → IsTaken e x s → Way slots (w ∷ us) s t → ⊥
not_taken law by slots front behind x e s w t us split rows small at taken way =
    let n = 0x40000000 + (sizes_of front + size_of x) in
    let room = slot_room by slots front behind x split in
    let zero = leads_all law by (pos 0) slots front behind x e s w t us split rows small (record { sfits = omega arith }) at taken way in
    let one = leads_all law by (pos 1) slots front behind x e s w t us split rows small (record { sfits = omega arith }) at taken way in
    let a : n + 0 ≡ n + 1 = sym (target_ahead n 0 (omega (arith, room, small))) ∙ sym zero ∙ one ∙ target_ahead n 1 (omega (arith, room, small)) in
    omega (arith, a)

-- what a failure that is counted stands at
pub record Counted (g : Image) (s : State) : Type 0 where
  pub e : ℕ
  pub n : ℕ
  pub x : JumpAt g e
  pub exit : g.exit e ≡ sel.Guarded n
  pub at : s.at ≡ 0x40000000 + sizes_of x.front
  pub taken : IsTaken e x.slot s

pub counted_at : Relies → (g : Image) (rows : List ExitRow) (s : State) → HaveRows g.by g.slots → RowsAre g rows → CountsFailure (code_in g) rows s → Counted g s
counted_at law g rows s have are c =
    let r = are.each c.0 c.1 c.2 in
    let x = r.2 in
    let j = c.3 in
    let listed = in_code law g.by g.slots have in
    let there = stands_slot g.by (code_in g) g.slots x.front x.behind x.slot x.split listed in
    let z = is_slots (code_in g) g.by (sizes_of x.front) r.0 x.slot s j.place j.instr law j.here j.stands (subst (λ (n : ℕ). JumpsBy j.instr j.place n s.flags) r.3 j.jumps) there x.jump in
    record { e = r.0; n = r.1; x = x; exit = r.4; at = z.here; taken = z.taken }

pub no_failure : Relies → (g : Image) (rows : List ExitRow) (s w t : State) (us : List State) → HaveRows g.by g.slots → length (code_in g) < 2 ^ 32 → RowsAre g rows → Way g.slots (w ∷ us) s t → CountsFailure (code_in g) rows s → ⊥
no_failure law g rows s w t us have small are way counts =
    let z = counted_at law g rows s have are counts in
    not_taken law g.by g.slots z.x.front z.x.behind z.x.slot z.e s w t us z.x.split have small z.at z.taken way
