-- A word of a register is stored in the frame.
use Rattle.std.proofs.Common.{◌≡◌, ◌≢◌, ℕ, ◌+◌, ◌-◌, ◌*◌, ◌/◌, ◌%◌, ◌^◌, ◌<◌, ◌≤◌, true, false, cond, Bool, List, [], ◌∷◌, ◌++◌, length, drop, append_assoc, Option, Some, refl, sym, ap, ◌∙◌, subst, inl, arith, ℤ, pos}
use Rattle.std.specs.Prelude.{◌==◌, FitsSigned, slice_set, slice_index_or, ◌+ℤ◌, ◌-ℤ◌}
use Rattle.std.specs.Int.{w64}
use Rattle.std.proofs.lemmas.List.{get_or-set_same, get_or-set_other, length-set, length-drop, length-append}
use Rattle.std.proofs.lemmas.Option.{slice_get-get_or}
use Rattle.std.proofs.lemmas.Bool.{eqb-true, eq-eqb}
use Rattle.std.proofs.lemmas.Bool.Decides.{nat_tests}
use Rattle.std.proofs.lemmas.Int.{ints, int_wrap_fits}
use Rattle.trace_ops.specs.Words.{IsWord}
use Rattle.guard_exit.specs.Codes.{register, frame_mem}
use Rattle.target_base.specs.Arena.{with_arena_word}
use Rattle.target_base.specs.declared.reg.Reg.{Reg}
use Rattle.target_base.specs.declared.place.Place.{Place}
use Rattle.target_base.specs.declared.place.Place.TheVariants.{In, Word}
use Rattle.x64_encode.specs.declared.instr.Instr.{Instr}
use Rattle.x64_encode.specs.declared.instr.Instr.TheVariants.{Store}
use Rattle.x64_encode.specs.Form.{spelling}
use Rattle.x64_encode.specs.Listing.{Stands}
use Rattle.x64_machine.specs.Words.{wrap, unsigned}
use Rattle.x64_machine.specs.State.{State, reg, address, word_at, in_arena, frame_word, went, act, one_if, stored}
use Rattle.x64_machine.specs.Step.{ahead, is_in, Decoded, MachineStep}
use Rattle.x64_machine.specs.Running.{Along}
use Rattle.asm_select.specs.Slots.{Slot, Put, Jumps, size_of, sizes_of, Lists}
use Rattle.asm_select.specs.Valued.{value, IsThere, MayHold, IsFit}
use Rattle.asm_select.specs.Chosen.{same_place}
use Rattle.asm_select.specs.Reached.{Reach}
use Rattle.image_built.proofs.Leading.{sizes-append}

in_both : (code : List ℕ) (at p : ℕ) → at ≡ 0x40000000 + p → p < length code → is_in code at ≡ true
in_both code at p e h = grind (arith, nat_tests)

pub stands_step : (code : List ℕ) (p : ℕ) (i : Instr) (s : State) → length code < 2 ^ 32 → s.at ≡ 0x40000000 + p → Stands code p i → MachineStep code s (act i (0x40000000 + (p + length (spelling i))) s)
stands_step code p i s small at h =
    let t : is_in code s.at ≡ true = in_both code s.at p at h.room in
    let off : s.at - 0x40000000 ≡ p = omega arith in
    let n = length (spelling i) in
    let next : (s.at + n) % 2 ^ 64 ≡ 0x40000000 + (p + n) = grind (arith, h.inside) in
    let fits : n ≤ length (drop p code) = omega (arith, length-drop p code, h.inside) in
    let here : Decoded (drop p code) s (act i (0x40000000 + (p + n)) s) = inl (i, n, (fits, (h.row, h.spelled)), ap (λ (k : ℕ). act i k s) (sym next)) in
    let there : Decoded (ahead code s.at) s (act i (0x40000000 + (p + n)) s) = subst (λ (k : ℕ). Decoded (drop k code) s (act i (0x40000000 + (p + n)) s)) (sym off) here in
    rw t there

pub along_on : (code : List ℕ) (us vs : List State) (s t u : State) → Along code us s t → Along code vs t u → Along code (us ++ vs) s u
along_on code [] vs s t u f g = subst (λ (x : State). Along code vs x u) (sym f) g
along_on code (x ∷ us) vs s t u f g = (f.0, along_on code us vs x t u f.1 g)

-- the state of an instruction that was made
abbrev pub moved : ℕ → State → State
moved next x = (went next x).state

pub stay : (p : ℕ) (xs : List Slot) (s : State) (R : State → Type 0) → s.at ≡ 0x40000000 + p → R s → Reach p xs s xs R
stay p xs s R at r = record {
  path = [];
  few = omega arith;
  t = s;
  q = p;
  comes = λ by code small l. refl;
  front = [];
  split = refl;
  place = omega arith;
  at = at;
  holds = r;
}

-- an instruction that goes on to the next one
pub one : (p : ℕ) (i : Instr) (ys : List Slot) (s x : State) (R : State → Type 0) → s.at ≡ 0x40000000 + p → ((next : ℕ) → act i next s ≡ went next x) → ((next : ℕ) → R (moved next x)) → Reach p (Put i ∷ ys) s ys R
one p i ys s x R at acts r =
    let n = length (spelling i) in
    let next = 0x40000000 + (p + n) in record {
      path = moved next x ∷ [];
      few = omega arith;
      t = moved next x;
      q = p + n;
      comes = λ by code small l. (subst (MachineStep code s) (acts next) (stands_step code p i s small at l.0), refl);
      front = Put i ∷ [];
      split = refl;
      place = omega arith;
      at = refl;
      holds = r next;
    }

pub lists_right : (by : Jumps) (code : List ℕ) (p : ℕ) (xs ys : List Slot) → Lists by code p (xs ++ ys) → Lists by code (p + sizes_of xs) ys
lists_right by code p [] ys l =
    let n : p + 0 ≡ p = omega arith in
    subst (λ (k : ℕ). Lists by code k ys) (sym n) l
lists_right by code p (x ∷ xs) ys l =
    let n : p + size_of x + sizes_of xs ≡ p + (size_of x + sizes_of xs) = omega arith in
    subst (λ (k : ℕ). Lists by code k ys) n (lists_right by code (p + size_of x) xs ys l.1)

-- the slots that are reached stand where they are reached
pub on_in : {R : State → Type 0} (by : Jumps) (code : List ℕ) (p : ℕ) (xs ys : List Slot) (s : State) (f : Reach p xs s ys R) → Lists by code p xs → Lists by code f.q ys
on_in by code p xs ys s f l =
    subst (λ (k : ℕ). Lists by code k ys) (sym f.place) (lists_right by code p f.front ys (subst (Lists by code p) f.split l))

-- a run that goes on from where another one came to
pub join : {R Q : State → Type 0} (p : ℕ) (xs ys zs : List Slot) (s : State) (f : Reach p xs s ys R) → Reach f.q ys f.t zs Q → Reach p xs s zs Q
join p xs ys zs s f h = record {
  path = f.path ++ h.path;
  few = omega (arith, f.few, h.few, length-append f.path h.path);
  t = h.t;
  q = h.q;
  comes = λ by code small l. along_on code f.path h.path s f.t h.t (f.comes by code small l) (h.comes by code small (on_in by code p xs ys s f l));
  front = f.front ++ h.front;
  split = f.split ∙ ap (λ (l : List Slot). f.front ++ l) h.split ∙ sym (append_assoc f.front h.front zs);
  place = omega (arith, h.place, f.place, sizes-append f.front h.front);
  at = h.at;
  holds = h.holds;
}

pub then : {R Q : State → Type 0} (p : ℕ) (xs ys zs : List Slot) (s : State) → Reach p xs s ys R → ((t : State) (q : ℕ) → t.at ≡ 0x40000000 + q → R t → Reach q ys t zs Q) → Reach p xs s zs Q
then p xs ys zs s f g = join p xs ys zs s f (g f.t f.q f.at f.holds)

pub weaker : {R Q : State → Type 0} (p : ℕ) (xs ys : List Slot) (s : State) → ((t : State) → R t → Q t) → Reach p xs s ys R → Reach p xs s ys Q
weaker p xs ys s f h = record {
  path = h.path;
  few = h.few;
  t = h.t;
  q = h.q;
  comes = h.comes;
  front = h.front;
  split = h.split;
  place = h.place;
  at = h.at;
  holds = f h.t h.holds;
}

-- one place has another value, and all else is as before
pub record Only (p : Place) (s t : State) : Type 0 where
  pub others : (q : Place) → q ≢ p → value t q ≡ value s q
  pub arena : t.arena ≡ s.arena
  pub loads : t.loads ≡ s.loads
  pub stores : t.stores ≡ s.stores
  pub regs : length t.regs ≡ length s.regs
  pub frame : length t.frame ≡ length s.frame

-- a place that may be written while code runs
pub record CanWrite (p : Place) : Type 0 where
  pub there : IsThere p
  pub not_rsp : p ≢ In (register 4)
  pub not_rbp : p ≢ In (register 5)
  pub not_top : p ≢ Word 1048575

-- a place has the word, all else is as before, and the state is fit
abbrev pub Has : Place → ℤ → State → State → Type 0
Has p v s t = (value t p ≡ v) × Only p s t × IsFit t

abbrev pub number : Place → ℕ
number (In r) = r.0
number (Word k) = 16 + k

pub word_ne : (j k : ℕ) → Word j ≢ Word k → j ≢ k
word_ne j k ne e = ne (ap Word e)

pub same_is : (p q : Place) → same_place p q ≡ true → p ≡ q
same_is (In a) (In b) e = ap (λ (n : ℕ). In (record { 0 = n })) (eqb-true a.0 b.0 e)
same_is (In a) (Word k) e = cc
same_is (Word j) (In b) e = cc
same_is (Word j) (Word k) e = ap Word (eqb-true j k e)

pub same_self : (p : Place) → same_place p p ≡ true
same_self (In a) = eq-eqb a.0 a.0 refl
same_self (Word k) = eq-eqb k k refl

pub same_not : (p q : Place) → same_place p q ≡ false → p ≢ q
same_not p q e f =
    let g : same_place p p ≡ false = ap (same_place p) f ∙ e in
    let n : true ≡ false = sym (same_self p) ∙ g in
    cc

pub may_write : (p : Place) → MayHold p → CanWrite p
may_write p m = record { there = m.there; not_rsp = m.not_rsp; not_rbp = m.not_rbp; not_top = m.not_stack 1048575 (omega arith) }

words_after : (d : Place) (s t : State) → Only d s t → IsWord (value t d) → IsFit s → (p : Place) → IsWord (value t p)
words_after d s t o w f p =
    elim (same_place p d) as (λ b. same_place p d ≡ b → IsWord (value t p)) [
      | true ↦ λ e. subst (λ (q : Place). IsWord (value t q)) (sym (same_is p d e)) w
      | false ↦ λ e. subst IsWord (sym (o.others p (same_not p d e))) (f.words p)
    ]
    refl

-- writes of a word to a place other than rbp, rsp and the top word keep a state fit
pub fit_only : (d : Place) (s t : State) → CanWrite d → Only d s t → IsWord (value t d) → IsFit s → IsFit t
fit_only d s t c o w f = record {
  regs = o.regs ∙ f.regs;
  frame = o.frame ∙ f.frame;
  words = words_after d s t o w f;
  base = o.others (In (register 5)) (λ e. c.not_rbp (sym e)) ∙ f.base;
  stack = o.others (In (register 4)) (λ e. c.not_rsp (sym e)) ∙ f.stack;
  top = o.others (Word 1048575) (λ e. c.not_top (sym e)) ∙ f.top;
}

word_others : (s t : State) (j : ℕ) (v : ℤ) → t.frame ≡ slice_set s.frame j v → t.regs ≡ s.regs → (q : Place) → q ≢ Word j → value t q ≡ value s q
word_others s t j v f r (In x) ne = ap (λ (xs : List ℤ). slice_index_or xs x.0 (pos 0)) r
word_others s t j v f r (Word k) ne = ap (λ (xs : List ℤ). slice_index_or xs k (pos 0)) f ∙ get_or-set_other s.frame j k v (pos 0) (word_ne k j ne)

only_word : (s t : State) (j : ℕ) (v : ℤ) → t.frame ≡ slice_set s.frame j v → t.regs ≡ s.regs → t.arena ≡ s.arena → t.loads ≡ s.loads → t.stores ≡ s.stores → Only (Word j) s t
only_word s t j v f r a l k = record {
  others = word_others s t j v f r;
  arena = a;
  loads = l;
  stores = k;
  regs = ap length r;
  frame = ap length f ∙ length-set s.frame j v;
}

set_word : (s t : State) (j : ℕ) (v : ℤ) → t.frame ≡ slice_set s.frame j v → length s.frame ≡ 1048576 → j < 1048576 → value t (Word j) ≡ v
set_word s t j v f n lt = ap (λ (xs : List ℤ). slice_index_or xs j (pos 0)) f ∙ get_or-set_same s.frame j v (pos 0) (omega arith)

-- a frame word was written
pub word_has : (s t : State) (j : ℕ) (v : ℤ) → t.frame ≡ slice_set s.frame j v → t.regs ≡ s.regs → t.arena ≡ s.arena → t.loads ≡ s.loads → t.stores ≡ s.stores → CanWrite (Word j) → IsWord v → IsFit s → Has (Word j) v s t
word_has s t j v f r a l k c word fit =
    let e = set_word s t j v f fit.frame c.there in
    let o = only_word s t j v f r a l k in
    (e, o, fit_only (Word j) s t c o (subst IsWord (sym e) word) fit)

pub frame_address : (s : State) (k : ℕ) → IsFit s → k < 1048576 → address s (frame_mem k) ≡ 0x20000000 + 8 * k
frame_address s k f lt =
    let fits : FitsSigned w64 (pos (536870912 + 8 * k)) = record { sfits = omega arith } in
    let e : pos 0x20000080 +ℤ (pos (8 * k) -ℤ pos 128) ≡ pos (536870912 + 8 * k) = omega (arith, ints) in
    ap (λ (z : ℤ). unsigned (wrap (z +ℤ (pos (8 * k) -ℤ pos 128)))) f.base ∙ ap (λ (z : ℤ). unsigned (wrap z)) e ∙ ap unsigned (int_wrap_fits w64 (pos (536870912 + 8 * k)) fits)

high : (k : ℕ) → in_arena (0x20000000 + 8 * k) ≡ false
high k = grind (arith, nat_tests)

pub frame_in : (s : State) (k : ℕ) → IsFit s → k < 1048576 → in_arena (address s (frame_mem k)) ≡ false
frame_in s k f lt = ap in_arena (frame_address s k f lt) ∙ high k

frame_at : (frame : List ℤ) (k : ℕ) → length frame ≡ 1048576 → k < 1048576 → frame_word frame (0x20000000 + 8 * k) ≡ Some (slice_index_or frame k (pos 0))
frame_at frame k n lt =
    let a : ((0x20000000 + 8 * k) % 8 == 0) ≡ true = grind (arith, nat_tests) in
    let b : (0x20000000 + 8 * k - 0x20000000) / 8 ≡ k = grind arith in
    rw (a, b) (slice_get-get_or frame k (pos 0) (omega arith))

pub frame_read : (s : State) (k : ℕ) → IsFit s → k < 1048576 → word_at s (address s (frame_mem k)) ≡ Some (value s (Word k))
frame_read s k f lt =
    let a = frame_address s k f lt in
    let e : word_at s (0x20000000 + 8 * k) ≡ Some (value s (Word k)) = rw (high k) (frame_at s.frame k f.frame lt) in
    ap (word_at s) a ∙ e

-- a place has the word, all else is as before, flags too, and the state is fit
abbrev pub Keeps : Place → ℤ → State → State → Type 0
Keeps p v s t = Has p v s t × (t.flags ≡ s.flags)

-- a word is written to a frame word
store_word : (p k : ℕ) (i : Instr) (v : ℤ) (ys : List Slot) (s : State) → IsFit s → CanWrite (Word k) → IsWord v → ((next : ℕ) → act i next s ≡ stored (word_at s (address s (frame_mem k))) (address s (frame_mem k)) v s (went next)) → s.at ≡ 0x40000000 + p → Reach p (Put i ∷ ys) s ys (Keeps (Word k) v s)
store_word p k i v ys s f c word acts at =
    let lt = c.there in
    let a = address s (frame_mem k) in
    let low = frame_in s k f lt in
    let none : s.stores + one_if (in_arena a) ≡ s.stores = ap (λ (b : Bool). s.stores + one_if b) low ∙ omega arith in
    let place : (a - 0x20000000) / 8 ≡ k = ap (λ (n : ℕ). (n - 0x20000000) / 8) (frame_address s k f lt) ∙ grind arith in
    let arena : cond (in_arena a) (with_arena_word a v s.arena) s.arena ≡ s.arena = ap (λ (b : Bool). cond b (with_arena_word a v s.arena) s.arena) low in
    let frame : cond (in_arena a) s.frame (slice_set s.frame ((a - 0x20000000) / 8) v) ≡ slice_set s.frame k v = ap (λ (b : Bool). cond b s.frame (slice_set s.frame ((a - 0x20000000) / 8) v)) low ∙ ap (λ (n : ℕ). slice_set s.frame n v) place in
    let after : State = record s {
      arena = cond (in_arena a) (with_arena_word a v s.arena) s.arena;
      frame = cond (in_arena a) s.frame (slice_set s.frame ((a - 0x20000000) / 8) v);
      stores = s.stores + one_if (in_arena a);
    } in
    one p i ys s after (Keeps (Word k) v s) at
    (λ next. acts next ∙ ap (λ (o : Option ℤ). stored o a v s (went next)) (frame_read s k f lt))
    (λ next. (word_has s (moved next after) k v frame refl arena refl none c word f, refl))

pub store_keeps : (p k : ℕ) (w : Reg) (ys : List Slot) (s : State) → IsFit s → CanWrite (Word k) → s.at ≡ 0x40000000 + p → Reach p (Put (Store (frame_mem k) w) ∷ ys) s ys (Keeps (Word k) (value s (In w)) s)
store_keeps p k w ys s f c at = store_word p k (Store (frame_mem k) w) (reg s w) ys s f c (f.words (In w)) (λ next. refl) at
