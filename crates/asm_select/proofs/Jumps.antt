-- The code of a jump brings the arguments to the places of the label.
use Rattle.std.proofs.Common.{◌≡◌, ◌≢◌, ℕ, zero, suc, ◌+◌, ◌<◌, ◌≤◌, Bool, true, false, not, cond, List, [], ◌∷◌, ◌++◌, length, Some, refl, sym, ap, ◌∙◌, subst, inl, inr, arith, ⊎_elim, ℤ}
use Rattle.std.specs.Prelude.{nat_eq, nat_lt, nat_le, ◌&&◌, slice_get}
use Rattle.std.specs.List.{All}
use Rattle.std.proofs.lemmas.Bool.{eqb-true, eqb-false, eq-eqb, cases_lt}
use Rattle.std.proofs.lemmas.Bool.Decides.{nat_tests}
use Rattle.trace_ops.specs.declared.trace.BoxId.{BoxId}
use Rattle.trace_ops.specs.declared.trace.Arg.{Arg}
use Rattle.trace_ops.specs.Words.{IsWord}
use Rattle.trace_meaning.specs.declared.value.Value.{Value}
use Rattle.trace_meaning.specs.Boxes.{value_in, arg_value}
use Rattle.opt_meaning.specs.Step.{Opt, opt_values}
use Rattle.arena_objects.specs.Layout.{address_of}
use Rattle.parallel_move.specs.Moving as moving
use Rattle.parallel_move.specs.declared.moving.Move.{Move}
use Rattle.parallel_move.specs.declared.moving.Move.TheVariants.{Copy, Swap}
use Rattle.asm_select.proofs.Same.{place_same}
use Rattle.guard_exit.specs.Codes.{register, frame_mem}
use Rattle.target_base.specs.declared.reg.Reg.{Reg}
use Rattle.x64_encode.specs.declared.instr.Instr.TheVariants.{Xchg, MovImm, Store, StoreImm}
use Rattle.target_base.specs.declared.place.Place.{Place}
use Rattle.target_base.specs.declared.place.Place.TheVariants.{In, Word}
use Rattle.x64_encode.specs.Fields.{fits_bits}
use Rattle.x64_machine.specs.State.{State}
use Rattle.asm_select.specs.declared.operand.Operand.{Operand}
use Rattle.asm_select.specs.declared.operand.Operand.TheVariants.{At, Imm}
use Rattle.asm_select.specs.Slots.{Slot, Put, puts}
use Rattle.asm_select.specs.Valued.{r11, r15, value, MayHold, IsFit}
use Rattle.asm_select.specs.Chosen.{Setting, operand_of, same_place, reg_or, load_code, put_code, copy_code, swap_by, swap_code, move_code, moves_code, set_code, set_operand, pair_of, pairs_of, constants_code, jump_code}
use Rattle.asm_select.specs.Reached.{Reach, IsUsedIn, IsWordArg, PrebuiltsStand, SameArena, word_in, read}
use Rattle.asm_select.specs.Ended.{PlacesStand, AreValued, AreMoved}
use Rattle.asm_select.proofs.Steps.{stay, then, chain, weaker}
use Rattle.asm_select.proofs.Effects.{CanWrite, but, but_on, covers_11, covers_self, same_is, same_not, may_write, in_other, number, scratch}
use Rattle.asm_select.proofs.Micro.{CanRead, load_takes, homes, put_goes, imm_goes, store_keeps, store_imm_keeps, xchg_goes}
use Rattle.asm_select.proofs.Arms.{Gives}
use Rattle.asm_select.proofs.Allotted.{IsFree, free_holds, word_holds}
use Rattle.asm_select.proofs.Guards.{first_is}
use Rattle.asm_select.proofs.Values.{arg_is, arg_reads, first_value}

-- ---- places that may hold a box, by a test

pub may_be : Place → Bool
may_be (In r) = nat_lt r.0 16 && (not (nat_eq r.0 4) && (not (nat_eq r.0 5) && (not (nat_eq r.0 11) && not (nat_eq r.0 15))))
may_be (Word k) = nat_le 16 k && nat_lt k 1048320

free_by : (n : ℕ) → (nat_lt n 16 && (not (nat_eq n 4) && (not (nat_eq n 5) && (not (nat_eq n 11) && not (nat_eq n 15))))) ≡ true → IsFree n
free_by n e = record {
  few = grind (arith, nat_tests);
  not_4 = λ f. grind (arith, nat_tests);
  not_5 = λ f. grind (arith, nat_tests);
  not_11 = λ f. grind (arith, nat_tests);
  not_15 = λ f. grind (arith, nat_tests);
}

by_free : (n : ℕ) → n < 16 → n ≢ 4 → n ≢ 5 → n ≢ 11 → n ≢ 15 → (nat_lt n 16 && (not (nat_eq n 4) && (not (nat_eq n 5) && (not (nat_eq n 11) && not (nat_eq n 15))))) ≡ true
by_free n a b c d e = grind (arith, nat_tests)

pub test_holds : (p : Place) → may_be p ≡ true → MayHold p
unfolding may_be
test_holds (In r) e = free_holds r (free_by r.0 e)
test_holds (Word k) e = word_holds k (grind (arith, nat_tests)) (grind (arith, nat_tests))

number_not : (r : Reg) (n : ℕ) → In r ≢ In (register n) → r.0 ≢ n
number_not r n ne e = ne (ap (λ (k : ℕ). In (register k)) e)

holds_test : (p : Place) → MayHold p → may_be p ≡ true
unfolding may_be
holds_test (In r) m = by_free r.0 m.there (number_not r 4 m.not_rsp) (number_not r 5 m.not_rbp) (number_not r 11 m.not_r11) (number_not r 15 m.not_r15)
holds_test (Word k) m = within k (λ lt. m.not_saved k lt refl) (λ le. m.not_stack k le refl)
  where
    within : (n : ℕ) → (n < 16 → ⊥) → (1048320 ≤ n → ⊥) → (nat_le 16 n && nat_lt n 1048320) ≡ true
    within n low high = ⊎_elim (λ lt. absurd (low lt)) (λ le. ⊎_elim (λ lt. grind (arith, nat_tests)) (λ gt. absurd (high gt)) (cases_lt n 1048320)) (cases_lt n 16)

write_11 : CanWrite r11
write_11 = scratch 11 (omega arith) (omega arith) (omega arith)

write_15 : CanWrite r15
write_15 = scratch 15 (omega arith) (omega arith) (omega arith)

not_11_15 : r11 ≢ r15
not_11_15 = in_other 11 15 (omega arith)

-- ---- moves

same_self : (p : Place) → moving.same p p ≡ true
same_self (In r) = eq-eqb r.0 r.0 refl
same_self (Word k) = eq-eqb k k refl

place_apart : (a c : Place) → moving.same a c ≡ false → c ≢ a
place_apart a c h same = (let z : moving.same a a ≡ false = ap (moving.same a) (sym same) ∙ h in let w : true ≡ false = sym (same_self a) ∙ z in absurd (cc))

-- all places but the scratch registers have these words
abbrev Agree : moving.State → State → Type 0
Agree words s = (q : Place) → q ≢ r11 → q ≢ r15 → value s q ≡ words q

abbrev Moved : moving.State → State → State → Type 0
Moved words s t = Agree words t × IsFit t × SameArena s t

put_agrees : (target : Place) (word : ℤ) (words : moving.State) (s t : State) → Agree words s → Gives target word s t → Moved (moving.put target word words) s t
put_agrees target word words s t g (e, b, f) = (λ q x y. which q x y (moving.same target q) refl, f, record { arena = b.arena; loads = b.loads; stores = b.stores })
  where
    which : (q : Place) → q ≢ r11 → q ≢ r15 → (i : Bool) → moving.same target q ≡ i → value t q ≡ cond i word (words q)
    which q x y true h = ap (value t) (sym (place_same target q h)) ∙ e
    which q x y false h = b.others q x y (place_apart target q h) ∙ g q x y

copy_does : (p : ℕ) (target source : Place) (ys : List Slot) (s : State) → MayHold target → MayHold source → IsFit s → s.at ≡ 0x40000000 + p → Reach p (puts (copy_code target source) ++ ys) s ys (Gives target (value s source) s)
copy_does p (In r) source ys s mt ms f at =
    weaker p (puts (load_code r source) ++ ys) ys s (λ t h. (h.0, but (In r) (In r) s t (covers_self (In r)) h.1, h.2)) (load_takes p r source ys s f (may_write (In r) mt) ms.there at)
copy_does p (Word k) source ys s mt ms f at =
    let w = reg_or 11 source in
    chain p (load_code w source) (put_code (Word k) w) ys s (homes p 11 (At source) (puts (put_code (Word k) w) ++ ys) s ms f write_11 at) (λ t q et ht.
    weaker q (puts (put_code (Word k) w) ++ ys) ys t (λ u hu. (
      hu.0 ∙ ht.0,
      but_on (Word k) s t u (but (Word k) r11 s t (covers_11 (Word k)) ht.1) (but (Word k) (Word k) t u (covers_self (Word k)) hu.1),
      hu.2,
    )) (put_goes q (Word k) w ys t ht.2 (may_write (Word k) mt) et))

-- two places exchange their words, and no other place but the scratch registers is changed
record Exchanged (one other : Place) (s t : State) : Type 0 where
  first : value t one ≡ value s other
  second : value t other ≡ value s one
  others : (q : Place) → q ≢ r11 → q ≢ r15 → q ≢ one → q ≢ other → value t q ≡ value s q
  same : SameArena s t
  fit : IsFit t

exchanged_back : (one other : Place) (s t : State) → Exchanged one other s t → Exchanged other one s t
exchanged_back one other s t x = record { first = x.second; second = x.first; others = λ q a b c d. x.others q a b d c; same = x.same; fit = x.fit }

swap_by_does : (p : ℕ) (one other : Place) (ys : List Slot) (s : State) → MayHold one → MayHold other → IsFit s → s.at ≡ 0x40000000 + p → Reach p (puts (swap_by one other) ++ ys) s ys (Exchanged one other s)
swap_by_does p one other ys s m1 m2 f at =
    let w = register 11 in
    let h = reg_or 15 one in
    let l3 = put_code one w in
    let l2 = put_code other h ++ l3 in
    let l1 = load_code h one ++ l2 in
    chain p (load_code w other) l1 ys s (load_takes p w other (puts l1 ++ ys) s f write_11 m2.there at) (λ a q1 e1 h1.
    chain q1 (load_code h one) l2 ys a (homes q1 15 (At one) (puts l2 ++ ys) a m1 h1.2 write_15 e1) (λ b q2 e2 h2.
    chain q2 (put_code other h) l3 ys b (put_goes q2 other h (puts l3 ++ ys) b h2.2 (may_write other m2) e2) (λ d q3 e3 h3.
    weaker q3 (puts l3 ++ ys) ys d (λ t h4.
    let kept : value d r11 ≡ value s other = h3.1.others r11 (λ x. m2.not_r11 (sym x)) ∙ h2.1.others r11 not_11_15 ∙ h1.0 in
    let first : value t one ≡ value s other = h4.0 ∙ kept in
    let there : value d other ≡ value s one = h3.0 ∙ h2.0 ∙ h1.1.others one m1.not_r11 in
    record {
      first = first;
      second = elim (same_place other one) as (λ i. same_place other one ≡ i → value t other ≡ value s one) [
        | true ↦ λ e. (let same = same_is other one e in ap (value t) same ∙ first ∙ ap (value s) same)
        | false ↦ λ e. h4.1.others other (same_not other one e) ∙ there
      ]
          refl;
      others = λ q x y n1 n2. h4.1.others q n1 ∙ h3.1.others q n2 ∙ h2.1.others q y ∙ h1.1.others q x;
      same = record {
        arena = h4.1.arena ∙ h3.1.arena ∙ h2.1.arena ∙ h1.1.arena;
        loads = h4.1.loads ∙ h3.1.loads ∙ h2.1.loads ∙ h1.1.loads;
        stores = h4.1.stores ∙ h3.1.stores ∙ h2.1.stores ∙ h1.1.stores;
      };
      fit = h4.2;
    }) (put_goes q3 one w ys d h3.2 (may_write one m1) e3))))

number_is : (a b : Reg) → In a ≡ In b → a.0 ≡ b.0
number_is a b e = ap number e

swap_does : (p : ℕ) (one other : Place) (ys : List Slot) (s : State) → MayHold one → MayHold other → IsFit s → s.at ≡ 0x40000000 + p → Reach p (puts (swap_code one other) ++ ys) s ys (Exchanged one other s)
swap_does p (In a) (In b) ys s m1 m2 f at =
    elim (nat_eq a.0 b.0) as (λ i. nat_eq a.0 b.0 ≡ i → Reach p (puts (cond i [] (Xchg a b ∷ [])) ++ ys) s ys (Exchanged (In a) (In b) s)) [
      | true ↦ λ e. (let same : In a ≡ In b = ap (λ (n : ℕ). In (register n)) (eqb-true a.0 b.0 e) in stay p ys s (Exchanged (In a) (In b) s) at (record { first = ap (value s) same; second = ap (value s) (sym same); others = λ q x y n1 n2. refl; same = record { arena = refl; loads = refl; stores = refl }; fit = f }))
      | false ↦ λ e. weaker p (Put (Xchg a b) ∷ ys) ys s (λ t x. record { first = x.first; second = x.second; others = λ q i j n1 n2. x.others q n1 n2; same = record { arena = x.arena; loads = x.loads; stores = x.stores }; fit = x.fit }) (xchg_goes p a b ys s f (may_write (In a) m1) (may_write (In b) m2) (λ g. eqb-false a.0 b.0 e (number_is a b g)) at)
    ]
    refl
swap_does p (In a) (Word k) ys s m1 m2 f at = swap_by_does p (In a) (Word k) ys s m1 m2 f at
swap_does p (Word j) (In b) ys s m1 m2 f at = weaker p (puts (swap_by (In b) (Word j)) ++ ys) ys s (λ t x. exchanged_back (In b) (Word j) s t x) (swap_by_does p (In b) (Word j) ys s m2 m1 f at)
swap_does p (Word j) (Word k) ys s m1 m2 f at = swap_by_does p (Word j) (Word k) ys s m1 m2 f at

swap_agrees : (one other : Place) (words : moving.State) (s t : State) → MayHold one → MayHold other → Agree words s → Exchanged one other s t → Moved (moving.put one (words other) (moving.put other (words one) words)) s t
swap_agrees one other words s t m1 m2 g x = (λ q i j. first q i j (moving.same one q) refl, x.fit, x.same)
  where
    second : (q : Place) → q ≢ r11 → q ≢ r15 → q ≢ one → (b : Bool) → moving.same other q ≡ b → value t q ≡ cond b (words one) (words q)
    second q i j n true h = ap (value t) (sym (place_same other q h)) ∙ x.second ∙ g one m1.not_r11 m1.not_r15
    second q i j n false h = x.others q i j n (place_apart other q h) ∙ g q i j

    first : (q : Place) → q ≢ r11 → q ≢ r15 → (b : Bool) → moving.same one q ≡ b → value t q ≡ cond b (words other) (moving.put other (words one) words q)
    first q i j true h = ap (value t) (sym (place_same one q h)) ∙ x.first ∙ g other m2.not_r11 m2.not_r15
    first q i j false h = second q i j (place_apart one q h) (moving.same other q) refl

move_does : (p : ℕ) (m : Move) (words : moving.State) (ys : List Slot) (s : State) → MayHold (moving.target_of m) → MayHold (moving.source_of m) → Agree words s → IsFit s → s.at ≡ 0x40000000 + p → Reach p (puts (move_code m) ++ ys) s ys (Moved (moving.after_move m words) s)
move_does p (Copy target source) words ys s mt ms g f at =
    weaker p (puts (copy_code target source) ++ ys) ys s (λ t h. put_agrees target (words source) words s t g (h.0 ∙ g source ms.not_r11 ms.not_r15, h.1, h.2)) (copy_does p target source ys s mt ms f at)
move_does p (Swap one other) words ys s mt ms g f at =
    weaker p (puts (swap_code one other) ++ ys) ys s (λ t h. swap_agrees one other words s t mt ms g h) (swap_does p one other ys s mt ms f at)

onward : {a b c : State} → SameArena a b → SameArena b c → SameArena a c
onward x y = record { arena = y.arena ∙ x.arena; loads = y.loads ∙ x.loads; stores = y.stores ∙ x.stores }

moves_do : (p : ℕ) (ms : List Move) (words : moving.State) (ys : List Slot) (s : State) → moving.MovePlaces may_be ms → Agree words s → IsFit s → s.at ≡ 0x40000000 + p → Reach p (puts (moves_code ms) ++ ys) s ys (Moved (moving.after ms words) s)
moves_do p [] words ys s test g f at = stay p ys s (Moved words s) at (g, f, record { arena = refl; loads = refl; stores = refl })
moves_do p (m ∷ ms) words ys s test g f at =
    chain p (move_code m) (moves_code ms) ys s (move_does p m words (puts (moves_code ms) ++ ys) s (test_holds (moving.target_of m) test.0) (test_holds (moving.source_of m) test.1) g f at) (λ t q et ht.
    weaker q (puts (moves_code ms) ++ ys) ys t (λ u hu. (hu.0, hu.1, onward ht.2 hu.2)) (moves_do q ms (moving.after_move m words) ys t test.2 ht.0 ht.1 et))

-- ---- constants

set_does : (p : ℕ) (target : Place) (v : ℤ) (ys : List Slot) (s : State) → MayHold target → IsWord v → IsFit s → s.at ≡ 0x40000000 + p → Reach p (puts (set_code target v) ++ ys) s ys (Gives target v s)
set_does p (In r) v ys s m w f at =
    weaker p (Put (MovImm r v) ∷ ys) ys s (λ t h. (h.0, but (In r) (In r) s t (covers_self (In r)) h.1, h.2)) (imm_goes p r v ys s f (may_write (In r) m) w at)
set_does p (Word k) v ys s m w f at =
    elim (fits_bits 31 v) as (λ b. Reach p (puts (cond b (StoreImm (frame_mem k) v ∷ []) (MovImm (register 11) v ∷ Store (frame_mem k) (register 11) ∷ [])) ++ ys) s ys (Gives (Word k) v s)) [
      | true ↦ weaker p (Put (StoreImm (frame_mem k) v) ∷ ys) ys s (λ t (h, g). (h.0, but (Word k) (Word k) s t (covers_self (Word k)) h.1, h.2)) (store_imm_keeps p k v ys s f (may_write (Word k) m) w at)
      | false ↦ then p (Put (MovImm (register 11) v) ∷ (Put (Store (frame_mem k) (register 11)) ∷ ys)) (Put (Store (frame_mem k) (register 11)) ∷ ys) ys s (imm_goes p (register 11) v (Put (Store (frame_mem k) (register 11)) ∷ ys) s f write_11 w at) (λ t q et ht.
          weaker q (Put (Store (frame_mem k) (register 11)) ∷ ys) ys t (λ u (hu, g). (hu.0 ∙ ht.0, but_on (Word k) s t u (but (Word k) r11 s t (covers_11 (Word k)) ht.1) (but (Word k) (Word k) t u (covers_self (Word k)) hu.1), hu.2)) (store_keeps q k (register 11) ys t ht.2 (may_write (Word k) m) et))
    ]

-- the word of a target once constants are set: its own constant, or what it was
abbrev final : State → Place → Operand → ℤ
final s target (At p) = value s target
final s target (Imm v) = v

abbrev AreSet : Setting → List Arg → List Place → State → State → Type 0
AreSet c [] targets s t = Unit {0}
AreSet c (a ∷ args) [] s t = Unit {0}
AreSet c (a ∷ args) (target ∷ targets) s t = (value t target ≡ final s target (operand_of c a)) × AreSet c args targets s t

abbrev AreDifferent : List Place → Type 0
AreDifferent [] = Unit {0}
AreDifferent (x ∷ xs) = ((i : ℕ) (q : Place) → slice_get xs i ≡ Some q → x ≢ q) × AreDifferent xs

abbrev pub AreLawful : List Place → Type 0
AreLawful [] = Unit {0}
AreLawful (x ∷ xs) = MayHold x × AreLawful xs

-- all but these places and the scratch registers is as before
pub record Beside (targets : List Place) (s t : State) : Type 0 where
  pub others : (q : Place) → q ≢ r11 → q ≢ r15 → ((i : ℕ) (x : Place) → slice_get targets i ≡ Some x → q ≢ x) → value t q ≡ value s q
  pub same : SameArena s t
  pub fit : IsFit t

set_operand_does : (p : ℕ) (target : Place) (o : Operand) (ys : List Slot) (s : State) → MayHold target → CanRead o → IsFit s → s.at ≡ 0x40000000 + p → Reach p (puts (set_operand target o) ++ ys) s ys (Gives target (final s target o) s)
set_operand_does p target (At x) ys s m r f at = stay p ys s (Gives target (value s target) s) at (refl, record { others = λ q a b d. refl; arena = refl; loads = refl; stores = refl }, f)
set_operand_does p target (Imm v) ys s m r f at = set_does p target v ys s m r f at

final_is : (s t : State) (target : Place) (o : Operand) → value t target ≡ value s target → final t target o ≡ final s target o
final_is s t target (At p) e = e
final_is s t target (Imm v) e = refl

-- what is set from a later state is set from an earlier one that has the same words there
set_back : (c : Setting) (args : List Arg) (targets : List Place) (s t u : State) → AreLawful targets → ((i : ℕ) (x : Place) → slice_get targets i ≡ Some x → value t x ≡ value s x) → AreSet c args targets t u → AreSet c args targets s u
set_back c [] targets s t u l h g = tt
set_back c (a ∷ args) [] s t u l h g = tt
set_back c (a ∷ args) (target ∷ targets) s t u l h g =
    (g.0 ∙ final_is s t target (operand_of c a) (h 0 target refl), set_back c args targets s t u l.1 (λ i x e. h (suc i) x e) g.1)

lawful_at : (targets : List Place) (i : ℕ) (x : Place) → AreLawful targets → slice_get targets i ≡ Some x → MayHold x
lawful_at [] i x l e = absurd (cc)
lawful_at (y ∷ ys) zero x l e = subst MayHold (some_is y x e) l.0
  where
    some_is : (a b : Place) → Some a ≡ Some b → a ≡ b
    some_is a b q = cc
lawful_at (y ∷ ys) (suc i) x l e = lawful_at ys i x l.1 e

constants_do : (p : ℕ) (c : Setting) (args : List Arg) (targets : List Place) (ys : List Slot) (s : State) → ((b : ℕ) → MayHold (c.at b)) → All (IsWordArg c.table) args → AreLawful targets → AreDifferent targets → IsFit s → s.at ≡ 0x40000000 + p → Reach p (puts (constants_code c args targets) ++ ys) s ys (λ t. AreSet c args targets s t × Beside targets s t)
constants_do p c [] targets ys s m w l d f at = stay p ys s (λ t. Unit {0} × Beside targets s t) at (tt, record { others = λ q a b n. refl; same = record { arena = refl; loads = refl; stores = refl }; fit = f })
constants_do p c (a ∷ args) [] ys s m w l d f at = stay p ys s (λ t. Unit {0} × Beside [] s t) at (tt, record { others = λ q a b n. refl; same = record { arena = refl; loads = refl; stores = refl }; fit = f })
constants_do p c (a ∷ args) (target ∷ targets) ys s m w l d f at =
    let o = operand_of c a in
    let rest = constants_code c args targets in
    chain p (set_operand target o) rest ys s (set_operand_does p target o (puts rest ++ ys) s l.0 (arg_reads c a m (w 0 a (omega arith))) f at) (λ t q et ht.
    weaker q (puts rest ++ ys) ys t (λ u (hs, hb).
    let kept : (i : ℕ) (x : Place) → slice_get targets i ≡ Some x → value t x ≡ value s x = λ i x e. (let mx = lawful_at targets i x l.1 e in ht.1.others x mx.not_r11 mx.not_r15 (λ g. d.0 i x e (sym g))) in (
      (hb.others target l.0.not_r11 l.0.not_r15 (λ i x e. d.0 i x e) ∙ ht.0, set_back c args targets s t u l.1 kept hs),
      record {
        others = λ x n1 n2 n. hb.others x n1 n2 (λ i y e. n (suc i) y e) ∙ ht.1.others x n1 n2 (n 0 target refl);
        same = onward (record { arena = ht.1.arena; loads = ht.1.loads; stores = ht.1.stores }) hb.same;
        fit = hb.fit;
      },
    ))
    (constants_do q c args targets ys t m (λ n x lt. w (suc n) x (omega (arith, lt))) l.1 d.1 ht.2 et))

-- ---- what all pairs at once give

abbrev Brings : Operand → Place → moving.State → moving.State → Type 0
Brings (At p) target words after = after target ≡ words p
Brings (Imm v) target words after = Unit {0}

abbrev AreBrought : Setting → List Arg → List Place → moving.State → moving.State → Type 0
AreBrought c [] targets words after = Unit {0}
AreBrought c (a ∷ args) [] words after = Unit {0}
AreBrought c (a ∷ args) (target ∷ targets) words after = Brings (operand_of c a) target words after × AreBrought c args targets words after

brings_too : (o : Operand) (target : Place) (words f g : moving.State) → g target ≡ f target → Brings o target words f → Brings o target words g
brings_too (At p) target words f g e h = e ∙ h
brings_too (Imm v) target words f g e h = tt

brought_too : (c : Setting) (args : List Arg) (targets : List Place) (words f g : moving.State) → ((i : ℕ) (x : Place) → slice_get targets i ≡ Some x → g x ≡ f x) → AreBrought c args targets words f → AreBrought c args targets words g
brought_too c [] targets words f g e h = tt
brought_too c (a ∷ args) [] words f g e h = tt
brought_too c (a ∷ args) (target ∷ targets) words f g e h =
    (brings_too (operand_of c a) target words f g (e 0 target refl) h.0, brought_too c args targets words f g (λ i x k. e (suc i) x k) h.1)

-- a pair in front changes nothing at another target
pair_beside : (target q : Place) (o : Operand) (pairs : List (Place × Place)) (words : moving.State) → target ≢ q → moving.at_once (pair_of target o ++ pairs) words q ≡ moving.at_once pairs words q
pair_beside target q (Imm v) pairs words ne = refl
pair_beside target q (At p) pairs words ne = which (moving.same target q) refl
  where
    which : (b : Bool) → moving.same target q ≡ b → cond b (words p) (moving.at_once pairs words q) ≡ moving.at_once pairs words q
    which true h = absurd (ne (place_same target q h))
    which false h = refl

pair_brings : (target : Place) (o : Operand) (pairs : List (Place × Place)) (words : moving.State) → Brings o target words (moving.at_once (pair_of target o ++ pairs) words)
pair_brings target (At p) pairs words = ap (λ (b : Bool). cond b (words p) (moving.at_once pairs words target)) (same_self target)
pair_brings target (Imm v) pairs words = tt

brought : (c : Setting) (args : List Arg) (targets : List Place) (words : moving.State) → AreDifferent targets → AreBrought c args targets words (moving.at_once (pairs_of c args targets) words)
brought c [] targets words d = tt
brought c (a ∷ args) [] words d = tt
brought c (a ∷ args) (target ∷ targets) words d =
    let pairs = pairs_of c args targets in (
      pair_brings target (operand_of c a) pairs words,
      brought_too c args targets words (moving.at_once pairs words) (moving.at_once (pair_of target (operand_of c a) ++ pairs) words) (λ i x e. pair_beside target x (operand_of c a) pairs words (d.0 i x e)) (brought c args targets words d.1),
    )

-- the places of the pairs may hold boxes
pair_holds : (target : Place) (o : Operand) (pairs : List (Place × Place)) → MayHold target → CanRead o → moving.HavePlaces may_be pairs → moving.HavePlaces may_be (pair_of target o ++ pairs)
pair_holds target (At p) pairs m r h = (holds_test target m, holds_test p r, h)
pair_holds target (Imm v) pairs m r h = h

pub pairs_hold : (c : Setting) (args : List Arg) (targets : List Place) → ((b : ℕ) → MayHold (c.at b)) → All (IsWordArg c.table) args → AreLawful targets → moving.HavePlaces may_be (pairs_of c args targets)
pairs_hold c [] targets m w l = tt
pairs_hold c (a ∷ args) [] m w l = tt
pairs_hold c (a ∷ args) (target ∷ targets) m w l =
    pair_holds target (operand_of c a) (pairs_of c args targets) l.0 (arg_reads c a m (w 0 a (omega arith))) (pairs_hold c args targets m (λ n x lt. w (suc n) x (omega (arith, lt))) l.1)

-- ---- the label's places hold the values

one_stands : (o : Operand) (target : Place) (words after : moving.State) (s u t : State) → Brings o target words after → value t target ≡ final u target o → value u target ≡ after target → ((p : Place) → words p ≡ value s p) → value t target ≡ read s o
one_stands (At p) target words after s u t b f g w = f ∙ g ∙ b ∙ w p
one_stands (Imm v) target words after s u t b f g w = f

values_stand : (c : Setting) (env : Opt) (args : List Arg) (targets : List Place) (vs : List Value) (after : moving.State) (s u t : State) → length args ≡ length targets → PrebuiltsStand c.table env.world.objects → All (IsWordArg c.table) args → AreValued args → ((b : BoxId) (y : Value) → IsUsedIn args b → value_in env.boxes b ≡ Some y → value s (c.at b.number) ≡ word_in env y) → AreBrought c args targets (value s) after → AreSet c args targets u t → AreLawful targets → ((q : Place) → MayHold q → value u q ≡ after q) → opt_values env args ≡ Some vs → PlacesStand (address_of env.world.objects) t targets vs
values_stand c env [] [] [] after s u t n pre w va found b f l g e = tt
values_stand c env [] [] (x ∷ xs) after s u t n pre w va found b f l g e = absurd (cc)
values_stand c env [] (y ∷ ys) vs after s u t n pre w va found b f l g e = absurd (omega (arith, n))
values_stand c env (a ∷ args) [] vs after s u t n pre w va found b f l g e = absurd (omega (arith, n))
values_stand c env (a ∷ args) (target ∷ targets) vs after s u t n pre w va found b f l g e =
    let z = first_is (arg_value (value_in env.boxes) a) (opt_values env args) vs (sym (first_value (arg_value (value_in env.boxes)) a args va.0) ∙ e) in
    let here = one_stands (operand_of c a) target (value s) after s u t b.0 f.0 (g target l.0) (λ p. refl) ∙ arg_is c env s a z.0 pre (w 0 a (omega arith)) (λ q y k i. found q y (inl k) i) z.2 in
    subst (λ (xs : List Value). PlacesStand (address_of env.world.objects) t (target ∷ targets) xs) z.4
    (here, values_stand c env args targets z.1 after s u t (omega (arith, n)) pre (λ k x lt. w (suc k) x (omega (arith, lt))) va.1 (λ q y k i. found q y (inr k) i) b.1 f.1 l.1 g z.3)

different : (targets : List Place) → ((i j : ℕ) (p q : Place) → i < j → slice_get targets i ≡ Some p → slice_get targets j ≡ Some q → p ≢ q) → AreDifferent targets
different [] h = tt
different (x ∷ xs) h = (λ i q e. h 0 (suc i) x q (omega arith) refl e, different xs (λ i j p q lt e f. h (suc i) (suc j) p q (omega (arith, lt)) e f))

pub lawful : (targets : List Place) → ((p : Place) (i : ℕ) → slice_get targets i ≡ Some p → MayHold p) → AreLawful targets
lawful [] h = tt
lawful (x ∷ xs) h = (h x 0 refl, lawful xs (λ p i e. h p (suc i) e))

-- a place that is no target keeps its word
not_target : (c : Setting) (args : List Arg) (targets : List Place) (words : moving.State) (q : Place) → ((i : ℕ) (x : Place) → slice_get targets i ≡ Some x → q ≢ x) → moving.at_once (pairs_of c args targets) words q ≡ words q
not_target c [] targets words q n = refl
not_target c (a ∷ args) [] words q n = refl
not_target c (a ∷ args) (target ∷ targets) words q n =
    pair_beside target q (operand_of c a) (pairs_of c args targets) words (λ e. n 0 target refl (sym e)) ∙ not_target c args targets words q (λ i x e. n (suc i) x e)

pub places_filled : (p : ℕ) (c : Setting) (env : Opt) (args : List Arg) (vs : List Value) (ys : List Slot) (s : State) → ((b : ℕ) → MayHold (c.at b)) → PrebuiltsStand c.table env.world.objects → All (IsWordArg c.table) args → AreValued args → AreMoved c args → ((b : BoxId) (y : Value) → IsUsedIn args b → value_in env.boxes b ≡ Some y → value s (c.at b.number) ≡ word_in env y) → opt_values env args ≡ Some vs → IsFit s → s.at ≡ 0x40000000 + p → Reach p (puts (jump_code c args) ++ ys) s ys (λ t. PlacesStand (address_of env.world.objects) t c.to vs × Beside c.to s t)
places_filled p c env args vs ys s m pre w va mv found e f at =
    let l = lawful c.to mv.lawful in
    let d = different c.to mv.distinct in
    let rest = constants_code c args c.to in
    let after = moving.at_once (pairs_of c args c.to) (value s) in
    chain p (moves_code c.moves) rest ys s (moves_do p c.moves (value s) (puts rest ++ ys) s (mv.among may_be (pairs_hold c args c.to m w l)) (λ q a b. refl) f at) (λ u q eu hu.
    weaker q (puts rest ++ ys) ys u (λ t (hs, hb). (
      values_stand c env args c.to vs after s u t mv.count pre w va found (brought c args c.to (value s) d) hs l (λ x mx. hu.0 x mx.not_r11 mx.not_r15 ∙ mv.acts (value s) x) e,
      record {
        others = λ x n11 n15 n. hb.others x n11 n15 n ∙ hu.0 x n11 n15 ∙ mv.acts (value s) x ∙ not_target c args c.to (value s) x n;
        same = onward hu.2 hb.same;
        fit = hb.fit;
      },
    )) (constants_do q c args c.to ys u m w l d hu.1 eu))

pub jump_does : (p : ℕ) (c : Setting) (env : Opt) (args : List Arg) (vs : List Value) (ys : List Slot) (s : State) → ((b : ℕ) → MayHold (c.at b)) → PrebuiltsStand c.table env.world.objects → All (IsWordArg c.table) args → AreValued args → AreMoved c args → ((b : BoxId) (y : Value) → IsUsedIn args b → value_in env.boxes b ≡ Some y → value s (c.at b.number) ≡ word_in env y) → opt_values env args ≡ Some vs → IsFit s → s.at ≡ 0x40000000 + p → Reach p (puts (jump_code c args) ++ ys) s ys (λ t. PlacesStand (address_of env.world.objects) t c.to vs × IsFit t × SameArena s t)
jump_does p c env args vs ys s m pre w va mv found e f at =
    weaker p (puts (jump_code c args) ++ ys) ys s (λ t (g, b). (g, b.fit, b.same)) (places_filled p c env args vs ys s m pre w va mv found e f at)
