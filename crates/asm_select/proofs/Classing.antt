-- Guards on null and on classes.
use Rattle.std.proofs.Common.{◌≡◌, ◌≢◌, ℕ, ◌+◌, ◌^◌, ◌<◌, ◌≤◌, Bool, true, false, not, cond, List, [], ◌∷◌, ◌++◌, length, slice_get, Option, Some, None, refl, ap, ◌∙◌, subst, arith, ℤ, pos}
use Rattle.std.specs.Prelude.{◌==◌, nat_eq, nat_lt, FitsSigned}
use Rattle.std.specs.Int.{w64}
use Rattle.std.specs.Ordering.{int_eq}
use Rattle.std.specs.List.{Contains}
use Rattle.std.proofs.lemmas.List.{length-append}
use Rattle.std.proofs.lemmas.Int.{int_wrap_fits}
use Rattle.std.proofs.lemmas.Option.{same_Some, slice_get_within}
use Rattle.std.proofs.lemmas.Bool.Decides.{nat_tests}
use Rattle.std.proofs.lemmas.Bool.{eqb-true, eqb-false, eq-eqb, ne_eqb}
use Rattle.trace_ops.specs.Words.{IsWord}
use Rattle.trace_ops.specs.declared.table.Table.{Table}
use Rattle.trace_ops.specs.declared.table.ShapeOf.{ShapeOf}
use Rattle.trace_ops.specs.declared.table.ShapeOf.TheVariants.{Size, Array}
use Rattle.trace_meaning.specs.declared.value.Value.TheVariants as v
use Rattle.trace_meaning.specs.declared.value.Object.{Object}
use Rattle.trace_meaning.specs.Passing.{is_structure_of, object_has_class}
use Rattle.guard_exit.specs.Codes.{register}
use Rattle.target_base.specs.declared.reg.Reg.{Reg}
use Rattle.x64_encode.specs.declared.instr.Mem.TheVariants.{At}
use Rattle.x64_encode.specs.declared.instr.AluOp.TheVariants as alu
use Rattle.x64_encode.specs.declared.instr.Cc.{Cc}
use Rattle.x64_encode.specs.declared.instr.Cc.TheVariants as cc_is
use Rattle.x64_encode.specs.declared.instr.Instr.{Instr}
use Rattle.x64_encode.specs.declared.instr.Instr.TheVariants.{Load, AluImm, Jcc}
use Rattle.target_base.specs.declared.place.Place.{Place}
use Rattle.target_base.specs.declared.place.Place.TheVariants.{In}
use Rattle.x64_encode.specs.Form.{spelling}
use Rattle.target_base.specs.Arena.{Arena, arena_word}
use Rattle.x64_encode.specs.Listing.{Stands as StandsInCode}
use Rattle.x64_machine.specs.declared.state.Flags.{Flags}
use Rattle.x64_machine.specs.Words.{unsigned, alu_flags, holds}
use Rattle.x64_machine.specs.State.{State, reg, with_flags, went, target, jumps_where, act}
use Rattle.x64_machine.specs.Step.{MachineStep}
use Rattle.asm_select.specs.Slots.{Slot, Put, puts, sizes_of}
use Rattle.asm_select.specs.Valued.{r11, r15, value, IsFit}
use Rattle.asm_select.specs.Chosen.{home_of, take_code}
use Rattle.asm_select.specs.Reached.{Reach}
use Rattle.asm_select.proofs.Steps.{moved, one, then, chain, weaker, stands_step}
use Rattle.asm_select.proofs.Effects.{CanWrite, scratch}
use Rattle.asm_select.proofs.Micro.{homes, imm_flags_alone}
use Rattle.asm_select.proofs.Flagging.{holds_ne}
use Rattle.arena_objects.specs.Layout.{same_shape, place_among, header_of, address_of}
use Rattle.arena_objects.specs.Standing.{IsLawful, Stands}
use Rattle.lists.proofs.Alls.{all_at}
use Rattle.asm_select.specs.Chosen.{header_code}
use Rattle.asm_select.specs.Kept.{Leaves}
use Rattle.asm_select.specs.Classes.{Decides, TestsClass, TestsNonnullClass}
use Rattle.asm_select.proofs.Memory.{fit_same, value_same, load_goes, at_address}
use Rattle.asm_select.proofs.Performing.{low_address}
use Rattle.asm_select.proofs.Accessing.{readable}
use Rattle.asm_select.proofs.Relying.{Relied}

write_11 : CanWrite r11
write_11 = scratch 11 (omega arith) (omega arith) (omega arith)

-- ---- null

int_nat : (a b : ℕ) → int_eq (pos a) (pos b) ≡ nat_eq a b
int_nat a b = grind (arith, nat_tests)

low_not_zero : Relied → (t : Table) (objects : List Object) (arena : Arena) (n : ℕ) → Stands t objects arena → n < length objects → int_eq (pos (address_of objects n)) (pos 0) ≡ false
low_not_zero relied t objects arena n st lt =
    let low : 268435456 ≤ address_of objects n = (relied.apart t objects arena n st lt).low in
    int_nat (address_of objects n) 0 ∙ ne_eqb (address_of objects n) 0 (λ e. absurd (omega arith))

-- ---- classes

pub place_few : (s : ShapeOf) (xs : List ShapeOf) → place_among s xs ≤ length xs
place_few s [] = omega arith
place_few s (x ∷ xs) = either (same_shape x s) (place_few s xs)
  where
    either : (b : Bool) → place_among s xs ≤ length xs → cond b 0 (1 + place_among s xs) ≤ length (x ∷ xs)
    either true h = omega arith
    either false h = omega arith

pub header_fits : (t : Table) (s : ShapeOf) → length t.shapes ≤ 1024 → IsWord (pos (header_of t s))
header_fits t s few =
    let place : place_among s t.shapes ≤ length t.shapes = place_few s t.shapes in
    record { sfits = omega arith }

header_is : Relied → (t : Table) (s : ShapeOf) (size : ℕ) → Contains t.shapes s → Contains t.shapes (Size size) → nat_eq (header_of t s) (header_of t (Size size)) ≡ is_structure_of size s
header_is relied t (Size k) size c d =
    elim (k == size) as (λ b. (k == size) ≡ b → nat_eq (header_of t (Size k)) (header_of t (Size size)) ≡ b) [
      | true ↦ λ e. (let same : k ≡ size = eqb-true k size e in eq-eqb (header_of t (Size k)) (header_of t (Size size)) (ap (λ n. header_of t (Size n)) same))
      | false ↦ λ e. ne_eqb (header_of t (Size k)) (header_of t (Size size)) (λ h. (let same : Size k ≡ Size size = relied.tell t (Size k) (Size size) c d h in eqb-false k size e (cc)))
    ]
    refl
header_is relied t (Array a) size c d = ne_eqb (header_of t (Array a)) (header_of t (Size size)) (λ h. (let same : Array a ≡ Size size = relied.tell t (Array a) (Size size) c d h in absurd (cc)))

-- a register is compared with a header number
flags_now : (fl : Flags) (next : ℕ) (s : State) → IsFit s → Leaves r11 s.arena 0 0 s (moved next (with_flags fl s))
flags_now fl next s f = record {
  others = λ q a b c. value_same s (moved next (with_flags fl s)) refl refl q;
  arena = refl;
  loads = omega arith;
  stores = omega arith;
  fit = fit_same s (moved next (with_flags fl s)) refl refl f;
}

pub compares_header : (p : ℕ) (w : Reg) (b : ℤ) (ys : List Slot) (s : State) → IsFit s → IsWord b → s.at ≡ 0x40000000 + p → Reach p (Put (AluImm alu.Cmp w b) ∷ ys) s ys (Decides cc_is.Ne (not (int_eq (value s (In w)) b)) 0 s)
compares_header p w b ys s f fits at =
    let fl = alu_flags alu.Cmp (reg s w) b in
    one p (AluImm alu.Cmp w b) ys s (with_flags fl s) (Decides cc_is.Ne (not (int_eq (value s (In w)) b)) 0 s) at (λ next. refl)
    (λ next. record { decided = holds_ne (reg s w) b (f.words (In w)) fits; leaves = flags_now fl next s f })

-- from where the object's address is in a register, its header is loaded into r11 and compared
loads_header : Relied → (t : Table) (size n : ℕ) (o : Object) (objects : List Object) (p : ℕ) (w : Reg) (ys : List Slot) (s u : State) → Stands t objects s.arena → slice_get objects n ≡ Some o → Contains t.shapes (Size size) → length t.shapes ≤ 1024 → IsFit u → value u (In w) ≡ pos (address_of objects n) → ((q : Place) → q ≢ r11 → q ≢ r15 → value u q ≡ value s q) → u.arena ≡ s.arena → u.loads ≡ s.loads → u.stores ≡ s.stores → u.at ≡ 0x40000000 + p → Reach p (Put (Load (register 11) (At w (pos 0))) ∷ (Put (AluImm alu.Cmp (register 11) (pos (header_of t (Size size)))) ∷ ys)) u ys (Decides cc_is.Ne (not (is_structure_of size o.of)) 1 s)
loads_header relied t size n o objects p w ys s u st eo class few f base same arena loads stores at =
    let h = pos (header_of t (Size size)) in
    let l1 = Put (AluImm alu.Cmp (register 11) h) ∷ ys in
    let lawful = all_at (IsLawful t (length objects)) objects n o st.lawful eo in
    let head : arena_word s.arena (address_of objects n) ≡ Some (pos (header_of t o.of)) = relied.headers t objects s.arena n o st eo in
    let low : address_of objects n < 0x20000000 = low_address s.arena (address_of objects n) (pos (header_of t o.of)) st.few head in
    let none : address_of objects n + 0 ≡ address_of objects n = omega arith in
    then p (Put (Load (register 11) (At w (pos 0))) ∷ l1) l1 ys u
    (load_goes p (register 11) (At w (pos 0)) (address_of objects n) (pos (header_of t o.of)) l1 u f write_11 (at_address u w 0 (address_of objects n) base (omega arith) ∙ none) low (ap (λ m. arena_word m (address_of objects n)) arena ∙ head) (header_fits t o.of few) at)
    (λ x q ex hx.
    weaker q l1 ys x (λ y hy. record {
      decided = hy.decided ∙ ap (λ (z : ℤ). Some (not (int_eq z h))) hx.word ∙ ap (λ (b : Bool). Some (not b)) (int_nat (header_of t o.of) (header_of t (Size size)) ∙ header_is relied t o.of size lawful.shape class);
      leaves = record {
        others = λ k n11 n15 d. hy.leaves.others k n11 n15 d ∙ hx.others k n11 ∙ same k n11 n15;
        arena = hy.leaves.arena ∙ hx.arena ∙ arena;
        loads = (let a : y.loads ≡ x.loads + 0 = hy.leaves.loads in let b : x.loads ≡ s.loads + 1 = hx.loads ∙ ap (λ k. k + 1) loads in omega arith);
        stores = (let a : y.stores ≡ x.stores + 0 = hy.leaves.stores in let b : x.stores ≡ s.stores = hx.stores ∙ stores in omega arith);
        fit = hy.leaves.fit;
      };
    }) (compares_header q (register 11) h ys x hx.fit (header_fits t (Size size) few) ex))

-- an object whose class is told
class_of : (size : ℕ) (r : Option Object) (passes : Bool) → object_has_class size r ≡ Some passes → (o : Object) × (r ≡ Some o) × (is_structure_of size o.of ≡ passes)
class_of size None passes e = absurd (cc)
class_of size (Some o) passes e = (o, refl, same_Some (is_structure_of size o.of) passes e)

decides_as : (p : ℕ) (xs ys : List Slot) (s u : State) (b passes : Bool) (k : ℕ) → b ≡ passes → Reach p xs u ys (Decides cc_is.Ne (not b) k s) → Reach p xs u ys (Decides cc_is.Ne (not passes) k s)
decides_as p xs ys s u b passes k e r = subst (λ (c : Bool). Reach p xs u ys (Decides cc_is.Ne (not c) k s)) e r

pub tests_class : Relied → TestsClass
tests_class relied t size (v.Int z) passes w p a ys s e class few before ra held = absurd (cc)
tests_class relied t size v.Null passes w p a ys s e class few before ra held = absurd (cc)
tests_class relied t size (v.Obj n) passes w p a ys s e class few before ra held =
    let c = class_of size (slice_get w.objects n) passes e in
    let h = home_of 11 a in
    let l1 = Put (Load (register 11) (At h (pos 0))) ∷ (Put (AluImm alu.Cmp (register 11) (pos (header_of t (Size size)))) ∷ ys) in
    chain p (take_code h a) (Load (register 11) (At h (pos 0)) ∷ AluImm alu.Cmp (register 11) (pos (header_of t (Size size))) ∷ []) ys s (homes p 11 a l1 s (readable a ra) before.fit write_11 before.at) (λ u q eu hu.
    decides_as q l1 ys s u (is_structure_of size c.0.of) passes 1 c.2
    (loads_header relied t size n c.0 w.objects q h ys s u before.stands c.1 class few hu.2 (hu.0 ∙ held) (λ k n11 n15. hu.1.others k n11) hu.1.arena hu.1.loads hu.1.stores eu))

-- ---- a jump over some instructions

-- a state but for its place and its count of instructions
abbrev pub JustMoved : State → State → Type 0
JustMoved s u = ((q : Place) → value u q ≡ value s q) × (u.arena ≡ s.arena) × (u.loads ≡ s.loads) × (u.stores ≡ s.stores) × (u.flags ≡ s.flags) × IsFit u

just_moved : (next : ℕ) (s : State) → IsFit s → JustMoved s (moved next s)
just_moved next s f = ((λ q. value_same s (moved next s) refl refl q), refl, refl, refl, refl, fit_same s (moved next s) refl refl f)

jumps_on : (next n : ℕ) → next + n < 2 ^ 63 → target next (pos n) ≡ next + n
jumps_on next n lt =
    let fits : FitsSigned w64 (pos (next + n)) = record { sfits = omega arith } in
    ap unsigned (int_wrap_fits w64 (pos (next + n)) fits)

pub skips : (p : ℕ) (test : Cc) (xs : List Instr) (ys : List Slot) (s : State) → IsFit s → holds test s.flags ≡ Some true → sizes_of (puts xs) < 2 ^ 31 → length (spelling (Jcc test (pos (sizes_of (puts xs))))) ≤ 16 → s.at ≡ 0x40000000 + p → Reach p (Put (Jcc test (pos (sizes_of (puts xs)))) ∷ (puts xs ++ ys)) s ys (JustMoved s)
skips p test xs ys s f taken small short at =
    let n = sizes_of (puts xs) in
    let i = Jcc test (pos n) in
    let k = length (spelling i) in
    let q = p + (k + n) in
    let many : length (puts xs ++ ys) ≡ length (puts xs) + length ys = length-append (puts xs) ys in
    record {
      path = moved (0x40000000 + q) s ∷ [];
      few = omega arith;
      t = moved (0x40000000 + q) s;
      q = q;
      comes = λ by code few l. (subst (MachineStep code s) (acts code few l.0) (stands_step code p i s few at l.0), refl);
      front = Put i ∷ puts xs;
      split = refl;
      place = refl;
      at = refl;
      holds = just_moved (0x40000000 + q) s f;
    }
  where
    acts : (code : List ℕ) → length code < 2 ^ 32 → StandsInCode code p (Jcc test (pos (sizes_of (puts xs)))) → act (Jcc test (pos (sizes_of (puts xs)))) (0x40000000 + (p + length (spelling (Jcc test (pos (sizes_of (puts xs))))))) s ≡ went (0x40000000 + (p + (length (spelling (Jcc test (pos (sizes_of (puts xs))))) + sizes_of (puts xs)))) s
    acts code few l =
        let n = sizes_of (puts xs) in
        let next = 0x40000000 + (p + length (spelling (Jcc test (pos n)))) in
        let room : p < length code = l.room in
        let sum : next + n ≡ 0x40000000 + (p + (length (spelling (Jcc test (pos n))) + n)) = omega arith in
        ap (λ (o : Option Bool). jumps_where o next (pos n) s) taken
        ∙ ap (λ (m : ℕ). went m s) (jumps_on next n (omega arith) ∙ sum)

pub stays_on : (p : ℕ) (test : Cc) (d : ℤ) (ys : List Slot) (s : State) → IsFit s → holds test s.flags ≡ Some false → s.at ≡ 0x40000000 + p → Reach p (Put (Jcc test d) ∷ ys) s ys (JustMoved s)
stays_on p test d ys s f passed at =
    one p (Jcc test d) ys s s (JustMoved s) at (λ next. ap (λ (o : Option Bool). jumps_where o next d s) passed) (λ next. just_moved next s f)

-- ---- a guard on null and the class

below_one : (n : ℕ) → 1 ≤ n → nat_lt n 1 ≡ false
below_one n h = grind (arith, nat_tests)

pub short_header : ((i : Instr) → length (spelling i) ≤ 16) → (w : Reg) (k : ℕ) → sizes_of (puts (header_code w k)) ≤ 32
short_header short w k = (let a : length (spelling (Load (register 11) (At w (pos 0)))) ≤ 16 = short (Load (register 11) (At w (pos 0))) in let b : length (spelling (AluImm alu.Cmp (register 11) (pos k))) ≤ 16 = short (AluImm alu.Cmp (register 11) (pos k)) in omega arith)

pub tests_nonnull_class : Relied → ((i : Instr) → length (spelling i) ≤ 16) → TestsNonnullClass
tests_nonnull_class relied short t size (v.Int z) passes w p a ys s e class few before ra held part = absurd (cc)
tests_nonnull_class relied short t size v.Null passes w p a ys s e class few before ra held part =
    let r = home_of 11 a in
    let k = header_of t (Size size) in
    let zs = header_code r k in
    let jump = Jcc cc_is.B (pos (sizes_of (puts zs))) in
    let l2 = Put jump ∷ (puts zs ++ ys) in
    let l1 = Put (AluImm alu.Cmp r (pos 1)) ∷ l2 in
    let failed : false ≡ passes = same_Some false passes e in
    let fits : sizes_of (puts zs) ≤ 32 = short_header short r k in
    chain p (take_code r a) (AluImm alu.Cmp r (pos 1) ∷ jump ∷ zs) ys s (homes p 11 a l1 s (readable a ra) before.fit write_11 before.at) (λ t1 q1 e1 h1.
    then q1 l1 l2 ys t1 (imm_flags_alone q1 alu.Cmp r (pos 1) l2 t1 refl h1.2 e1) (λ t2 q2 e2 h2.
    let zero_word : value t1 (In r) ≡ pos 0 = h1.0 ∙ held in
    let flags : t2.flags ≡ alu_flags alu.Cmp (pos 0) (pos 1) = h2.0 ∙ ap (λ (z : ℤ). alu_flags alu.Cmp z (pos 1)) zero_word in
    let taken : holds cc_is.B t2.flags ≡ Some true = ap (holds cc_is.B) flags in
    let differ : int_eq (pos 0) (pos 1) ≡ false = int_nat 0 1 in
    weaker q2 l2 ys t2 (λ u hu. record {
      decided = ap (holds cc_is.Ne) (hu.4 ∙ flags) ∙ holds_ne (pos 0) (pos 1) (record { sfits = omega arith }) (record { sfits = omega arith }) ∙ ap (λ (b : Bool). Some (not b)) (differ ∙ failed);
      leaves = record {
        others = λ q n11 n15 d. hu.0 q ∙ h2.1 q ∙ h1.1.others q n11;
        arena = hu.1 ∙ h2.2.arena ∙ h1.1.arena;
        loads = (let n : u.loads ≡ s.loads = hu.2 ∙ h2.2.loads ∙ h1.1.loads in omega arith);
        stores = (let n : u.stores ≡ s.stores = hu.3 ∙ h2.2.stores ∙ h1.1.stores in omega arith);
        fit = hu.5;
      };
    }) (skips q2 cc_is.B zs ys t2 h2.3 taken (omega arith) (short jump) e2)))
tests_nonnull_class relied short t size (v.Obj n) passes w p a ys s e class few before ra held part =
    let r = home_of 11 a in
    let k = header_of t (Size size) in
    let zs = header_code r k in
    let jump = Jcc cc_is.B (pos (sizes_of (puts zs))) in
    let l3 = puts zs ++ ys in
    let l2 = Put jump ∷ l3 in
    let l1 = Put (AluImm alu.Cmp r (pos 1)) ∷ l2 in
    let c = class_of size (slice_get w.objects n) passes e in
    let there : n < length w.objects = slice_get_within w.objects n c.0 c.1 in
    let low : 268435456 ≤ address_of w.objects n = (relied.apart t w.objects s.arena n before.stands there).low in
    chain p (take_code r a) (AluImm alu.Cmp r (pos 1) ∷ jump ∷ zs) ys s (homes p 11 a l1 s (readable a ra) before.fit write_11 before.at) (λ t1 q1 e1 h1.
    then q1 l1 l2 ys t1 (imm_flags_alone q1 alu.Cmp r (pos 1) l2 t1 refl h1.2 e1) (λ t2 q2 e2 h2.
    let word : value t1 (In r) ≡ pos (address_of w.objects n) = h1.0 ∙ held in
    let passed : holds cc_is.B t2.flags ≡ Some false =
    ap (holds cc_is.B) (h2.0 ∙ ap (λ (z : ℤ). alu_flags alu.Cmp z (pos 1)) word) ∙ ap Some (below_one (address_of w.objects n) (omega arith)) in
    then q2 l2 l3 ys t2 (stays_on q2 cc_is.B (pos (sizes_of (puts zs))) l3 t2 h2.3 passed e2) (λ t3 q3 e3 h3.
    decides_as q3 l3 ys s t3 (is_structure_of size c.0.of) passes 1 c.2
    (loads_header relied t size n c.0 w.objects q3 r ys s t3 before.stands c.1 class few h3.5 (h3.0 (In r) ∙ h2.1 (In r) ∙ word)
    (λ q n11 n15. h3.0 q ∙ h2.1 q ∙ h1.1.others q n11)
    (h3.1 ∙ h2.2.arena ∙ h1.1.arena) (h3.2 ∙ h2.2.loads ∙ h1.1.loads) (h3.3 ∙ h2.2.stores ∙ h1.1.stores) e3))))
