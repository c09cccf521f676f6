-- What the code of loads and stores gives.
use Rattle.std.proofs.Common.{◌≡◌, ◌≢◌, ℕ, ◌+◌, ◌*◌, ◌<◌, true, false, cond, List, [], ◌∷◌, ◌++◌, Some, refl, ap, ◌∙◌, subst, arith, ℤ, pos}
use Rattle.trace_ops.specs.Words.{IsWord}
use Rattle.guard_exit.specs.Codes.{register}
use Rattle.target_base.specs.declared.reg.Reg.{Reg}
use Rattle.x64_encode.specs.declared.instr.Mem.TheVariants.{At, Item}
use Rattle.x64_encode.specs.declared.instr.Instr.TheVariants.{Load, Store, StoreImm, MovImm, Lea}
use Rattle.target_base.specs.declared.place.Place.{Place}
use Rattle.target_base.specs.declared.place.Place.TheVariants.{In, Word}
use Rattle.target_base.specs.Arena.{arena_word, with_arena_word}
use Rattle.x64_encode.specs.Fields.{fits_bits}
use Rattle.x64_machine.specs.State.{State}
use Rattle.asm_select.specs.declared.operand.Operand.{Operand}
use Rattle.asm_select.specs.declared.operand.Operand.TheVariants as operand
use Rattle.asm_select.specs.Slots.{Slot, Put, puts}
use Rattle.asm_select.specs.Valued.{r11, r15, value, MayHold, IsFit}
use Rattle.asm_select.specs.Chosen.{reg_or, home_of, take_code, put_code}
use Rattle.asm_select.specs.Reached.{Reach, read}
use Rattle.asm_select.proofs.Steps.{then, chain, weaker}
use Rattle.asm_select.proofs.Effects.{Only, CanWrite, scratch, in_other, may_write}
use Rattle.asm_select.proofs.Micro.{CanRead, homes, put_goes, imm_goes}
use Rattle.asm_select.proofs.Arms.{own_works}
use Rattle.asm_select.specs.Chosen.{read_code, write_code, read_item_code, write_item_code}
use Rattle.asm_select.specs.Kept.{Leaves}
use Rattle.asm_select.proofs.Memory.{Loaded, load_goes, Stored, store_goes, store_imm_goes, at_address, item_address, lea_goes}

write_11 : CanWrite r11
write_11 = scratch 11 (omega arith) (omega arith) (omega arith)

write_15 : CanWrite r15
write_15 = scratch 15 (omega arith) (omega arith) (omega arith)

not_15 : r11 ≢ r15
not_15 = in_other 11 15 (omega arith)

-- the register of an operand isn't the other scratch register
home_not_15 : (a : Operand) → CanRead a → In (home_of 11 a) ≢ r15
home_not_15 (operand.At (In r)) m = m.not_r15
home_not_15 (operand.At (Word k)) m = not_15
home_not_15 (operand.Imm v) m = not_15

still_11 : (b : Operand) (s t : State) → CanRead b → Only r11 s t → read t b ≡ read s b
still_11 (operand.At x) s t m o = o.others x m.not_r11
still_11 (operand.Imm v) s t m o = refl

still_15 : (b : Operand) (s t : State) → CanRead b → Only r15 s t → read t b ≡ read s b
still_15 (operand.At x) s t m o = o.others x m.not_r15
still_15 (operand.Imm v) s t m o = refl

-- ---- loads

-- the place has the word that was loaded, and the arena is as before
abbrev pub LoadsTo : Place → ℤ → State → State → Type 0
LoadsTo d v s t = (value t d ≡ v) × Leaves d s.arena 1 0 s t

-- a word is loaded where some code has changed no more than the scratch registers
ends_load : (q : ℕ) (d : Place) (v : ℤ) (ys : List Slot) (s t u : State) → MayHold d → ((x : Place) → x ≢ r11 → x ≢ r15 → value t x ≡ value s x) → t.arena ≡ s.arena → t.loads ≡ s.loads → t.stores ≡ s.stores → Loaded (In (reg_or 11 d)) v t u → u.at ≡ 0x40000000 + q → Reach q (puts (put_code d (reg_or 11 d)) ++ ys) u ys (LoadsTo d v s)
ends_load q d v ys s t u md same arena loads stores hu eu =
    let w = reg_or 11 d in
    let ok = own_works d md in
    weaker q (puts (put_code d w) ++ ys) ys u (λ x g. (
      g.0 ∙ hu.word,
      record {
        others = λ k a b c. g.1.others k c ∙ hu.others k (ok.covers k a b c) ∙ same k a b;
        arena = g.1.arena ∙ hu.arena ∙ arena;
        loads = g.1.loads ∙ hu.loads ∙ ap (λ n. n + 1) loads;
        stores = (let n : x.stores ≡ s.stores = g.1.stores ∙ hu.stores ∙ stores in omega arith);
        fit = g.2;
      },
    )) (put_goes q d w ys u hu.fit (may_write d md) eu)

pub loads : (p : ℕ) (d : Place) (a : Operand) (k b : ℕ) (v : ℤ) (ys : List Slot) (s : State) → MayHold d → CanRead a → IsFit s → read s a ≡ pos b → b + k < 0x20000000 → arena_word s.arena (b + k) ≡ Some v → IsWord v → s.at ≡ 0x40000000 + p → Reach p (puts (read_code d a k) ++ ys) s ys (LoadsTo d v s)
loads p d a k b v ys s md ra f base low found fits at =
    let h = home_of 11 a in
    let w = reg_or 11 d in
    let zs = put_code d w in
    let l1 = Put (Load w (At h (pos k))) ∷ (puts zs ++ ys) in
    chain p (take_code h a) (Load w (At h (pos k)) ∷ zs) ys s (homes p 11 a l1 s ra f write_11 at) (λ t q et ht.
    then q l1 (puts zs ++ ys) ys t
    (load_goes q w (At h (pos k)) (b + k) v (puts zs ++ ys) t ht.2 (own_works d md).write (at_address t h k b (ht.0 ∙ base) (omega arith)) low (ap (λ m. arena_word m (b + k)) ht.1.arena ∙ found) fits et)
    (λ u q2 eu hu. ends_load q2 d v ys s t u md (λ x n11 n15. ht.1.others x n11) ht.1.arena ht.1.loads ht.1.stores hu eu))

pub item_loads : (p : ℕ) (d : Place) (a i : Operand) (b k : ℕ) (v : ℤ) (ys : List Slot) (s : State) → MayHold d → CanRead a → CanRead i → IsFit s → read s a ≡ pos b → read s i ≡ pos k → b + 8 * k + 16 < 0x20000000 → arena_word s.arena (b + 8 * k + 16) ≡ Some v → IsWord v → s.at ≡ 0x40000000 + p → Reach p (puts (read_item_code d a i) ++ ys) s ys (LoadsTo d v s)
item_loads p d a i b k v ys s md ra ri f base index low found fits at =
    let h = home_of 11 a in
    let x = home_of 15 i in
    let w = reg_or 11 d in
    let zs = put_code d w in
    let mem = Item h x (pos 16) in
    let l2 = Put (Load w mem) ∷ (puts zs ++ ys) in
    chain p (take_code h a) (take_code x i ++ (Load w mem ∷ zs)) ys s (homes p 11 a (puts (take_code x i ++ (Load w mem ∷ zs)) ++ ys) s ra f write_11 at) (λ t q et ht.
    chain q (take_code x i) (Load w mem ∷ zs) ys t (homes q 15 i l2 t ri ht.2 write_15 et) (λ t2 q2 et2 ht2.
    let has_base : value t2 (In h) ≡ pos b = ht2.1.others (In h) (home_not_15 a ra) ∙ ht.0 ∙ base in
    let has_index : value t2 (In x) ≡ pos k = ht2.0 ∙ still_11 i s t ri ht.1 ∙ index in
    then q2 l2 (puts zs ++ ys) ys t2
    (load_goes q2 w mem (b + 8 * k + 16) v (puts zs ++ ys) t2 ht2.2 (own_works d md).write (item_address t2 h x 16 b k has_base has_index (omega arith)) low (ap (λ m. arena_word m (b + 8 * k + 16)) (ht2.1.arena ∙ ht.1.arena) ∙ found) fits et2)
    (λ u q3 eu hu. ends_load q3 d v ys s t2 u md (λ y n11 n15. ht2.1.others y n15 ∙ ht.1.others y n11) (ht2.1.arena ∙ ht.1.arena) (ht2.1.loads ∙ ht.1.loads) (ht2.1.stores ∙ ht.1.stores) hu eu)))

-- ---- stores

abbrev pub StoresAt : ℕ → ℤ → State → State → Type 0
StoresAt a v s t = Leaves r11 (with_arena_word a v s.arena) 0 1 s t

ended_store : (a : ℕ) (v w : ℤ) (s t u : State) → w ≡ v → ((x : Place) → x ≢ r11 → x ≢ r15 → value t x ≡ value s x) → t.arena ≡ s.arena → t.loads ≡ s.loads → t.stores ≡ s.stores → Stored a w t u → StoresAt a v s u
ended_store a v w s t u e same arena loads stores hu = record {
  others = λ k x y z. hu.values k ∙ same k x y;
  arena = hu.arena ∙ ap (with_arena_word a w) arena ∙ ap (λ (z : ℤ). with_arena_word a z s.arena) e;
  loads = (let n : u.loads ≡ s.loads = hu.loads ∙ loads in omega arith);
  stores = hu.stores ∙ ap (λ n. n + 1) stores;
  fit = hu.fit;
}

-- from where the base is in its register
store_value : (p k b : ℕ) (old v : ℤ) (h : Reg) (x : Reg) (ys : List Slot) (s t : State) → IsFit t → value t (In h) ≡ pos b → value t (In x) ≡ v → b + k < 0x20000000 → arena_word s.arena (b + k) ≡ Some old → ((y : Place) → y ≢ r11 → y ≢ r15 → value t y ≡ value s y) → t.arena ≡ s.arena → t.loads ≡ s.loads → t.stores ≡ s.stores → t.at ≡ 0x40000000 + p → Reach p (Put (Store (At h (pos k)) x) ∷ ys) t ys (StoresAt (b + k) v s)
store_value p k b old v h x ys s t f base word low found same arena loads stores at =
    weaker p (Put (Store (At h (pos k)) x) ∷ ys) ys t (λ u hu. ended_store (b + k) v (value t (In x)) s t u word same arena loads stores hu)
    (store_goes p (At h (pos k)) x (b + k) old ys t f (at_address t h k b base (omega arith)) low (ap (λ m. arena_word m (b + k)) arena ∙ found) at)

pub stores : (p : ℕ) (a : Operand) (k b : ℕ) (old : ℤ) (c : Operand) (ys : List Slot) (s : State) → CanRead a → CanRead c → IsFit s → read s a ≡ pos b → b + k < 0x20000000 → arena_word s.arena (b + k) ≡ Some old → s.at ≡ 0x40000000 + p → Reach p (puts (write_code a k c) ++ ys) s ys (StoresAt (b + k) (read s c) s)
stores p a k b old (operand.At y) ys s ra rc f base low found at =
    let h = home_of 11 a in
    let x = reg_or 15 y in
    let l2 = Put (Store (At h (pos k)) x) ∷ ys in
    chain p (take_code h a) (take_code x (operand.At y) ++ Store (At h (pos k)) x ∷ []) ys s (homes p 11 a (puts (take_code x (operand.At y) ++ Store (At h (pos k)) x ∷ []) ++ ys) s ra f write_11 at) (λ t q et ht.
    chain q (take_code x (operand.At y)) (Store (At h (pos k)) x ∷ []) ys t (homes q 15 (operand.At y) l2 t rc ht.2 write_15 et) (λ t2 q2 et2 ht2.
    store_value q2 k b old (value s y) h x ys s t2 ht2.2 (ht2.1.others (In h) (home_not_15 a ra) ∙ ht.0 ∙ base) (ht2.0 ∙ ht.1.others y rc.not_r11) low found (λ z n11 n15. ht2.1.others z n15 ∙ ht.1.others z n11) (ht2.1.arena ∙ ht.1.arena) (ht2.1.loads ∙ ht.1.loads) (ht2.1.stores ∙ ht.1.stores) et2))
stores p a k b old (operand.Imm v) ys s ra rc f base low found at =
    let h = home_of 11 a in
    let mem = At h (pos k) in
    elim (fits_bits 31 v) as (λ z. Reach p (puts (take_code h a ++ cond z (StoreImm mem v ∷ []) (MovImm (register 15) v ∷ Store mem (register 15) ∷ [])) ++ ys) s ys (StoresAt (b + k) v s)) [
      | true ↦ chain p (take_code h a) (StoreImm mem v ∷ []) ys s (homes p 11 a (Put (StoreImm mem v) ∷ ys) s ra f write_11 at) (λ t q et ht.
          weaker q (Put (StoreImm mem v) ∷ ys) ys t (λ u hu. ended_store (b + k) v v s t u refl (λ z n11 n15. ht.1.others z n11) ht.1.arena ht.1.loads ht.1.stores hu)
          (store_imm_goes q mem v (b + k) old ys t ht.2 (at_address t h k b (ht.0 ∙ base) (omega arith)) low (ap (λ m. arena_word m (b + k)) ht.1.arena ∙ found) et))
      | false ↦ chain p (take_code h a) (MovImm (register 15) v ∷ Store mem (register 15) ∷ []) ys s (homes p 11 a (Put (MovImm (register 15) v) ∷ Put (Store mem (register 15)) ∷ ys) s ra f write_11 at) (λ t q et ht.
          then q (Put (MovImm (register 15) v) ∷ Put (Store mem (register 15)) ∷ ys) (Put (Store mem (register 15)) ∷ ys) ys t (imm_goes q (register 15) v (Put (Store mem (register 15)) ∷ ys) t ht.2 write_15 rc et) (λ t2 q2 et2 ht2.
          store_value q2 k b old v h (register 15) ys s t2 ht2.2 (ht2.1.others (In h) (home_not_15 a ra) ∙ ht.0 ∙ base) ht2.0 low found (λ z n11 n15. ht2.1.others z n15 ∙ ht.1.others z n11) (ht2.1.arena ∙ ht.1.arena) (ht2.1.loads ∙ ht.1.loads) (ht2.1.stores ∙ ht.1.stores) et2))
    ]

pub item_stores : (p : ℕ) (a i c : Operand) (b k : ℕ) (old : ℤ) (ys : List Slot) (s : State) → CanRead a → CanRead i → CanRead c → IsFit s → read s a ≡ pos b → read s i ≡ pos k → b + 8 * k + 16 < 0x20000000 → arena_word s.arena (b + 8 * k + 16) ≡ Some old → s.at ≡ 0x40000000 + p → Reach p (puts (write_item_code a i c) ++ ys) s ys (StoresAt (b + 8 * k + 16) (read s c) s)
item_stores p a i c b k old ys s ra ri rc f base index low found at =
    let h = home_of 11 a in
    let x = home_of 15 i in
    let y = home_of 15 c in
    let w = register 11 in
    let mem = Item h x (pos 16) in
    let last = Store (At w (pos 0)) y ∷ [] in
    let tail = take_code y c ++ last in
    let l2 = Put (Lea w mem) ∷ (puts tail ++ ys) in
    chain p (take_code h a) (take_code x i ++ (Lea w mem ∷ tail)) ys s (homes p 11 a (puts (take_code x i ++ (Lea w mem ∷ tail)) ++ ys) s ra f write_11 at) (λ t q et ht.
    chain q (take_code x i) (Lea w mem ∷ tail) ys t (homes q 15 i l2 t ri ht.2 write_15 et) (λ t2 q2 et2 ht2.
    let has_base : value t2 (In h) ≡ pos b = ht2.1.others (In h) (home_not_15 a ra) ∙ ht.0 ∙ base in
    let has_index : value t2 (In x) ≡ pos k = ht2.0 ∙ still_11 i s t ri ht.1 ∙ index in
    then q2 l2 (puts tail ++ ys) ys t2 (lea_goes q2 w mem (b + 8 * k + 16) (puts tail ++ ys) t2 ht2.2 write_11 (item_address t2 h x 16 b k has_base has_index (omega arith)) (omega arith) et2) (λ t3 q3 et3 ht3.
    chain q3 (take_code y c) last ys t3 (homes q3 15 c (Put (Store (At w (pos 0)) y) ∷ ys) t3 rc ht3.2 write_15 et3) (λ t4 q4 et4 ht4.
    let whole : b + 8 * k + 16 + 0 ≡ b + 8 * k + 16 = omega arith in
    let word : value t4 (In y) ≡ read s c = ht4.0 ∙ still_11 c t2 t3 rc ht3.1 ∙ still_15 c t t2 rc ht2.1 ∙ still_11 c s t rc ht.1 in
    let there : value t4 (In w) ≡ pos (b + 8 * k + 16) = ht4.1.others r11 not_15 ∙ ht3.0 in
    subst (λ n. Reach q4 (Put (Store (At w (pos 0)) y) ∷ ys) t4 ys (StoresAt n (read s c) s)) whole
    (store_value q4 0 (b + 8 * k + 16) old (read s c) w y ys s t4 ht4.2 there word (omega arith) (ap (arena_word s.arena) whole ∙ found)
    (λ z n11 n15. ht4.1.others z n15 ∙ ht3.1.others z n11 ∙ ht2.1.others z n15 ∙ ht.1.others z n11)
    (ht4.1.arena ∙ ht3.1.arena ∙ ht2.1.arena ∙ ht.1.arena) (ht4.1.loads ∙ ht3.1.loads ∙ ht2.1.loads ∙ ht.1.loads) (ht4.1.stores ∙ ht3.1.stores ∙ ht2.1.stores ∙ ht.1.stores) et4)))))
