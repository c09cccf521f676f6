-- Instructions that touch the arena.
use Rattle.std.proofs.Common.{◌≡◌, ◌≢◌, ℕ, ◌+◌, ◌-◌, ◌*◌, ◌/◌, ◌^◌, ◌<◌, Bool, cond, List, ◌∷◌, length, Option, Some, refl, sym, ap, ◌∙◌, subst, arith, ℤ, pos}
use Rattle.std.specs.Prelude.{FitsSigned, slice_set, slice_index_or, ◌+ℤ◌, ◌*ℤ◌}
use Rattle.std.specs.Int.{w64, cast_signed}
use Rattle.std.proofs.lemmas.Int.{int_wrap_fits, to_z_pos}
use Rattle.std.proofs.lemmas.Bool.{lt-ltb}
use Rattle.trace_ops.specs.Words.{IsWord}
use Rattle.guard_exit.specs.Codes.{register}
use Rattle.target_base.specs.declared.reg.Reg.{Reg}
use Rattle.x64_encode.specs.declared.instr.Mem.{Mem}
use Rattle.x64_encode.specs.declared.instr.Mem.TheVariants.{At, Item}
use Rattle.x64_encode.specs.declared.instr.Instr.TheVariants.{Load, Store, StoreImm, Lea}
use Rattle.target_base.specs.declared.place.Place.{Place}
use Rattle.target_base.specs.declared.place.Place.TheVariants.{In, Word}
use Rattle.target_base.specs.Arena.{arena_word, with_arena_word}
use Rattle.x64_machine.specs.Words.{wrap, unsigned}
use Rattle.x64_machine.specs.State.{State, reg, with_reg, address, frame_word, word_at, one_if, went, reads, loaded, stored}
use Rattle.asm_select.specs.Slots.{Slot, Put}
use Rattle.asm_select.specs.Valued.{value, IsFit}
use Rattle.asm_select.specs.Reached.{Reach}
use Rattle.asm_select.proofs.Steps.{moved, one}
use Rattle.asm_select.proofs.Effects.{Has, CanWrite, reg_has}

-- ---- states with the same registers and frame

pub value_same : (s t : State) → t.regs ≡ s.regs → t.frame ≡ s.frame → (q : Place) → value t q ≡ value s q
value_same s t r f (In x) = ap (λ (xs : List ℤ). slice_index_or xs x.0 (pos 0)) r
value_same s t r f (Word k) = ap (λ (xs : List ℤ). slice_index_or xs k (pos 0)) f

pub fit_same : (s t : State) → t.regs ≡ s.regs → t.frame ≡ s.frame → IsFit s → IsFit t
fit_same s t r f fit = record {
  regs = ap length r ∙ fit.regs;
  frame = ap length f ∙ fit.frame;
  words = λ q. subst IsWord (sym (value_same s t r f q)) (fit.words q);
  base = value_same s t r f (In (register 5)) ∙ fit.base;
  stack = value_same s t r f (In (register 4)) ∙ fit.stack;
  top = value_same s t r f (Word 1048575) ∙ fit.top;
}

-- ---- loads

pub record Loaded (p : Place) (w : ℤ) (s t : State) : Type 0 where
  pub word : value t p ≡ w
  pub others : (q : Place) → q ≢ p → value t q ≡ value s q
  pub arena : t.arena ≡ s.arena
  pub loads : t.loads ≡ s.loads + 1
  pub stores : t.stores ≡ s.stores
  pub fit : IsFit t

pub here : (s : State) (a : ℕ) (v : ℤ) → a < 0x20000000 → arena_word s.arena a ≡ Some v → word_at s a ≡ Some v
here s a v lt e = ap (λ (b : Bool). cond b (arena_word s.arena a) (frame_word s.frame a)) (lt-ltb a 0x20000000 lt) ∙ e

pub load_goes : (p : ℕ) (w : Reg) (mem : Mem) (a : ℕ) (v : ℤ) (ys : List Slot) (s : State) → IsFit s → CanWrite (In w) → address s mem ≡ a → a < 0x20000000 → arena_word s.arena a ≡ Some v → IsWord v → s.at ≡ 0x40000000 + p → Reach p (Put (Load w mem) ∷ ys) s ys (Loaded (In w) v s)
load_goes p w mem a v ys s f c e lt found fits at =
    let s1 : State = record s { loads = s.loads + 1 } in
    let after : State = with_reg w v s1 in
    one p (Load w mem) ys s after (Loaded (In w) v s) at
    (λ next.
    ap (λ (b : ℕ). reads b s (λ x t. went next (with_reg w x t))) e
    ∙ ap (λ (o : Option ℤ). loaded o a s (λ x t. went next (with_reg w x t))) (here s a v lt found)
    ∙ ap (λ (b : Bool). went next (with_reg w v (record s { loads = s.loads + one_if b }))) (lt-ltb a 0x20000000 lt))
    (λ next.
    let h = reg_has s1 (moved next after) w v refl refl refl refl refl c fits (fit_same s s1 refl refl f) in
    record {
      word = h.0;
      others = λ q ne. h.1.others q ne ∙ value_same s s1 refl refl q;
      arena = refl;
      loads = refl;
      stores = refl;
      fit = h.2;
    })

-- ---- stores

pub record Stored (a : ℕ) (w : ℤ) (s t : State) : Type 0 where
  pub values : (q : Place) → value t q ≡ value s q
  pub arena : t.arena ≡ with_arena_word a w s.arena
  pub loads : t.loads ≡ s.loads
  pub stores : t.stores ≡ s.stores + 1
  pub fit : IsFit t

abbrev after_store : ℕ → ℤ → State → State
after_store a w s = record s { arena = with_arena_word a w s.arena; stores = s.stores + 1 }

stores_at : (next b a : ℕ) (w old : ℤ) (s : State) → b ≡ a → a < 0x20000000 → arena_word s.arena a ≡ Some old → stored (word_at s b) b w s (went next) ≡ went next (after_store a w s)
stores_at next b a w old s e lt found =
    ap (λ (k : ℕ). stored (word_at s k) k w s (went next)) e
    ∙ ap (λ (o : Option ℤ). stored o a w s (went next)) (here s a old lt found)
    ∙ ap (λ (x : Bool). went next (record s {
      arena = cond x (with_arena_word a w s.arena) s.arena;
      frame = cond x s.frame (slice_set s.frame ((a - 0x20000000) / 8) w);
      stores = s.stores + one_if x;
    })) (lt-ltb a 0x20000000 lt)

stored_now : (next a : ℕ) (w : ℤ) (s : State) → IsFit s → Stored a w s (moved next (after_store a w s))
stored_now next a w s f = record {
  values = λ q. value_same s (moved next (after_store a w s)) refl refl q;
  arena = refl;
  loads = refl;
  stores = refl;
  fit = fit_same s (moved next (after_store a w s)) refl refl f;
}

pub store_goes : (p : ℕ) (mem : Mem) (w : Reg) (a : ℕ) (old : ℤ) (ys : List Slot) (s : State) → IsFit s → address s mem ≡ a → a < 0x20000000 → arena_word s.arena a ≡ Some old → s.at ≡ 0x40000000 + p → Reach p (Put (Store mem w) ∷ ys) s ys (Stored a (value s (In w)) s)
store_goes p mem w a old ys s f e lt found at =
    one p (Store mem w) ys s (after_store a (reg s w) s) (Stored a (value s (In w)) s) at
    (λ next. stores_at next (address s mem) a (reg s w) old s e lt found)
    (λ next. stored_now next a (reg s w) s f)

pub store_imm_goes : (p : ℕ) (mem : Mem) (v : ℤ) (a : ℕ) (old : ℤ) (ys : List Slot) (s : State) → IsFit s → address s mem ≡ a → a < 0x20000000 → arena_word s.arena a ≡ Some old → s.at ≡ 0x40000000 + p → Reach p (Put (StoreImm mem v) ∷ ys) s ys (Stored a v s)
store_imm_goes p mem v a old ys s f e lt found at =
    one p (StoreImm mem v) ys s (after_store a v s) (Stored a v s) at
    (λ next. stores_at next (address s mem) a v old s e lt found)
    (λ next. stored_now next a v s f)

-- ---- addresses

pub at_address : (s : State) (r : Reg) (k b : ℕ) → value s (In r) ≡ pos b → b + k < 2 ^ 63 → address s (At r (pos k)) ≡ b + k
at_address s r k b e lt =
    let fits : FitsSigned w64 (pos (b + k)) = record { sfits = omega arith } in
    ap (λ (z : ℤ). unsigned (wrap (z +ℤ pos k))) e ∙ ap unsigned (int_wrap_fits w64 (pos (b + k)) fits)

pub item_address : (s : State) (r x : Reg) (k b i : ℕ) → value s (In r) ≡ pos b → value s (In x) ≡ pos i → b + 8 * i + k < 2 ^ 63 → address s (Item r x (pos k)) ≡ b + 8 * i + k
item_address s r x k b i e f lt =
    let fits : FitsSigned w64 (pos (b + 8 * i + k)) = record { sfits = omega arith } in
    ap (λ (z : ℤ). unsigned (wrap ((z +ℤ pos 8 *ℤ reg s x) +ℤ pos k))) e
    ∙ ap (λ (z : ℤ). unsigned (wrap ((pos b +ℤ pos 8 *ℤ z) +ℤ pos k))) f
    ∙ ap unsigned (int_wrap_fits w64 (pos (b + 8 * i + k)) fits)

-- an address that is brought into a register
pub lea_goes : (p : ℕ) (w : Reg) (mem : Mem) (a : ℕ) (ys : List Slot) (s : State) → IsFit s → CanWrite (In w) → address s mem ≡ a → a < 2 ^ 63 → s.at ≡ 0x40000000 + p → Reach p (Put (Lea w mem) ∷ ys) s ys (Has (In w) (pos a) s)
lea_goes p w mem a ys s f c e lt at =
    let fits : IsWord (pos a) = record { sfits = omega arith } in
    let after : State = with_reg w (pos a) s in
    one p (Lea w mem) ys s after (Has (In w) (pos a) s) at
    (λ next. ap (λ (z : ℤ). went next (with_reg w z s)) (ap (cast_signed w64) e ∙ to_z_pos w64 a lt))
    (λ next. reg_has s (moved next after) w (pos a) refl refl refl refl refl c fits f)
