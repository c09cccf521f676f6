-- A stub and the common exit, jumps that are taken, and the label where they lead.
use Rattle.std.proofs.Common.{◌≡◌, ◌≢◌, ℕ, zero, suc, ◌+◌, ◌^◌, ◌<◌, ◌≤◌, Bool, true, false, cond, nat_eq, List, [], ◌∷◌, ◌++◌, length, refl, sym, ap, ◌∙◌, subst, ⊎_elim, arith, ℤ, pos, Option, Some, None}
use Rattle.std.specs.Prelude.{◌+ℤ◌}
use Rattle.std.proofs.lemmas.List.{length-append}
use Rattle.std.proofs.lemmas.Bool.{eqb-true, eqb-false, eq-eqb, ne_eqb, cases_lt}
use Rattle.trace_ops.specs.declared.trace.Arg.{Arg}
use Rattle.trace_ops.specs.Words.{IsWord}
use Rattle.guard_exit.specs.Codes.{register, save, saved, save_code, stub_code, common_code}
use Rattle.x64_encode.specs.Form.{spelling}
use Rattle.x64_encode.specs.declared.instr.Instr.TheVariants.{MovImm, Jcc, Jmp, Ret}
use Rattle.target_base.specs.declared.place.Place.{Place}
use Rattle.target_base.specs.declared.place.Place.TheVariants.{In, Word}
use Rattle.x64_machine.specs.declared.state.Stop.TheVariants.{Returned}
use Rattle.x64_machine.specs.Words.{wrap, unsigned}
use Rattle.x64_machine.specs.State.{State, reg, with_reg, rsp, stops, target, word_at, loaded, returns_to}
use Rattle.x64_machine.specs.Step.{MachineStep}
use Rattle.asm_select.specs.declared.operand.Operand.{Operand}
use Rattle.asm_select.specs.declared.operand.Operand.TheVariants.{At, Imm}
use Rattle.asm_select.specs.Slots.{Slot, Put, Leave, Go, Lists, puts, size_of, sizes_of}
use Rattle.asm_select.specs.Slots as slots
use Rattle.asm_select.specs.Valued.{value, MayHold, IsFit}
use Rattle.asm_select.specs.Chosen.{Setting, Where, operand_of}
use Rattle.asm_select.specs.Reached.{Reach, read}
use Rattle.asm_select.specs.Exited.{saved_at, StubExits, LeadsTo, AllLead, Enters, JumpsEnter, PieceLands, LabelHolds, LabelStands, JumpBegins, BridgeBegins, shown_by}
use Rattle.asm_select.specs.Ended.{BoxesStand, PlacesStand, ArgsStand, LeavesWith, world_of, AreParts}
use Rattle.asm_select.proofs.Steps.{moved, stay, then, weaker, along_on, stands_step, on_in, sizes-append}
use Rattle.asm_select.proofs.Effects.{Only, CanWrite, number, in_word, word_other, scratch, frame_at_word}
use Rattle.asm_select.proofs.Micro.{store_goes, imm_goes}
use Rattle.asm_select.proofs.Guards.{value_moved, fit_moved}
use Rattle.asm_select.proofs.Values.{same_is, differ, bound_same, bound_other}
use Rattle.trace_ops.specs.declared.trace.BoxId.{BoxId}
use Rattle.trace_ops.specs.declared.piece.OptOp.{OptOp}
use Rattle.trace_ops.specs.declared.piece.OptOp.TheVariants as opt
use Rattle.trace_ops.specs.Pieces.{finished}
use Rattle.trace_ops.specs.Parts.{parts_of}
use Rattle.trace_meaning.specs.declared.value.Value.{Value}
use Rattle.trace_meaning.specs.World.{World, failed}
use Rattle.trace_ops.specs.declared.table.Table.{Table}
use Rattle.asm_select.specs.Reached.{PrebuiltsStand}
use Rattle.trace_meaning.specs.Boxes.{Boxes, same_box, value_in, bind, bind_all}
use Rattle.trace_meaning.specs.Legs.{Fails, Jumps, Finishes, Waits, Misfits, Wrong}
use Rattle.trace_meaning.specs.Legs as legs
use Rattle.std.specs.List.{AllZip}
use Rattle.arena_objects.specs.Layout.{address_of, word_of}
use Rattle.arena_objects.specs.Standing.{IsPart, Stands}
use Rattle.x64_machine.specs.declared.state.Turn.TheVariants.{Went}
use Rattle.x64_machine.specs.State.{acted, jumps_where}

-- the word k once these registers were saved
abbrev pub saved_word : List ℕ → State → ℕ → ℤ
saved_word [] s k = value s (Word k)
saved_word (r ∷ rs) s k = cond (nat_eq r k) (value s (In (register r))) (saved_word rs s k)

AreLow : List ℕ → Type 0
AreLow [] = Unit {0}
AreLow (r ∷ rs) = (r < 16) × AreLow rs

word_apart : (j k : ℕ) → j ≢ k → Word j ≢ Word k
word_apart j k ne e = ne (let n : 16 + j ≡ 16 + k = ap number e in omega (arith, n))

-- one more register was saved first
save_first : (rs : List ℕ) (r k : ℕ) (s t : State) → ((q : ℕ) → value t (In (register q)) ≡ value s (In (register q))) → value t (Word k) ≡ cond (nat_eq r k) (value s (In (register r))) (value s (Word k)) → saved_word rs t k ≡ cond (nat_eq r k) (value s (In (register r))) (saved_word rs s k)
save_first [] r k s t same word = word
save_first (x ∷ rs) r k s t same word =
    let rest = save_first rs r k s t same word in
    elim (nat_eq x k) as (λ b. nat_eq x k ≡ b → cond b (value t (In (register x))) (saved_word rs t k) ≡ cond (nat_eq r k) (value s (In (register r))) (cond b (value s (In (register x))) (saved_word rs s k))) [
      | true ↦ λ e. (elim (nat_eq r k) as (λ b. nat_eq r k ≡ b → value t (In (register x)) ≡ cond b (value s (In (register r))) (value s (In (register x)))) [
        | true ↦ λ f. same x ∙ ap (λ (n : ℕ). value s (In (register n))) (eqb-true x k e ∙ sym (eqb-true r k f))
        | false ↦ λ f. same x
      ]
          refl)
      | false ↦ λ e. rest
    ]
    refl

pub record Saved (rs : List ℕ) (s t : State) : Type 0 where
  fit : IsFit t
  words : (k : ℕ) → value t (Word k) ≡ saved_word rs s k
  regs : (q : ℕ) → value t (In (register q)) ≡ value s (In (register q))
  arena : t.arena ≡ s.arena
  loads : t.loads ≡ s.loads
  stores : t.stores ≡ s.stores

stored_word : (r k : ℕ) (s t : State) → value t (Word r) ≡ value s (In (register r)) → Only (Word r) s t → value t (Word k) ≡ cond (nat_eq r k) (value s (In (register r))) (value s (Word k))
stored_word r k s t e o =
    elim (nat_eq r k) as (λ b. nat_eq r k ≡ b → value t (Word k) ≡ cond b (value s (In (register r))) (value s (Word k))) [
      | true ↦ λ f. ap (λ (n : ℕ). value t (Word n)) (sym (eqb-true r k f)) ∙ e
      | false ↦ λ f. o.others (Word k) (word_apart k r (λ (g : k ≡ r). (let t2 : nat_eq r k ≡ true = eq-eqb r k (sym g) in cc)))
    ]
    refl

word_write : (k : ℕ) → k < 1048575 → CanWrite (Word k)
word_write k lt = record {
  there = omega arith;
  not_rsp = λ e. word_other k 4 (omega arith) e;
  not_rbp = λ e. word_other k 5 (omega arith) e;
  not_top = word_apart k 1048575 (omega arith);
}

saves : (rs : List ℕ) (p : ℕ) (s : State) → AreLow rs → IsFit s → s.at ≡ 0x40000000 + p → Reach p (puts (save_code rs)) s (Put Ret ∷ []) (Saved rs s)
unfolding AreLow
saves [] p s low f at = stay p (Put Ret ∷ []) s (Saved [] s) at (record { fit = f; words = λ k. refl; regs = λ q. refl; arena = refl; loads = refl; stores = refl })
saves (r ∷ rs) p s low f at =
    then p (Put (save r) ∷ puts (save_code rs)) (puts (save_code rs)) (Put Ret ∷ []) s (store_goes p r (register r) (puts (save_code rs)) s f (word_write r (omega (arith, low.0))) at) (λ t q et ht.
    let o = ht.1 in
    let same : (x : ℕ) → value t (In (register x)) ≡ value s (In (register x)) = λ x. o.others (In (register x)) (λ e. in_word (register x) r e) in
    weaker q (puts (save_code rs)) (Put Ret ∷ []) t (λ u hu. record {
      fit = hu.fit;
      words = λ k. hu.words k ∙ save_first rs r k s t same (stored_word r k s t ht.0 o);
      regs = λ x. hu.regs x ∙ same x;
      arena = hu.arena ∙ o.arena;
      loads = hu.loads ∙ o.loads;
      stores = hu.stores ∙ o.stores;
    }) (saves rs q t low.1 ht.2 et))

above : (rs : List ℕ) (s : State) (k : ℕ) → AreLow rs → 16 ≤ k → saved_word rs s k ≡ value s (Word k)
unfolding AreLow
above [] s k low le = refl
above (r ∷ rs) s k low le =
    let ne : nat_eq r k ≡ false = ne_eqb r k (λ (e : r ≡ k). omega (arith, low.0)) in
    ap (λ (b : Bool). cond b (value s (In (register r))) (saved_word rs s k)) ne ∙ above rs s k low.1 le

-- the return ends the run
returns : (code : List ℕ) (p : ℕ) (t : State) → length code < 2 ^ 32 → IsFit t → t.at ≡ 0x40000000 + p → (by : slots.Jumps) → Lists by code p (Put Ret ∷ []) → MachineStep code t (stops Returned t)
returns code p t small f at by lists =
    let made = stands_step code p Ret t small at lists.0 in
    let word : word_at t (unsigned (reg t rsp)) ≡ Some (pos 805306368) = frame_at_word t f in
    subst (MachineStep code t) (ap (λ (o : Option ℤ). loaded o (unsigned (reg t rsp)) t (λ w x. returns_to (unsigned w) t (with_reg rsp (wrap (reg t rsp +ℤ pos 8)) x))) word) made

saved_low : AreLow saved
unfolding AreLow
saved_low = (omega arith, (omega arith, (omega arith, (omega arith, (omega arith, (omega arith, (omega arith, (omega arith, (omega arith, (omega arith, (omega arith, (omega arith, tt))))))))))))

reg_saved : (s : State) (n : ℕ) → n < 16 → n ≢ 0 → n ≢ 4 → n ≢ 5 → n ≢ 11 → saved_word saved s n ≡ value s (In (register n))
reg_saved s zero lt z a b c = absurd (z refl)
reg_saved s (suc zero) lt z a b c = refl
reg_saved s (suc (suc zero)) lt z a b c = refl
reg_saved s (suc (suc (suc zero))) lt z a b c = refl
reg_saved s (suc (suc (suc (suc zero)))) lt z a b c = absurd (a refl)
reg_saved s (suc (suc (suc (suc (suc zero))))) lt z a b c = absurd (b refl)
reg_saved s (suc (suc (suc (suc (suc (suc zero)))))) lt z a b c = refl
reg_saved s (suc (suc (suc (suc (suc (suc (suc zero))))))) lt z a b c = refl
reg_saved s (suc (suc (suc (suc (suc (suc (suc (suc zero)))))))) lt z a b c = refl
reg_saved s (suc (suc (suc (suc (suc (suc (suc (suc (suc zero))))))))) lt z a b c = refl
reg_saved s (suc (suc (suc (suc (suc (suc (suc (suc (suc (suc zero)))))))))) lt z a b c = refl
reg_saved s (suc (suc (suc (suc (suc (suc (suc (suc (suc (suc (suc zero))))))))))) lt z a b c = absurd (c refl)
reg_saved s (suc (suc (suc (suc (suc (suc (suc (suc (suc (suc (suc (suc zero)))))))))))) lt z a b c = refl
reg_saved s (suc (suc (suc (suc (suc (suc (suc (suc (suc (suc (suc (suc (suc zero))))))))))))) lt z a b c = refl
reg_saved s (suc (suc (suc (suc (suc (suc (suc (suc (suc (suc (suc (suc (suc (suc zero)))))))))))))) lt z a b c = refl
reg_saved s (suc (suc (suc (suc (suc (suc (suc (suc (suc (suc (suc (suc (suc (suc (suc zero))))))))))))))) lt z a b c = refl
reg_saved s (suc (suc (suc (suc (suc (suc (suc (suc (suc (suc (suc (suc (suc (suc (suc (suc k)))))))))))))))) lt z a b c = absurd (omega arith)

-- each place that may hold a value is kept, or saved
kept : (s t u : State) (p : Place) → MayHold p → value s (Word 0) ≡ value u (In (register 0)) → ((q : Place) → q ≢ Word 0 → q ≢ In (register 0) → value s q ≡ value u q) → ((k : ℕ) → value t (Word k) ≡ saved_word saved s k) → saved_at t p ≡ value u p
kept s t u (Word k) m zero_is same words =
    words k
    ∙ above saved s k saved_low (⊎_elim (λ lt. absurd (m.not_saved k lt refl)) (λ le. le) (cases_lt k 16))
    ∙ same (Word k) (m.not_saved 0 (omega arith)) (λ e. word_other k 0 (omega arith) e)
kept s t u (In r) m zero_is same words =
    elim (nat_eq r.0 0) as (λ b. nat_eq r.0 0 ≡ b → value t (Word r.0) ≡ value u (In r)) [
      | true ↦ λ e. (let n : r.0 ≡ 0 = eqb-true r.0 0 e in ap (λ (k : ℕ). value t (Word k)) n ∙ words 0 ∙ zero_is ∙ ap (λ (k : ℕ). value u (In (register k))) (sym n))
      | false ↦ λ e. (let ne : r.0 ≢ 0 = eqb-false r.0 0 e in
          words r.0
          ∙ reg_saved s r.0 m.there ne (λ f. m.not_rsp (ap (λ (n : ℕ). In (register n)) f)) (λ f. m.not_rbp (ap (λ (n : ℕ). In (register n)) f)) (λ f. m.not_r11 (ap (λ (n : ℕ). In (register n)) f))
          ∙ same (In r) (m.not_saved 0 (omega arith)) (λ f. ne (ap number f)))
    ]
    refl

-- rax is in word 0, and the exit's number in rax
pub record Numbered (e : ℕ) (u t : State) : Type 0 where
  fit : IsFit t
  number_is : value t (In (register 0)) ≡ pos e
  zero_is : value t (Word 0) ≡ value u (In (register 0))
  same : (q : Place) → q ≢ Word 0 → q ≢ In (register 0) → value t q ≡ value u q
  arena : t.arena ≡ u.arena
  loads : t.loads ≡ u.loads
  stores : t.stores ≡ u.stores

numbers : (ps e : ℕ) (d : ℤ) (u : State) → IsWord (pos e) → IsFit u → u.at ≡ 0x40000000 + ps → Reach ps (puts (stub_code d e)) u (Put (Jmp d) ∷ []) (Numbered e u)
numbers ps e d u word f at =
    then ps _ (Put (MovImm (register 0) (pos e)) ∷ Put (Jmp d) ∷ []) (Put (Jmp d) ∷ []) u (store_goes ps 0 (register 0) (Put (MovImm (register 0) (pos e)) ∷ Put (Jmp d) ∷ []) u f (word_write 0 (omega arith)) at) (λ t q et ht.
    weaker q (Put (MovImm (register 0) (pos e)) ∷ Put (Jmp d) ∷ []) (Put (Jmp d) ∷ []) t (λ x hx. record {
      fit = hx.2;
      number_is = hx.0;
      zero_is = hx.1.others (Word 0) (λ y. word_other 0 0 (omega arith) y) ∙ ht.0;
      same = λ k a b. hx.1.others k b ∙ ht.1.others k a;
      arena = hx.1.arena ∙ ht.1.arena;
      loads = hx.1.loads ∙ ht.1.loads;
      stores = hx.1.stores ∙ ht.1.stores;
    }) (imm_goes q (register 0) (pos e) (Put (Jmp d) ∷ []) t ht.2 (scratch 0 (omega arith) (omega arith) (omega arith)) word et))

pub stub_exits : StubExits
stub_exits ps pc e d u lt f at leads =
    let word : IsWord (pos e) = record { sfits = omega arith } in
    let r = numbers ps e d u word f at in
    let h = r.holds in
    let n = 0x40000000 + (r.q + length (spelling (Jmp d))) in
    let sized : r.q + sizes_of (Put (Jmp d) ∷ []) ≡ ps + sizes_of (puts (stub_code d e)) = omega (arith, r.place, ap sizes_of r.split, sizes-append r.front (Put (Jmp d) ∷ [])) in
    let placed : n ≡ 0x40000000 + (ps + sizes_of (puts (stub_code d e))) = omega (arith, sized) in
    let x : State = moved (target n d) r.t in
    let at_x : x.at ≡ 0x40000000 + pc = ap (λ (k : ℕ). target k d) placed ∙ leads in
    let g = saves saved pc x saved_low (fit_moved (target n d) r.t h.fit) at_x in
    record {
      path = r.path ++ x ∷ g.path;
      few = omega (arith, length-append r.path (x ∷ g.path), r.few, g.few);
      t = g.t;
      along = λ by code small lists common.
          along_on code r.path (x ∷ g.path) u r.t g.t (r.comes by code small lists)
          (stands_step code r.q (Jmp d) r.t small r.at (on_in by code ps (puts (stub_code d e)) (Put (Jmp d) ∷ []) u r lists).0, g.comes by code small common);
      returned = λ by code small common. returns code g.q g.t small g.holds.fit g.at by (on_in by code pc (puts common_code) (Put Ret ∷ []) x g common);
      number = g.holds.regs 0 ∙ h.number_is;
      places = λ p m. kept x g.t u p m h.zero_is (λ q a b. value_moved (target n d) r.t q ∙ h.same q a b) g.holds.words;
      same = record { arena = g.holds.arena ∙ h.arena; loads = g.holds.loads ∙ h.loads; stores = g.holds.stores ∙ h.stores };
    }

-- ---- a whole straight piece

-- ---- a jump that is taken

entered : (code : List ℕ) (t : State) (next place : ℕ) → MachineStep code t (acted Went (moved next t)) → next ≡ 0x40000000 + place → Enters code t place
entered code t next place made e = record {
  u = moved next t;
  made = made;
  at = e;
  values = value_moved next t;
  flags = refl;
  same = record { arena = refl; loads = refl; stores = refl };
  fit = fit_moved next t;
}

pub jumps_enter : JumpsEnter
jumps_enter by code to q k (Put i) rest t small l leads taken at = absurd taken
jumps_enter by code to q k (Leave c e) rest t small l leads (same, yes_it) at =
    let next = 0x40000000 + (q + 6) in
    entered code t (target next (by e)) (to k)
    (subst (MachineStep code t) (ap (λ (o : Option Bool). jumps_where o next (by e) t) yes_it) (stands_step code q (Jcc c (by e)) t small at l.0))
    (leads ∙ ap (λ (n : ℕ). 0x40000000 + to n) same)
jumps_enter by code to q k (Go e) rest t small l leads same at =
    let next = 0x40000000 + (q + 5) in
    entered code t (target next (by e)) (to k) (stands_step code q (Jmp (by e)) t small at l.0) (leads ∙ ap (λ (n : ℕ). 0x40000000 + to n) same)

lead_at : (by : slots.Jumps) (to : ℕ → ℕ) (p : ℕ) (front : List Slot) (x : Slot) (rest : List Slot) → AllLead by to p (front ++ x ∷ rest) → LeadsTo by to (p + sizes_of front) x
lead_at by to p [] x rest h = let n : p ≡ p + 0 = omega arith in subst (λ (i : ℕ). LeadsTo by to i x) n h.0
lead_at by to p (y ∷ ys) x rest h =
    let n : p + size_of y + sizes_of ys ≡ p + (size_of y + sizes_of ys) = omega arith in
    subst (λ (i : ℕ). LeadsTo by to i x) n (lead_at by to (p + size_of y) ys x rest h.1)

-- what stands where a piece is left stands where the jump leads
boxes_too : (at : Where) (addresses : ℕ → ℕ) (t u : State) (bs : List BoxId) (vs : List Value) → ((q : Place) → value u q ≡ value t q) → BoxesStand at addresses t bs vs → BoxesStand at addresses u bs vs
boxes_too at addresses t u [] [] h g = tt
boxes_too at addresses t u [] (x ∷ xs) h g = g
boxes_too at addresses t u (b ∷ bs) [] h g = g
boxes_too at addresses t u (b ∷ bs) (x ∷ xs) h g = (h (at b.number) ∙ g.0, boxes_too at addresses t u bs xs h g.1)

places_too : (addresses : ℕ → ℕ) (t u : State) (ps : List Place) (vs : List Value) → ((q : Place) → value u q ≡ value t q) → PlacesStand addresses t ps vs → PlacesStand addresses u ps vs
places_too addresses t u [] [] h g = tt
places_too addresses t u [] (x ∷ xs) h g = g
places_too addresses t u (p ∷ ps) [] h g = g
places_too addresses t u (p ∷ ps) (x ∷ xs) h g = (h p ∙ g.0, places_too addresses t u ps xs h g.1)

operand_too : (t u : State) (o : Operand) → ((q : Place) → value u q ≡ value t q) → read u o ≡ read t o
operand_too t u (At p) h = h p
operand_too t u (Imm z) h = refl

args_too : (c : Setting) (addresses : ℕ → ℕ) (t u : State) (args : List Arg) (vs : List Value) → ((q : Place) → value u q ≡ value t q) → ArgsStand c addresses t args vs → ArgsStand c addresses u args vs
args_too c addresses t u [] [] h g = tt
args_too c addresses t u [] (x ∷ xs) h g = g
args_too c addresses t u (a ∷ as_) [] h g = g
args_too c addresses t u (a ∷ as_) (x ∷ xs) h g = (operand_too t u (operand_of c a) h ∙ g.0, args_too c addresses t u as_ xs h g.1)

leaves_too : (c : Setting) (op : OptOp) (l : legs.Leave) (t u : State) → ((q : Place) → value u q ≡ value t q) → LeavesWith c op l t → LeavesWith c op l u
leaves_too c (opt.Guard operation args n snap) (Fails m vs w) t u h g = (g.0, boxes_too c.at (address_of w.objects) t u (parts_of snap) vs h g.1)
leaves_too c (opt.Exit n snap) (Fails m vs w) t u h g = (g.0, boxes_too c.at (address_of w.objects) t u (parts_of snap) vs h g.1)
leaves_too c (opt.Jump to args) (Jumps vs w) t u h g = places_too (address_of w.objects) t u c.to vs h g
leaves_too c (opt.Finish a) (Finishes vs w) t u h g = args_too c (address_of w.objects) t u (finished a) vs h g
leaves_too c _ _ t u h g = absurd g

pub piece_lands : PieceLands
piece_lands loads stores c k ops xs by code to p s key op l among come small lists lead =
    let x = come.0 in
    let rest = come.1 in
    let f = come.2 in
    let left = f.holds.0 in
    let at_front : LeadsTo by to (p + sizes_of f.front) x = lead_at by to p f.front x rest (subst (AllLead by to p) f.split lead) in
    let here : LeadsTo by to f.q x = subst (λ (i : ℕ). LeadsTo by to i x) (sym f.place) at_front in
    let e = jumps_enter by code to f.q key x rest f.t small (on_in by code p xs (x ∷ rest) s f lists) here left.taken f.at in
    record {
      key = key;
      op = op;
      among = among;
      path = f.path ++ e.u ∷ [];
      few = omega (arith, f.few, length-append f.path (e.u ∷ []));
      u = e.u;
      along = along_on code f.path (e.u ∷ []) s f.t e.u (f.comes by code small lists) (e.made, refl);
      at = e.at;
      fit = e.fit left.fit;
      arena = subst (Stands c.table (world_of l).objects) (sym e.same.arena) left.arena;
      prebuilts = left.prebuilts;
      parts = left.parts;
      with = leaves_too c op l f.t e.u e.values left.with;
      counts = record { loads_more = e.same.loads ∙ f.holds.1.loads_more; stores_more = e.same.stores ∙ f.holds.1.stores_more };
    }

-- ---- where a piece begins

bound_zip : {R : BoxId → Value → Type 0} (es : Boxes) (bs : List BoxId) (vs : List Value) → ((b : BoxId) (x : Value) → value_in es b ≡ Some x → R b x) → AllZip R bs vs → (b : BoxId) (x : Value) → value_in (bind_all es bs vs) b ≡ Some x → R b x
bound_zip es [] vs h g b x e = h b x e
bound_zip es (d ∷ ds) [] h g b x e = h b x e
bound_zip {R} es (d ∷ ds) (y ∷ ys) h g b x e = bound_zip (bind d y es) ds ys (λ a z k. which a z (same_box a d) refl k) g.1 b x e
  where
    value_is : (i j : Value) → Some i ≡ Some j → i ≡ j
    value_is i j q = cc

    which : (a : BoxId) (z : Value) (q : Bool) → same_box a d ≡ q → value_in (bind d y es) a ≡ Some z → R a z
    which a z true q k =
        let one : a ≡ d = same_is a d q in
        let v_is : y ≡ z = value_is y z (sym (bound_same d y es) ∙ ap (value_in (bind d y es)) (sym one) ∙ k) in
        subst (λ (i : BoxId). R i z) (sym one) (subst (R d) v_is g.0)
    which a z false q k = h a z (sym (bound_other d a y es (differ a d q)) ∙ k)

parts_zip : (at : Where) (addresses : ℕ → ℕ) (t : State) (n : ℕ) (bs : List BoxId) (vs : List Value) → BoxesStand at addresses t bs vs → AreParts n vs → AllZip (λ (b : BoxId) (x : Value). IsPart n x) bs vs
parts_zip at addresses t n [] [] g h = tt
parts_zip at addresses t n [] (x ∷ xs) g h = g
parts_zip at addresses t n (b ∷ bs) [] g h = g
parts_zip at addresses t n (b ∷ bs) (x ∷ xs) g h = (h.0, parts_zip at addresses t n bs xs g.1 h.1)

pub label_holds : LabelHolds
label_holds c label ops vs w t f arena pre parts stand = record {
  fit = f;
  arena = arena;
  prebuilts = pre;
  values = λ b x e. bound_zip {R = λ (b : BoxId) (x : Value). IsPart (length w.objects) x} [] label vs (λ b x e. absurd (nothing x e)) (parts_zip c.at (address_of w.objects) t (length w.objects) label vs stand parts) b x e;
  boxes = λ b x u e. bound_zip {R = λ (b : BoxId) (x : Value). value t (c.at b.number) ≡ word_of (address_of w.objects) x} [] label vs (λ b x e. absurd (nothing x e)) stand b x e;
  flags = tt;
}
  where
    nothing : (x : Value) → None ≡ Some x → ⊥
    nothing x e = cc

pub label_stands : LabelStands
label_stands c [] [] addresses [] t h g = tt
label_stands c [] [] addresses (x ∷ xs) t h g = g
label_stands c [] (b ∷ bs) addresses vs t h g = absurd h
label_stands c (p ∷ ps) [] addresses vs t h g = absurd h
label_stands c (p ∷ ps) (b ∷ bs) addresses [] t h g = g
label_stands c (p ∷ ps) (b ∷ bs) addresses (x ∷ xs) t h g = (ap (value t) h.0 ∙ g.0, label_stands c ps bs addresses xs t h.1 g.1)

jump_places : (c : Setting) (op : OptOp) (vs : List Value) (w : World) (u : State) → LeavesWith c op (Jumps vs w) u → PlacesStand (address_of w.objects) u c.to vs
jump_places c (opt.Plain operation r args d) vs w u h = absurd h
jump_places c (opt.Guard operation args n snap) vs w u h = absurd h
jump_places c (opt.Exit n snap) vs w u h = absurd h
jump_places c (opt.Jump to args) vs w u h = h
jump_places c (opt.Finish a) vs w u h = absurd h

pub jump_begins : JumpBegins
jump_begins loads stores c d k ops next xs code to s label vs w f same zip =
    let stand = label_stands d c.to label (address_of w.objects) vs f.u zip (jump_places c f.op vs w f.u f.with) in
    label_holds d label next vs w f.u f.fit (subst (λ (t : Table). Stands t w.objects f.u.arena) (sym same) f.arena) (subst (λ (t : Table). PrebuiltsStand t w.objects) (sym same) f.prebuilts) f.parts stand

fail_boxes : (c : Setting) (op : OptOp) (n : ℕ) (vs : List Value) (w : World) (u : State) → LeavesWith c op (Fails n vs w) u → BoxesStand c.at (address_of w.objects) u (shown_by op) vs
fail_boxes c (opt.Plain operation r args d) n vs w u h = absurd h
fail_boxes c (opt.Guard operation args m snap) n vs w u h = h.1
fail_boxes c (opt.Exit m snap) n vs w u h = h.1
fail_boxes c (opt.Jump to args) n vs w u h = absurd h
fail_boxes c (opt.Finish a) n vs w u h = absurd h

other_boxes : (c d : Setting) (addresses : ℕ → ℕ) (t : State) (bs label : List BoxId) (vs : List Value) → AllZip (λ (a b : BoxId). d.at b.number ≡ c.at a.number) bs label → BoxesStand c.at addresses t bs vs → BoxesStand d.at addresses t label vs
other_boxes c d addresses t [] [] [] z g = tt
other_boxes c d addresses t [] [] (x ∷ xs) z g = g
other_boxes c d addresses t [] (b ∷ bs) vs z g = absurd z
other_boxes c d addresses t (a ∷ as_) [] vs z g = absurd z
other_boxes c d addresses t (a ∷ as_) (b ∷ bs) [] z g = g
other_boxes c d addresses t (a ∷ as_) (b ∷ bs) (x ∷ xs) z g = (ap (value t) z.0 ∙ g.0, other_boxes c d addresses t as_ bs xs z.1 g.1)

pub bridge_begins : BridgeBegins
bridge_begins loads stores c d k n ops next xs code to s label vs w f same zip =
    let stand = other_boxes c d (address_of w.objects) f.u (shown_by f.op) label vs zip (fail_boxes c f.op n vs w f.u f.with) in
    label_holds d label next vs (failed w) f.u f.fit (subst (λ (t : Table). Stands t w.objects f.u.arena) (sym same) f.arena) (subst (λ (t : Table). PrebuiltsStand t w.objects) (sym same) f.prebuilts) f.parts stand
