-- The code of operations that call the host comes to the call, and goes on from what the host leaves.
use Rattle.std.proofs.Common.{◌≡◌, ◌≢◌, ℕ, zero, suc, ◌+◌, ◌*◌, ◌^◌, ◌<◌, ◌≤◌, Bool, true, false, List, [], ◌∷◌, ◌++◌, length, Option, Some, None, IsTrue, refl, sym, ap, ◌∙◌, subst, inl, inr, arith, ℤ, pos}
use Rattle.std.specs.Prelude.{◌||◌, slice_get}
use Rattle.std.specs.List.{All}
use Rattle.std.proofs.lemmas.List.{length_push}
use Rattle.std.proofs.lemmas.Option.{same_Some}
use Rattle.trace_ops.specs.Words.{IsWord}
use Rattle.trace_ops.specs.Classes.{is_call, is_allocation}
use Rattle.trace_ops.specs.declared.code.OpCode.{OpCode}
use Rattle.trace_ops.specs.declared.code.OpCode.TheVariants as code
use Rattle.trace_ops.specs.declared.table.ShapeOf.TheVariants.{Size, Array}
use Rattle.trace_ops.specs.declared.trace.BoxId.{BoxId}
use Rattle.trace_ops.specs.declared.trace.Arg.{Arg}
use Rattle.trace_ops.specs.declared.trace.Arg.TheVariants.{Func}
use Rattle.trace_ops.specs.declared.trace.Descr.{Descr}
use Rattle.trace_ops.specs.declared.trace.Descr.TheVariants as descr
use Rattle.trace_ops.specs.declared.piece.OptOp.{OptOp}
use Rattle.trace_ops.specs.declared.piece.OptOp.TheVariants as opt
use Rattle.trace_meaning.specs.declared.value.Value.{Value}
use Rattle.trace_meaning.specs.declared.value.Value.TheVariants as v
use Rattle.trace_meaning.specs.Boxes.{value_in, bind, arg_value}
use Rattle.trace_meaning.specs.World.{World}
use Rattle.trace_meaning.specs.Performing.{Done, Gave, Bad, Waited, Misfitted}
use Rattle.opt_meaning.specs.Step.{Opt, opt_step, opt_plain, opt_perform, opt_values}
use Rattle.arena_objects.specs.Layout.{header_of, address_of, word_of}
use Rattle.arena_objects.specs.Standing.{IsPart, Stands}
use Rattle.arena_objects.specs.Making.{zeroed_of}
use Rattle.arena_objects.specs.Laws.{AllocationsStand, AllocationsAddress, TakenIsThere}
use Rattle.guard_exit.specs.Codes.{register}
use Rattle.linear_scan.specs.Living.{is_calling}
use Rattle.x64_encode.specs.declared.instr.Instr.TheVariants.{MovImm, CallReg}
use Rattle.target_base.specs.declared.place.Place.{Place}
use Rattle.target_base.specs.declared.place.Place.TheVariants.{In}
use Rattle.target_base.specs.Arena.{Arena}
use Rattle.x64_machine.specs.State.{State}
use Rattle.asm_select.specs.declared.form.Access.{Access}
use Rattle.asm_select.specs.declared.form.Access.TheVariants as access
use Rattle.asm_select.specs.declared.told.Told.{Told}
use Rattle.asm_select.specs.Slots.{Slot, Put, puts}
use Rattle.asm_select.specs.Valued.{r11, r15, value, MayHold, IsFit}
use Rattle.asm_select.specs.Chosen.{Setting, operand_of, entry_of, entry_number, access_form, is_host_call, call_if, call_code, access_code, new_code, new_array_code, function_code, jump_code, for_call, arg_places, places_for, result_place, plain_code, take_code, put_code}
use Rattle.asm_select.specs.Reached.{Reach, IsNamed, IsUsedIn, IsApart, Holds, HasWords, IsWordArg, SameArena, PrebuiltsStand, word_in, read}
use Rattle.asm_select.specs.Calls.{Survives}
use Rattle.asm_select.specs.Ended.{Counts, PlacesStand, TableServes}
use Rattle.asm_select.specs.Asked.{IsAskedAs, IsAskedIf, IsSafe, call_size, entry_as, entry_if, entry_by, AsksAs, AsksIf, Asks, AtCall, returned, Stops, Resumes, CallsBy, CallsFollow, AllocationsLeave}
use Rattle.asm_select.proofs.Steps.{then, chain, weaker, puts-append}
use Rattle.asm_select.proofs.Effects.{CanWrite, scratch, in_other, may_write}
use Rattle.asm_select.proofs.Micro.{takes, imm_goes, put_goes}
use Rattle.asm_select.proofs.Values.{arg_reads, arg_is, bound_same, first_value}
use Rattle.asm_select.proofs.Results.{with_result}
use Rattle.asm_select.proofs.Tables.{object_result_holds, object_store_holds}
use Rattle.asm_select.proofs.Classing.{header_fits}
use Rattle.asm_select.proofs.Calls.{calls_host, host_answers}
use Rattle.asm_select.proofs.Accessed.{done_of, performs_as, tells_nothing}
use Rattle.asm_select.proofs.Jumps.{places_filled}
use Rattle.asm_select.proofs.Parts.{args_are_parts}
use Rattle.asm_select.proofs.Guards.{first_is}

-- ---- forms that call

abbrev calling_if : Option Access → Bool
calling_if None = false
calling_if (Some form) = is_host_call form

calling_as : (operation : OpCode) (form : Access) → access_form operation ≡ Some form → (is_call operation || is_allocation operation) ≡ is_host_call form
calling_as code.GetfieldGcI form e = ap calling_if e
calling_as code.GetfieldGcR form e = ap calling_if e
calling_as code.SetfieldGc form e = ap calling_if e
calling_as code.GetarrayitemGcI form e = ap calling_if e
calling_as code.GetarrayitemGcR form e = ap calling_if e
calling_as code.SetarrayitemGc form e = ap calling_if e
calling_as code.ArraylenGc form e = ap calling_if e
calling_as code.New form e = ap calling_if e
calling_as code.NewWithVtable form e = ap calling_if e
calling_as code.NewArrayClear form e = ap calling_if e
calling_as code.CallI form e = ap calling_if e
calling_as code.CallR form e = ap calling_if e
calling_as code.CallN form e = ap calling_if e
calling_as _ form e = absurd (cc)

is_true : (b : Bool) → b ≡ true → IsTrue b
is_true b e = e

-- ---- registers

write_0 : CanWrite (In (register 0))
write_0 = scratch 0 (omega arith) (omega arith) (omega arith)

write_6 : CanWrite (In (register 6))
write_6 = scratch 6 (omega arith) (omega arith) (omega arith)

write_7 : CanWrite (In (register 7))
write_7 = scratch 7 (omega arith) (omega arith) (omega arith)

write_10 : CanWrite (In (register 10))
write_10 = scratch 10 (omega arith) (omega arith) (omega arith)

write_11 : CanWrite r11
write_11 = scratch 11 (omega arith) (omega arith) (omega arith)

entry_fits : (k : ℕ) → k < 2 ^ 20 → IsWord (pos (entry_of k))
entry_fits k few = record { sfits = omega arith }

-- ---- before the call

-- entry k stands in r11, and what a call keeps is as before
record Ready (k : ℕ) (s u : State) : Type 0 where
  entry : value u r11 ≡ pos (entry_of k)
  kept : (q : Place) → Survives q → q ≢ r15 → value u q ≡ value s q
  same : SameArena s u
  fit : IsFit u

-- the entry is the last that is set
enters : (k p : ℕ) (ys : List Slot) (s u : State) → k < 2 ^ 20 → IsFit u → ((q : Place) → Survives q → q ≢ r15 → value u q ≡ value s q) → SameArena s u → u.at ≡ 0x40000000 + p → Reach p (Put (MovImm (register 11) (pos (entry_of k))) ∷ ys) u ys (λ x. Ready k s x × ((q : Place) → q ≢ r11 → value x q ≡ value u q))
enters k p ys s u small f kept same at =
    weaker p (Put (MovImm (register 11) (pos (entry_of k))) ∷ ys) ys u (λ x h. (
      record {
        entry = h.0;
        kept = λ q l n. h.1.others q l.not_11 ∙ kept q l n;
        same = record { arena = h.1.arena ∙ same.arena; loads = h.1.loads ∙ same.loads; stores = h.1.stores ∙ same.stores };
        fit = h.2;
      },
      λ q n. h.1.others q n,
    )) (imm_goes p (register 11) (pos (entry_of k)) ys u f write_11 (entry_fits k small) at)

abbrev IsReady : Setting → ℕ → Access → List Arg → Descr → Opt → State → State → Type 0
IsReady c k form args d env s u = Ready (entry_as form args) s u × AsksAs c.table form args d (opt_values env args) env.world u

same_same : (s : State) → SameArena s s
same_same s = record { arena = refl; loads = refl; stores = refl }

structure_asks : (c : Setting) (k n p : ℕ) (r : BoxId) (env : Opt) (ys : List Slot) (s : State) → TableServes c.table → IsFit s → s.at ≡ 0x40000000 + p → Reach p (puts (new_code (header_of c.table (Size n))) ++ ys) s ys (IsReady c k access.Structure [] (descr.Size n) env s)
structure_asks c k n p r env ys s table f at =
    let h = pos (header_of c.table (Size n)) in
    let l1 = Put (MovImm (register 11) (pos (entry_of 1))) ∷ ys in
    then p (Put (MovImm (register 7) h) ∷ l1) l1 ys s (imm_goes p (register 7) h l1 s f write_7 (header_fits c.table (Size n) table.few) at) (λ u q eu hu.
    weaker q l1 ys u (λ x g. (g.0, g.1 (In (register 7)) (in_other 7 11 (omega arith)) ∙ hu.0))
    (enters 1 q ys s u (omega arith) hu.2 (λ x l n. hu.1.others x l.not_7) (record { arena = hu.1.arena; loads = hu.1.loads; stores = hu.1.stores }) eu))

array_asks : (c : Setting) (k x p : ℕ) (a : Arg) (env : Opt) (z : ℤ) (ys : List Slot) (s : State) → TableServes c.table → ((b : ℕ) → MayHold (c.at b)) → IsWordArg c.table a → read s (operand_of c a) ≡ z → opt_values env (a ∷ []) ≡ Some (v.Int z ∷ []) → IsFit s → s.at ≡ 0x40000000 + p → Reach p (puts (new_array_code (header_of c.table (Array x)) (operand_of c a)) ++ ys) s ys (IsReady c k access.Array (a ∷ []) (descr.Array x) env s)
array_asks c k x p a env z ys s table m wa held e f at =
    let h = pos (header_of c.table (Array x)) in
    let l1 = Put (MovImm (register 11) (pos (entry_of 2))) ∷ ys in
    let rest = MovImm (register 7) h ∷ MovImm (register 11) (pos (entry_of 2)) ∷ [] in
    chain p (take_code (register 6) (operand_of c a)) rest ys s (takes p (register 6) (operand_of c a) (puts rest ++ ys) s (arg_reads c a m wa) f write_6 at) (λ t q et ht.
    then q (Put (MovImm (register 7) h) ∷ l1) l1 ys t (imm_goes q (register 7) h l1 t ht.2 write_7 (header_fits c.table (Array x) table.few) et) (λ u q2 eu hu.
    weaker q2 l1 ys u (λ y g. (
      g.0,
      subst (λ (o : Option (List Value)). AsksAs c.table access.Array (a ∷ []) (descr.Array x) o env.world y) (sym e) (
        g.1 (In (register 7)) (in_other 7 11 (omega arith)) ∙ hu.0,
        g.1 (In (register 6)) (in_other 6 11 (omega arith)) ∙ hu.1.others (In (register 6)) (in_other 6 7 (omega arith)) ∙ ht.0 ∙ held,
      ),
    ))
    (enters 2 q2 ys s u (omega arith) hu.2 (λ i l n. hu.1.others i l.not_7 ∙ ht.1.others i l.not_6) (record { arena = hu.1.arena ∙ ht.1.arena; loads = hu.1.loads ∙ ht.1.loads; stores = hu.1.stores ∙ ht.1.stores }) eu)))

-- what survives is none of the registers of arguments
none_of : (args : List Arg) (ps : List Place) (q : Place) → ((i : ℕ) (x : Place) → slice_get ps i ≡ Some x → q ≢ x) → (i : ℕ) (x : Place) → slice_get (places_for args ps) i ≡ Some x → q ≢ x
none_of [] ps q h i x e = absurd (cc)
none_of (a ∷ args) [] q h i x e = absurd (cc)
none_of (a ∷ args) (p ∷ ps) q h zero x e = h 0 x e
none_of (a ∷ args) (p ∷ ps) q h (suc i) x e = none_of args ps q (λ j y g. h (suc j) y g) i x e

some_is : (a b : Place) → Some a ≡ Some b → a ≡ b
some_is a b q = cc

no_arg : (q : Place) → Survives q → (i : ℕ) (x : Place) → slice_get arg_places i ≡ Some x → q ≢ x
no_arg q l zero x e = λ n. l.not_7 (n ∙ sym (some_is (In (register 7)) x e))
no_arg q l (suc zero) x e = λ n. l.not_6 (n ∙ sym (some_is (In (register 6)) x e))
no_arg q l (suc (suc zero)) x e = λ n. l.not_2 (n ∙ sym (some_is (In (register 2)) x e))
no_arg q l (suc (suc (suc zero))) x e = λ n. l.not_1 (n ∙ sym (some_is (In (register 1)) x e))
no_arg q l (suc (suc (suc (suc zero)))) x e = λ n. l.not_8 (n ∙ sym (some_is (In (register 8)) x e))
no_arg q l (suc (suc (suc (suc (suc zero))))) x e = λ n. l.not_9 (n ∙ sym (some_is (In (register 9)) x e))
no_arg q l (suc (suc (suc (suc (suc (suc i)))))) x e = absurd (cc)

abbrev AreLow : List Place → Type 0
AreLow [] = Unit {0}
AreLow (p ∷ ps) = (p ≢ In (register 10)) × (p ≢ r11) × AreLow ps

low_for : (args : List Arg) (ps : List Place) → AreLow ps → AreLow (places_for args ps)
low_for [] ps l = tt
low_for (a ∷ args) [] l = tt
low_for (a ∷ args) (p ∷ ps) l = (l.0, l.1, low_for args ps l.2)

args_low : AreLow arg_places
args_low = (in_other 7 10 (omega arith), in_other 7 11 (omega arith), (in_other 6 10 (omega arith), in_other 6 11 (omega arith), (in_other 2 10 (omega arith), in_other 2 11 (omega arith), (in_other 1 10 (omega arith), in_other 1 11 (omega arith), (in_other 8 10 (omega arith), in_other 8 11 (omega arith), (in_other 9 10 (omega arith), in_other 9 11 (omega arith), tt))))))

-- the arguments stand where they stood
places_later : (addresses : ℕ → ℕ) (ps : List Place) (vs : List Value) (s t : State) → AreLow ps → ((q : Place) → q ≢ In (register 10) → q ≢ r11 → value t q ≡ value s q) → PlacesStand addresses s ps vs → PlacesStand addresses t ps vs
places_later addresses [] [] s t l h g = tt
places_later addresses [] (x ∷ xs) s t l h g = g
places_later addresses (p ∷ ps) [] s t l h g = g
places_later addresses (p ∷ ps) (x ∷ xs) s t l h g = (h p l.0 l.1 ∙ g.0, places_later addresses ps xs s t l.2 h g.1)

function_asks : (c : Setting) (k f row p : ℕ) (args : List Arg) (env : Opt) (vs : List Value) (ys : List Slot) (s : State) → ((b : ℕ) → MayHold (c.at b)) → All (IsWordArg c.table) (Func f ∷ args) → IsAskedAs c k access.Call None (Func f ∷ args) (descr.Call row) → PrebuiltsStand c.table env.world.objects → ((b : BoxId) (x : Value) → value_in env.boxes b ≡ Some x → IsPart (length env.world.objects) x) → ((b : BoxId) (y : Value) → IsUsedIn args b → value_in env.boxes b ≡ Some y → value s (c.at b.number) ≡ word_in env y) → opt_values env args ≡ Some vs → IsFit s → s.at ≡ 0x40000000 + p → Reach p (puts (function_code c k f args row) ++ ys) s ys (IsReady c k access.Call (Func f ∷ args) (descr.Call row) env s)
function_asks c k f row p args env vs ys s m w here pre part found e fit at =
    let c2 = for_call c k args in
    let low : f < 2 ^ 19 = w 0 (Func f) (omega arith) in
    let w2 : All (IsWordArg c.table) args = λ n x lt. w (suc n) x (omega (arith, lt)) in
    let n = entry_number f in
    let l1 = Put (MovImm (register 11) (pos (entry_of n))) ∷ ys in
    let rest = MovImm (register 10) (pos row) ∷ MovImm (register 11) (pos (entry_of n)) ∷ [] in
    let small : row < 2 ^ 31 = here.2 in
    chain p (jump_code c2 args) rest ys s (places_filled p c2 env args vs (puts rest ++ ys) s m pre w2 here.1 here.0 found e fit at) (λ t q et (ht, bt).
    then q (Put (MovImm (register 10) (pos row)) ∷ l1) l1 ys t (imm_goes q (register 10) (pos row) l1 t bt.fit write_10 (record { sfits = omega arith }) et) (λ u q2 eu hu.
    weaker q2 l1 ys u (λ y g. (
      g.0,
      subst (λ (o : Option (List Value)). AsksAs c.table access.Call (Func f ∷ args) (descr.Call row) o env.world y) (sym e) (
        g.1 (In (register 10)) (in_other 10 11 (omega arith)) ∙ hu.0,
        places_later (address_of env.world.objects) (places_for args arg_places) vs t y (low_for args arg_places args_low) (λ x n10 n11. g.1 x n11 ∙ hu.1.others x n10) ht,
        args_are_parts c env args vs pre w2 here.1 part e,
      ),
    ))
    (enters n q2 ys s u (omega (arith, low)) hu.2 (λ x l n15. hu.1.others x l.not_10 ∙ bt.others x l.not_11 n15 (none_of args arg_places x (no_arg x l)))
    (record { arena = hu.1.arena ∙ bt.same.arena; loads = hu.1.loads ∙ bt.same.loads; stores = hu.1.stores ∙ bt.same.stores }) eu)))

-- ---- the call

-- what is ready at the call of an operation
abbrev ReadyFor : Setting → OptOp → Opt → State → State → Type 0
ReadyFor c op env s u = Ready (entry_by op) s u × Asks c.table op env u

at_call : (c : Setting) (told : Told) (op : OptOp) (ops : List OptOp) (env : Opt) (q : ℕ) (s u : State) → Holds c told (op ∷ ops) env s → 1 ≤ entry_by op → entry_by op < 2 ^ 20 → ReadyFor c op env s u → u.at ≡ 0x40000000 + q → AtCall c op env q u
at_call c told op ops env q s u h some few (r, asks) at = record {
  asks = asks;
  fit = r.fit;
  arena = subst (Stands c.table env.world.objects) (sym r.same.arena) h.arena;
  prebuilts = h.prebuilts;
  calls = λ code short stands. calls_host code q (entry_by op) 11 u short stands r.fit some few r.entry at;
}

no_more : (s u : State) → SameArena s u → Counts 0 0 s u
no_more s u g = record { loads_more = (let n : u.loads ≡ s.loads = g.loads in omega arith); stores_more = (let n : u.stores ≡ s.stores = g.stores in omega arith) }

abbrev stops_at : (c : Setting) (told : Told) (op : OptOp) (ops : List OptOp) (env : Opt) (xs rest : List Slot) (p : ℕ) (s : State) → Holds c told (op ∷ ops) env s → 1 ≤ entry_by op → entry_by op < 2 ^ 20 → Reach p xs s (Put (CallReg (register 11)) ∷ rest) (ReadyFor c op env s) → Stops (Counts 0 0 s) c op env xs p s
stops_at c told op ops env xs rest p s h some few f = record {
  q = f.q;
  u = f.t;
  rest = rest;
  path = record { path = f.path; few = f.few; comes = f.comes; front = f.front; split = f.split; place = f.place; at = f.at };
  there = at_call c told op ops env f.q s f.t h some few f.holds f.at;
  holds = no_more s f.t f.holds.0.same;
}

-- ---- behind the call

-- what the host gave is at its place
record Back (d : Place) (z : ℤ) (arena : Arena) (s t : State) : Type 0 where
  given : value t d ≡ z
  others : (q : Place) → Survives q → q ≢ r15 → q ≢ d → value t q ≡ value s q
  arena_is : t.arena ≡ arena
  same : Counts 0 0 s t
  fit : IsFit t

comes_back : (op : OptOp) (d : Place) (more : List Slot) (q : ℕ) (s u : State) (z lost : ℤ) (arena : Arena) → CanWrite d → Ready (entry_by op) s u → IsWord z → IsWord lost → q + call_size < 2 ^ 32 → Reach (q + call_size) (puts (put_code d (register 0)) ++ more) (returned op q u z lost arena) more (Back d z arena s)
comes_back op d more q s u z lost arena wd r fz fl small =
    let a = host_answers (entry_of (entry_by op)) (0x40000000 + (q + call_size)) z lost arena u r.fit (omega arith) fz fl in
    let x = returned op q u z lost arena in
    weaker (q + call_size) (puts (put_code d (register 0)) ++ more) more x (λ t h. record {
      given = h.0 ∙ a.given_is;
      others = λ i l n15 nd. h.1.others i nd ∙ a.kept i l ∙ r.kept i l n15;
      arena_is = h.1.arena ∙ a.arena;
      same = record { loads_more = (let n : t.loads ≡ s.loads = h.1.loads ∙ a.loads ∙ r.same.loads in omega arith); stores_more = (let n : t.stores ≡ s.stores = h.1.stores ∙ a.stores ∙ r.same.stores in omega arith) };
      fit = h.2;
    }) (put_goes (q + call_size) d (register 0) more x a.fit wd a.at)

not_named : (r b : BoxId) → b ≢ r → IsNamed (r ∷ []) b → ⊥
not_named r b ne (inl e) = ne (sym e)
not_named r b ne (inr h) = h

result_back : (c : Setting) (told : Told) (operation : OpCode) (form : Access) (r : BoxId) (args : List Arg) (d : Descr) (ops : List OptOp) (env : Opt) (x : Value) (w : World) (more : List Slot) (q : ℕ) (s u : State)
    → ((b : ℕ) → MayHold (c.at b)) → IsApart c.at (opt.Plain operation (Some r) args d) ops → IsSafe c.at (opt.Plain operation (Some r) args d) ops → access_form operation ≡ Some form → is_host_call form ≡ true → Holds c told (opt.Plain operation (Some r) args d ∷ ops) env s → Ready (entry_by (opt.Plain operation (Some r) args d)) s u
    → Resumes (Counts 0 0 s) c (opt.Plain operation (Some r) args d) ops env (with_result r x w env) (puts (put_code (c.at r.number) (register 0)) ++ more) more q u
result_back c told operation form r args d ops env x w more q s u m apart safe e calls h ready z lost arena fl small left =
    let op = opt.Plain operation (Some r) args d in
    let has : value_in (bind r x env.boxes) r ≡ Some x = bound_same r x env.boxes in
    let calling : IsTrue (is_calling op) = is_true (is_call operation || is_allocation operation) (calling_as operation form e ∙ calls) in
    weaker (q + call_size) (puts (put_code (c.at r.number) (register 0)) ++ more) more (returned op q u z lost arena) (λ t b. (
      subst (λ (y : Told). Holds c y ops (with_result r x w env) t) (sym (tells_nothing operation form (Some r) args d ops e))
          (object_result_holds c told operation r args d ops env x w s t h left.kept b.fit (subst (Stands c.table w.objects) (sym b.arena_is) left.stands) (left.part x has) (b.given ∙ left.result x has)
          (λ i y ne. b.others (c.at i.number) (safe calling i (not_named r i ne) y) (m i.number).not_r15 (apart r i (inl refl) y ne))),
      b.same,
    )) (comes_back op (c.at r.number) more q s u z lost arena (may_write (c.at r.number) (m r.number)) ready left.word fl small)

store_back : (c : Setting) (told : Told) (operation : OpCode) (form : Access) (args : List Arg) (d : Descr) (ops : List OptOp) (env : Opt) (w : World) (more : List Slot) (q : ℕ) (s u : State)
    → ((b : ℕ) → MayHold (c.at b)) → IsSafe c.at (opt.Plain operation None args d) ops → access_form operation ≡ Some form → is_host_call form ≡ true → Holds c told (opt.Plain operation None args d ∷ ops) env s → Ready (entry_by (opt.Plain operation None args d)) s u
    → Resumes (Counts 0 0 s) c (opt.Plain operation None args d) ops env (record env { world = w }) (puts (put_code (In (register 0)) (register 0)) ++ more) more q u
store_back c told operation form args d ops env w more q s u m safe e calls h ready z lost arena fl small left =
    let op = opt.Plain operation None args d in
    let calling : IsTrue (is_calling op) = is_true (is_call operation || is_allocation operation) (calling_as operation form e ∙ calls) in
    weaker (q + call_size) (puts (put_code (In (register 0)) (register 0)) ++ more) more (returned op q u z lost arena) (λ t b. (
      subst (λ (y : Told). Holds c y ops (record env { world = w }) t) (sym (tells_nothing operation form None args d ops e))
          (object_store_holds c told operation args d ops env w s t h left.kept b.fit (subst (Stands c.table w.objects) (sym b.arena_is) left.stands)
          (λ i y. let l = safe calling i (λ n. n) y in b.others (c.at i.number) l (m i.number).not_r15 l.not_0)),
      b.same,
    )) (comes_back op (In (register 0)) more q s u z lost arena write_0 ready left.word fl small)

-- ---- an operation that calls

calls_by : (c : Setting) (told : Told) (operation : OpCode) (form : Access) (r : Option BoxId) (args : List Arg) (d : Descr) (ops : List OptOp) (env : Opt) (xs more : List Slot) (p : ℕ) (s : State) (done : Done)
    → ((b : ℕ) → MayHold (c.at b)) → IsApart c.at (opt.Plain operation r args d) ops → IsSafe c.at (opt.Plain operation r args d) ops → access_form operation ≡ Some form → is_host_call form ≡ true → Holds c told (opt.Plain operation r args d ∷ ops) env s
    → 1 ≤ entry_by (opt.Plain operation r args d) → entry_by (opt.Plain operation r args d) < 2 ^ 20
    → Reach p xs s (Put (CallReg (register 11)) ∷ (puts (put_code (result_place c r) (register 0)) ++ more)) (ReadyFor c (opt.Plain operation r args d) env s)
    → CallsBy (Counts 0 0 s) c (opt.Plain operation r args d) ops xs more p s env (opt_plain r env done)
calls_by c told operation form (Some r) args d ops env xs more p s (Gave (Some x) w) m apart safe e calls h some few f =
    (stops_at c told (opt.Plain operation (Some r) args d) ops env xs (puts (put_code (c.at r.number) (register 0)) ++ more) p s h some few f, result_back c told operation form r args d ops env x w more f.q s f.t m apart safe e calls h f.holds.0)
calls_by c told operation form (Some r) args d ops env xs more p s (Gave None w) m apart safe e calls h some few f = tt
calls_by c told operation form None args d ops env xs more p s (Gave x w) m apart safe e calls h some few f =
    (stops_at c told (opt.Plain operation None args d) ops env xs (puts (put_code (In (register 0)) (register 0)) ++ more) p s h some few f, store_back c told operation form args d ops env w more f.q s f.t m safe e calls h f.holds.0)
calls_by c told operation form r args d ops env xs more p s Bad m apart safe e calls h some few f = tt
calls_by c told operation form r args d ops env xs more p s (Waited w) m apart safe e calls h some few f = stops_at c told (opt.Plain operation r args d) ops env xs (puts (put_code (result_place c r) (register 0)) ++ more) p s h some few f
calls_by c told operation form r args d ops env xs more p s (Misfitted w) m apart safe e calls h some few f = stops_at c told (opt.Plain operation r args d) ops env xs (puts (put_code (result_place c r) (register 0)) ++ more) p s h some few f

-- by the form, as the operation says it
ready_as : (c : Setting) (k : ℕ) (operation : OpCode) (form : Access) (r : Option BoxId) (args : List Arg) (d : Descr) (env : Opt) (s u : State) → access_form operation ≡ Some form → IsReady c k form args d env s u → ReadyFor c (opt.Plain operation r args d) env s u
ready_as c k operation form r args d env s u e g = subst (λ (o : Option Access). Ready (entry_if o args) s u × AsksIf c.table o args d (opt_values env args) env.world u) (sym e) g

entry_some : (operation : OpCode) (form : Access) (args : List Arg) (n : ℕ) → access_form operation ≡ Some form → entry_as form args ≡ n → entry_if (access_form operation) args ≡ n
entry_some operation form args n e g = ap (λ (o : Option Access). entry_if o args) e ∙ g

abbrev Does : Access → Setting → ℕ → OpCode → Option BoxId → List Arg → Descr → List OptOp → Opt → List Slot → ℕ → State → Option (List Value) → Type 0
Does form c k operation r args d ops env more p s vs =
    CallsBy (Counts 0 0 s) c (opt.Plain operation r args d) ops (puts (access_code c k form r args d ++ call_code (result_place c r)) ++ more) more p s env (opt_perform c.table operation r args d env vs)

does_by : (form : Access) (c : Setting) (k n : ℕ) (told : Told) (operation : OpCode) (r : Option BoxId) (args : List Arg) (d : Descr) (ops : List OptOp) (env : Opt) (more : List Slot) (p : ℕ) (s : State) (vs : List Value)
    → ((b : ℕ) → MayHold (c.at b)) → IsApart c.at (opt.Plain operation r args d) ops → IsSafe c.at (opt.Plain operation r args d) ops → access_form operation ≡ Some form → is_host_call form ≡ true → Holds c told (opt.Plain operation r args d ∷ ops) env s
    → entry_as form args ≡ n → 1 ≤ n → n < 2 ^ 20
    → Reach p (puts (access_code c k form r args d) ++ (Put (CallReg (register 11)) ∷ (puts (put_code (result_place c r) (register 0)) ++ more))) s (Put (CallReg (register 11)) ∷ (puts (put_code (result_place c r) (register 0)) ++ more)) (IsReady c k form args d env s)
    → Does form c k operation r args d ops env more p s (Some vs)
does_by form c k n told operation r args d ops env more p s vs m apart safe e calls h en some few f =
    let op = opt.Plain operation r args d in
    let xs = access_code c k form r args d in
    let ys = call_code (result_place c r) in
    let z = entry_some operation form args n e en in
    subst (λ (done : Done). CallsBy (Counts 0 0 s) c op ops (puts (xs ++ ys) ++ more) more p s env (opt_plain r env done)) (sym (performs_as operation form c.table d args vs env.world e))
    (subst (λ (l : List Slot). CallsBy (Counts 0 0 s) c op ops l more p s env (opt_plain r env (done_of form c.table d args vs env.world))) (sym (puts-append xs ys more))
    (calls_by c told operation form r args d ops env (puts xs ++ (puts ys ++ more)) more p s (done_of form c.table d args vs env.world) m apart safe e calls h (subst (λ (i : ℕ). 1 ≤ i) (sym z) some) (subst (λ (i : ℕ). i < 2 ^ 20) (sym z) few)
    (weaker p (puts xs ++ (puts ys ++ more)) (puts ys ++ more) s (λ u g. ready_as c k operation form r args d env s u e g) f)))

-- what is bad is wrong
bad_does : (form : Access) (c : Setting) (k : ℕ) (operation : OpCode) (r : Option BoxId) (args : List Arg) (d : Descr) (ops : List OptOp) (env : Opt) (more : List Slot) (p : ℕ) (s : State) (vs : List Value) → access_form operation ≡ Some form → done_of form c.table d args vs env.world ≡ Bad → Does form c k operation r args d ops env more p s (Some vs)
bad_does form c k operation r args d ops env more p s vs e bad =
    subst (λ (done : Done). CallsBy (Counts 0 0 s) c (opt.Plain operation r args d) ops (puts (access_code c k form r args d ++ call_code (result_place c r)) ++ more) more p s env (opt_plain r env done)) (sym (performs_as operation form c.table d args vs env.world e ∙ bad)) tt

-- an array of a length that is no word isn't made
array_does : (c : Setting) (k : ℕ) (told : Told) (operation : OpCode) (r : BoxId) (a : Arg) (x : ℕ) (ops : List OptOp) (env : Opt) (more : List Slot) (p : ℕ) (s : State) (y : Value)
    → TableServes c.table → ((b : ℕ) → MayHold (c.at b)) → IsApart c.at (opt.Plain operation (Some r) (a ∷ []) (descr.Array x)) ops → IsSafe c.at (opt.Plain operation (Some r) (a ∷ []) (descr.Array x)) ops → access_form operation ≡ Some access.Array → IsWordArg c.table a → Holds c told (opt.Plain operation (Some r) (a ∷ []) (descr.Array x) ∷ ops) env s → s.at ≡ 0x40000000 + p → arg_value (value_in env.boxes) a ≡ Some y → opt_values env (a ∷ []) ≡ Some (y ∷ [])
    → Does access.Array c k operation (Some r) (a ∷ []) (descr.Array x) ops env more p s (Some (y ∷ []))
array_does c k told operation r a x ops env more p s (v.Int z) table m apart safe e wa h at fy all =
    does_by access.Array c k 2 told operation (Some r) (a ∷ []) (descr.Array x) ops env more p s (v.Int z ∷ []) m apart safe e refl h refl (omega arith) (omega arith)
    (array_asks c k x p a env z _ s table m wa (arg_is c env s a (v.Int z) h.prebuilts wa (λ q i u j. h.boxes q i (inl (inl (inl u))) j) fy) all h.fit at)
array_does c k told operation r a x ops env more p s v.Null table m apart safe e wa h at fy all = bad_does access.Array c k operation (Some r) (a ∷ []) (descr.Array x) ops env more p s (v.Null ∷ []) e refl
array_does c k told operation r a x ops env more p s (v.Obj n) table m apart safe e wa h at fy all = bad_does access.Array c k operation (Some r) (a ∷ []) (descr.Array x) ops env more p s (v.Obj n ∷ []) e refl

calls_as : (c : Setting) (k : ℕ) (told : Told) (operation : OpCode) (form : Access) (r : Option BoxId) (args : List Arg) (d : Descr) (ops : List OptOp) (env : Opt) (more : List Slot) (p : ℕ) (s : State)
    → TableServes c.table → ((b : ℕ) → MayHold (c.at b)) → IsApart c.at (opt.Plain operation r args d) ops → IsSafe c.at (opt.Plain operation r args d) ops → HasWords c.table (opt.Plain operation r args d) → access_form operation ≡ Some form → IsAskedAs c k form r args d → Holds c told (opt.Plain operation r args d ∷ ops) env s → s.at ≡ 0x40000000 + p
    → Does form c k operation r args d ops env more p s (opt_values env args)
calls_as c k told operation access.Structure (Some r) [] (descr.Size n) ops env more p s table m apart safe w e here h at =
    does_by access.Structure c k 1 told operation (Some r) [] (descr.Size n) ops env more p s [] m apart safe e refl h refl (omega arith) (omega arith) (structure_asks c k n p r env _ s table h.fit at)
calls_as c k told operation access.Array (Some r) (a ∷ []) (descr.Array x) ops env more p s table m apart safe w e here h at = which (opt_values env (a ∷ [])) refl
  where
    which : (o : Option (List Value)) → opt_values env (a ∷ []) ≡ o → Does access.Array c k operation (Some r) (a ∷ []) (descr.Array x) ops env more p s o
    which None q = tt
    which (Some vs) q =
        let f = first_is (arg_value (value_in env.boxes) a) (opt_values env []) vs (sym (first_value (arg_value (value_in env.boxes)) a [] here.1) ∙ q) in
        let none_more : [] ≡ f.1 = (let z : Some [] ≡ Some f.1 = f.3 in cc) in
        let is : f.0 ∷ [] ≡ vs = ap (λ (l : List Value). f.0 ∷ l) none_more ∙ f.4 in
        subst (λ (l : List Value). Does access.Array c k operation (Some r) (a ∷ []) (descr.Array x) ops env more p s (Some l)) is
        (array_does c k told operation r a x ops env more p s f.0 table m apart safe e (w 0 a (omega arith)) h at f.2 (q ∙ ap Some (sym is)))
calls_as c k told operation access.Call r (Func f ∷ args) (descr.Call row) ops env more p s table m apart safe w e here h at = which (opt_values env args) refl
  where
    which : (o : Option (List Value)) → opt_values env args ≡ o → Does access.Call c k operation r (Func f ∷ args) (descr.Call row) ops env more p s o
    which None q = tt
    which (Some vs) q =
        let low : f < 2 ^ 19 = w 0 (Func f) (omega arith) in
        does_by access.Call c k (entry_number f) told operation r (Func f ∷ args) (descr.Call row) ops env more p s vs m apart safe e refl h refl (omega arith) (omega (arith, low))
        (function_asks c k f row p args env vs _ s m w here h.prebuilts h.values (λ b y u g. h.boxes b y (inl (inl (inr u))) g) q h.fit at)
calls_as c k told operation _ r args d ops env more p s table m apart safe w e here h at = absurd here

asked_calls : (c : Setting) (k : ℕ) (form : Access) (r : Option BoxId) (args : List Arg) (d : Descr) → IsAskedAs c k form r args d → is_host_call form ≡ true
asked_calls c k access.Structure r args d h = refl
asked_calls c k access.Array r args d h = refl
asked_calls c k access.Call r args d h = refl
asked_calls c k _ r args d h = absurd h

plain_calls : (c : Setting) (k : ℕ) (told : Told) (operation : OpCode) (r : Option BoxId) (args : List Arg) (d : Descr) (ops : List OptOp) (env : Opt) (more : List Slot) (p : ℕ) (s : State)
    → TableServes c.table → ((b : ℕ) → MayHold (c.at b)) → IsApart c.at (opt.Plain operation r args d) ops → IsSafe c.at (opt.Plain operation r args d) ops → HasWords c.table (opt.Plain operation r args d) → (o : Option Access) → access_form operation ≡ o → IsAskedIf c k o r args d → Holds c told (opt.Plain operation r args d ∷ ops) env s → s.at ≡ 0x40000000 + p
    → CallsBy (Counts 0 0 s) c (opt.Plain operation r args d) ops (puts (plain_code c k operation o r args d ops) ++ more) more p s env (opt_step c.table (opt.Plain operation r args d) env)
plain_calls c k told operation r args d ops env more p s table m apart safe w None e here h at = absurd here
plain_calls c k told operation r args d ops env more p s table m apart safe w (Some form) e here h at =
    subst (λ (b : Bool). CallsBy (Counts 0 0 s) c (opt.Plain operation r args d) ops (puts (access_code c k form r args d ++ call_if b (result_place c r)) ++ more) more p s env (opt_step c.table (opt.Plain operation r args d) env)) (sym (asked_calls c k form r args d here))
    (calls_as c k told operation form r args d ops env more p s table m apart safe w e here h at)

pub calls_follow : CallsFollow
calls_follow c k told (opt.Plain operation r args d) ops env more p s table m apart safe w here h at =
    plain_calls c k told operation r args d ops env more p s table m apart safe w (access_form operation) refl here h at
calls_follow c k told (opt.Guard operation args n snap) ops env more p s table m apart safe w here h at = absurd here
calls_follow c k told (opt.Exit n snap) ops env more p s table m apart safe w here h at = absurd here
calls_follow c k told (opt.Jump to args) ops env more p s table m apart safe w here h at = absurd here
calls_follow c k told (opt.Finish a) ops env more p s table m apart safe w here h at = absurd here

-- ---- what the host leaves of an allocation

pub allocations_leave : AllocationsStand → AllocationsAddress → TakenIsThere → AllocationsLeave
allocations_leave stand address total t shape n objects arena st there room =
    let few : length arena.words ≤ 2 ^ 21 = st.few in
    let all : arena.taken ≤ 8 * length arena.words = total t objects arena st in
    let o = zeroed_of t shape n in
    let places = address t objects arena o st in
    let many : length (objects ++ o ∷ []) ≡ length objects + 1 = length_push objects o in
    record {
      word = record { sfits = omega arith };
      stands = stand t objects arena shape n st there room;
      kept = record { more = omega arith; addresses = λ m lt. places.1 m lt };
      result = λ x e. ap pos (sym places.0) ∙ ap (word_of (address_of (objects ++ o ∷ []))) (same_Some (v.Obj (length objects)) x e);
      part = λ x e. subst (IsPart (length (objects ++ o ∷ []))) (same_Some (v.Obj (length objects)) x e) (omega arith);
    }
