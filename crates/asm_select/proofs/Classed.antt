-- The code of a guard on a class goes on where the guard passes, and comes to its jump where it fails.
use Rattle.std.proofs.Common.{◌≡◌, ℕ, ◌+◌, ◌≤◌, Bool, true, false, not, List, [], ◌∷◌, ◌++◌, append_assoc, length, Option, Some, None, refl, sym, ◌∙◌, subst, inl, arith}
use Rattle.std.specs.List.{All}
use Rattle.trace_ops.specs.declared.code.OpCode.{OpCode}
use Rattle.trace_ops.specs.declared.code.OpCode.TheVariants as code
use Rattle.trace_ops.specs.declared.table.ShapeOf.TheVariants.{Size}
use Rattle.trace_ops.specs.declared.trace.Arg.{Arg}
use Rattle.trace_ops.specs.declared.trace.Arg.TheVariants.{Class}
use Rattle.trace_ops.specs.declared.piece.OptOp.{OptOp}
use Rattle.trace_ops.specs.declared.piece.OptOp.TheVariants as opt
use Rattle.trace_ops.specs.declared.piece.Snapshot.{Snapshot}
use Rattle.trace_meaning.specs.declared.value.Value.{Value}
use Rattle.trace_meaning.specs.declared.value.Value.TheVariants as v
use Rattle.trace_meaning.specs.Boxes.{value_in, arg_value, has_value}
use Rattle.trace_meaning.specs.Passing.{has_class, has_class_or_null}
use Rattle.trace_meaning.specs.Legs.{Fails}
use Rattle.opt_meaning.specs.Step.{Opt, opt_values, opt_guard, opt_leave, opt_test, resume_args}
use Rattle.arena_objects.specs.Layout.{header_of}
use Rattle.x64_encode.specs.declared.instr.Cc.TheVariants as cc_is
use Rattle.x64_encode.specs.declared.instr.Instr.{Instr}
use Rattle.target_base.specs.declared.place.Place.{Place}
use Rattle.target_base.specs.declared.place.Place.TheVariants.{In, Word}
use Rattle.x64_encode.specs.Form.{spelling}
use Rattle.x64_machine.specs.State.{State}
use Rattle.asm_select.specs.declared.told.Told.{Told}
use Rattle.asm_select.specs.declared.told.Told.TheVariants as tell
use Rattle.asm_select.specs.Slots.{Slot, Leave, puts}
use Rattle.asm_select.specs.Valued.{r11, value, MayHold, AllBut}
use Rattle.asm_select.specs.Chosen.{Setting, operand_of, class_code, nonnull_class_code}
use Rattle.asm_select.specs.Reached.{Reach, Holds, IsTold, IsWordArg, SameArena}
use Rattle.asm_select.specs.Kept.{Leaves}
use Rattle.asm_select.specs.Classes.{Decides, headers_loaded}
use Rattle.asm_select.specs.Ended.{FollowsBy, Counts, TableServes, headers_of}
use Rattle.asm_select.proofs.Steps.{then, weaker}
use Rattle.asm_select.proofs.Memory.{fit_same}
use Rattle.asm_select.proofs.Values.{arg_is, arg_part, first_value}
use Rattle.asm_select.proofs.Guards.{falls, passed, failed}
use Rattle.asm_select.proofs.Accessed.{by_one, reads_arg, is_before}
use Rattle.asm_select.proofs.Classing.{tests_class, tests_nonnull_class}
use Rattle.asm_select.proofs.Relying.{Relied}

-- ---- a state of which only the count of loads is another

abbrev counted_on : ℕ → State → State
counted_on k s = record s { loads = s.loads + k }

value_counted : (k : ℕ) (s : State) (q : Place) → value (counted_on k s) q ≡ value s q
value_counted k s (In r) = refl
value_counted k s (Word j) = refl

told_counted : (told : Told) (env : Opt) (k : ℕ) (s : State) → IsTold told env s → IsTold told env (counted_on k s)
told_counted tell.Nothing env k s h = h
told_counted (tell.Whether c r) env k s h = h
told_counted tell.Overflow env k s h = h

holds_counted : (c : Setting) (told : Told) (ops : List OptOp) (env : Opt) (k : ℕ) (s : State) → Holds c told ops env s → Holds c told ops env (counted_on k s)
holds_counted c told ops env k s h = record {
  fit = fit_same s (counted_on k s) refl refl h.fit;
  arena = h.arena;
  prebuilts = h.prebuilts;
  values = h.values;
  boxes = λ b x u e. value_counted k s (c.at b.number) ∙ h.boxes b x u e;
  flags = told_counted told env k s h.flags;
}

all_but : (k : ℕ) (s t : State) → Leaves r11 s.arena k 0 s t → AllBut r11 (counted_on k s) t
all_but k s t l = record {
  others = λ q a b d. l.others q a b d ∙ sym (value_counted k s q);
  arena = l.arena;
  loads = l.loads;
  stores = (let n : t.stores ≡ s.stores + 0 = l.stores in omega arith);
}

more_loads : (k : ℕ) (s t : State) → SameArena (counted_on k s) t → Counts k 0 s t
more_loads k s t g = record { loads_more = g.loads; stores_more = (let n : t.stores ≡ s.stores = g.stores in omega arith) }

class_ends : (c : Setting) (k m : ℕ) (told : Told) (pass : Bool) (operation : OpCode) (args : List Arg) (n : ℕ) (snap : Snapshot) (ops : List OptOp) (env : Opt) (xs more : List Slot) (p : ℕ) (s : State) → ((b : ℕ) → MayHold (c.at b)) → Holds c told (opt.Guard operation args n snap ∷ ops) env s → Reach p xs s (Leave cc_is.Ne k ∷ more) (Decides cc_is.Ne (not pass) m s) → FollowsBy (Counts m 0 s) c k (opt.Guard operation args n snap) ops xs more p s (opt_guard n snap env (Some pass))
class_ends c k m told true operation args n snap ops env xs more p s may h go =
    let h2 = holds_counted c told (opt.Guard operation args n snap ∷ ops) env m s h in
    then p xs (Leave cc_is.Ne k ∷ more) more s go (λ t q at g. falls q cc_is.Ne k more t (λ u. Holds c tell.Nothing ops env u × Counts m 0 s u) at g.decided (λ next.
    let r = passed c told operation args n snap ops env (counted_on m s) t may h2 (all_but m s t g.leaves) g.leaves.fit next in (r.0, more_loads m s _ r.1)))
class_ends c k m told false operation args n snap ops env xs more p s may h go = which (opt_values env (resume_args snap)) refl
  where
    which : (o : Option (List Value)) → opt_values env (resume_args snap) ≡ o → FollowsBy (Counts m 0 s) c k (opt.Guard operation args n snap) ops xs more p s (opt_leave (Fails n) env o)
    which None e = tt
    which (Some vs) e = (
      Leave cc_is.Ne k,
      more,
      weaker p xs (Leave cc_is.Ne k ∷ more) s
          (λ t g.
          let r = failed c k told cc_is.Ne operation args n snap ops env vs (counted_on m s) t may (holds_counted c told (opt.Guard operation args n snap ∷ ops) env m s h) e (all_but m s t g.leaves) g.leaves.fit g.decided in
          (r.0, more_loads m s t r.1))
          go,
    )

abbrev Does : Setting → ℕ → OpCode → Arg → ℕ → ℕ → Snapshot → List OptOp → Opt → List Instr → List Slot → ℕ → State → Option (List Value) → Type 0
Does c k operation a size n snap ops env xs more p s vs =
    FollowsBy (Counts (headers_of operation vs) 0 s) c k (opt.Guard operation (a ∷ Class size ∷ []) n snap) ops ((puts xs ++ Leave cc_is.Ne k ∷ []) ++ more) more p s (opt_test operation (a ∷ Class size ∷ []) n snap env vs)

class_does : Relied → (c : Setting) (k : ℕ) (told : Told) (a : Arg) (size n : ℕ) (snap : Snapshot) (ops : List OptOp) (env : Opt) (more : List Slot) (p : ℕ) (s : State) (y : Value) → TableServes c.table → ((b : ℕ) → MayHold (c.at b)) → All (IsWordArg c.table) (a ∷ Class size ∷ []) → Holds c told (opt.Guard code.GuardClass (a ∷ Class size ∷ []) n snap ∷ ops) env s → s.at ≡ 0x40000000 + p → arg_value (value_in env.boxes) a ≡ Some y → Does c k code.GuardClass a size n snap ops env (class_code (operand_of c a) (header_of c.table (Size size))) more p s (Some (y ∷ []))
class_does relied c k told a size n snap ops env more p s y table may words h at fy = which (has_class env.world.objects (Some size) (y ∷ [])) refl
  where
    which : (o : Option Bool) → has_class env.world.objects (Some size) (y ∷ []) ≡ o → FollowsBy (Counts 1 0 s) c k (opt.Guard code.GuardClass (a ∷ Class size ∷ []) n snap) ops ((puts (class_code (operand_of c a) (header_of c.table (Size size))) ++ Leave cc_is.Ne k ∷ []) ++ more) more p s (opt_guard n snap env o)
    which None e = tt
    which (Some pass) e =
        let xs = puts (class_code (operand_of c a) (header_of c.table (Size size))) in
        let wa = words 0 a (omega arith) in
        subst (λ (l : List Slot). FollowsBy (Counts 1 0 s) c k (opt.Guard code.GuardClass (a ∷ Class size ∷ []) n snap) ops l more p s (opt_guard n snap env (Some pass))) (sym (append_assoc xs (Leave cc_is.Ne k ∷ []) more))
        (class_ends c k 1 told pass code.GuardClass (a ∷ Class size ∷ []) n snap ops env (xs ++ (Leave cc_is.Ne k ∷ more)) more p s may h
        (tests_class relied c.table size y pass env.world p (operand_of c a) (Leave cc_is.Ne k ∷ more) s e (words 1 (Class size) (omega arith)).1 table.few (is_before c told (opt.Guard code.GuardClass (a ∷ Class size ∷ []) n snap ∷ ops) env p s table h at) (reads_arg c a may wa)
        (arg_is c env s a y h.prebuilts wa (λ q i u j. h.boxes q i (inl (inl (inl u))) j) fy)))

loaded_is : (y : Value) → headers_of code.GuardNonnullClass (Some (y ∷ [])) ≡ headers_loaded y
loaded_is (v.Int z) = refl
loaded_is v.Null = refl
loaded_is (v.Obj n) = refl

nonnull_class_does : Relied → ((i : Instr) → length (spelling i) ≤ 16) → (c : Setting) (k : ℕ) (told : Told) (a : Arg) (size n : ℕ) (snap : Snapshot) (ops : List OptOp) (env : Opt) (more : List Slot) (p : ℕ) (s : State) (y : Value) → TableServes c.table → ((b : ℕ) → MayHold (c.at b)) → All (IsWordArg c.table) (a ∷ Class size ∷ []) → Holds c told (opt.Guard code.GuardNonnullClass (a ∷ Class size ∷ []) n snap ∷ ops) env s → s.at ≡ 0x40000000 + p → arg_value (value_in env.boxes) a ≡ Some y → Does c k code.GuardNonnullClass a size n snap ops env (nonnull_class_code (operand_of c a) (header_of c.table (Size size))) more p s (Some (y ∷ []))
nonnull_class_does relied short c k told a size n snap ops env more p s y table may words h at fy = subst (λ (z : ℕ). FollowsBy (Counts z 0 s) c k (opt.Guard code.GuardNonnullClass (a ∷ Class size ∷ []) n snap) ops ((puts (nonnull_class_code (operand_of c a) (header_of c.table (Size size))) ++ Leave cc_is.Ne k ∷ []) ++ more) more p s (opt_guard n snap env (has_class_or_null env.world.objects (Some size) (y ∷ [])))) (sym (loaded_is y)) (which (has_class_or_null env.world.objects (Some size) (y ∷ [])) refl)
  where
    which : (o : Option Bool) → has_class_or_null env.world.objects (Some size) (y ∷ []) ≡ o → FollowsBy (Counts (headers_loaded y) 0 s) c k (opt.Guard code.GuardNonnullClass (a ∷ Class size ∷ []) n snap) ops ((puts (nonnull_class_code (operand_of c a) (header_of c.table (Size size))) ++ Leave cc_is.Ne k ∷ []) ++ more) more p s (opt_guard n snap env o)
    which None e = tt
    which (Some pass) e =
        let xs = puts (nonnull_class_code (operand_of c a) (header_of c.table (Size size))) in
        let wa = words 0 a (omega arith) in
        subst (λ (l : List Slot). FollowsBy (Counts (headers_loaded y) 0 s) c k (opt.Guard code.GuardNonnullClass (a ∷ Class size ∷ []) n snap) ops l more p s (opt_guard n snap env (Some pass))) (sym (append_assoc xs (Leave cc_is.Ne k ∷ []) more))
        (class_ends c k (headers_loaded y) told pass code.GuardNonnullClass (a ∷ Class size ∷ []) n snap ops env (xs ++ (Leave cc_is.Ne k ∷ more)) more p s may h
        (tests_nonnull_class relied short c.table size y pass env.world p (operand_of c a) (Leave cc_is.Ne k ∷ more) s e (words 1 (Class size) (omega arith)).1 table.few (is_before c told (opt.Guard code.GuardNonnullClass (a ∷ Class size ∷ []) n snap ∷ ops) env p s table h at) (reads_arg c a may wa)
        (arg_is c env s a y h.prebuilts wa (λ q i u j. h.boxes q i (inl (inl (inl u))) j) fy) (arg_part c.table env a y h.prebuilts wa h.values fy)))

-- a class adds no value
with_class : (env : Opt) (a : Arg) (size : ℕ) → has_value a ≡ true → opt_values env (a ∷ Class size ∷ []) ≡ opt_values env (a ∷ [])
with_class env a size va = first_value (arg_value (value_in env.boxes)) a (Class size ∷ []) va ∙ sym (first_value (arg_value (value_in env.boxes)) a [] va)

pub class_follows : Relied → (c : Setting) (k : ℕ) (told : Told) (a : Arg) (size n : ℕ) (snap : Snapshot) (ops : List OptOp) (env : Opt) (more : List Slot) (p : ℕ) (s : State) → TableServes c.table → ((b : ℕ) → MayHold (c.at b)) → All (IsWordArg c.table) (a ∷ Class size ∷ []) → has_value a ≡ true → Holds c told (opt.Guard code.GuardClass (a ∷ Class size ∷ []) n snap ∷ ops) env s → s.at ≡ 0x40000000 + p → Does c k code.GuardClass a size n snap ops env (class_code (operand_of c a) (header_of c.table (Size size))) more p s (opt_values env (a ∷ Class size ∷ []))
class_follows relied c k told a size n snap ops env more p s table may words va h at =
    let xs = class_code (operand_of c a) (header_of c.table (Size size)) in
    subst (Does c k code.GuardClass a size n snap ops env xs more p s) (sym (with_class env a size va))
    (by_one env a va (Does c k code.GuardClass a size n snap ops env xs more p s) tt (λ y fy. class_does relied c k told a size n snap ops env more p s y table may words h at fy))

pub nonnull_class_follows : Relied → ((i : Instr) → length (spelling i) ≤ 16) → (c : Setting) (k : ℕ) (told : Told) (a : Arg) (size n : ℕ) (snap : Snapshot) (ops : List OptOp) (env : Opt) (more : List Slot) (p : ℕ) (s : State) → TableServes c.table → ((b : ℕ) → MayHold (c.at b)) → All (IsWordArg c.table) (a ∷ Class size ∷ []) → has_value a ≡ true → Holds c told (opt.Guard code.GuardNonnullClass (a ∷ Class size ∷ []) n snap ∷ ops) env s → s.at ≡ 0x40000000 + p → Does c k code.GuardNonnullClass a size n snap ops env (nonnull_class_code (operand_of c a) (header_of c.table (Size size))) more p s (opt_values env (a ∷ Class size ∷ []))
nonnull_class_follows relied short c k told a size n snap ops env more p s table may words va h at =
    let xs = nonnull_class_code (operand_of c a) (header_of c.table (Size size)) in
    subst (Does c k code.GuardNonnullClass a size n snap ops env xs more p s) (sym (with_class env a size va))
    (by_one env a va (Does c k code.GuardNonnullClass a size n snap ops env xs more p s) tt (λ y fy. nonnull_class_does relied short c k told a size n snap ops env more p s y table may words h at fy))
