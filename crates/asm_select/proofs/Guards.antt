-- The code of a guard goes on where the guard passes, and comes to its jump where it fails.
use Rattle.std.proofs.Common.{◌≡◌, ◌⊎◌, ℕ, ◌+◌, Bool, true, false, not, cond, List, [], ◌∷◌, ◌++◌, map, append_assoc, length, Option, Some, None, IsTrue, refl, sym, ap, ◌∙◌, subst, inl, inr, arith, ℤ, pos}
use Rattle.std.specs.Prelude.{◌&&◌, ◌||◌}
use Rattle.std.specs.Ordering.{int_eq}
use Rattle.std.specs.List.{All, flat_map, list_any}
use Rattle.trace_ops.specs.declared.code.OpCode.{OpCode}
use Rattle.trace_ops.specs.declared.code.OpCode.TheVariants as code
use Rattle.trace_ops.specs.declared.trace.BoxId.{BoxId}
use Rattle.trace_ops.specs.declared.trace.Arg.{Arg}
use Rattle.trace_ops.specs.declared.trace.Arg.TheVariants.{Of}
use Rattle.trace_ops.specs.declared.piece.OptOp.{OptOp}
use Rattle.trace_ops.specs.declared.piece.OptOp.TheVariants as opt
use Rattle.trace_ops.specs.declared.piece.Snapshot.{Snapshot}
use Rattle.trace_ops.specs.Words.{IsWord, truth}
use Rattle.trace_ops.specs.Classes.{reads_overflow}
use Rattle.trace_ops.specs.Parts.{boxes_of, with_boxes, parts_of}
use Rattle.trace_meaning.specs.declared.value.Value.{Value}
use Rattle.trace_meaning.specs.declared.value.Value.TheVariants as v
use Rattle.trace_meaning.specs.declared.value.Object.{Object}
use Rattle.trace_meaning.specs.Values.{same_reference}
use Rattle.trace_meaning.specs.Boxes.{same_box, value_in, arg_value, all_values, has_value, with_first}
use Rattle.trace_meaning.specs.Passing.{passes, is_zero, is_zero_word, are_equal, is_null, negated}
use Rattle.trace_meaning.specs.Legs.{Turn, Fails, On}
use Rattle.opt_meaning.specs.Step.{Opt, opt_values, opt_guard, opt_leave, opt_test, resume_args}
use Rattle.arena_objects.specs.Layout.{address_of, word_of}
use Rattle.arena_objects.specs.Standing.{IsPart, Stands}
use Rattle.x64_encode.specs.declared.instr.Cc.{Cc}
use Rattle.x64_encode.specs.declared.instr.Cc.TheVariants as cc_is
use Rattle.x64_encode.specs.declared.instr.Instr.{Instr}
use Rattle.x64_encode.specs.declared.instr.Instr.TheVariants.{Jcc}
use Rattle.target_base.specs.declared.place.Place.{Place}
use Rattle.target_base.specs.declared.place.Place.TheVariants.{In, Word}
use Rattle.x64_machine.specs.declared.state.Flags.{Flags}
use Rattle.x64_machine.specs.Words.{holds, of_one, both, same}
use Rattle.x64_machine.specs.Step.{MachineStep}
use Rattle.x64_machine.specs.State.{State, jumps_where}
use Rattle.asm_select.specs.declared.told.Told.{Told}
use Rattle.asm_select.specs.declared.told.Told.TheVariants as tell
use Rattle.asm_select.specs.Slots.{Slot, Leave, puts}
use Rattle.asm_select.specs.Valued.{r11, value, MayHold, IsFit, AllBut}
use Rattle.asm_select.specs.Chosen.{Setting, Where, operand_of, opposite, tells, is_truth_guard, test_code, compare_code, leave_false, leave_true}
use Rattle.asm_select.specs.Reached.{Reach, IsNamed, IsUsedIn, Holds, IsTold, IsWordArg, SameArena, word_in, read, unless_told}
use Rattle.asm_select.specs.Ended.{AreParts, BoxesStand, IsLeft, IsGuardHere, AreGuarded}
use Rattle.asm_select.proofs.Followed.{FollowsBy, Follows}
use Rattle.asm_select.proofs.Steps.{stands_step, moved, stay, then, weaker}
use Rattle.asm_select.proofs.Effects.{same_arena, but_same}
use Rattle.asm_select.proofs.Micro.{read_fits}
use Rattle.asm_select.proofs.Naming.{named_left}
use Rattle.asm_select.proofs.Arms.{Tells, compare_tells, test_tells}
use Rattle.asm_select.proofs.Flagging.{holds_ne, tests_zero, tests_some}
use Rattle.asm_select.proofs.Values.{AreTold, are_told, references_tell, pos_eq, not_zero, same_is, arg_reads, arg_is, arg_part, one_value, two_values}
use Rattle.asm_select.proofs.Relying.{Relied}

-- ---- opposite conditions

not_not : (b : Bool) → not (not b) ≡ b
not_not true = refl
not_not false = refl

bool_is : (a b : Bool) → Some a ≡ Some b → a ≡ b
bool_is a b e = cc

un_not : (o : Option Bool) (x : Bool) → of_one not o ≡ Some x → o ≡ Some (not x)
un_not None x e = absurd (cc)
un_not (Some b) x e = ap Some (sym (not_not b) ∙ ap not (bool_is (not b) x e))

both_not : (f g : Bool → Bool → Bool) (p q : Option Bool) (x : Bool) → ((a b : Bool) → g a b ≡ not (f a b)) → both f p q ≡ Some x → both g p q ≡ Some (not x)
both_not f g None q x h e = absurd (cc)
both_not f g (Some a) None x h e = absurd (cc)
both_not f g (Some a) (Some b) x h e = ap Some (h a b ∙ ap not (bool_is (f a b) x e))

greater : (z q : Bool) → (not z && q) ≡ not (z || not q)
greater true q = refl
greater false q = sym (not_not q)

nested : (z s o : Option Bool) (x : Bool) → both (λ a l. a || l) z (both (λ a b. not (same a b)) s o) ≡ Some x → both (λ a g. not a && g) z (both same s o) ≡ Some (not x)
nested None s o x e = absurd (cc)
nested (Some a) None o x e = absurd (cc)
nested (Some a) (Some b) None x e = absurd (cc)
nested (Some a) (Some b) (Some d) x e = ap Some (greater a (same b d) ∙ ap not (bool_is (a || not (same b d)) x e))

lesser : (z q : Bool) → (z || not q) ≡ not (not z && q)
lesser true q = refl
lesser false q = refl

nested_back : (z s o : Option Bool) (x : Bool) → both (λ a g. not a && g) z (both same s o) ≡ Some x → both (λ a l. a || l) z (both (λ a b. not (same a b)) s o) ≡ Some (not x)
nested_back None s o x e = absurd (cc)
nested_back (Some a) None o x e = absurd (cc)
nested_back (Some a) (Some b) None x e = absurd (cc)
nested_back (Some a) (Some b) (Some d) x e = ap Some (lesser a (same b d) ∙ ap not (bool_is (not a && same b d) x e))

pub opposite_tells : (c : Cc) (f : Flags) (x : Bool) → holds c f ≡ Some x → holds (opposite c) f ≡ Some (not x)
opposite_tells cc_is.O f x e = ap (of_one not) e
opposite_tells cc_is.No f x e = un_not f.of x e
opposite_tells cc_is.B f x e = ap (of_one not) e
opposite_tells cc_is.Ae f x e = un_not f.cf x e
opposite_tells cc_is.E f x e = ap (of_one not) e
opposite_tells cc_is.Ne f x e = un_not f.zf x e
opposite_tells cc_is.Be f x e = both_not (λ a b. a || b) (λ a b. not (a || b)) f.cf f.zf x (λ a b. refl) e
opposite_tells cc_is.A f x e = both_not (λ a b. not (a || b)) (λ a b. a || b) f.cf f.zf x (λ a b. sym (not_not (a || b))) e
opposite_tells cc_is.S f x e = ap (of_one not) e
opposite_tells cc_is.Ns f x e = un_not f.sf x e
opposite_tells cc_is.L f x e = both_not (λ a b. not (same a b)) same f.sf f.of x (λ a b. sym (not_not (same a b))) e
opposite_tells cc_is.Ge f x e = both_not same (λ a b. not (same a b)) f.sf f.of x (λ a b. refl) e
opposite_tells cc_is.Le f x e = nested f.zf f.sf f.of x e
opposite_tells cc_is.G f x e = nested_back f.zf f.sf f.of x e

-- ---- a jump that isn't taken

pub value_moved : (next : ℕ) (s : State) (q : Place) → value (moved next s) q ≡ value s q
value_moved next s (In r) = refl
value_moved next s (Word k) = refl

pub fit_moved : (next : ℕ) (s : State) → IsFit s → IsFit (moved next s)
fit_moved next s f = record {
  regs = f.regs;
  frame = f.frame;
  words = λ q. subst IsWord (sym (value_moved next s q)) (f.words q);
  base = f.base;
  stack = f.stack;
  top = f.top;
}

pub falls : (q : ℕ) (c : Cc) (k : ℕ) (ys : List Slot) (s : State) (R : State → Type 0) → s.at ≡ 0x40000000 + q → holds c s.flags ≡ Some false → ((next : ℕ) → R (moved next s)) → Reach q (Leave c k ∷ ys) s ys R
falls q c k ys s R at h r =
    let next = 0x40000000 + (q + 6) in record {
      path = moved next s ∷ [];
      few = omega arith;
      t = moved next s;
      q = q + 6;
      comes = λ by code small l. (subst (MachineStep code s) (ap (λ (o : Option Bool). jumps_where o next (by k) s) h) (stands_step code q (Jcc c (by k)) s small at l.0), refl);
      front = Leave c k ∷ [];
      split = refl;
      place = omega arith;
      at = refl;
      holds = r next;
    }

-- ---- snapshots

pub first_is : (o : Option Value) (q : Option (List Value)) (vs : List Value) → with_first o q ≡ Some vs → (x : Value) × (xs : List Value) × (o ≡ Some x) × (q ≡ Some xs) × (x ∷ xs ≡ vs)
first_is None q vs e = absurd (cc)
first_is (Some x) None vs e = absurd (cc)
first_is (Some x) (Some xs) vs e = (x, xs, refl, refl, cc)

pub boxes_stand : (at : Where) (env : Opt) (t : State) (bs : List BoxId) (vs : List Value) → ((b : BoxId) (x : Value) → IsNamed bs b → value_in env.boxes b ≡ Some x → value t (at b.number) ≡ word_in env x) → opt_values env (map Of bs) ≡ Some vs → BoxesStand at (address_of env.world.objects) t bs vs
boxes_stand at env t [] [] h e = tt
boxes_stand at env t [] (x ∷ xs) h e = absurd (cc)
boxes_stand at env t (b ∷ bs) vs h e =
    let f = first_is (value_in env.boxes b) (opt_values env (map Of bs)) vs e in
    subst (λ (l : List Value). BoxesStand at (address_of env.world.objects) t (b ∷ bs) l) f.4 (h b f.0 (inl refl) f.2, boxes_stand at env t bs f.1 (λ c x n g. h c x (inr n) g) f.3)

further : (x y b : BoxId) (ys : List BoxId) → IsNamed ys b ⊎ (x ≡ b) → IsNamed (y ∷ ys) b ⊎ (x ≡ b)
further x y b ys (inl g) = inl (inr g)
further x y b ys (inr g) = inr g

behind : (x b : BoxId) (l : List BoxId) → IsNamed (l ++ x ∷ []) b → IsNamed l b ⊎ (x ≡ b)
behind x b [] (inl e) = inr e
behind x b [] (inr e) = absurd e
behind x b (y ∷ ys) (inl e) = inl (inl e)
behind x b (y ∷ ys) (inr e) = further x y b ys (behind x b ys e)

pub boxes_are_parts : (env : Opt) (bs : List BoxId) (vs : List Value) → ((b : BoxId) (x : Value) → value_in env.boxes b ≡ Some x → IsPart (length env.world.objects) x) → opt_values env (map Of bs) ≡ Some vs → AreParts (length env.world.objects) vs
boxes_are_parts env [] [] h e = tt
boxes_are_parts env [] (x ∷ xs) h e = absurd (cc)
boxes_are_parts env (b ∷ bs) vs h e =
    let f = first_is (value_in env.boxes b) (opt_values env (map Of bs)) vs e in
    subst (AreParts (length env.world.objects)) f.4 (h b f.0 f.2, boxes_are_parts env bs f.1 h f.3)

kept_named : (kept bs : List BoxId) (b : BoxId) → IsNamed (with_boxes kept bs) b → IsNamed kept b ⊎ IsNamed bs b
unfolding with_boxes
kept_named kept [] b h = inl h
kept_named kept (x ∷ xs) b h = which (list_any (same_box x) kept) (kept_named (cond (list_any (same_box x) kept) kept (kept ++ x ∷ [])) xs b h)
  where
    put : IsNamed kept b ⊎ (x ≡ b) → IsNamed kept b ⊎ IsNamed (x ∷ xs) b
    put (inl g) = inl g
    put (inr g) = inr (inl g)

    which : (q : Bool) → IsNamed (cond q kept (kept ++ x ∷ [])) b ⊎ IsNamed xs b → IsNamed kept b ⊎ IsNamed (x ∷ xs) b
    which q (inr g) = inr (inr g)
    which true (inl g) = inl g
    which false (inl g) = put (behind x b kept g)

pub part_named : (snap : Snapshot) (b : BoxId) → IsNamed (parts_of snap) b → IsNamed (boxes_of snap) b
part_named snap b h = which (kept_named [] (boxes_of snap) b h)
  where
    which : IsNamed [] b ⊎ IsNamed (boxes_of snap) b → IsNamed (boxes_of snap) b
    which (inl g) = absurd g
    which (inr g) = g

-- ---- behind a guard, and at its jump

int_of : (a b : ℤ) → Some (v.Int a) ≡ Some (v.Int b) → a ≡ b
int_of a b e = cc

pub passed : (c : Setting) (told : Told) (operation : OpCode) (args : List Arg) (n : ℕ) (snap : Snapshot) (ops : List OptOp) (env : Opt) (s t : State) → ((b : ℕ) → MayHold (c.at b)) → Holds c told (opt.Guard operation args n snap ∷ ops) env s → AllBut r11 s t → IsFit t → (next : ℕ) → Holds c tell.Nothing ops env (moved next t) × SameArena s (moved next t)
passed c told operation args n snap ops env s t m h b f next = (
  record {
    fit = fit_moved next t f;
    arena = subst (Stands c.table env.world.objects) (sym b.arena) h.arena;
    prebuilts = h.prebuilts;
    values = h.values;
    boxes = λ q x u e. value_moved next t (c.at q.number) ∙ b.others (c.at q.number) (m q.number).not_r11 (m q.number).not_r15 (m q.number).not_r11 ∙ h.boxes q x (inr (λ z. z, u)) e;
    flags = tt;
  },
  record { arena = b.arena; loads = b.loads; stores = b.stores },
)

pub failed : (c : Setting) (k : ℕ) (told : Told) (cond : Cc) (operation : OpCode) (args : List Arg) (n : ℕ) (snap : Snapshot) (ops : List OptOp) (env : Opt) (vs : List Value) (s t : State) → ((b : ℕ) → MayHold (c.at b)) → Holds c told (opt.Guard operation args n snap ∷ ops) env s → opt_values env (resume_args snap) ≡ Some vs → AllBut r11 s t → IsFit t → holds cond t.flags ≡ Some true → IsLeft c k (opt.Guard operation args n snap) (Leave cond k) (Fails n vs env.world) t × SameArena s t
failed c k told cond operation args n snap ops env vs s t m h e b f y = (
  record {
    taken = (refl, y);
    fit = f;
    arena = subst (Stands c.table env.world.objects) (sym b.arena) h.arena;
    prebuilts = h.prebuilts;
    parts = boxes_are_parts env (parts_of snap) vs h.values e;
    with = (refl, boxes_stand c.at env t (parts_of snap) vs (λ q x u g. b.others (c.at q.number) (m q.number).not_r11 (m q.number).not_r15 (m q.number).not_r11 ∙ h.boxes q x (inl (inr (shown q (part_named snap q u)))) g) e);
  },
  same_arena r11 s t b,
)
  where
    shown : (q : BoxId) → IsNamed (boxes_of snap) q → IsNamed (flat_map boxes_of (snap ∷ [])) q
    shown q g = named_left (boxes_of snap) [] q g

pub guard_ends : (c : Setting) (k : ℕ) (told : Told) (cond : Cc) (pass : Bool) (operation : OpCode) (args : List Arg) (n : ℕ) (snap : Snapshot) (ops : List OptOp) (env : Opt) (xs more : List Slot) (p : ℕ) (s : State) → ((b : ℕ) → MayHold (c.at b)) → Holds c told (opt.Guard operation args n snap ∷ ops) env s → Reach p xs s (Leave cond k ∷ more) (Tells cond (not pass) s) → FollowsBy c k (opt.Guard operation args n snap) ops xs more p s (opt_guard n snap env (Some pass))
guard_ends c k told cond true operation args n snap ops env xs more p s m h go =
    then p xs (Leave cond k ∷ more) more s go (λ t q at g. falls q cond k more t (λ u. Holds c tell.Nothing ops env u × SameArena s u) at g.2 (passed c told operation args n snap ops env s t m h g.0 g.1))
guard_ends c k told cond false operation args n snap ops env xs more p s m h go = which (opt_values env (resume_args snap)) refl
  where
    which : (o : Option (List Value)) → opt_values env (resume_args snap) ≡ o → FollowsBy c k (opt.Guard operation args n snap) ops xs more p s (opt_leave (Fails n) env o)
    which None e = tt
    which (Some vs) e = (Leave cond k, more, weaker p xs (Leave cond k ∷ more) s (λ t g. failed c k told cond operation args n snap ops env vs s t m h e g.0 g.1 g.2) go)

-- ---- reading a guard's arguments

unless_false : (o : Option Cc) (a : Arg) → unless_told false o a ≡ a ∷ []
unless_false None a = refl
unless_false (Some c) a = refl

unless_none : (x : Bool) (a : Arg) → unless_told x None a ≡ a ∷ []
unless_none true a = refl
unless_none false a = refl

-- an argument that is read is at its place
read_one : (c : Setting) (told : Told) (operation : OpCode) (a : Arg) (n : ℕ) (snap : Snapshot) (ops : List OptOp) (env : Opt) (s : State) (y : Value) → Holds c told (opt.Guard operation (a ∷ []) n snap ∷ ops) env s → IsWordArg c.table a → unless_told (is_truth_guard operation) (tells told a) a ≡ a ∷ [] → arg_value (value_in env.boxes) a ≡ Some y → read s (operand_of c a) ≡ word_in env y
read_one c told operation a n snap ops env s y h wa e fy =
    arg_is c env s a y h.prebuilts wa (λ b x u f. h.boxes b x (inl (inl (subst (λ (l : List Arg). IsUsedIn l b) (sym e) (inl u)))) f) fy

-- ---- guards on truth

cc_of : (a b : Cc) → Some a ≡ Some b → a ≡ b
cc_of a b e = cc

none_cc : (b : Cc) → None ≡ Some b → ⊥
none_cc b e = cc

abbrev TellsValue : Arg → Cc → Opt → State → Type 0
TellsValue a k env s = (x : Bool) × (holds k s.flags ≡ Some x) × (arg_value (value_in env.boxes) a ≡ Some (v.Int (truth x)))

told_box : (c k : Cc) (r b : BoxId) (q : Bool) (env : Opt) (s : State) → same_box r b ≡ q → cond q (Some c) None ≡ Some k → IsTold (tell.Whether c r) env s → TellsValue (Of b) k env s
told_box c k r b true env s q i (x, f, g) = (x, subst (λ (j : Cc). holds j s.flags ≡ Some x) (cc_of c k i) f, ap (value_in env.boxes) (sym (same_is r b q)) ∙ g)
told_box c k r b false env s q i h = absurd (none_cc k i)

told_value : (told : Told) (a : Arg) (k : Cc) (env : Opt) (s : State) → tells told a ≡ Some k → IsTold told env s → TellsValue a k env s
told_value tell.Nothing a k env s e h = absurd (none_cc k e)
told_value tell.Overflow a k env s e h = absurd (none_cc k e)
told_value (tell.Whether c r) (Of b) k env s e h = told_box c k r b (same_box r b) env s refl e h
told_value (tell.Whether c r) _ k env s e h = absurd (none_cc k e)

zero_truth : (x : Bool) → is_zero (truth x) ≡ not x
zero_truth true = pos_eq 1 0
zero_truth false = pos_eq 0 0

stays : (p : ℕ) (xs : List Slot) (s : State) (k : Cc) (x : Bool) → IsFit s → holds k s.flags ≡ Some x → s.at ≡ 0x40000000 + p → Reach p xs s xs (Tells k x s)
stays p xs s k x f h at = stay p xs s (Tells k x s) at (but_same r11 s, f, h)

tells_is : (p : ℕ) (xs ys : List Slot) (s : State) (k : Cc) (x y : Bool) → x ≡ y → Reach p xs s ys (Tells k x s) → Reach p xs s ys (Tells k y s)
tells_is p xs ys s k x y e f = subst (λ (z : Bool). Reach p xs s ys (Tells k z s)) e f

joined : (c : Setting) (k : ℕ) (op : OptOp) (ops : List OptOp) (xs : List Instr) (cond : Cc) (more : List Slot) (p : ℕ) (s : State) (turn : Turn Opt) → FollowsBy c k op ops (puts xs ++ (Leave cond k ∷ more)) more p s turn → FollowsBy c k op ops ((puts xs ++ Leave cond k ∷ []) ++ more) more p s turn
joined c k op ops xs cond more p s turn f = subst (λ (l : List Slot). FollowsBy c k op ops l more p s turn) (sym (append_assoc (puts xs) (Leave cond k ∷ []) more)) f

-- leaves where the argument's word is 0, or where it isn't
tests_false : (c : Setting) (k : ℕ) (told : Told) (pass : Bool) (operation : OpCode) (a : Arg) (n : ℕ) (snap : Snapshot) (ops : List OptOp) (env : Opt) (more : List Slot) (p : ℕ) (s : State) → ((b : ℕ) → MayHold (c.at b)) → IsWordArg c.table a → Holds c told (opt.Guard operation (a ∷ []) n snap ∷ ops) env s → s.at ≡ 0x40000000 + p → int_eq (read s (operand_of c a)) (pos 0) ≡ not pass → FollowsBy c k (opt.Guard operation (a ∷ []) n snap) ops (leave_false c k None a ++ more) more p s (opt_guard n snap env (Some pass))
tests_false c k told pass operation a n snap ops env more p s m wa h at e =
    let xs = test_code (operand_of c a) in
    joined c k (opt.Guard operation (a ∷ []) n snap) ops xs cc_is.E more p s (opt_guard n snap env (Some pass))
    (guard_ends c k told cc_is.E pass operation (a ∷ []) n snap ops env (puts xs ++ (Leave cc_is.E k ∷ more)) more p s m h
    (test_tells p cc_is.E (operand_of c a) (not pass) (Leave cc_is.E k ∷ more) s (arg_reads c a m wa) h.fit (tests_zero (read s (operand_of c a)) (read_fits s (operand_of c a) (arg_reads c a m wa) h.fit) ∙ ap Some e) at))

tests_true : (c : Setting) (k : ℕ) (told : Told) (pass : Bool) (operation : OpCode) (a : Arg) (n : ℕ) (snap : Snapshot) (ops : List OptOp) (env : Opt) (more : List Slot) (p : ℕ) (s : State) → ((b : ℕ) → MayHold (c.at b)) → IsWordArg c.table a → Holds c told (opt.Guard operation (a ∷ []) n snap ∷ ops) env s → s.at ≡ 0x40000000 + p → int_eq (read s (operand_of c a)) (pos 0) ≡ pass → FollowsBy c k (opt.Guard operation (a ∷ []) n snap) ops (leave_true c k None a ++ more) more p s (opt_guard n snap env (Some pass))
tests_true c k told pass operation a n snap ops env more p s m wa h at e =
    let xs = test_code (operand_of c a) in
    joined c k (opt.Guard operation (a ∷ []) n snap) ops xs cc_is.Ne more p s (opt_guard n snap env (Some pass))
    (guard_ends c k told cc_is.Ne pass operation (a ∷ []) n snap ops env (puts xs ++ (Leave cc_is.Ne k ∷ more)) more p s m h
    (test_tells p cc_is.Ne (operand_of c a) (not pass) (Leave cc_is.Ne k ∷ more) s (arg_reads c a m wa) h.fit (tests_some (read s (operand_of c a)) (read_fits s (operand_of c a) (arg_reads c a m wa) h.fit) ∙ ap (λ (b : Bool). Some (not b)) e) at))

-- guard_true, where its argument has this value
true_does : (c : Setting) (k : ℕ) (told : Told) (a : Arg) (n : ℕ) (snap : Snapshot) (ops : List OptOp) (env : Opt) (more : List Slot) (p : ℕ) (s : State) (y : Value) → ((b : ℕ) → MayHold (c.at b)) → IsWordArg c.table a → Holds c told (opt.Guard code.GuardTrue (a ∷ []) n snap ∷ ops) env s → s.at ≡ 0x40000000 + p → arg_value (value_in env.boxes) a ≡ Some y → FollowsBy c k (opt.Guard code.GuardTrue (a ∷ []) n snap) ops (leave_false c k (tells told a) a ++ more) more p s (opt_guard n snap env (negated (is_zero_word (y ∷ []))))
true_does c k told a n snap ops env more p s v.Null m wa h at fy = tt
true_does c k told a n snap ops env more p s (v.Obj i) m wa h at fy = tt
true_does c k told a n snap ops env more p s (v.Int z) m wa h at fy = which (tells told a) refl
  where
    which : (o : Option Cc) → tells told a ≡ o → FollowsBy c k (opt.Guard code.GuardTrue (a ∷ []) n snap) ops (leave_false c k o a ++ more) more p s (opt_guard n snap env (Some (not (is_zero z))))
    which None e =
        let g = read_one c told code.GuardTrue a n snap ops env s (v.Int z) h wa (ap (λ (o : Option Cc). unless_told true o a) e) fy in
        tests_false c k told (not (is_zero z)) code.GuardTrue a n snap ops env more p s m wa h at (ap (λ (i : ℤ). int_eq i (pos 0)) g ∙ sym (not_not (is_zero z)))
    which (Some j) e =
        let f = told_value told a j env s e h.flags in
        let z_is : z ≡ truth f.0 = int_of z (truth f.0) (sym fy ∙ f.2) in
        guard_ends c k told (opposite j) (not (is_zero z)) code.GuardTrue (a ∷ []) n snap ops env (Leave (opposite j) k ∷ more) more p s m h
        (tells_is p (Leave (opposite j) k ∷ more) (Leave (opposite j) k ∷ more) s (opposite j) (not f.0) (not (not (is_zero z)))
        (sym (zero_truth f.0) ∙ ap is_zero (sym z_is) ∙ sym (not_not (is_zero z)))
        (stays p (Leave (opposite j) k ∷ more) s (opposite j) (not f.0) h.fit (opposite_tells j s.flags f.0 f.1) at))

false_does : (c : Setting) (k : ℕ) (told : Told) (a : Arg) (n : ℕ) (snap : Snapshot) (ops : List OptOp) (env : Opt) (more : List Slot) (p : ℕ) (s : State) (y : Value) → ((b : ℕ) → MayHold (c.at b)) → IsWordArg c.table a → Holds c told (opt.Guard code.GuardFalse (a ∷ []) n snap ∷ ops) env s → s.at ≡ 0x40000000 + p → arg_value (value_in env.boxes) a ≡ Some y → FollowsBy c k (opt.Guard code.GuardFalse (a ∷ []) n snap) ops (leave_true c k (tells told a) a ++ more) more p s (opt_guard n snap env (is_zero_word (y ∷ [])))
false_does c k told a n snap ops env more p s v.Null m wa h at fy = tt
false_does c k told a n snap ops env more p s (v.Obj i) m wa h at fy = tt
false_does c k told a n snap ops env more p s (v.Int z) m wa h at fy = which (tells told a) refl
  where
    which : (o : Option Cc) → tells told a ≡ o → FollowsBy c k (opt.Guard code.GuardFalse (a ∷ []) n snap) ops (leave_true c k o a ++ more) more p s (opt_guard n snap env (Some (is_zero z)))
    which None e =
        let g = read_one c told code.GuardFalse a n snap ops env s (v.Int z) h wa (ap (λ (o : Option Cc). unless_told true o a) e) fy in
        tests_true c k told (is_zero z) code.GuardFalse a n snap ops env more p s m wa h at (ap (λ (i : ℤ). int_eq i (pos 0)) g)
    which (Some j) e =
        let f = told_value told a j env s e h.flags in
        let z_is : z ≡ truth f.0 = int_of z (truth f.0) (sym fy ∙ f.2) in
        guard_ends c k told j (is_zero z) code.GuardFalse (a ∷ []) n snap ops env (Leave j k ∷ more) more p s m h
        (tells_is p (Leave j k ∷ more) (Leave j k ∷ more) s j f.0 (not (is_zero z))
        (sym (not_not f.0) ∙ ap not (sym (zero_truth f.0) ∙ ap is_zero (sym z_is)))
        (stays p (Leave j k ∷ more) s j f.0 h.fit f.1 at))

-- ---- guards on null

word_null : (objects : List Object) (y : Value) (b : Bool) → AreTold objects → IsPart (length objects) y → is_null (y ∷ []) ≡ Some b → int_eq (word_of (address_of objects) y) (pos 0) ≡ b
word_null objects (v.Int z) b t py e = absurd (cc)
word_null objects v.Null b t py e = pos_eq 0 0 ∙ bool_is true b e
word_null objects (v.Obj n) b t py e = not_zero (address_of objects n) (t.high n py) ∙ bool_is false b e

nonnull_does : (c : Setting) (k : ℕ) (told : Told) (a : Arg) (n : ℕ) (snap : Snapshot) (ops : List OptOp) (env : Opt) (more : List Slot) (p : ℕ) (s : State) (y : Value) → Relied → ((b : ℕ) → MayHold (c.at b)) → IsWordArg c.table a → Holds c told (opt.Guard code.GuardNonnull (a ∷ []) n snap ∷ ops) env s → s.at ≡ 0x40000000 + p → arg_value (value_in env.boxes) a ≡ Some y → FollowsBy c k (opt.Guard code.GuardNonnull (a ∷ []) n snap) ops (leave_false c k None a ++ more) more p s (opt_guard n snap env (negated (is_null (y ∷ []))))
nonnull_does c k told a n snap ops env more p s y relied m wa h at fy = which (is_null (y ∷ [])) refl
  where
    which : (o : Option Bool) → is_null (y ∷ []) ≡ o → FollowsBy c k (opt.Guard code.GuardNonnull (a ∷ []) n snap) ops (leave_false c k None a ++ more) more p s (opt_guard n snap env (negated o))
    which None e = tt
    which (Some b) e =
        let g = read_one c told code.GuardNonnull a n snap ops env s y h wa (unless_false (tells told a) a) fy in
        let w = word_null env.world.objects y b (are_told relied.apart c.table env.world.objects s.arena h.arena) (arg_part c.table env a y h.prebuilts wa h.values fy) e in
        tests_false c k told (not b) code.GuardNonnull a n snap ops env more p s m wa h at (ap (λ (i : ℤ). int_eq i (pos 0)) g ∙ w ∙ sym (not_not b))

isnull_does : (c : Setting) (k : ℕ) (told : Told) (a : Arg) (n : ℕ) (snap : Snapshot) (ops : List OptOp) (env : Opt) (more : List Slot) (p : ℕ) (s : State) (y : Value) → Relied → ((b : ℕ) → MayHold (c.at b)) → IsWordArg c.table a → Holds c told (opt.Guard code.GuardIsnull (a ∷ []) n snap ∷ ops) env s → s.at ≡ 0x40000000 + p → arg_value (value_in env.boxes) a ≡ Some y → FollowsBy c k (opt.Guard code.GuardIsnull (a ∷ []) n snap) ops (leave_true c k None a ++ more) more p s (opt_guard n snap env (is_null (y ∷ [])))
isnull_does c k told a n snap ops env more p s y relied m wa h at fy = which (is_null (y ∷ [])) refl
  where
    which : (o : Option Bool) → is_null (y ∷ []) ≡ o → FollowsBy c k (opt.Guard code.GuardIsnull (a ∷ []) n snap) ops (leave_true c k None a ++ more) more p s (opt_guard n snap env o)
    which None e = tt
    which (Some b) e =
        let g = read_one c told code.GuardIsnull a n snap ops env s y h wa (unless_false (tells told a) a) fy in
        let w = word_null env.world.objects y b (are_told relied.apart c.table env.world.objects s.arena h.arena) (arg_part c.table env a y h.prebuilts wa h.values fy) e in
        tests_true c k told b code.GuardIsnull a n snap ops env more p s m wa h at (ap (λ (i : ℤ). int_eq i (pos 0)) g ∙ w)

-- ---- guards on a value

words_equal : (objects : List Object) (y z : Value) (b : Bool) → AreTold objects → IsPart (length objects) y → IsPart (length objects) z → are_equal (y ∷ z ∷ []) ≡ Some b → int_eq (word_of (address_of objects) y) (word_of (address_of objects) z) ≡ b
words_equal objects (v.Int i) (v.Int j) b t py pz e = bool_is (int_eq i j) b e
words_equal objects (v.Int i) v.Null b t py pz e = absurd (cc)
words_equal objects (v.Int i) (v.Obj n) b t py pz e = absurd (cc)
words_equal objects v.Null (v.Int j) b t py pz e = absurd (cc)
words_equal objects v.Null v.Null b t py pz e = references_tell objects v.Null v.Null t py pz refl refl ∙ bool_is (same_reference v.Null v.Null) b e
words_equal objects v.Null (v.Obj n) b t py pz e = references_tell objects v.Null (v.Obj n) t py pz refl refl ∙ bool_is (same_reference v.Null (v.Obj n)) b e
words_equal objects (v.Obj i) (v.Int j) b t py pz e = absurd (cc)
words_equal objects (v.Obj i) v.Null b t py pz e = references_tell objects (v.Obj i) v.Null t py pz refl refl ∙ bool_is (same_reference (v.Obj i) v.Null) b e
words_equal objects (v.Obj i) (v.Obj n) b t py pz e = references_tell objects (v.Obj i) (v.Obj n) t py pz refl refl ∙ bool_is (same_reference (v.Obj i) (v.Obj n)) b e

value_does : (c : Setting) (k : ℕ) (told : Told) (a b : Arg) (n : ℕ) (snap : Snapshot) (ops : List OptOp) (env : Opt) (more : List Slot) (p : ℕ) (s : State) (y z : Value) → Relied → ((b : ℕ) → MayHold (c.at b)) → IsWordArg c.table a → IsWordArg c.table b → Holds c told (opt.Guard code.GuardValue (a ∷ b ∷ []) n snap ∷ ops) env s → s.at ≡ 0x40000000 + p → arg_value (value_in env.boxes) a ≡ Some y → arg_value (value_in env.boxes) b ≡ Some z → FollowsBy c k (opt.Guard code.GuardValue (a ∷ b ∷ []) n snap) ops ((puts (compare_code (operand_of c a) (operand_of c b)) ++ Leave cc_is.Ne k ∷ []) ++ more) more p s (opt_guard n snap env (are_equal (y ∷ z ∷ [])))
value_does c k told a b n snap ops env more p s y z relied m wa wb h at fy fz = which (are_equal (y ∷ z ∷ [])) refl
  where
    which : (o : Option Bool) → are_equal (y ∷ z ∷ []) ≡ o → FollowsBy c k (opt.Guard code.GuardValue (a ∷ b ∷ []) n snap) ops ((puts (compare_code (operand_of c a) (operand_of c b)) ++ Leave cc_is.Ne k ∷ []) ++ more) more p s (opt_guard n snap env o)
    which None e = tt
    which (Some x) e =
        let oa = operand_of c a in
        let ob = operand_of c b in
        let ra = arg_reads c a m wa in
        let rb = arg_reads c b m wb in
        let ga = arg_is c env s a y h.prebuilts wa (λ q i u f. h.boxes q i (inl (inl (inl u))) f) fy in
        let gb = arg_is c env s b z h.prebuilts wb (λ q i u f. h.boxes q i (inl (inl (inr (inl u)))) f) fz in
        let objects = env.world.objects in
        let w = words_equal objects y z x (are_told relied.apart c.table objects s.arena h.arena) (arg_part c.table env a y h.prebuilts wa h.values fy) (arg_part c.table env b z h.prebuilts wb h.values fz) e in
        let same_words : int_eq (read s oa) (read s ob) ≡ x = ap (λ (i : ℤ). int_eq i (read s ob)) ga ∙ ap (int_eq (word_of (address_of objects) y)) gb ∙ w in
        joined c k (opt.Guard code.GuardValue (a ∷ b ∷ []) n snap) ops (compare_code oa ob) cc_is.Ne more p s (opt_guard n snap env (Some x))
        (guard_ends c k told cc_is.Ne x code.GuardValue (a ∷ b ∷ []) n snap ops env (puts (compare_code oa ob) ++ (Leave cc_is.Ne k ∷ more)) more p s m h
        (compare_tells p cc_is.Ne oa ob (not x) (Leave cc_is.Ne k ∷ more) s ra rb h.fit
        (holds_ne (read s oa) (read s ob) (read_fits s oa ra h.fit) (read_fits s ob rb h.fit) ∙ ap (λ (i : Bool). Some (not i)) same_words) at))

-- ---- guards on overflow

over_does : (c : Setting) (k : ℕ) (told : Told) (args : List Arg) (n : ℕ) (snap : Snapshot) (ops : List OptOp) (env : Opt) (more : List Slot) (p : ℕ) (s : State) → ((b : ℕ) → MayHold (c.at b)) → told ≡ tell.Overflow → Holds c told (opt.Guard code.GuardNoOverflow args n snap ∷ ops) env s → s.at ≡ 0x40000000 + p → FollowsBy c k (opt.Guard code.GuardNoOverflow args n snap) ops (Leave cc_is.O k ∷ more) more p s (opt_guard n snap env (Some (not env.world.overflow)))
over_does c k told args n snap ops env more p s m is h at =
    let f : IsTold tell.Overflow env s = subst (λ (x : Told). IsTold x env s) is h.flags in
    guard_ends c k told cc_is.O (not env.world.overflow) code.GuardNoOverflow args n snap ops env (Leave cc_is.O k ∷ more) more p s m h
    (tells_is p (Leave cc_is.O k ∷ more) (Leave cc_is.O k ∷ more) s cc_is.O env.world.overflow (not (not env.world.overflow)) (sym (not_not env.world.overflow))
    (stays p (Leave cc_is.O k ∷ more) s cc_is.O env.world.overflow h.fit f at))

under_does : (c : Setting) (k : ℕ) (told : Told) (args : List Arg) (n : ℕ) (snap : Snapshot) (ops : List OptOp) (env : Opt) (more : List Slot) (p : ℕ) (s : State) → ((b : ℕ) → MayHold (c.at b)) → told ≡ tell.Overflow → Holds c told (opt.Guard code.GuardOverflow args n snap ∷ ops) env s → s.at ≡ 0x40000000 + p → FollowsBy c k (opt.Guard code.GuardOverflow args n snap) ops (Leave cc_is.No k ∷ more) more p s (opt_guard n snap env (Some env.world.overflow))
under_does c k told args n snap ops env more p s m is h at =
    let f : IsTold tell.Overflow env s = subst (λ (x : Told). IsTold x env s) is h.flags in
    guard_ends c k told cc_is.No env.world.overflow code.GuardOverflow args n snap ops env (Leave cc_is.No k ∷ more) more p s m h
    (stays p (Leave cc_is.No k ∷ more) s cc_is.No (not env.world.overflow) h.fit (ap (of_one not) f) at)

-- ---- all of them

one_arg : (c : Setting) (k : ℕ) (told : Told) (operation : OpCode) (a : Arg) (n : ℕ) (snap : Snapshot) (ops : List OptOp) (env : Opt) (more : List Slot) (p : ℕ) (s : State) → has_value a ≡ true → ((y : Value) → arg_value (value_in env.boxes) a ≡ Some y → Follows c k told (opt.Guard operation (a ∷ []) n snap) ops more p s (opt_guard n snap env (passes operation (a ∷ []) (y ∷ []) env.world))) → Follows c k told (opt.Guard operation (a ∷ []) n snap) ops more p s (opt_test operation (a ∷ []) n snap env (opt_values env (a ∷ [])))
one_arg c k told operation a n snap ops env more p s va go = which (one_value (arg_value (value_in env.boxes)) a va)
  where
    which : (all_values (arg_value (value_in env.boxes)) (a ∷ []) ≡ None) ⊎ ((y : Value) × (arg_value (value_in env.boxes) a ≡ Some y) × (all_values (arg_value (value_in env.boxes)) (a ∷ []) ≡ Some (y ∷ []))) → Follows c k told (opt.Guard operation (a ∷ []) n snap) ops more p s (opt_test operation (a ∷ []) n snap env (opt_values env (a ∷ [])))
    which (inl e) = subst (λ (o : Option (List Value)). Follows c k told (opt.Guard operation (a ∷ []) n snap) ops more p s (opt_test operation (a ∷ []) n snap env o)) (sym e) tt
    which (inr (y, fy, e)) = subst (λ (o : Option (List Value)). Follows c k told (opt.Guard operation (a ∷ []) n snap) ops more p s (opt_test operation (a ∷ []) n snap env o)) (sym e) (go y fy)

two_args : (c : Setting) (k : ℕ) (told : Told) (operation : OpCode) (a b : Arg) (n : ℕ) (snap : Snapshot) (ops : List OptOp) (env : Opt) (more : List Slot) (p : ℕ) (s : State) → has_value a ≡ true → has_value b ≡ true → ((y z : Value) → arg_value (value_in env.boxes) a ≡ Some y → arg_value (value_in env.boxes) b ≡ Some z → Follows c k told (opt.Guard operation (a ∷ b ∷ []) n snap) ops more p s (opt_guard n snap env (passes operation (a ∷ b ∷ []) (y ∷ z ∷ []) env.world))) → Follows c k told (opt.Guard operation (a ∷ b ∷ []) n snap) ops more p s (opt_test operation (a ∷ b ∷ []) n snap env (opt_values env (a ∷ b ∷ [])))
two_args c k told operation a b n snap ops env more p s va vb go = which (two_values (arg_value (value_in env.boxes)) a b va vb)
  where
    which : (all_values (arg_value (value_in env.boxes)) (a ∷ b ∷ []) ≡ None) ⊎ ((y : Value) × (z : Value) × (arg_value (value_in env.boxes) a ≡ Some y) × (arg_value (value_in env.boxes) b ≡ Some z) × (all_values (arg_value (value_in env.boxes)) (a ∷ b ∷ []) ≡ Some (y ∷ z ∷ []))) → Follows c k told (opt.Guard operation (a ∷ b ∷ []) n snap) ops more p s (opt_test operation (a ∷ b ∷ []) n snap env (opt_values env (a ∷ b ∷ [])))
    which (inl e) = subst (λ (o : Option (List Value)). Follows c k told (opt.Guard operation (a ∷ b ∷ []) n snap) ops more p s (opt_test operation (a ∷ b ∷ []) n snap env o)) (sym e) tt
    which (inr (y, z, fy, fz, e)) = subst (λ (o : Option (List Value)). Follows c k told (opt.Guard operation (a ∷ b ∷ []) n snap) ops more p s (opt_test operation (a ∷ b ∷ []) n snap env o)) (sym e) (go y z fy fz)

any_args : (c : Setting) (k : ℕ) (told : Told) (operation : OpCode) (args : List Arg) (n : ℕ) (snap : Snapshot) (ops : List OptOp) (env : Opt) (more : List Slot) (p : ℕ) (s : State) → (o : Option (List Value)) → ((vs : List Value) → Follows c k told (opt.Guard operation args n snap) ops more p s (opt_guard n snap env (passes operation args vs env.world))) → Follows c k told (opt.Guard operation args n snap) ops more p s (opt_test operation args n snap env o)
any_args c k told operation args n snap ops env more p s None go = tt
any_args c k told operation args n snap ops env more p s (Some vs) go = go vs

-- a guard that passes without an instruction
nothing_does : (c : Setting) (k : ℕ) (told : Told) (operation : OpCode) (args : List Arg) (n : ℕ) (snap : Snapshot) (ops : List OptOp) (env : Opt) (more : List Slot) (p : ℕ) (s : State) → Holds c told (opt.Guard operation args n snap ∷ ops) env s → s.at ≡ 0x40000000 + p → FollowsBy c k (opt.Guard operation args n snap) ops more more p s (On env)
nothing_does c k told operation args n snap ops env more p s h at =
    stay p more s (λ t. Holds c tell.Nothing ops env t × SameArena s t) at (
      record {
        fit = h.fit;
        arena = h.arena;
        prebuilts = h.prebuilts;
        values = h.values;
        boxes = λ q x u e. h.boxes q x (inr (λ z. z, u)) e;
        flags = tt;
      },
      record { arena = refl; loads = refl; stores = refl },
    )

-- a guard on a class comes elsewhere
abbrev pub is_class_guard : OpCode → Bool
is_class_guard code.GuardClass = true
is_class_guard code.GuardNonnullClass = true
is_class_guard operation = false

pub guard_follows : (c : Setting) (k : ℕ) (told : Told) (operation : OpCode) (args : List Arg) (n : ℕ) (snap : Snapshot) (ops : List OptOp) (env : Opt) (more : List Slot) (p : ℕ) (s : State) → Relied → ((b : ℕ) → MayHold (c.at b)) → All (IsWordArg c.table) args → is_class_guard operation ≡ false → IsGuardHere operation args → AreGuarded operation args → (IsTrue (reads_overflow operation) → told ≡ tell.Overflow) → Holds c told (opt.Guard operation args n snap ∷ ops) env s → s.at ≡ 0x40000000 + p → Follows c k told (opt.Guard operation args n snap) ops more p s (opt_test operation args n snap env (opt_values env args))
guard_follows c k told code.GuardTrue (a ∷ []) n snap ops env more p s relied m w other here va over h at =
    one_arg c k told code.GuardTrue a n snap ops env more p s va.0 (λ y fy. true_does c k told a n snap ops env more p s y m (w 0 a (omega arith)) h at fy)
guard_follows c k told code.GuardFalse (a ∷ []) n snap ops env more p s relied m w other here va over h at =
    one_arg c k told code.GuardFalse a n snap ops env more p s va.0 (λ y fy. false_does c k told a n snap ops env more p s y m (w 0 a (omega arith)) h at fy)
guard_follows c k told code.GuardNonnull (a ∷ []) n snap ops env more p s relied m w other here va over h at =
    one_arg c k told code.GuardNonnull a n snap ops env more p s va.0 (λ y fy. nonnull_does c k told a n snap ops env more p s y relied m (w 0 a (omega arith)) h at fy)
guard_follows c k told code.GuardIsnull (a ∷ []) n snap ops env more p s relied m w other here va over h at =
    one_arg c k told code.GuardIsnull a n snap ops env more p s va.0 (λ y fy. isnull_does c k told a n snap ops env more p s y relied m (w 0 a (omega arith)) h at fy)
guard_follows c k told code.GuardValue (a ∷ b ∷ []) n snap ops env more p s relied m w other here va over h at =
    two_args c k told code.GuardValue a b n snap ops env more p s va.0 va.1.0 (λ y z fy fz. value_does c k told a b n snap ops env more p s y z relied m (w 0 a (omega arith)) (w 1 b (omega arith)) h at fy fz)
guard_follows c k told code.GuardNoOverflow args n snap ops env more p s relied m w other here va over h at =
    any_args c k told code.GuardNoOverflow args n snap ops env more p s (opt_values env args) (λ vs. over_does c k told args n snap ops env more p s m (over refl) h at)
guard_follows c k told code.GuardOverflow args n snap ops env more p s relied m w other here va over h at =
    any_args c k told code.GuardOverflow args n snap ops env more p s (opt_values env args) (λ vs. under_does c k told args n snap ops env more p s m (over refl) h at)
guard_follows c k told code.GuardNoException args n snap ops env more p s relied m w other here va over h at =
    any_args c k told code.GuardNoException args n snap ops env more p s (opt_values env args) (λ vs. nothing_does c k told code.GuardNoException args n snap ops env more p s h at)
guard_follows c k told code.GuardClass args n snap ops env more p s relied m w other here va over h at = absurd (cc)
guard_follows c k told code.GuardNonnullClass args n snap ops env more p s relied m w other here va over h at = absurd (cc)
guard_follows c k told _ args n snap ops env more p s relied m w other here va over h at = absurd here
