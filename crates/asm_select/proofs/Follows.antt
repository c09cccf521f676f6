-- The code of a piece does what the piece does.
use Rattle.std.proofs.Common.{◌≡◌, ◌≤◌, false, ℕ, suc, ◌+◌, List, [], ◌∷◌, ◌++◌, append_assoc, length, Option, Some, None, IsTrue, refl, sym, ap, ◌∙◌, subst, inl, inr, arith}
use Rattle.std.specs.List.{All}
use Rattle.trace_ops.specs.declared.code.OpCode.{OpCode}
use Rattle.trace_ops.specs.declared.code.OpCode.TheVariants as code
use Rattle.trace_ops.specs.declared.trace.BoxId.{BoxId}
use Rattle.trace_ops.specs.declared.trace.Arg.{Arg}
use Rattle.trace_ops.specs.declared.piece.OptOp.{OptOp}
use Rattle.trace_ops.specs.declared.piece.OptOp.TheVariants as opt
use Rattle.trace_ops.specs.declared.piece.PieceId.{PieceId}
use Rattle.trace_ops.specs.declared.piece.Snapshot.{Snapshot}
use Rattle.trace_ops.specs.Parts.{boxes_of, parts_of}
use Rattle.trace_ops.specs.Pieces.{finished}
use Rattle.trace_meaning.specs.declared.value.Value.{Value}
use Rattle.trace_meaning.specs.Boxes.{value_in, arg_value}
use Rattle.trace_meaning.specs.Legs.{Turn, On, Off, Fails, Jumps, Finishes, Waits, Misfits, Wrong, go_on, drive}
use Rattle.trace_meaning.specs.Legs as legs
use Rattle.opt_meaning.specs.Step.{Opt, opt_step, opt_values, opt_leave, resume_args}
use Rattle.arena_objects.specs.Layout.{address_of}
use Rattle.arena_objects.specs.Standing.{Stands}
use Rattle.x64_machine.specs.State.{State}
use Rattle.asm_select.specs.declared.told.Told.{Told}
use Rattle.asm_select.specs.Slots.{Slot, Go, puts}
use Rattle.asm_select.specs.Valued.{value, MayHold}
use Rattle.asm_select.specs.Chosen.{Setting, access_form, word_code, access_code, is_host_call, call_if, result_place, plain_code, jump_code}
use Rattle.asm_select.specs.declared.form.Access.{Access}
use Rattle.asm_select.specs.declared.form.Access.TheVariants as access
use Rattle.x64_encode.specs.declared.instr.Instr.{Instr}
use Rattle.target_base.specs.declared.place.Place.{Place}
use Rattle.x64_encode.specs.Form.{spelling}
use Rattle.trace_ops.specs.declared.trace.Descr.{Descr}
use Rattle.trace_ops.specs.declared.trace.Arg.TheVariants.{Class}
use Rattle.trace_ops.specs.declared.table.Table.{Table}
use Rattle.asm_select.specs.Reached.{IsUsedIn, IsApart, Holds, HasWords, IsWordArg, PrebuiltsStand, SameArena, word_in}
use Rattle.asm_select.specs.Ended as ended
use Rattle.asm_select.specs.Ended.{IsGuardHere, IsPlainHere, IsPlain, IsAccess, TableServes, has_unary, has_binary, reads_of, writes_of, headers_of, loads_of, stores_of, Counts, AreParts, IsLeft, AreValued, ArgsStand, AreMoved, IsHere, CodeFollows}
use Rattle.asm_select.proofs.Followed.{ComesTo, FollowsBy, Follows}
use Rattle.asm_select.proofs.Steps.{stay, weaker, puts-append}
use Rattle.asm_select.proofs.Naming.{named_left}
use Rattle.asm_select.proofs.Values.{arg_is, first_value}
use Rattle.asm_select.proofs.Plains.{unary_follows, binary_follows}
use Rattle.asm_select.proofs.Accessed.{access_follows, counts_as, loads_by}
use Rattle.asm_select.proofs.Classed.{class_follows, nonnull_class_follows}
use Rattle.asm_select.proofs.Guards.{is_class_guard, guard_follows, boxes_stand, boxes_are_parts, part_named, first_is}
use Rattle.asm_select.proofs.Jumps.{jump_does}
use Rattle.asm_select.proofs.Parts.{args_are_parts}
use Rattle.asm_select.proofs.Relying.{Relied}

same_same : (s : State) → SameArena s s
same_same s = record { arena = refl; loads = refl; stores = refl }

-- ---- exits

exit_follows : (c : Setting) (k : ℕ) (told : Told) (n : ℕ) (snap : Snapshot) (ops : List OptOp) (env : Opt) (more : List Slot) (p : ℕ) (s : State) (o : Option (List Value)) → opt_values env (resume_args snap) ≡ o → Holds c told (opt.Exit n snap ∷ ops) env s → s.at ≡ 0x40000000 + p → Follows c k told (opt.Exit n snap) ops more p s (opt_leave (Fails n) env o)
exit_follows c k told n snap ops env more p s None e h at = tt
exit_follows c k told n snap ops env more p s (Some vs) e h at = (
  Go k,
  more,
  stay p (Go k ∷ more) s (λ t. IsLeft c k (opt.Exit n snap) (Go k) (Fails n vs env.world) t × SameArena s t) at (
    record {
      taken = refl;
      fit = h.fit;
      arena = h.arena;
      prebuilts = h.prebuilts;
      parts = boxes_are_parts env (parts_of snap) vs h.values e;
      with = (refl, boxes_stand c.at env s (parts_of snap) vs (λ q x u g. h.boxes q x (inl (inr (named_left (boxes_of snap) [] q (part_named snap q u)))) g) e);
    },
    same_same s,
  ),
)

-- ---- finishes

args_stand : (c : Setting) (env : Opt) (s : State) (args : List Arg) (vs : List Value) → PrebuiltsStand c.table env.world.objects → All (IsWordArg c.table) args → AreValued args → ((b : BoxId) (y : Value) → IsUsedIn args b → value_in env.boxes b ≡ Some y → value s (c.at b.number) ≡ word_in env y) → opt_values env args ≡ Some vs → ArgsStand c (address_of env.world.objects) s args vs
args_stand c env s [] [] pre w va found e = tt
args_stand c env s [] (x ∷ xs) pre w va found e = absurd (cc)
args_stand c env s (a ∷ args) vs pre w va found e =
    let z = first_is (arg_value (value_in env.boxes) a) (opt_values env args) vs (sym (first_value (arg_value (value_in env.boxes)) a args va.0) ∙ e) in
    subst (λ (xs : List Value). ArgsStand c (address_of env.world.objects) s (a ∷ args) xs) z.4
    (arg_is c env s a z.0 pre (w 0 a (omega arith)) (λ q y k i. found q y (inl k) i) z.2, args_stand c env s args z.1 pre (λ k x lt. w (suc k) x (omega (arith, lt))) va.1 (λ q y k i. found q y (inr k) i) z.3)

finish_follows : (c : Setting) (k : ℕ) (told : Told) (a : Option Arg) (ops : List OptOp) (env : Opt) (more : List Slot) (p : ℕ) (s : State) (o : Option (List Value)) → opt_values env (finished a) ≡ o → HasWords c.table (opt.Finish a) → AreValued (finished a) → Holds c told (opt.Finish a ∷ ops) env s → s.at ≡ 0x40000000 + p → Follows c k told (opt.Finish a) ops more p s (opt_leave Finishes env o)
finish_follows c k told a ops env more p s None e w va h at = tt
finish_follows c k told a ops env more p s (Some vs) e w va h at = (
  Go k,
  more,
  stay p (Go k ∷ more) s (λ t. IsLeft c k (opt.Finish a) (Go k) (Finishes vs env.world) t × SameArena s t) at (
    record {
      taken = refl;
      fit = h.fit;
      arena = h.arena;
      prebuilts = h.prebuilts;
      parts = args_are_parts c env (finished a) vs h.prebuilts w va h.values e;
      with = args_stand c env s (finished a) vs h.prebuilts w va (λ b y u g. h.boxes b y (inl (inl u)) g) e;
    },
    same_same s,
  ),
)

-- ---- jumps

jump_follows : (c : Setting) (k : ℕ) (told : Told) (to : PieceId) (args : List Arg) (ops : List OptOp) (env : Opt) (more : List Slot) (p : ℕ) (s : State) (o : Option (List Value)) → opt_values env args ≡ o → ((b : ℕ) → MayHold (c.at b)) → HasWords c.table (opt.Jump to args) → AreMoved c args → AreValued args → Holds c told (opt.Jump to args ∷ ops) env s → s.at ≡ 0x40000000 + p → Follows c k told (opt.Jump to args) ops more p s (opt_leave Jumps env o)
jump_follows c k told to args ops env more p s None e m w mv va h at = tt
jump_follows c k told to args ops env more p s (Some vs) e m w mv va h at =
    let xs = puts (jump_code c args) in
    subst (λ (l : List Slot). ComesTo c k (opt.Jump to args) l p s (Jumps vs env.world)) (sym (append_assoc xs (Go k ∷ []) more)) (
      Go k,
      more,
      weaker p (xs ++ (Go k ∷ more)) (Go k ∷ more) s (λ t g. (
        record {
          taken = refl;
          fit = g.1;
          arena = subst (Stands c.table env.world.objects) (sym g.2.arena) h.arena;
          prebuilts = h.prebuilts;
          parts = args_are_parts c env args vs h.prebuilts w va h.values e;
          with = g.0;
        },
        g.2,
      )) (jump_does p c env args vs (Go k ∷ more) s m h.prebuilts w va mv (λ b y u g. h.boxes b y (inl (inl u)) g) e h.fit at),
    )

-- ---- loads and stores

unary_counts : (operation : OpCode) → IsTrue (has_unary operation) → (reads_of operation ≡ 0) × (writes_of operation ≡ 0)
unary_counts code.SameAsR h = (refl, refl)
unary_counts code.IntIsZero h = (refl, refl)
unary_counts code.IntIsTrue h = (refl, refl)
unary_counts code.IntNeg h = (refl, refl)
unary_counts code.IntInvert h = (refl, refl)
unary_counts code.IntForceGeZero h = (refl, refl)
unary_counts code.SameAsI h = (refl, refl)
unary_counts _ h = absurd (cc)

binary_counts : (operation : OpCode) → IsTrue (has_binary operation) → (reads_of operation ≡ 0) × (writes_of operation ≡ 0)
binary_counts code.IntAdd h = (refl, refl)
binary_counts code.IntSub h = (refl, refl)
binary_counts code.IntMul h = (refl, refl)
binary_counts code.IntAnd h = (refl, refl)
binary_counts code.IntOr h = (refl, refl)
binary_counts code.IntXor h = (refl, refl)
binary_counts code.IntLshift h = (refl, refl)
binary_counts code.IntRshift h = (refl, refl)
binary_counts code.UintRshift h = (refl, refl)
binary_counts code.IntLt h = (refl, refl)
binary_counts code.IntLe h = (refl, refl)
binary_counts code.IntEq h = (refl, refl)
binary_counts code.IntNe h = (refl, refl)
binary_counts code.IntGt h = (refl, refl)
binary_counts code.IntGe h = (refl, refl)
binary_counts code.UintLt h = (refl, refl)
binary_counts code.UintLe h = (refl, refl)
binary_counts code.UintGt h = (refl, refl)
binary_counts code.UintGe h = (refl, refl)
binary_counts code.PtrEq h = (refl, refl)
binary_counts code.PtrNe h = (refl, refl)
binary_counts code.IntAddOvf h = (refl, refl)
binary_counts code.IntSubOvf h = (refl, refl)
binary_counts code.IntMulOvf h = (refl, refl)
binary_counts _ h = absurd (cc)

guard_counts : (operation : OpCode) (args : List Arg) (vs : Option (List Value)) → is_class_guard operation ≡ false → IsGuardHere operation args → headers_of operation vs ≡ 0
guard_counts code.GuardTrue args vs o h = refl
guard_counts code.GuardFalse args vs o h = refl
guard_counts code.GuardValue args vs o h = refl
guard_counts code.GuardNonnull args vs o h = refl
guard_counts code.GuardIsnull args vs o h = refl
guard_counts code.GuardNoOverflow args vs o h = refl
guard_counts code.GuardOverflow args vs o h = refl
guard_counts code.GuardNoException args vs o h = refl
guard_counts code.GuardClass args vs o h = absurd (cc)
guard_counts code.GuardNonnullClass args vs o h = absurd (cc)
guard_counts _ args vs o h = absurd h

-- an operation that calls no host
no_call : (form : Access) (r : Option BoxId) (args : List Arg) (d : Descr) (t : Table) (place : Place) → IsAccess t form r args d → call_if (is_host_call form) place ≡ []
no_call access.Structure r args d t place h = absurd h
no_call access.Array r args d t place h = absurd h
no_call access.Call r args d t place h = absurd h
no_call _ r args d t place h = refl

counted : (n m : ℕ) (s t : State) → n ≡ 0 → m ≡ 0 → SameArena s t → Counts n m s t
counted n m s t a b g = record { loads_more = omega (arith, a, g.loads); stores_more = omega (arith, b, g.stores) }

comes_counted : (n m : ℕ) (c : Setting) (k : ℕ) (op : OptOp) (xs : List Slot) (p : ℕ) (s : State) (l : legs.Leave) → n ≡ 0 → m ≡ 0 → ComesTo c k op xs p s l → ended.ComesTo (Counts n m s) c k op xs p s l
comes_counted n m c k op xs p s l a b g = (g.0, g.1, weaker p xs (g.0 ∷ g.1) s (λ t h. (h.0, counted n m s t a b h.1)) g.2)

follows_counted : (n m : ℕ) (c : Setting) (k : ℕ) (op : OptOp) (ops : List OptOp) (xs more : List Slot) (p : ℕ) (s : State) (turn : Turn Opt) → n ≡ 0 → m ≡ 0 → FollowsBy c k op ops xs more p s turn → ended.FollowsBy (Counts n m s) c k op ops xs more p s turn
follows_counted n m c k op ops xs more p s (On after) a b g = weaker p xs more s (λ t h. (h.0, counted n m s t a b h.1)) g
follows_counted n m c k op ops xs more p s (Off (Fails i vs w)) a b g = comes_counted n m c k op xs p s (Fails i vs w) a b g
follows_counted n m c k op ops xs more p s (Off (Jumps vs w)) a b g = comes_counted n m c k op xs p s (Jumps vs w) a b g
follows_counted n m c k op ops xs more p s (Off (Finishes vs w)) a b g = comes_counted n m c k op xs p s (Finishes vs w) a b g
follows_counted n m c k op ops xs more p s (Off (Waits w)) a b g = g
follows_counted n m c k op ops xs more p s (Off (Misfits w)) a b g = g
follows_counted n m c k op ops xs more p s (Off (Wrong w)) a b g = tt

-- ---- each operation

-- an operation that touches no arena
no_arena : (c : Setting) (k : ℕ) (op : OptOp) (ops : List OptOp) (n m : ℕ) (xs more : List Slot) (p : ℕ) (s : State) (turn : Turn Opt) → n ≡ 0 → m ≡ 0 → FollowsBy c k op ops xs more p s turn → ended.FollowsBy (Counts n m s) c k op ops xs more p s turn
no_arena c k op ops n m xs more p s turn a b g = follows_counted n m c k op ops xs more p s turn a b g

word_follows : Relied → (c : Setting) (k : ℕ) (told : Told) (operation : OpCode) (r : Option BoxId) (args : List Arg) (d : Descr) (ops : List OptOp) (env : Opt) (more : List Slot) (p : ℕ) (s : State) → ((b : ℕ) → MayHold (c.at b)) → IsApart c.at (opt.Plain operation r args d) ops → HasWords c.table (opt.Plain operation r args d) → IsPlainHere operation r args → AreValued args → Holds c told (opt.Plain operation r args d ∷ ops) env s → s.at ≡ 0x40000000 + p → ended.FollowsBy (Counts (reads_of operation) (writes_of operation) s) c k (opt.Plain operation r args d) ops (puts (word_code c operation r args ops) ++ more) more p s (opt_step c.table (opt.Plain operation r args d) env)
word_follows relied c k told operation (Some r) (a ∷ []) d ops env more p s m apart w here va h at =
    let z = unary_counts operation here in
    no_arena c k (opt.Plain operation (Some r) (a ∷ []) d) ops (reads_of operation) (writes_of operation) _ more p s _ z.0 z.1 (unary_follows c k told operation r a d ops env more p s m apart (w 0 a (omega arith)) here va.0 h at)
word_follows relied c k told operation (Some r) (a ∷ b ∷ []) d ops env more p s m apart w here va h at =
    let z = binary_counts operation here in
    no_arena c k (opt.Plain operation (Some r) (a ∷ b ∷ []) d) ops (reads_of operation) (writes_of operation) _ more p s _ z.0 z.1 (binary_follows c k told operation r a b d ops env more p s relied m apart (w 0 a (omega arith)) (w 1 b (omega arith)) here va.0 va.1.0 h at)
word_follows relied c k told operation r args d ops env more p s m apart w here va h at = absurd here

-- by what an operation is
abbrev PlainBy : Setting → ℕ → OpCode → Option BoxId → List Arg → Descr → List OptOp → Opt → List Slot → ℕ → State → Option Access → Type 0
PlainBy c k operation r args d ops env more p s o =
    ended.FollowsBy (Counts (reads_of operation) (writes_of operation) s) c k (opt.Plain operation r args d) ops (puts (plain_code c k operation o r args d ops) ++ more) more p s (opt_step c.table (opt.Plain operation r args d) env)

plain_follows : Relied → (c : Setting) (k : ℕ) (told : Told) (operation : OpCode) (r : Option BoxId) (args : List Arg) (d : Descr) (ops : List OptOp) (env : Opt) (more : List Slot) (p : ℕ) (s : State) → TableServes c.table → ((b : ℕ) → MayHold (c.at b)) → IsApart c.at (opt.Plain operation r args d) ops → HasWords c.table (opt.Plain operation r args d) → (o : Option Access) → access_form operation ≡ o → IsPlain c.table operation o r args d → AreValued args → Holds c told (opt.Plain operation r args d ∷ ops) env s → s.at ≡ 0x40000000 + p → PlainBy c k operation r args d ops env more p s o
plain_follows relied c k told operation r args d ops env more p s table m apart w None e here va h at = word_follows relied c k told operation r args d ops env more p s m apart w here va h at
plain_follows relied c k told operation r args d ops env more p s table m apart w (Some form) e here va h at =
    let xs = access_code c k form r args d in
    let g = access_follows relied c k told operation form r args d ops env more p s table m apart w e here va h at in
    let z = counts_as operation form e in
    let turn = opt_step c.table (opt.Plain operation r args d) env in
    subst (λ (l : List Slot). ended.FollowsBy (Counts (reads_of operation) (writes_of operation) s) c k (opt.Plain operation r args d) ops l more p s turn) (sym (ap (λ (y : List Instr). puts (xs ++ y) ++ more) (no_call form r args d c.table (result_place c r) here) ∙ puts-append xs [] more))
    (subst (λ (n : ℕ). ended.FollowsBy (Counts n (writes_of operation) s) c k (opt.Plain operation r args d) ops (puts xs ++ more) more p s turn) (sym z.0)
    (subst (λ (n : ℕ). ended.FollowsBy (Counts (loads_by form) n s) c k (opt.Plain operation r args d) ops (puts xs ++ more) more p s turn) (sym z.1) g))

guard_by : Relied → (c : Setting) (k : ℕ) (told : Told) (operation : OpCode) (args : List Arg) (n : ℕ) (snap : Snapshot) (ops : List OptOp) (env : Opt) (more : List Slot) (p : ℕ) (s : State) → ((b : ℕ) → MayHold (c.at b)) → HasWords c.table (opt.Guard operation args n snap) → is_class_guard operation ≡ false → IsHere c told (opt.Guard operation args n snap) → Holds c told (opt.Guard operation args n snap ∷ ops) env s → s.at ≡ 0x40000000 + p → ended.Follows (Counts (loads_of (opt.Guard operation args n snap) env) 0 s) c k told (opt.Guard operation args n snap) ops more p s (opt_step c.table (opt.Guard operation args n snap) env)
guard_by relied c k told operation args n snap ops env more p s m w other here h at =
    no_arena c k (opt.Guard operation args n snap) ops (headers_of operation (opt_values env args)) 0 _ more p s _ (guard_counts operation args (opt_values env args) other here.0) refl (guard_follows c k told operation args n snap ops env more p s relied m w other here.0 here.1 here.2 h at)

abbrev pub Most : Type 0
Most = (i : Instr) → length (spelling i) ≤ 16

guard_code_follows : Most → Relied → (c : Setting) (k : ℕ) (told : Told) (operation : OpCode) (args : List Arg) (n : ℕ) (snap : Snapshot) (ops : List OptOp) (env : Opt) (more : List Slot) (p : ℕ) (s : State) → TableServes c.table → ((b : ℕ) → MayHold (c.at b)) → HasWords c.table (opt.Guard operation args n snap) → IsHere c told (opt.Guard operation args n snap) → Holds c told (opt.Guard operation args n snap ∷ ops) env s → s.at ≡ 0x40000000 + p → ended.Follows (Counts (loads_of (opt.Guard operation args n snap) env) 0 s) c k told (opt.Guard operation args n snap) ops more p s (opt_step c.table (opt.Guard operation args n snap) env)
guard_code_follows most relied c k told code.GuardClass (a ∷ Class size ∷ []) n snap ops env more p s table m w here h at =
    class_follows relied c k told a size n snap ops env more p s table m w here.0 h at
guard_code_follows most relied c k told code.GuardNonnullClass (a ∷ Class size ∷ []) n snap ops env more p s table m w here h at =
    nonnull_class_follows relied most c k told a size n snap ops env more p s table m w here.0 h at
guard_code_follows most relied c k told code.GuardClass args n snap ops env more p s table m w here h at = absurd here.0
guard_code_follows most relied c k told code.GuardNonnullClass args n snap ops env more p s table m w here h at = absurd here.0
guard_code_follows most relied c k told operation args n snap ops env more p s table m w here h at = guard_by relied c k told operation args n snap ops env more p s m w refl here h at

pub code_follows : Most → Relied → CodeFollows
code_follows most relied c k told (opt.Plain operation r args d) ops env more p s table m apart w here h at =
    plain_follows relied c k told operation r args d ops env more p s table m apart w (access_form operation) refl here.0 here.1 h at
code_follows most relied c k told (opt.Guard operation args n snap) ops env more p s table m apart w here h at =
    guard_code_follows most relied c k told operation args n snap ops env more p s table m w here h at
code_follows most relied c k told (opt.Exit n snap) ops env more p s table m apart w here h at =
    no_arena c k (opt.Exit n snap) ops 0 0 _ more p s _ refl refl (exit_follows c k told n snap ops env more p s (opt_values env (resume_args snap)) refl h at)
code_follows most relied c k told (opt.Jump to args) ops env more p s table m apart w here h at =
    no_arena c k (opt.Jump to args) ops 0 0 _ more p s _ refl refl (jump_follows c k told to args ops env more p s (opt_values env args) refl m w here.0 here.1 h at)
code_follows most relied c k told (opt.Finish a) ops env more p s table m apart w here h at =
    no_arena c k (opt.Finish a) ops 0 0 _ more p s _ refl refl (finish_follows c k told a ops env more p s (opt_values env (finished a)) refl w here h at)
