-- What holds behind an operation that gives a value.
use Rattle.std.proofs.Common.{◌≡◌, ◌≢◌, ℕ, Bool, true, false, not, cond, List, [], ◌∷◌, length, Option, Some, None, refl, sym, ap, ◌∙◌, subst, inl, inr, ℤ, zero, suc}
use Rattle.std.specs.Prelude.{◌&&◌, ◌||◌, slice_get}
use Rattle.std.specs.List.{list_any, flat_map}
use Rattle.trace_ops.specs.declared.code.OpCode.{OpCode}
use Rattle.trace_ops.specs.declared.trace.BoxId.{BoxId}
use Rattle.trace_ops.specs.declared.trace.Arg.{Arg}
use Rattle.trace_ops.specs.declared.trace.Arg.TheVariants.{Of}
use Rattle.trace_ops.specs.declared.trace.Descr.{Descr}
use Rattle.trace_ops.specs.declared.piece.OptOp.{OptOp}
use Rattle.trace_ops.specs.declared.piece.OptOp.TheVariants as opt
use Rattle.trace_ops.specs.declared.piece.Snapshot.{Snapshot}
use Rattle.trace_ops.specs.Words.{IsWord, truth}
use Rattle.trace_ops.specs.Parts.{boxes_of}
use Rattle.trace_ops.specs.Pieces.{used_by}
use Rattle.trace_meaning.specs.declared.value.Value.{Value}
use Rattle.trace_meaning.specs.declared.value.Value.TheVariants as v
use Rattle.trace_meaning.specs.Boxes.{same_box, value_in, bind}
use Rattle.trace_meaning.specs.World.{World}
use Rattle.opt_meaning.specs.Step.{Opt}
use Rattle.arena_objects.specs.Layout.{address_of, word_of}
use Rattle.arena_objects.specs.Standing.{IsPart, Stands}
use Rattle.x64_encode.specs.declared.instr.Cc.{Cc}
use Rattle.target_base.specs.declared.place.Place.{Place}
use Rattle.x64_machine.specs.State.{State}
use Rattle.asm_select.specs.declared.told.Told.{Told}
use Rattle.asm_select.specs.declared.told.Told.TheVariants as tell
use Rattle.trace_meaning.specs.declared.value.Object.{Object}
use Rattle.x64_machine.specs.Words.{holds}
use Rattle.asm_select.specs.Valued.{r11, value, MayHold, IsFit, AllBut}
use Rattle.asm_select.specs.Chosen.{Setting, is_truth_guard, is_tested, is_needed, is_lone, told_if}
use Rattle.asm_select.specs.Reached.{IsNamed, IsUsedIn, Uses, IsApart, IsTold, Holds, PrebuiltsStand, SameArena, word_in, unless_told}
use Rattle.asm_select.proofs.Effects.{same_arena}
use Rattle.asm_select.proofs.Arms.{Gives, Truth}
use Rattle.asm_select.proofs.Naming.{named_left, named_right, used_at, uses_any}
use Rattle.asm_select.proofs.Values.{same_is, same_itself, differ, bound_same, bound_other, truth_word}

-- ---- a box that only the flags tell isn't used at its place

pub named_any : (xs : List BoxId) (b : BoxId) → IsNamed xs b → list_any (same_box b) xs ≡ true
named_any [] b h = absurd h
named_any (x ∷ xs) b (inl e) =
    let t : same_box b x ≡ true = ap (same_box b) e ∙ same_itself b in
    ap (λ (q : Bool). q || list_any (same_box b) xs) t
named_any (x ∷ xs) b (inr h) = or_true (same_box b x) (list_any (same_box b) xs) (named_any xs b h)
  where
    or_true : (p q : Bool) → q ≡ true → (p || q) ≡ true
    or_true true q e = refl
    or_true false q e = e

used_among : (ops : List OptOp) (j : ℕ) (op : OptOp) (b : BoxId) → slice_get ops j ≡ Some op → IsNamed (used_by op) b → IsNamed (flat_map used_by ops) b
used_among [] j op b e h = absurd (cc)
used_among (o ∷ ops) zero op b e h = named_left (used_by o) (flat_map used_by ops) b (subst (λ (x : OptOp). IsNamed (used_by x) b) (sym (unsome o op e)) h)
  where
    unsome : (x y : OptOp) → Some x ≡ Some y → x ≡ y
    unsome x y g = cc
used_among (o ∷ ops) (suc j) op b e h = named_right (used_by o) (flat_map used_by ops) b (used_among ops j op b e h)

pub record IsTested (r : BoxId) (ops : List OptOp) : Type 0 where
  pub operation : OpCode
  pub b : BoxId
  pub n : ℕ
  pub snap : Snapshot
  pub rest : List OptOp
  pub shape : ops ≡ opt.Guard operation (Of b ∷ []) n snap ∷ rest
  pub guard : is_truth_guard operation ≡ true
  pub same : same_box r b ≡ true

and_first : (p q : Bool) → (p && q) ≡ true → p ≡ true
and_first true q e = refl
and_first false q e = e

and_second : (p q : Bool) → (p && q) ≡ true → q ≡ true
and_second true q e = e
and_second false q e = absurd (cc)

tested_is : (r : BoxId) (ops : List OptOp) → is_tested r ops ≡ true → IsTested r ops
tested_is r (opt.Guard operation (Of b ∷ []) n snap ∷ rest) h = record {
  operation = operation;
  b = b;
  n = n;
  snap = snap;
  rest = rest;
  shape = refl;
  guard = and_first (is_truth_guard operation) (same_box r b) h;
  same = and_second (is_truth_guard operation) (same_box r b) h;
}
tested_is r _ h = absurd (cc)

or_neither : (p q : Bool) → not (p || q) ≡ true → (p ≡ true → ⊥) × (q ≡ true → ⊥)
or_neither true q e = absurd (cc)
or_neither false true e = absurd (cc)
or_neither false false e = (λ f. absurd (cc), λ f. absurd (cc))

told_reads : (x y : Bool) (c : Cc) (a : Arg) (b : BoxId) → x ≡ true → y ≡ true → IsUsedIn (unless_told x (cond y (Some c) None) a) b → ⊥
told_reads true true c a b f g h = h
told_reads true false c a b f g h = absurd (cc)
told_reads false y c a b f g h = absurd (cc)

lone_guard : (c : Cc) (r b : BoxId) (operation : OpCode) (n : ℕ) (snap : Snapshot) (rest : List OptOp) → is_truth_guard operation ≡ true → same_box r b ≡ true → not (is_needed r (opt.Guard operation (Of b ∷ []) n snap ∷ rest)) ≡ true → Uses (tell.Whether c r) (opt.Guard operation (Of b ∷ []) n snap ∷ rest) r → ⊥
lone_guard c r b operation n snap rest g s h (inl (inl u)) = told_reads (is_truth_guard operation) (same_box r b) c (Of b) r g s u
lone_guard c r b operation n snap rest g s h (inl (inr u)) =
    (or_neither (list_any (same_box r) (flat_map boxes_of (snap ∷ []))) (list_any (same_box r) (flat_map used_by rest)) h).0 (named_any (flat_map boxes_of (snap ∷ [])) r u)
lone_guard c r b operation n snap rest g s h (inr u) =
    let w = used_at tell.Nothing rest r u.1 in
    (or_neither (list_any (same_box r) (flat_map boxes_of (snap ∷ []))) (list_any (same_box r) (flat_map used_by rest)) h).1 (named_any (flat_map used_by rest) r (used_among rest w.j w.op r w.there w.used))

pub lone_unused : (c : Cc) (r : BoxId) (ops : List OptOp) → is_lone r ops ≡ true → Uses (tell.Whether c r) ops r → ⊥
lone_unused c r ops h u =
    let t = tested_is r ops (and_first (is_tested r ops) (not (is_needed r ops)) h) in
    let k : not (is_needed r ops) ≡ true = and_second (is_tested r ops) (not (is_needed r ops)) h in
    lone_guard c r t.b t.operation t.n t.snap t.rest t.guard t.same
    (subst (λ (l : List OptOp). not (is_needed r l) ≡ true) t.shape k)
    (subst (λ (l : List OptOp). Uses (tell.Whether c r) l r) t.shape u)

pub lone_tested : (r : BoxId) (ops : List OptOp) → is_lone r ops ≡ true → is_tested r ops ≡ true
lone_tested r ops h = and_first (is_tested r ops) (not (is_needed r ops)) h

-- ---- behind a result

abbrev pub with_result : BoxId → Value → World → Opt → Opt
with_result r x w env = record { boxes = bind r x env.boxes; world = w }

not_named : (r b : BoxId) → b ≢ r → IsNamed (r ∷ []) b → ⊥
not_named r b ne (inl e) = ne (sym e)
not_named r b ne (inr h) = h

value_is : (x y : Value) → Some x ≡ Some y → x ≡ y
value_is x y e = cc

pub result_holds : (c : Setting) (told next : Told) (operation : OpCode) (r : BoxId) (args : List Arg) (d : Descr) (ops : List OptOp) (env : Opt) (x : Value) (w : World) (s t : State)
    → Holds c told (opt.Plain operation (Some r) args d ∷ ops) env s → w.objects ≡ env.world.objects → IsFit t → t.arena ≡ s.arena → IsPart (length env.world.objects) x
    → (Uses next ops r → value t (c.at r.number) ≡ word_in env x)
    → ((b : BoxId) → Uses tell.Nothing ops b → b ≢ r → value t (c.at b.number) ≡ value s (c.at b.number))
    → IsTold next (with_result r x w env) t → Holds c next ops (with_result r x w env) t
result_holds c told next operation r args d ops env x w s t h same fit arena part own others flags = record {
  fit = fit;
  arena = subst (λ (l : List Object). Stands c.table l t.arena) (sym same) (subst (Stands c.table env.world.objects) (sym arena) h.arena);
  prebuilts = subst (PrebuiltsStand c.table) (sym same) h.prebuilts;
  values = λ b y e. subst (λ (l : List Object). IsPart (length l) y) (sym same) (values b y (same_box b r) refl e);
  boxes = λ b y u e. boxes b y u (same_box b r) refl e ∙ ap (λ (l : List Object). word_of (address_of l) y) (sym same);
  flags = flags;
}
  where
    values : (b : BoxId) (y : Value) (q : Bool) → same_box b r ≡ q → value_in (bind r x env.boxes) b ≡ Some y → IsPart (length env.world.objects) y
    values b y true q e =
        let z : Some x ≡ Some y = sym (bound_same r x env.boxes) ∙ ap (value_in (bind r x env.boxes)) (sym (same_is b r q)) ∙ e in
        subst (IsPart (length env.world.objects)) (value_is x y z) part
    values b y false q e = h.values b y (sym (bound_other r b x env.boxes (differ b r q)) ∙ e)

    boxes : (b : BoxId) (y : Value) → Uses next ops b → (q : Bool) → same_box b r ≡ q → value_in (bind r x env.boxes) b ≡ Some y → value t (c.at b.number) ≡ word_in env y
    boxes b y u true q e =
        let one : b ≡ r = same_is b r q in
        let z : Some x ≡ Some y = sym (bound_same r x env.boxes) ∙ ap (value_in (bind r x env.boxes)) (sym one) ∙ e in
        ap (λ (k : BoxId). value t (c.at k.number)) one ∙ own (subst (Uses next ops) one u) ∙ ap (word_in env) (value_is x y z)
    boxes b y u false q e =
        let ne = differ b r q in
        let later = uses_any next ops b u in
        others b later ne ∙ h.boxes b y (inr (not_named r b ne, later)) (sym (bound_other r b x env.boxes ne) ∙ e)

-- what an operation's code has made: the value's word at its place, or, of a comparison, what the flags tell
abbrev pub Makes : (ℕ → ℕ) → Bool → Option Cc → Place → Value → State → State → Type 0
Makes addresses lone None d x s t = Gives d (word_of addresses x) s t
Makes addresses lone (Some c) d x s t = (b : Bool) × (x ≡ v.Int (truth b)) × Truth lone c d b s t

pub gives_holds : (c : Setting) (told next : Told) (operation : OpCode) (r : BoxId) (args : List Arg) (d : Descr) (ops : List OptOp) (env : Opt) (x : Value) (w : World) (s t : State)
    → ((b : ℕ) → MayHold (c.at b)) → IsApart c.at (opt.Plain operation (Some r) args d) ops → Holds c told (opt.Plain operation (Some r) args d ∷ ops) env s → w.objects ≡ env.world.objects → IsPart (length env.world.objects) x → Gives (c.at r.number) (word_in env x) s t → IsTold next (with_result r x w env) t → Holds c next ops (with_result r x w env) t × SameArena s t
gives_holds c told next operation r args d ops env x w s t m apart h same part g flags = (
  result_holds c told next operation r args d ops env x w s t h same g.2 g.1.arena part (λ u. g.0) (λ b u ne. g.1.others (c.at b.number) (m b.number).not_r11 (m b.number).not_r15 (apart r b (inl refl) u ne)) flags,
  same_arena (c.at r.number) s t g.1,
)

lone_holds : (c : Setting) (told : Told) (cond : Cc) (operation : OpCode) (r : BoxId) (args : List Arg) (d : Descr) (ops : List OptOp) (env : Opt) (x : Value) (w : World) (s t : State)
    → ((b : ℕ) → MayHold (c.at b)) → Holds c told (opt.Plain operation (Some r) args d ∷ ops) env s → w.objects ≡ env.world.objects → IsPart (length env.world.objects) x → is_lone r ops ≡ true → AllBut r11 s t → IsFit t → IsTold (tell.Whether cond r) (with_result r x w env) t → Holds c (tell.Whether cond r) ops (with_result r x w env) t × SameArena s t
lone_holds c told cond operation r args d ops env x w s t m h same part lone g fit flags = (
  result_holds c told (tell.Whether cond r) operation r args d ops env x w s t h same fit g.arena part (λ u. absurd (lone_unused cond r ops lone u)) (λ b u ne. g.others (c.at b.number) (m b.number).not_r11 (m b.number).not_r15 (m b.number).not_r11) flags,
  same_arena r11 s t g,
)

-- the flags tell the box that a comparison gives
tells_box : (cond : Cc) (r : BoxId) (env : Opt) (x : Value) (w : World) (t : State) (b : Bool) → x ≡ v.Int (truth b) → holds cond t.flags ≡ Some b → IsTold (tell.Whether cond r) (with_result r x w env) t
tells_box cond r env x w t b e h = (b, h, bound_same r x env.boxes ∙ ap Some e)

truth_gives : (objects : ℕ → ℕ) (d : Place) (x : Value) (b : Bool) (s t : State) → x ≡ v.Int (truth b) → Gives d (truth b) s t → Gives d (word_of objects x) s t
truth_gives objects d x b s t e g = (g.0 ∙ sym (ap (word_of objects) e), g.1, g.2)

pub makes_holds : (c : Setting) (told : Told) (tested lone : Bool) (o : Option Cc) (operation : OpCode) (r : BoxId) (args : List Arg) (d : Descr) (ops : List OptOp) (env : Opt) (x : Value) (s t : State)
    → ((b : ℕ) → MayHold (c.at b)) → IsApart c.at (opt.Plain operation (Some r) args d) ops → Holds c told (opt.Plain operation (Some r) args d ∷ ops) env s → IsPart (length env.world.objects) x → (lone ≡ true → is_lone r ops ≡ true) → (lone ≡ true → tested ≡ true) → Makes (address_of env.world.objects) lone o (c.at r.number) x s t → Holds c (told_if tested o r) ops (with_result r x env.world env) t × SameArena s t
makes_holds c told true lone None operation r args d ops env x s t m apart h part un te g = gives_holds c told tell.Nothing operation r args d ops env x env.world s t m apart h refl part g tt
makes_holds c told false lone None operation r args d ops env x s t m apart h part un te g = gives_holds c told tell.Nothing operation r args d ops env x env.world s t m apart h refl part g tt
makes_holds c told true true (Some cond) operation r args d ops env x s t m apart h part un te (b, e, g) =
    lone_holds c told cond operation r args d ops env x env.world s t m h refl part (un refl) g.0 g.1 (tells_box cond r env x env.world t b e g.2)
makes_holds c told true false (Some cond) operation r args d ops env x s t m apart h part un te (b, e, (g, k)) =
    gives_holds c told (tell.Whether cond r) operation r args d ops env x env.world s t m apart h refl part (truth_gives (address_of env.world.objects) (c.at r.number) x b s t e g) (tells_box cond r env x env.world t b e k)
makes_holds c told false true (Some cond) operation r args d ops env x s t m apart h part un te g = absurd (let f = te refl in (cc))
makes_holds c told false false (Some cond) operation r args d ops env x s t m apart h part un te (b, e, (g, k)) =
    gives_holds c told tell.Nothing operation r args d ops env x env.world s t m apart h refl part (truth_gives (address_of env.world.objects) (c.at r.number) x b s t e g) tt

-- an integer that was made is a word
pub makes_word : (objects : ℕ → ℕ) (lone : Bool) (o : Option Cc) (d : Place) (x : Value) (z : ℤ) (s t : State) → x ≡ v.Int z → Makes objects lone o d x s t → IsWord z
makes_word objects lone None d x z s t e g = subst IsWord (g.0 ∙ ap (word_of objects) e) (g.2.words d)
makes_word objects lone (Some c) d x z s t e (b, f, g) = subst IsWord (int_is (truth b) z (sym f ∙ e)) (truth_word b)
  where
    int_is : (a k : ℤ) → v.Int a ≡ v.Int k → a ≡ k
    int_is a k q = cc
