-- What the conditions on a piece say of its guards.
use Rattle.std.proofs.Common.{◌≡◌, ℕ, zero, suc, ◌+◌, ◌<◌, ◌^◌, ℤ, List, [], ◌∷◌, ◌++◌, Option, Some, None, Bool, true, false, ◌||◌, cond, length, map, refl, ap, sym, subst, ◌∙◌, inl, inr, arith}
use Rattle.std.specs.Prelude.{slice_index_or, sum_by, IsSome}
use Rattle.std.specs.List.{list_any, All, AllByRecursion, Contains, flat_map}
use Rattle.std.proofs.lemmas.List.Elements.{All-push, All-nil, recursion_from_All, Contains-push_cases, All-contains_itself}
use Rattle.std.proofs.lemmas.List.Sums.{sum_by-cons}
use Rattle.indexmap.specs.IndexSet.{insert_key}
use Rattle.trace_ops.specs.declared.trace.Kind.{Kind}
use Rattle.trace_ops.specs.declared.trace.Arg.{Arg}
use Rattle.trace_ops.specs.declared.trace.Arg.TheVariants.{Of, Const, Null, Class, Func, Ptr}
use Rattle.trace_ops.specs.declared.piece.Val.{Val}
use Rattle.trace_ops.specs.declared.piece.Val.TheVariants.{Known, Virtual}
use Rattle.trace_ops.specs.declared.piece.OptFrame.{OptFrame}
use Rattle.trace_ops.specs.declared.piece.Shape.{Shape}
use Rattle.trace_ops.specs.declared.piece.Pending.{Pending}
use Rattle.trace_ops.specs.declared.piece.Snapshot.{Snapshot}
use Rattle.trace_ops.specs.declared.piece.OptOp.{OptOp}
use Rattle.trace_ops.specs.declared.piece.OptOp.TheVariants as o
use Rattle.trace_ops.specs.declared.piece.Piece.{Piece}
use Rattle.trace_ops.specs.contracts.trace.ArgPartialEq.TheImpl as arg_eq
use Rattle.trace_ops.specs.Lawful.{IsNumbered}
use Rattle.trace_ops.specs.Pieces.{snapshots_of, guards_of}
use Rattle.trace_ops.specs.Snapshots.{IsValue}
use Rattle.trace_ops.specs.Sound.{AreApart, constants_in_arg, constants_in_val, constants_in, snapshots_in}
use Rattle.trace_ops.specs.contracts.trace.ArgEq.TheImpl.Laws as arg_laws
use Rattle.resume_numbering.specs.Tags.{small_index, with_integer, with_const, with_consts, MayNumber, MayNumberAll, IsKept}
use Rattle.resume_numbering.specs.Values.{values_in, values_of_store, IsBoxBelow}
use Rattle.resume_numbering.specs.Uses.{Guarded, guarded, after_frames, after_shapes, after_pending, after_snapshot, after_guards, MayFrames, MayShapes, MayPending, MayGuards, frames_in, shapes_in}
use Rattle.resume_numbering.specs.Conditions.{CanNumber}

assoc : {X : Type 0} (xs ys zs : List X) → (xs ++ ys) ++ zs ≡ xs ++ (ys ++ zs)
assoc [] ys zs = refl
assoc (x ∷ xs) ys zs = ap (λ ws. x ∷ ws) (assoc xs ys zs)

append_none : {X : Type 0} (xs : List X) → xs ++ [] ≡ xs
append_none [] = refl
append_none (x ∷ xs) = ap (λ ys. x ∷ ys) (append_none xs)

pub flat-append : {X Y : Type 0} (f : X → List Y) (xs ys : List X) → flat_map f (xs ++ ys) ≡ flat_map f xs ++ flat_map f ys
flat-append f [] ys = refl
flat-append f (x ∷ xs) ys = ap (λ zs. f x ++ zs) (flat-append f xs ys) ∙ sym (assoc (f x) (flat_map f xs) (flat_map f ys))

flat_flat : {X Y Z : Type 0} (g : Y → List Z) (f : X → List Y) (xs : List X) → flat_map g (flat_map f xs) ≡ flat_map (λ x. flat_map g (f x)) xs
flat_flat g f [] = refl
flat_flat g f (x ∷ xs) = flat-append g (f x) (flat_map f xs) ∙ ap (λ zs. flat_map g (f x) ++ zs) (flat_flat g f xs)

flat_same : {X Y : Type 0} (f g : X → List Y) → ((x : X) → f x ≡ g x) → (xs : List X) → flat_map f xs ≡ flat_map g xs
flat_same f g e [] = refl
flat_same f g e (x ∷ xs) = ap (λ ys. ys ++ flat_map f xs) (e x) ∙ ap (λ zs. g x ++ zs) (flat_same f g e xs)

pub snaps_are : (ops : List OptOp) → map (λ (g : Guarded). g.snap) (guarded ops) ≡ flat_map snapshots_of ops
snaps_are [] = refl
snaps_are (o.Plain code res args descr ∷ ops) = snaps_are ops
snaps_are (o.Guard code args guard snap ∷ ops) = ap (λ ss. snap ∷ ss) (snaps_are ops)
snaps_are (o.Exit guard snap ∷ ops) = ap (λ ss. snap ∷ ss) (snaps_are ops)
snaps_are (o.Jump to args ∷ ops) = snaps_are ops
snaps_are (o.Finish value ∷ ops) = snaps_are ops

pub guards_are : (ops : List OptOp) → map (λ (g : Guarded). g.guard) (guarded ops) ≡ flat_map guards_of ops
guards_are [] = refl
guards_are (o.Plain code res args descr ∷ ops) = guards_are ops
guards_are (o.Guard code args guard snap ∷ ops) = ap (λ gs. guard ∷ gs) (guards_are ops)
guards_are (o.Exit guard snap ∷ ops) = ap (λ gs. guard ∷ gs) (guards_are ops)
guards_are (o.Jump to args ∷ ops) = guards_are ops
guards_are (o.Finish value ∷ ops) = guards_are ops

with_consts-append : (consts : List Arg) (xs ys : List Val) → with_consts consts (xs ++ ys) ≡ with_consts (with_consts consts xs) ys
with_consts-append consts [] ys = refl
with_consts-append consts (x ∷ xs) ys = with_consts-append (with_const consts x) xs ys

frames_are : (consts : List Arg) (fs : List OptFrame) → after_frames consts fs ≡ with_consts consts (flat_map (λ (f : OptFrame). f.slots) fs)
frames_are consts [] = refl
frames_are consts (f ∷ fs) = frames_are (with_consts consts f.slots) fs ∙ sym (with_consts-append consts f.slots (flat_map (λ (f : OptFrame). f.slots) fs))

shapes_are : (consts : List Arg) (ss : List Shape) → after_shapes consts ss ≡ with_consts consts (flat_map (λ (h : Shape). h.parts) ss)
shapes_are consts [] = refl
shapes_are consts (s ∷ ss) = shapes_are (with_consts consts s.parts) ss ∙ sym (with_consts-append consts s.parts (flat_map (λ (h : Shape). h.parts) ss))

stores_are : (consts : List Arg) (ps : List Pending) → after_pending consts ps ≡ with_consts consts (flat_map values_of_store ps)
stores_are consts [] = refl
stores_are consts (p ∷ ps) = stores_are (with_const (with_const consts (Known p.base)) p.value) ps

snapshot_is : (consts : List Arg) (s : Snapshot) → after_snapshot consts s ≡ with_consts consts (values_in s)
snapshot_is consts s =
    let a = flat_map (λ (f : OptFrame). f.slots) s.frames in
    let b = flat_map (λ (h : Shape). h.parts) s.shapes in
    let d = flat_map values_of_store s.pending in
    stores_are (after_shapes (after_frames consts s.frames) s.shapes) s.pending
    ∙ ap (λ cs. with_consts cs d) (shapes_are (after_frames consts s.frames) s.shapes ∙ ap (λ cs. with_consts cs b) (frames_are consts s.frames) ∙ sym (with_consts-append consts a b))
    ∙ sym (with_consts-append consts (a ++ b) d)

guards_in_order : (consts : List Arg) (gs : List Guarded) → after_guards consts gs ≡ with_consts consts (flat_map values_in (map (λ (g : Guarded). g.snap) gs))
guards_in_order consts [] = refl
guards_in_order consts (g ∷ gs) =
    let rest = flat_map values_in (map (λ (h : Guarded). h.snap) gs) in
    guards_in_order (after_snapshot consts g.snap) gs ∙ ap (λ cs. with_consts cs rest) (snapshot_is consts g.snap) ∙ sym (with_consts-append consts (values_in g.snap) rest)

pub consts_are : (p : Piece) → after_guards [] (guarded p.ops) ≡ with_consts [] (flat_map values_in (snapshots_in p))
consts_are p = guards_in_order [] (guarded p.ops) ∙ ap (λ ss. with_consts [] (flat_map values_in ss)) (snaps_are p.ops)

sum_frames : (gs : List Guarded) → frames_in gs ≡ sum_by (λ (s : Snapshot). length s.frames) (map (λ (g : Guarded). g.snap) gs)
sum_frames [] = refl
sum_frames (g ∷ gs) = ap (λ n. length g.snap.frames + n) (sum_frames gs) ∙ sym (sum_by-cons (λ (s : Snapshot). length s.frames) g.snap (map (λ (h : Guarded). h.snap) gs))

sum_shapes : (gs : List Guarded) → shapes_in gs ≡ sum_by (λ (s : Snapshot). length s.shapes) (map (λ (g : Guarded). g.snap) gs)
sum_shapes [] = refl
sum_shapes (g ∷ gs) = ap (λ n. length g.snap.shapes + n) (sum_shapes gs) ∙ sym (sum_by-cons (λ (s : Snapshot). length s.shapes) g.snap (map (λ (h : Guarded). h.snap) gs))

pub frames_few : (p : Piece) → CanNumber p → frames_in (guarded p.ops) < 2 ^ 32
frames_few p can = subst (λ n. n < 2 ^ 32) (sym (sum_frames (guarded p.ops) ∙ ap (sum_by (λ (s : Snapshot). length s.frames)) (snaps_are p.ops))) can.few_frames

pub shapes_few : (p : Piece) → CanNumber p → shapes_in (guarded p.ops) < 2 ^ 32
shapes_few p can = subst (λ n. n < 2 ^ 32) (sym (sum_shapes (guarded p.ops) ∙ ap (sum_by (λ (s : Snapshot). length s.shapes)) (snaps_are p.ops))) can.few_shapes

-- constants

pub all-insert_key : {X : Type 0} (eq : X → X → Bool) (P : X → Type 0) (xs : List X) (x : X) → All P xs → P x → All P (insert_key eq xs x)
all-insert_key {X} eq P xs x h p = by (list_any (eq x) xs)
  where
    by : (b : Bool) → All P (cond b xs (xs ++ x ∷ []))
    by true = h
    by false = All-push P xs x h p

pub split : {X : Type 0} (P : X → Type 0) (xs ys : List X) → AllByRecursion P (xs ++ ys) → AllByRecursion P xs × AllByRecursion P ys
split P [] ys h = (tt, h)
split P (x ∷ xs) ys h = let rest = split P xs ys h.1 in ((h.0, rest.0), rest.1)

integer_within : (P : Arg → Type 0) (consts : List Arg) (z : ℤ) (o : Option ℕ) → All P consts → (o ≡ None → P (Const z)) → All P (with_integer consts z o)
integer_within P consts z (Some x) h p = h
integer_within P consts z None h p = all-insert_key arg_eq.ghosts.eq P consts (Const z) h (p refl)

const_within : (P : Arg → Type 0) (consts : List Arg) (v : Val) → All P consts → AllByRecursion P (constants_in_val v) → All P (with_const consts v)
const_within P consts (Known (Of b)) h p = h
const_within P consts (Known (Const z)) h p = integer_within P consts z (small_index z) h (λ e. p.0)
const_within P consts (Known Null) h p = all-insert_key arg_eq.ghosts.eq P consts Null h p.0
const_within P consts (Known (Ptr k)) h p = all-insert_key arg_eq.ghosts.eq P consts (Ptr k) h p.0
const_within P consts (Known (Class k)) h p = h
const_within P consts (Known (Func k)) h p = h
const_within P consts (Virtual n) h p = h

consts_within : (P : Arg → Type 0) (consts : List Arg) (vs : List Val) → All P consts → AllByRecursion P (flat_map constants_in_val vs) → All P (with_consts consts vs)
consts_within P consts [] h p = h
consts_within P consts (v ∷ vs) h p =
    let parts = split P (constants_in_val v) (flat_map constants_in_val vs) p in
    consts_within P (with_const consts v) vs (const_within P consts v h parts.0) parts.1

kept_one : (consts : List Arg) (v : Val) → All IsKept consts → All IsKept (with_const consts v)
kept_one consts (Known (Of b)) h = h
kept_one consts (Known (Const z)) h = integer_within IsKept consts z (small_index z) h (λ e. e)
kept_one consts (Known Null) h = all-insert_key arg_eq.ghosts.eq IsKept consts Null h tt
kept_one consts (Known (Ptr k)) h = all-insert_key arg_eq.ghosts.eq IsKept consts (Ptr k) h tt
kept_one consts (Known (Class k)) h = h
kept_one consts (Known (Func k)) h = h
kept_one consts (Virtual n) h = h

pub are_kept : (consts : List Arg) (vs : List Val) → All IsKept consts → All IsKept (with_consts consts vs)
are_kept consts [] h = h
are_kept consts (v ∷ vs) h = are_kept (with_const consts v) vs (kept_one consts v h)

or_parts : (a b : Bool) → (a || b) ≡ false → (a ≡ false) × (b ≡ false)
or_parts true b h = cc
or_parts false b h = (refl, h)

absent : (xs : List Arg) (x : Arg) → list_any (arg_eq.ghosts.eq x) xs ≡ false → (k : ℕ) → k < length xs → slice_index_or xs k x ≡ x → ⊥
absent [] x h k w e = absurd (omega arith)
absent (y ∷ ys) x h zero w e =
    let same : arg_eq.ghosts.eq x y ≡ true = subst (λ z. arg_eq.ghosts.eq x z ≡ true) (sym e) (arg_laws.lawful.laws.refl x) in
    let wrong : false ≡ true = sym (or_parts (arg_eq.ghosts.eq x y) (list_any (arg_eq.ghosts.eq x) ys) h).0 ∙ same in
    cc
absent (y ∷ ys) x h (suc k) w e = absent ys x (or_parts (arg_eq.ghosts.eq x y) (list_any (arg_eq.ghosts.eq x) ys) h).1 k (omega (arith, w)) e

apart-push : (xs : List Arg) (x : Arg) → AreApart xs → (Contains xs x → ⊥) → AreApart (xs ++ x ∷ [])
apart-push [] x h never = (λ c. absurd (omega (arith, c.1)), tt)
apart-push (y ∷ ys) x h never = (
  λ c. elim (Contains-push_cases ys x y c) [ inl d ↦ h.0 d | inr e ↦ never (0, omega arith, sym e) ],
  apart-push ys x h.1 (λ c. never (c.0 + 1, omega (arith, c.1), further c)),
)
  where
    further : (c : Contains ys x) → slice_index_or (y ∷ ys) (c.0 + 1) x ≡ x
    further c = let one : c.0 + 1 ≡ suc c.0 = omega arith in rw one c.2

apart-insert_key : (xs : List Arg) (x : Arg) → AreApart xs → AreApart (insert_key arg_eq.ghosts.eq xs x)
apart-insert_key xs x h = by (list_any (arg_eq.ghosts.eq x) xs) refl
  where
    by : (b : Bool) → list_any (arg_eq.ghosts.eq x) xs ≡ b → AreApart (cond b xs (xs ++ x ∷ []))
    by true e = h
    by false e = apart-push xs x h (λ c. absent xs x e c.0 c.1 c.2)

apart_integer : (consts : List Arg) (z : ℤ) (o : Option ℕ) → AreApart consts → AreApart (with_integer consts z o)
apart_integer consts z (Some x) h = h
apart_integer consts z None h = apart-insert_key consts (Const z) h

apart_one : (consts : List Arg) (v : Val) → AreApart consts → AreApart (with_const consts v)
apart_one consts (Known (Of b)) h = h
apart_one consts (Known (Const z)) h = apart_integer consts z (small_index z) h
apart_one consts (Known Null) h = apart-insert_key consts Null h
apart_one consts (Known (Ptr k)) h = apart-insert_key consts (Ptr k) h
apart_one consts (Known (Class k)) h = h
apart_one consts (Known (Func k)) h = h
apart_one consts (Virtual n) h = h

are_apart : (consts : List Arg) (vs : List Val) → AreApart consts → AreApart (with_consts consts vs)
are_apart consts [] h = h
are_apart consts (v ∷ vs) h = are_apart (with_const consts v) vs (apart_one consts v h)

store_constants : (p : Pending) → flat_map constants_in_val (values_of_store p) ≡ constants_in_arg p.base ++ constants_in_val p.value
store_constants p = ap (λ vs. constants_in_arg p.base ++ vs) (append_none (constants_in_val p.value))

snapshot_constants : (s : Snapshot) → flat_map constants_in_val (values_in s) ≡ constants_in s
snapshot_constants s =
    let f : OptFrame → List Val = λ (x : OptFrame). x.slots in
    let h : Shape → List Val = λ (x : Shape). x.parts in
    let a = flat_map f s.frames in
    let b = flat_map h s.shapes in
    let d = flat_map values_of_store s.pending in
    let stores : flat_map constants_in_val d ≡ flat_map (λ (p : Pending). constants_in_arg p.base ++ constants_in_val p.value) s.pending =
    flat_flat constants_in_val values_of_store s.pending ∙ flat_same (λ p. flat_map constants_in_val (values_of_store p)) (λ (p : Pending). constants_in_arg p.base ++ constants_in_val p.value) store_constants s.pending in
    flat-append constants_in_val (a ++ b) d
    ∙ ap (λ xs. xs ++ flat_map constants_in_val d) (flat-append constants_in_val a b ∙ ap (λ xs. xs ++ flat_map constants_in_val b) (flat_flat constants_in_val f s.frames) ∙ ap (λ xs. flat_map (λ (x : OptFrame). flat_map constants_in_val x.slots) s.frames ++ xs) (flat_flat constants_in_val h s.shapes))
    ∙ ap (λ xs. flat_map (λ (x : OptFrame). flat_map constants_in_val x.slots) s.frames ++ flat_map (λ (x : Shape). flat_map constants_in_val x.parts) s.shapes ++ xs) stores

pub constants_are : (ss : List Snapshot) → flat_map constants_in_val (flat_map values_in ss) ≡ flat_map constants_in ss
constants_are ss = flat_flat constants_in_val values_in ss ∙ flat_same (λ s. flat_map constants_in_val (values_in s)) constants_in snapshot_constants ss

pub consts_few : (p : Piece) → CanNumber p → length (after_guards [] (guarded p.ops)) < 2 ^ 30
consts_few p can =
    let vs = flat_map values_in (snapshots_in p) in
    let cs = flat_map constants_in (snapshots_in p) in
    let all : AllByRecursion (Contains cs) (flat_map constants_in_val vs) = subst (AllByRecursion (Contains cs)) (sym (constants_are (snapshots_in p))) (recursion_from_All (Contains cs) cs (All-contains_itself cs)) in
    subst (λ xs. length xs < 2 ^ 30) (sym (consts_are p)) (can.few_constants (with_consts [] vs) (are_apart [] vs tt) (consts_within (Contains cs) [] vs (All-nil (Contains cs)) all))

-- values

nothing : (X : Type 0) → IsSome {T = X} None → ⊥
nothing X h = cc

may_value : (n : ℕ) → n < 2 ^ 30 → (v : Val) → IsValue v → IsNumbered n v → IsBoxBelow (2 ^ 30) v → MayNumber v
may_value n w (Known (Of b)) h k box = box
may_value n w (Known (Const z)) h k box = tt
may_value n w (Known Null) h k box = tt
may_value n w (Known (Ptr m)) h k box = tt
may_value n w (Known (Class m)) h k box = absurd (nothing Kind h)
may_value n w (Known (Func m)) h k box = absurd (nothing Kind h)
may_value n w (Virtual m) h k box = omega (arith, w, k)

may_all : (vs : List Val) → AllByRecursion MayNumber vs → MayNumberAll vs
may_all [] h = tt
may_all (v ∷ vs) h = (h.0, may_all vs h.1)

may_frames : (fs : List OptFrame) → AllByRecursion MayNumber (flat_map (λ (f : OptFrame). f.slots) fs) → MayFrames fs
may_frames [] h = tt
may_frames (f ∷ fs) h = let parts = split MayNumber f.slots (flat_map (λ (f : OptFrame). f.slots) fs) h in (may_all f.slots parts.0, may_frames fs parts.1)

may_shapes : (ss : List Shape) → AllByRecursion MayNumber (flat_map (λ (h : Shape). h.parts) ss) → MayShapes ss
may_shapes [] h = tt
may_shapes (s ∷ ss) h = let parts = split MayNumber s.parts (flat_map (λ (h : Shape). h.parts) ss) h in (may_all s.parts parts.0, may_shapes ss parts.1)

may_stores : (ps : List Pending) → AllByRecursion MayNumber (flat_map values_of_store ps) → MayPending ps
may_stores [] h = tt
may_stores (p ∷ ps) h = (h.0, h.1.0, may_stores ps h.1.1)

pub record CanSnapshot (s : Snapshot) : Type 0 where
  pub has_frames : 0 < length s.frames
  pub few_shapes : length s.shapes < 2 ^ 30
  pub values : AllByRecursion IsValue (values_in s)
  pub virtuals : AllByRecursion (IsNumbered (length s.shapes)) (values_in s)
  pub boxes : AllByRecursion (IsBoxBelow (2 ^ 30)) (values_in s)

values_may : (n : ℕ) → n < 2 ^ 30 → (vs : List Val) → AllByRecursion IsValue vs → AllByRecursion (IsNumbered n) vs → AllByRecursion (IsBoxBelow (2 ^ 30)) vs → AllByRecursion MayNumber vs
values_may n w [] a b d = tt
values_may n w (v ∷ vs) a b d = (may_value n w v a.0 b.0 d.0, values_may n w vs a.1 b.1 d.1)

may_guards : (gs : List Guarded) → AllByRecursion CanSnapshot (map (λ (g : Guarded). g.snap) gs) → MayGuards gs
may_guards [] h = tt
may_guards (g ∷ gs) h =
    let s = g.snap in
    let a = flat_map (λ (f : OptFrame). f.slots) s.frames in
    let b = flat_map (λ (x : Shape). x.parts) s.shapes in
    let d = flat_map values_of_store s.pending in
    let all = values_may (length s.shapes) h.0.few_shapes (values_in s) h.0.values h.0.virtuals h.0.boxes in
    let outer = split MayNumber (a ++ b) d all in
    let inner = split MayNumber a b outer.0 in
    ((h.0.has_frames, may_frames s.frames inner.0, may_shapes s.shapes inner.1, may_stores s.pending outer.1), may_guards gs h.1)

pub snapshots_can : (p : Piece) → CanNumber p → AllByRecursion CanSnapshot (map (λ (g : Guarded). g.snap) (guarded p.ops))
snapshots_can p can = subst (AllByRecursion CanSnapshot) (sym (snaps_are p.ops)) (recursion_from_All CanSnapshot (snapshots_in p) each)
  where
    each : All CanSnapshot (snapshots_in p)
    each k d w =
        let s = slice_index_or (snapshots_in p) k d in
        record {
          has_frames = can.has_frames k d w;
          few_shapes = can.few_shapes_each k d w;
          values = recursion_from_All IsValue (values_in s) (can.are_values k d w);
          virtuals = recursion_from_All (IsNumbered (length s.shapes)) (values_in s) (can.virtuals_named k d w);
          boxes = recursion_from_All (IsBoxBelow (2 ^ 30)) (values_in s) (can.few_boxes k d w);
        }

pub guards_may : (p : Piece) → CanNumber p → MayGuards (guarded p.ops)
guards_may p can = may_guards (guarded p.ops) (snapshots_can p can)
