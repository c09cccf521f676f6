-- A piece that passes the quick test can be numbered.
use Rattle.std.proofs.Common.{◌≡◌, ℕ, zero, suc, ◌+◌, ◌*◌, ◌<◌, ◌≤◌, ◌^◌, List, [], ◌∷◌, ◌++◌, Option, Some, None, Bool, true, false, ◌&&◌, ◌==◌, cond, length, slice_get, drop, refl, ap, sym, subst, ◌∙◌, ◌⊎◌, inl, inr, arith, length-append}
use Rattle.std.specs.Prelude.{slice_index_or, sum_by, nat_lt, nat_eq, position}
use Rattle.std.specs.List.{list_all, All, AllByRecursion, AllZip, Contains, flat_map, position_or_len}
use Rattle.std.specs.Option.{option_map}
use Rattle.std.proofs.lemmas.Bool.{and_parts, ltb-true, eqb-true}
use Rattle.std.proofs.lemmas.List.Sums.{sum_by-cons}
use Rattle.std.proofs.lemmas.List.Elements.{All-from_recursion, recursion_from_All, All-contains}
use Rattle.std.proofs.lemmas.Option.{slice_get_within, slice_get-map, get_or_from_slice_get}
use Rattle.trace_ops.specs.declared.trace.Kind.{Kind}
use Rattle.trace_ops.specs.declared.trace.Kind.TheVariants.{Int, Ref}
use Rattle.trace_ops.specs.declared.trace.Arg.TheVariants.{Of, Const, Null, Class, Func, Ptr}
use Rattle.trace_ops.specs.declared.piece.Val.{Val}
use Rattle.trace_ops.specs.declared.piece.Val.TheVariants.{Known, Virtual}
use Rattle.trace_ops.specs.declared.piece.OptFrame.{OptFrame}
use Rattle.trace_ops.specs.declared.piece.Shape.{Shape}
use Rattle.trace_ops.specs.declared.piece.Pending.{Pending}
use Rattle.trace_ops.specs.declared.piece.Snapshot.{Snapshot}
use Rattle.trace_ops.specs.declared.piece.OptOp.{OptOp}
use Rattle.trace_ops.specs.declared.piece.OptOp.TheVariants as o
use Rattle.trace_ops.specs.declared.piece.Piece.{Piece}
use Rattle.trace_ops.specs.Lawful.{IsNumbered}
use Rattle.trace_ops.specs.Pieces.{guards_of, snapshots_of}
use Rattle.trace_ops.specs.Snapshots.{IsValue}
use Rattle.trace_ops.specs.Sound.{AreApart, constants_in, constants_in_val, snapshots_in}
use Rattle.resume_numbering.specs.Values.{values_in, values_of_store, IsBoxBelow, IsOfKind}
use Rattle.resume_numbering.specs.Conditions.{CanNumber}
use Rattle.resume_numbering.specs.declared.rows.GuardRow.{GuardRow}
use Rattle.resume_numbering.specs.declared.rows.ResumeTable.{ResumeTable}
use Rattle.resume_numbering.specs.Tags.{IsBoxTagBelow}
use Rattle.resume_numbering.specs.Uses.{Guarded, guarded}
use Rattle.resume_numbering.specs.Numbered.{StandsIn, IsNumbered as IsTableOf}
use Rattle.resume_numbering.specs.Reading.{AreOfKind, HasKinds, HasRow, place_of}
use Rattle.resume_numbering.specs.Fitting.{kind_is, arg_fits, value_fits, all_fit, values_fit, store_fits, lengths_fit, frames_fit, shapes_fit, stores_fit, snapshot_fits, op_fits, ops_fit, fits}
use Rattle.resume_numbering.proofs.TagLemmas.{drop_next}
use Rattle.resume_numbering.proofs.PieceLemmas.{constants_are, snaps_are}
use Rattle.resume_numbering.proofs.LawfulLemmas.{unsome, leads, box_below}
use Rattle.resume_numbering.proofs.ReadingLemmas.{all_at, place_is}

pub fit_next : (kinds : List Kind) (ops : List OptOp) (i : ℕ) (op : OptOp) → op ≡ slice_index_or ops i op → i < length ops → ops_fit kinds i (drop i ops) ≡ (op_fits kinds i op && ops_fit kinds (i + 1) (drop (i + 1) ops))
fit_next kinds ops i op e w = ap (ops_fit kinds i) (drop_next ops i op w ∙ ap (λ x. x ∷ drop (i + 1) ops) (sym e))

-- at most as many distinct items as there are places

abbrev Has : {X : Type 0} → List X → X → Type 0
Has [] x = ⊥
Has (y ∷ ys) x = (y ≡ x) ⊎ Has ys x

has_of : {X : Type 0} (xs : List X) (x : X) (k : ℕ) → k < length xs → slice_index_or xs k x ≡ x → Has xs x
has_of [] x k w e = absurd (omega (arith, w))
has_of (y ∷ ys) x zero w e = inl e
has_of (y ∷ ys) x (suc k) w e = inr (has_of ys x k (omega (arith, w)) e)

without : {X : Type 0} (cs : List X) (x : X) → Has cs x → List X
without [] x h = []
without (y ∷ ys) x (inl e) = ys
without (y ∷ ys) x (inr h) = y ∷ without ys x h

length-without : {X : Type 0} (cs : List X) (x : X) (h : Has cs x) → length cs ≡ 1 + length (without cs x h)
unfolding without
length-without [] x h = absurd h
length-without (y ∷ ys) x (inl e) = omega arith
length-without (y ∷ ys) x (inr h) = omega (arith, length-without ys x h)

still : {X : Type 0} (cs : List X) (x : X) (h : Has cs x) (y : X) → (x ≡ y → ⊥) → Has cs y → Has (without cs x h) y
unfolding without
still [] x h y never k = absurd h
still (z ∷ zs) x (inl e) y never (inl f) = absurd (never (sym e ∙ f))
still (z ∷ zs) x (inl e) y never (inr k) = k
still (z ∷ zs) x (inr h) y never (inl f) = inl f
still (z ∷ zs) x (inr h) y never (inr k) = inr (still zs x h y never k)

further : {X : Type 0} (ys : List X) (y x : X) → Contains ys x → Contains (y ∷ ys) x
further ys y x c = (c.0 + 1, omega (arith, c.1), at)
  where
    at : slice_index_or (y ∷ ys) (c.0 + 1) x ≡ x
    at = let one : c.0 + 1 ≡ suc c.0 = omega arith in rw one c.2

moved : {X : Type 0} (cs : List X) (x : X) (h : Has cs x) (xs : List X) → (Contains xs x → ⊥) → AllByRecursion (Has cs) xs → AllByRecursion (Has (without cs x h)) xs
moved cs x h [] never a = tt
moved cs x h (y ∷ ys) never a = (still cs x h y (λ e. never (0, omega arith, sym e)) a.0, moved cs x h ys (λ c. never (further ys y x c)) a.1)

fewer : {X : Type 0} (some cs : List X) → AreApart some → AllByRecursion (Has cs) some → length some ≤ length cs
fewer [] cs h a = omega arith
fewer (x ∷ xs) cs h a = omega (arith, length-without cs x a.0, fewer xs (without cs x a.0) h.1 (moved cs x a.0 xs h.0 a.1))

have_all : {X : Type 0} (cs xs : List X) → AllByRecursion (Contains cs) xs → AllByRecursion (Has cs) xs
have_all cs [] h = tt
have_all cs (x ∷ xs) h = (has_of cs x h.0.0 h.0.1 h.0.2, have_all cs xs h.1)

pub few_apart : {X : Type 0} (some cs : List X) → AreApart some → All (Contains cs) some → length some ≤ length cs
few_apart some cs h a = fewer some cs h (have_all cs some (recursion_from_All (Contains cs) some a))

-- values

record Good (kinds : List Kind) (n : ℕ) (v : Val) : Type 0 where
  is_value : IsValue v
  named : IsNumbered n v
  of_kind : IsOfKind kinds v

kind_found : (found : Option Kind) (k : Kind) → kind_is found k ≡ true → found ≡ Some k
kind_found (Some Int) Int e = refl
kind_found (Some Ref) Ref e = refl
kind_found (Some Int) Ref e = cc
kind_found (Some Ref) Int e = cc
kind_found None Int e = cc
kind_found None Ref e = cc

good : (kinds : List Kind) (n : ℕ) (v : Val) → value_fits kinds n v ≡ true → Good kinds n v
good kinds n (Known (Of b)) e = record { is_value = refl; named = tt; of_kind = kind_found (slice_get kinds b.number) b.kind e }
good kinds n (Known (Const z)) e = record { is_value = refl; named = tt; of_kind = tt }
good kinds n (Known Null) e = record { is_value = refl; named = tt; of_kind = tt }
good kinds n (Known (Ptr k)) e = record { is_value = refl; named = tt; of_kind = tt }
good kinds n (Known (Class k)) e = cc
good kinds n (Known (Func k)) e = cc
good kinds n (Virtual k) e = record { is_value = refl; named = ltb-true k n e; of_kind = tt }

all_good : (kinds : List Kind) (n : ℕ) (vs : List Val) → all_fit kinds n vs ≡ true → AllByRecursion (Good kinds n) vs
all_good kinds n [] e = tt
all_good kinds n (v ∷ vs) e = let parts = and_parts (value_fits kinds n v) (all_fit kinds n vs) e in (good kinds n v parts.0, all_good kinds n vs parts.1)

join : {X : Type 0} (P : X → Type 0) (xs ys : List X) → AllByRecursion P xs → AllByRecursion P ys → AllByRecursion P (xs ++ ys)
join P [] ys h k = k
join P (x ∷ xs) ys h k = (h.0, join P xs ys h.1 k)

parts_good : {X : Type 0} (kinds : List Kind) (n : ℕ) (f : X → List Val) (xs : List X) → list_all (λ x. values_fit kinds n (f x)) xs ≡ true → AllByRecursion (Good kinds n) (flat_map f xs) × (length (flat_map f xs) ≤ 64 * length xs)
parts_good kinds n f [] e = (tt, omega arith)
parts_good kinds n f (x ∷ xs) e =
    let parts = and_parts (values_fit kinds n (f x)) (list_all (λ y. values_fit kinds n (f y)) xs) e in
    let here = and_parts (nat_lt (length (f x)) 64) (all_fit kinds n (f x)) parts.0 in
    let rest = parts_good kinds n f xs parts.1 in
    (join (Good kinds n) (f x) (flat_map f xs) (all_good kinds n (f x) here.1) rest.0, omega (arith, ltb-true (length (f x)) 64 here.0, rest.1, length-append (f x) (flat_map f xs)))

stores_good : (kinds : List Kind) (n : ℕ) (ps : List Pending) → list_all (store_fits kinds n) ps ≡ true → AllByRecursion (Good kinds n) (flat_map values_of_store ps) × (length (flat_map values_of_store ps) ≤ 2 * length ps)
stores_good kinds n [] e = (tt, omega arith)
stores_good kinds n (p ∷ ps) e =
    let parts = and_parts (store_fits kinds n p) (list_all (store_fits kinds n) ps) e in
    let here = and_parts (arg_fits kinds p.base) (value_fits kinds n p.value) parts.0 in
    let rest = stores_good kinds n ps parts.1 in
    ((good kinds n (Known p.base) here.0, (good kinds n p.value here.1, rest.0)), omega (arith, rest.1))

record GoodSnapshot (kinds : List Kind) (s : Snapshot) : Type 0 where
  has_frames : 0 < length s.frames
  frames : length s.frames < 64
  shapes : length s.shapes < 64
  values : AllByRecursion (Good kinds (length s.shapes)) (values_in s)
  count : length (values_in s) ≤ 8320

good_snapshot : (kinds : List Kind) (s : Snapshot) → snapshot_fits kinds s ≡ true → GoodSnapshot kinds s
good_snapshot kinds s e =
    let n = length s.shapes in
    let slots : OptFrame → List Val = λ (x : OptFrame). x.slots in
    let parts : Shape → List Val = λ (x : Shape). x.parts in
    let a = and_parts (lengths_fit s && frames_fit kinds s && shapes_fit kinds s) (stores_fit kinds s) e in
    let b = and_parts (lengths_fit s && frames_fit kinds s) (shapes_fit kinds s) a.0 in
    let d = and_parts (lengths_fit s) (frames_fit kinds s) b.0 in
    let l = and_parts (nat_lt 0 (length s.frames) && nat_lt (length s.frames) 64 && nat_lt (length s.shapes) 64) (nat_lt (length s.pending) 64) d.0 in
    let m = and_parts (nat_lt 0 (length s.frames) && nat_lt (length s.frames) 64) (nat_lt (length s.shapes) 64) l.0 in
    let k = and_parts (nat_lt 0 (length s.frames)) (nat_lt (length s.frames) 64) m.0 in
    let fs = parts_good kinds n slots s.frames d.1 in
    let hs = parts_good kinds n parts s.shapes b.1 in
    let ps = stores_good kinds n s.pending a.1 in
    let few_frames = ltb-true (length s.frames) 64 k.1 in
    let few_shapes = ltb-true (length s.shapes) 64 m.1 in
    let few_stores = ltb-true (length s.pending) 64 l.1 in
    record {
      has_frames = ltb-true 0 (length s.frames) k.0;
      frames = few_frames;
      shapes = few_shapes;
      values = join (Good kinds n) (flat_map slots s.frames ++ flat_map parts s.shapes) (flat_map values_of_store s.pending) (join (Good kinds n) (flat_map slots s.frames) (flat_map parts s.shapes) fs.0 hs.0) ps.0;
      count = omega (arith, fs.1, hs.1, ps.1, few_frames, few_shapes, few_stores, length-append (flat_map slots s.frames ++ flat_map parts s.shapes) (flat_map values_of_store s.pending), length-append (flat_map slots s.frames) (flat_map parts s.shapes));
    }

-- operations

record GoodGuard (kinds : List Kind) (k guard : ℕ) (snap : Snapshot) (ops : List OptOp) : Type 0 where
  number : guard ≡ k
  snapshot : GoodSnapshot kinds snap
  rest : ops_fit kinds (k + 1) ops ≡ true

good_guard : (kinds : List Kind) (k guard : ℕ) (snap : Snapshot) (ops : List OptOp) → (nat_eq guard k && snapshot_fits kinds snap && ops_fit kinds (k + 1) ops) ≡ true → GoodGuard kinds k guard snap ops
good_guard kinds k guard snap ops e =
    let a = and_parts (nat_eq guard k && snapshot_fits kinds snap) (ops_fit kinds (k + 1) ops) e in
    let b = and_parts (nat_eq guard k) (snapshot_fits kinds snap) a.0 in
    record { number = eqb-true guard k b.0; snapshot = good_snapshot kinds snap b.1; rest = a.1 }

above : (k : ℕ) (gs : List ℕ) → AllByRecursion (λ g. k + 1 ≤ g) gs → AllByRecursion (λ g. k ≤ g) gs
above k [] h = tt
above k (g ∷ gs) h = (omega (arith, h.0), above k gs h.1)

guards_above : (kinds : List Kind) (k : ℕ) (ops : List OptOp) → ops_fit kinds k ops ≡ true → AllByRecursion (λ g. k ≤ g) (flat_map guards_of ops)
guards_above kinds k [] e = tt
guards_above kinds k (o.Plain code res args descr ∷ ops) e = above k (flat_map guards_of ops) (guards_above kinds (k + 1) ops e)
guards_above kinds k (o.Guard code args guard snap ∷ ops) e = let g = good_guard kinds k guard snap ops e in (omega (arith, g.number), above k (flat_map guards_of ops) (guards_above kinds (k + 1) ops g.rest))
guards_above kinds k (o.Exit guard snap ∷ ops) e = let g = good_guard kinds k guard snap ops e in (omega (arith, g.number), above k (flat_map guards_of ops) (guards_above kinds (k + 1) ops g.rest))
guards_above kinds k (o.Jump to args ∷ ops) e = above k (flat_map guards_of ops) (guards_above kinds (k + 1) ops e)
guards_above kinds k (o.Finish value ∷ ops) e = above k (flat_map guards_of ops) (guards_above kinds (k + 1) ops e)

lone : (k guard : ℕ) (gs : List ℕ) → guard ≡ k → AllByRecursion (λ g. k + 1 ≤ g) gs → Contains gs guard → ⊥
lone k guard gs e h c = absurd (omega (arith, e, All-contains (λ g. k + 1 ≤ g) gs guard (All-from_recursion (λ g. k + 1 ≤ g) gs h) c))

guards_apart : (kinds : List Kind) (k : ℕ) (ops : List OptOp) → ops_fit kinds k ops ≡ true → AreApart (flat_map guards_of ops)
guards_apart kinds k [] e = tt
guards_apart kinds k (o.Plain code res args descr ∷ ops) e = guards_apart kinds (k + 1) ops e
guards_apart kinds k (o.Guard code args guard snap ∷ ops) e = let g = good_guard kinds k guard snap ops e in (lone k guard (flat_map guards_of ops) g.number (guards_above kinds (k + 1) ops g.rest), guards_apart kinds (k + 1) ops g.rest)
guards_apart kinds k (o.Exit guard snap ∷ ops) e = let g = good_guard kinds k guard snap ops e in (lone k guard (flat_map guards_of ops) g.number (guards_above kinds (k + 1) ops g.rest), guards_apart kinds (k + 1) ops g.rest)
guards_apart kinds k (o.Jump to args ∷ ops) e = guards_apart kinds (k + 1) ops e
guards_apart kinds k (o.Finish value ∷ ops) e = guards_apart kinds (k + 1) ops e

snaps_good : (kinds : List Kind) (k : ℕ) (ops : List OptOp) → ops_fit kinds k ops ≡ true → AllByRecursion (GoodSnapshot kinds) (flat_map snapshots_of ops) × (length (flat_map snapshots_of ops) ≤ length ops)
snaps_good kinds k [] e = (tt, omega arith)
snaps_good kinds k (o.Plain code res args descr ∷ ops) e = let r = snaps_good kinds (k + 1) ops e in (r.0, omega (arith, r.1))
snaps_good kinds k (o.Guard code args guard snap ∷ ops) e = let g = good_guard kinds k guard snap ops e in let r = snaps_good kinds (k + 1) ops g.rest in ((g.snapshot, r.0), omega (arith, r.1))
snaps_good kinds k (o.Exit guard snap ∷ ops) e = let g = good_guard kinds k guard snap ops e in let r = snaps_good kinds (k + 1) ops g.rest in ((g.snapshot, r.0), omega (arith, r.1))
snaps_good kinds k (o.Jump to args ∷ ops) e = let r = snaps_good kinds (k + 1) ops e in (r.0, omega (arith, r.1))
snaps_good kinds k (o.Finish value ∷ ops) e = let r = snaps_good kinds (k + 1) ops e in (r.0, omega (arith, r.1))

-- the piece

flat_good : (kinds : List Kind) (ss : List Snapshot) → AllByRecursion (GoodSnapshot kinds) ss → AllByRecursion (IsOfKind kinds) (flat_map values_in ss) × (length (flat_map values_in ss) ≤ 8320 * length ss)
flat_good kinds [] h = (tt, omega arith)
flat_good kinds (s ∷ ss) h =
    let rest = flat_good kinds ss h.1 in
    (join (IsOfKind kinds) (values_in s) (flat_map values_in ss) (each (Good kinds (length s.shapes)) (IsOfKind kinds) (λ v g. g.of_kind) (values_in s) h.0.values) rest.0, omega (arith, h.0.count, rest.1, length-append (values_in s) (flat_map values_in ss)))
  where
    each : (P Q : Val → Type 0) → ((v : Val) → P v → Q v) → (vs : List Val) → AllByRecursion P vs → AllByRecursion Q vs
    each P Q f [] h = tt
    each P Q f (v ∷ vs) h = (f v h.0, each P Q f vs h.1)

constants_one : (v : Val) → length (constants_in_val v) ≤ 1
constants_one (Known (Of b)) = omega arith
constants_one (Known (Const z)) = omega arith
constants_one (Known Null) = omega arith
constants_one (Known (Class k)) = omega arith
constants_one (Known (Func k)) = omega arith
constants_one (Known (Ptr k)) = omega arith
constants_one (Virtual k) = omega arith

constants_few : (vs : List Val) → length (flat_map constants_in_val vs) ≤ length vs
constants_few [] = omega arith
constants_few (v ∷ vs) = omega (arith, constants_one v, constants_few vs, length-append (constants_in_val v) (flat_map constants_in_val vs))

sums : (kinds : List Kind) (ss : List Snapshot) → AllByRecursion (GoodSnapshot kinds) ss → (sum_by (λ (s : Snapshot). length s.frames) ss ≤ 64 * length ss) × (sum_by (λ (s : Snapshot). length s.shapes) ss ≤ 64 * length ss)
sums kinds [] h = (omega arith, omega arith)
sums kinds (s ∷ ss) h =
    let rest = sums kinds ss h.1 in
    (omega (arith, rest.0, h.0.frames, sum_by-cons (λ (x : Snapshot). length x.frames) s ss), omega (arith, rest.1, h.0.shapes, sum_by-cons (λ (x : Snapshot). length x.shapes) s ss))

all_snaps : {kinds : List Kind} (P : Snapshot → Type 0) → ((s : Snapshot) → GoodSnapshot kinds s → P s) → (ss : List Snapshot) → AllByRecursion (GoodSnapshot kinds) ss → All P ss
all_snaps {kinds} P f ss h = All-from_recursion P ss (each ss h)
  where
    each : (xs : List Snapshot) → AllByRecursion (GoodSnapshot kinds) xs → AllByRecursion P xs
    each [] k = tt
    each (x ∷ xs) k = (f x k.0, each xs k.1)

all_values : (kinds : List Kind) (P : Val → Type 0) (s : Snapshot) → ((v : Val) → Good kinds (length s.shapes) v → P v) → GoodSnapshot kinds s → All P (values_in s)
all_values kinds P s f g = All-from_recursion P (values_in s) (each (values_in s) g.values)
  where
    each : (vs : List Val) → AllByRecursion (Good kinds (length s.shapes)) vs → AllByRecursion P vs
    each [] k = tt
    each (v ∷ vs) k = (f v k.0, each vs k.1)

box_low : (kinds : List Kind) → length kinds < 65536 → (v : Val) → IsOfKind kinds v → IsBoxBelow (2 ^ 30) v
box_low kinds w (Known (Of b)) h = omega (arith, w, slice_get_within kinds b.number b.kind h)
box_low kinds w (Known (Const z)) h = tt
box_low kinds w (Known Null) h = tt
box_low kinds w (Known (Class k)) h = tt
box_low kinds w (Known (Func k)) h = tt
box_low kinds w (Known (Ptr k)) h = tt
box_low kinds w (Virtual k) h = tt

same_kind : (a b : Kind) → Some a ≡ Some b → a ≡ b
same_kind a b e = cc

pub fits_can : (kinds : List Kind) (p : Piece) → fits kinds p ≡ true → CanNumber p × All (AreOfKind kinds) (snapshots_in p)
fits_can kinds p e =
    let a = and_parts (nat_lt (length kinds) 65536 && nat_lt (length p.ops) 32769) (ops_fit kinds 0 p.ops) e in
    let b = and_parts (nat_lt (length kinds) 65536) (nat_lt (length p.ops) 32769) a.0 in
    let few_kinds = ltb-true (length kinds) 65536 b.0 in
    let few_ops = ltb-true (length p.ops) 32769 b.1 in
    let ss = snapshots_in p in
    let snaps = snaps_good kinds 0 p.ops a.1 in
    let flat = flat_good kinds ss snaps.0 in
    let vs = flat_map values_in ss in
    let known : All (IsOfKind kinds) vs = All-from_recursion (IsOfKind kinds) vs flat.0 in
    let cs = flat_map constants_in ss in
    let few : length cs ≤ length vs = subst (λ xs. length xs ≤ length vs) (constants_are ss) (constants_few vs) in
    let total = sums kinds ss snaps.0 in (
      record {
        guards_once = guards_apart kinds 0 p.ops a.1;
        has_frames = all_snaps (λ (s : Snapshot). 0 < length s.frames) (λ s g. g.has_frames) ss snaps.0;
        one_kind = λ x y c d same. same_kind x.kind y.kind (sym (All-contains (IsOfKind kinds) vs (Known (Of x)) known c) ∙ ap (slice_get kinds) same ∙ All-contains (IsOfKind kinds) vs (Known (Of y)) known d);
        are_values = all_snaps (λ (s : Snapshot). All IsValue (values_in s)) (λ s. all_values kinds IsValue s (λ v g. g.is_value)) ss snaps.0;
        virtuals_named = all_snaps (λ (s : Snapshot). All (IsNumbered (length s.shapes)) (values_in s)) (λ s. all_values kinds (IsNumbered (length s.shapes)) s (λ v g. g.named)) ss snaps.0;
        few_boxes = all_snaps (λ (s : Snapshot). All (IsBoxBelow (2 ^ 30)) (values_in s)) (λ s. all_values kinds (IsBoxBelow (2 ^ 30)) s (λ v g. box_low kinds few_kinds v g.of_kind)) ss snaps.0;
        few_shapes_each = all_snaps (λ (s : Snapshot). length s.shapes < 2 ^ 30) (λ s g. omega (arith, g.shapes)) ss snaps.0;
        few_constants = λ some distinct within. omega (arith, few_apart some cs distinct within, few, flat.1, snaps.1, few_ops);
        few_frames = omega (arith, total.0, snaps.1, few_ops);
        few_shapes = omega (arith, total.1, snaps.1, few_ops);
      },
      all_snaps (AreOfKind kinds) (λ s. all_values kinds (IsOfKind kinds) s (λ v g. g.of_kind)) ss snaps.0,
    )

-- reading such a piece back

zip_across : {X Y : Type 0} (R : X → Y → Type 0) (xs : List X) (ys : List Y) (k : ℕ) (x : X) → AllZip R xs ys → slice_get xs k ≡ Some x → (y : Y) × (slice_get ys k ≡ Some y) × R x y
zip_across R [] [] k x h e = cc
zip_across R [] (z ∷ ys) k x h e = absurd h
zip_across R (w ∷ xs) [] k x h e = absurd h
zip_across R (w ∷ xs) (z ∷ ys) zero x h e = (z, refl, subst (λ v. R v z) (unsome w x e) h.0)
zip_across R (w ∷ xs) (z ∷ ys) (suc k) x h e = zip_across R xs ys k x h.1 e

pub numbered_kinds : (p : Piece) (table : ResumeTable) (kinds : List Kind) (guard : ℕ) → IsTableOf table p → All (AreOfKind kinds) (snapshots_in p) → HasKinds table guard kinds
numbered_kinds p table kinds guard n known row is =
    let found = zip_across (StandsIn table.consts table.frames table.virtuals) table.guards (guarded p.ops) is.place row n.rows is.stands in
    let snap : Guarded → Snapshot = λ (g : Guarded). g.snap in
    let at = sym (ap (λ ss. slice_get ss is.place) (snaps_are p.ops)) ∙ slice_get-map snap (guarded p.ops) is.place ∙ ap (option_map snap) found.1 in
    let own = all_at (AreOfKind kinds) (snapshots_in p) is.place found.0.snap known at in
    leads table.consts (IsBoxTagBelow (length kinds)) (IsOfKind kinds) (box_below table.consts kinds) table.frames table.virtuals row found.0.snap found.2.stands (recursion_from_All (IsOfKind kinds) (values_in found.0.snap) own)

past_end : (rows : List GuardRow) (j : ℕ) → j < length rows → slice_get rows j ≡ None → ⊥
past_end [] j w f = absurd (omega (arith, w))
past_end (row ∷ rows) zero w f = cc
past_end (row ∷ rows) (suc j) w f = past_end rows j (omega (arith, w)) f

position-within : (q : GuardRow → Bool) (rows : List GuardRow) (j : ℕ) → position q rows ≡ Some j → j < length rows
position-within q rows j f = below (nat_lt (position_or_len q rows) (length rows)) refl f
  where
    below : (b : Bool) → nat_lt (position_or_len q rows) (length rows) ≡ b → cond b (Some (position_or_len q rows)) None ≡ Some j → j < length rows
    below true t f = subst (λ i. i < length rows) (unsome (position_or_len q rows) j f) (ltb-true (position_or_len q rows) (length rows) t)
    below false t f = cc

pub placed_row : (table : ResumeTable) (guard k : ℕ) → place_of guard table.guards ≡ Some k → HasRow table guard
placed_row table guard k e = by (slice_get table.guards k) refl
  where
    by : (o : Option GuardRow) → slice_get table.guards k ≡ o → HasRow table guard
    by (Some row) g = (row, place_is table guard k row e (sym (get_or_from_slice_get table.guards k row row g)))
    by None g = absurd (past_end table.guards k (position-within (λ (r : GuardRow). r.guard == guard) table.guards k e) g)
