-- Reads on both sides.
use Rattle.std.proofs.Common.{◌≡◌, ℕ, Bool, true, false, cond, List, [], ◌∷◌, Option, Some, None, length, slice_get, refl, sym, ap, ◌∙◌, subst, arith, inl, inr}
use Rattle.std.specs.Prelude.{option_and_then}
use Rattle.std.specs.List.{AllByRecursion}
use Rattle.std.proofs.lemmas.Option.{slice_get_within}
use Rattle.lists.proofs.Options.{some_same, none_some}
use Rattle.lists.proofs.Places.{get_some}
use Rattle.lists.proofs.Zips.{zip_second, zip_long}
use Rattle.trace_ops.specs.declared.trace.Arg.{Arg}
use Rattle.trace_ops.specs.declared.table.Table.{Table}
use Rattle.trace_ops.specs.declared.piece.Spot.{Spot}
use Rattle.trace_ops.specs.declared.piece.Pending.{Pending}
use Rattle.trace_meaning.specs.declared.value.Value.{Value}
use Rattle.trace_meaning.specs.declared.value.Value.TheVariants as v
use Rattle.trace_meaning.specs.declared.value.Object.{Object}
use Rattle.trace_meaning.specs.World.{World}
use Rattle.trace_meaning.specs.Boxes.{Boxes}
use Rattle.trace_meaning.specs.Objects.{read, part_of_object, place_of, length_at, is_array, items_in}
use Rattle.heap_shape.specs.Sameness.{Maps, MapsIf}
use Rattle.heap_shape.specs.Visiting.{Has}
use Rattle.opt_meaning.specs.Along.{AreAlike}
use Rattle.opt_meaning.specs.Agrees.{Facts, Place, MapsAt, ArgIs, ValIs, IsPending, StoreIs, Agrees}
use Rattle.agreement.specs.Reading.{AreApart, ApartIsSettled, ReadsAlike, ReadAgrees, KnownIsRead, PendingIsRead, PartIsRead, LengthsAlike, ShapeIsLong}

-- Where parts lie

-- a place that was read is a place
pub placed : (t : Table) (spot : Spot) (o : Object) (y : Value) → part_of_object t spot o ≡ Some y → (i : ℕ) × (place_of t o.of spot ≡ Some i) × (slice_get o.parts i ≡ Some y)
placed t spot o y r = by (place_of t o.of spot) refl r
  where
    by : (p : Option ℕ) → place_of t o.of spot ≡ p → option_and_then (slice_get o.parts) p ≡ Some y → (i : ℕ) × (place_of t o.of spot ≡ Some i) × (slice_get o.parts i ≡ Some y)
    by None e q = absurd (none_some q)
    by (Some i) e q = (i, e, q)

-- what is read is a part of an object that is there
pub record Found (t : Table) (spot : Spot) (b y : Value) (w : World) : Type 0 where
  pub number : ℕ
  pub is : b ≡ v.Obj number
  pub object : Object
  pub there : slice_get w.objects number ≡ Some object
  pub place : ℕ
  pub lies : place_of t object.of spot ≡ Some place
  pub holds : slice_get object.parts place ≡ Some y

pub found : (t : Table) (spot : Spot) (b y : Value) (w : World) → read t spot b w ≡ Some y → Found t spot b y w
found t spot (v.Int z) y w e = absurd (none_some e)
found t spot v.Null y w e = absurd (none_some e)
found t spot (v.Obj n) y w e = by (slice_get w.objects n) refl e
  where
    by : (o : Option Object) → slice_get w.objects n ≡ o → option_and_then (part_of_object t spot) o ≡ Some y → Found t spot (v.Obj n) y w
    by None q r = absurd (none_some r)
    by (Some o) q r = let p = placed t spot o y r in record { number = n; is = refl; object = o; there = q; place = p.0; lies = p.1; holds = p.2 }

pub read_there : (t : Table) (spot : Spot) (n i : ℕ) (o : Object) (y : Value) (w : World) → slice_get w.objects n ≡ Some o → place_of t o.of spot ≡ Some i → slice_get o.parts i ≡ Some y → read t spot (v.Obj n) w ≡ Some y
read_there t spot n i o y w eo ep ey = ap (option_and_then (part_of_object t spot)) eo ∙ ap (option_and_then (slice_get o.parts)) ep ∙ ey

-- What stands for what

pub obj_same : {m n : ℕ} → v.Obj m ≡ v.Obj n → m ≡ n
obj_same e = cc

-- a value of the piece that stands for a recorded object is an object
pub obj_from : (m : ℕ → Option ℕ) (u : Value) (j : ℕ) → Maps m u (v.Obj j) → (n : ℕ) × (u ≡ v.Obj n) × (m n ≡ Some j)
obj_from m (v.Int z) j h = absurd h
obj_from m v.Null j h = absurd h
obj_from m (v.Obj n) j h = (n, refl, h)

-- what it stands for is one value
pub maps_once : (m : ℕ → Option ℕ) (u x y : Value) → Maps m u x → Maps m u y → x ≡ y
maps_once m (v.Int z) (v.Int x) (v.Int y) h k = ap v.Int (sym h ∙ k)
maps_once m v.Null v.Null v.Null h k = refl
maps_once m (v.Obj n) (v.Obj x) (v.Obj y) h k = ap v.Obj (some_same (sym h ∙ k))
maps_once m (v.Int z) v.Null y h k = absurd h
maps_once m (v.Int z) (v.Obj x) y h k = absurd h
maps_once m (v.Int z) (v.Int x) v.Null h k = absurd k
maps_once m (v.Int z) (v.Int x) (v.Obj y) h k = absurd k
maps_once m v.Null (v.Int x) y h k = absurd h
maps_once m v.Null (v.Obj x) y h k = absurd h
maps_once m v.Null v.Null (v.Int y) h k = absurd k
maps_once m v.Null v.Null (v.Obj y) h k = absurd k
maps_once m (v.Obj n) (v.Int x) y h k = absurd h
maps_once m (v.Obj n) v.Null y h k = absurd h
maps_once m (v.Obj n) (v.Obj x) (v.Int y) h k = absurd k
maps_once m (v.Obj n) (v.Obj x) v.Null h k = absurd k

pub arg_once : (at : Place) (a : Arg) (x y : Value) → ArgIs at a x → ArgIs at a y → x ≡ y
arg_once at a x y h k = maps_once (slice_get at.mapped) h.0 x y h.2 (subst (λ u. MapsAt at u y) (some_same (sym k.1 ∙ h.1)) k.2)

-- The mapped objects

-- an object of the piece and the recorded one, of one kind
pub record Twins (at : Place) (n j : ℕ) : Type 0 where
  pub one : Object
  pub here : slice_get at.opt.objects n ≡ Some one
  pub other : Object
  pub there : slice_get at.rec.objects j ≡ Some other
  pub alike : AreAlike one other

module _ (t : Table) (known : Facts) (boxes : Boxes) (at : Place) (h : Agrees t known boxes at) where
  pub twins : (n j : ℕ) → slice_get at.mapped n ≡ Some j → Twins at n j
  twins n j e =
      let a = get_some at.opt.objects n (omega (arith, slice_get_within at.mapped n j e, h.covers)) in
      let b = h.alike n j a.0 a.1 e in
      record { one = a.0; here = a.1; other = b.0; there = b.1; alike = b.2 }

apart_settled : (t : Table) (at : Place) (pending : List Pending) (spot : Spot) → AllByRecursion (λ (p : Pending). AreApart t spot p.spot) pending
    → (n i : ℕ) (o : Object) → slice_get at.opt.objects n ≡ Some o → place_of t o.of spot ≡ Some i → IsPending t at pending n i → ⊥
apart_settled t at [] spot all n i o eo ep w = w
apart_settled t at (p ∷ ps) spot all n i o eo ep (inl w) = all.0 o.of i ep (ap (λ (x : Object). place_of t x.of p.spot) (some_same (sym eo ∙ w.2)) ∙ w.3)
apart_settled t at (p ∷ ps) spot all n i o eo ep (inr w) = apart_settled t at ps spot all.1 n i o eo ep w

pub apart_is_settled : ApartIsSettled
apart_is_settled t at pending spot all u n i o eu eo ep w = apart_settled t at pending spot all n i o eo ep w

pub reads_alike : ReadsAlike
reads_alike t known boxes at h (v.Int x) (v.Int y) spot m settled = tt
reads_alike t known boxes at h v.Null v.Null spot m settled = tt
reads_alike t known boxes at h (v.Int x) v.Null spot m settled = absurd m
reads_alike t known boxes at h (v.Int x) (v.Obj y) spot m settled = absurd m
reads_alike t known boxes at h v.Null (v.Int y) spot m settled = absurd m
reads_alike t known boxes at h v.Null (v.Obj y) spot m settled = absurd m
reads_alike t known boxes at h (v.Obj x) (v.Int y) spot m settled = absurd m
reads_alike t known boxes at h (v.Obj x) v.Null spot m settled = absurd m
reads_alike t known boxes at h (v.Obj n) (v.Obj j) spot m settled =
    let w = twins t known boxes at h n j m in
    let same : place_of t w.other.of spot ≡ place_of t w.one.of spot = ap (λ o. place_of t o spot) (sym w.alike.of) in
    let first : read t spot (v.Obj n) at.opt ≡ option_and_then (slice_get w.one.parts) (place_of t w.one.of spot) = ap (option_and_then (part_of_object t spot)) w.here in
    let second : read t spot (v.Obj j) at.rec ≡ option_and_then (slice_get w.other.parts) (place_of t w.one.of spot) =
    ap (option_and_then (part_of_object t spot)) w.there ∙ ap (option_and_then (slice_get w.other.parts)) same in
    subst (λ x. MapsIf (slice_get at.mapped) x (read t spot (v.Obj j) at.rec)) (sym first)
    (subst (MapsIf (slice_get at.mapped) (option_and_then (slice_get w.one.parts) (place_of t w.one.of spot))) (sym second) (by w (place_of t w.one.of spot) refl))
  where
    part : (w : Twins at n j) (i : ℕ) → place_of t w.one.of spot ≡ Some i → (y : Option Value) → slice_get w.other.parts i ≡ y → MapsIf (slice_get at.mapped) (slice_get w.one.parts i) y
    part w i e (Some y) ey = elim (h.parts n j i w.one w.other y w.here m w.there ey) [
      | inl pending ↦ absurd (settled n i w.one refl w.here e pending)
      | inr maps ↦ maps
    ]
    part w i e None ey = none (slice_get w.one.parts i) refl
      where
        none : (x : Option Value) → slice_get w.one.parts i ≡ x → MapsIf (slice_get at.mapped) x None
        none None q = tt
        none (Some x) q =
            let s = get_some w.other.parts i (omega (arith, slice_get_within w.one.parts i x q, w.alike.parts)) in absurd (none_some (sym ey ∙ s.1))

    by : (w : Twins at n j) (p : Option ℕ) → place_of t w.one.of spot ≡ p → MapsIf (slice_get at.mapped) (option_and_then (slice_get w.one.parts) p) (option_and_then (slice_get w.other.parts) p)
    by w None e = tt
    by w (Some i) e = part w i e (slice_get w.other.parts i) refl

pub read_agrees : ReadAgrees
read_agrees t known boxes at h u b y spot m settled e = by (read t spot u at.opt) refl (subst (MapsIf (slice_get at.mapped) (read t spot u at.opt)) e (reads_alike t known boxes at h u b spot m settled))
  where
    by : (x : Option Value) → read t spot u at.opt ≡ x → MapsIf (slice_get at.mapped) x (Some y) → (x : Value) × (read t spot u at.opt ≡ Some x) × MapsAt at x y
    by None q w = absurd w
    by (Some x) q w = (x, q, w)

pub known_is_read : KnownIsRead
known_is_read t at base spot x b y h eb er =
    subst (ValIs at x) (some_same (sym h.3 ∙ ap (λ z. read t spot z at.rec) (arg_once at base h.0 b h.1 eb) ∙ er)) h.4

has_all : {X : Type 0} (P : X → Type 0) (xs : List X) (x : X) → AllByRecursion P xs → Has xs x → P x
has_all P [] x all h = absurd h
has_all P (z ∷ zs) x all (inl e) = subst P e all.0
has_all P (z ∷ zs) x all (inr h) = has_all P zs x all.1 h

pub pending_is_read : PendingIsRead
pending_is_read t known boxes at h p b y has eb er = known_is_read t at p.base p.spot p.value b y (has_all (StoreIs t at) known.pending p h.pending has).0 eb er

pub part_is_read : PartIsRead
part_is_read t known boxes at h n s b y spot live eb er =
    let k = h.shaped n s live in
    let f = found t spot b y at.rec er in
    let same : f.number ≡ k.object = obj_same (sym f.is ∙ eb.2 ∙ ap v.Obj (some_same (sym eb.1 ∙ k.names))) in
    let object : f.object ≡ k.recorded = some_same (sym f.there ∙ ap (slice_get at.rec.objects) same ∙ k.there) in
    let part = zip_second (ValIs at) s.parts k.recorded.parts k.parts f.place y (ap (λ (o : Object). slice_get o.parts f.place) (sym object) ∙ f.holds) in
    (f.place, ap (λ o. place_of t o spot) (sym (ap (λ (o : Object). o.of) object ∙ k.of)) ∙ f.lies, part.0, part.1, part.2)

pub lengths_alike : LengthsAlike
lengths_alike t known boxes at h (v.Int x) (v.Int y) array m = refl
lengths_alike t known boxes at h v.Null v.Null array m = refl
lengths_alike t known boxes at h (v.Int x) v.Null array m = absurd m
lengths_alike t known boxes at h (v.Int x) (v.Obj y) array m = absurd m
lengths_alike t known boxes at h v.Null (v.Int y) array m = absurd m
lengths_alike t known boxes at h v.Null (v.Obj y) array m = absurd m
lengths_alike t known boxes at h (v.Obj x) (v.Int y) array m = absurd m
lengths_alike t known boxes at h (v.Obj x) v.Null array m = absurd m
lengths_alike t known boxes at h (v.Obj n) (v.Obj j) array m =
    let w = twins t known boxes at h n j m in
    ap (option_and_then (items_in array)) w.here
    ∙ ap (λ o. cond (is_array array o) (Some (length w.one.parts)) None) w.alike.of
    ∙ ap (λ k. cond (is_array array w.other.of) (Some k) None) w.alike.parts
    ∙ sym (ap (option_and_then (items_in array)) w.there)

items_are : (array k : ℕ) (o : Object) → items_in array o ≡ Some k → k ≡ length o.parts
items_are array k o e = by (is_array array o.of) e
  where
    by : (c : Bool) → cond c (Some (length o.parts)) None ≡ Some k → k ≡ length o.parts
    by true q = sym (some_same q)
    by false q = absurd (none_some q)

pub shape_is_long : ShapeIsLong
shape_is_long t known boxes at h n k array s b live eb er =
    let w = h.shaped n s live in
    let same : eb.0 ≡ w.object = some_same (sym eb.1 ∙ w.names) in
    let here : length_at array b at.rec ≡ items_in array w.recorded =
    ap (λ x. length_at array x at.rec) (eb.2 ∙ ap v.Obj same) ∙ ap (option_and_then (items_in array)) w.there in
    items_are array k w.recorded (sym here ∙ er) ∙ sym (zip_long (ValIs at) s.parts w.recorded.parts w.parts)
