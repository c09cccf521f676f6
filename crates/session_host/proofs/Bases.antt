-- Where pending stores are done, their bases are objects that have their spots.
use Rattle.std.proofs.Common.{◌≡◌, ℕ, zero, suc, ◌<◌, Bool, true, false, List, [], ◌∷◌, ◌++◌, length, Option, Some, None, refl, sym, ap, ◌∙◌, subst, arith}
use Rattle.std.specs.Prelude.{slice_get, slice_set, option_and_then, nat_lt, if◌then◌else◌}
use Rattle.std.specs.List.{All}
use Rattle.std.specs.Option.{option_map}
use Rattle.std.proofs.lemmas.List.{length-set}
use Rattle.std.proofs.lemmas.List.Elements.{All-cons, All-nil}
use Rattle.lists.proofs.Appends.{get_before}
use Rattle.lists.proofs.Options.{some_same, none_some}
use Rattle.trace_ops.specs.declared.table.Table.{Table}
use Rattle.trace_ops.specs.declared.table.ShapeOf.{ShapeOf}
use Rattle.trace_ops.specs.declared.trace.BoxId.{BoxId}
use Rattle.trace_ops.specs.declared.piece.Pending.{Pending}
use Rattle.trace_ops.specs.declared.piece.Shape.{Shape}
use Rattle.trace_ops.specs.declared.piece.Snapshot.{Snapshot}
use Rattle.trace_ops.specs.declared.piece.Spot.{Spot}
use Rattle.trace_meaning.specs.declared.value.Value.{Value}
use Rattle.trace_meaning.specs.declared.value.Value.TheVariants as v
use Rattle.trace_meaning.specs.declared.value.Object.{Object}
use Rattle.trace_meaning.specs.World.{World}
use Rattle.trace_meaning.specs.Boxes.{arg_value}
use Rattle.trace_meaning.specs.Objects.{write, write_unfrozen, with_object, written, with_part, within, place_of, place_within, is_frozen}
use Rattle.trace_meaning.specs.declared.state.RecFrame.{RecFrame}
use Rattle.opt_meaning.specs.Rebuilding.{Rebuilt, all_of, val_value, made_object, with_objects, virtuals_made, write_if, pending_done, stores_done, frame_made, rebuilt_with, rebuilt_from}

-- ---- objects keep their extents

-- an object of the same shape with as many parts
abbrev IsLike : Object → Object → Type 0
IsLike o p = (p.of ≡ o.of) × (length p.parts ≡ length o.parts)

-- each object of the first ones is still there
abbrev AreLike : List Object → List Object → Type 0
AreLike old new = (k : ℕ) (o : Object) → slice_get old k ≡ Some o → (p : Object) × (slice_get new k ≡ Some p) × IsLike o p

like_set : (xs : List Object) (n : ℕ) (x y : Object) → slice_get xs n ≡ Some x → IsLike x y → AreLike xs (slice_set xs n y)
like_set [] n x y e h k o f = absurd (none_some f)
like_set (z ∷ xs) zero x y e h zero o f = (let one : z ≡ x = some_same e in let two : z ≡ o = some_same f in (y, refl, subst (λ (a : Object). IsLike a y) (sym one ∙ two) h))
like_set (z ∷ xs) zero x y e h (suc k) o f = (o, f, (refl, refl))
like_set (z ∷ xs) (suc n) x y e h zero o f = (let two : z ≡ o = some_same f in let same : IsLike z z = (refl, refl) in (z, refl, subst (λ (a : Object). IsLike a z) two same))
like_set (z ∷ xs) (suc n) x y e h (suc k) o f = like_set xs n x y e h k o f

like_more : (old mid new : List Object) → AreLike old mid → AreLike mid new → AreLike old new
like_more old mid new f g k o e =
    let a = f k o e in
    let b = g k a.0 a.1 in
    (b.0, b.1, (b.2.0 ∙ a.2.0, b.2.1 ∙ a.2.1))

-- ---- what a write needs

-- the object of this number has the spot
abbrev HasSpot : Table → Spot → List Object → ℕ → Type 0
HasSpot t at objects n = (o : Object) × (i : ℕ) × (slice_get objects n ≡ Some o) × (place_within t at o ≡ Some i)

record Wrote (t : Table) (at : Spot) (w u : World) (n : ℕ) : Type 0 where
  spot : HasSpot t at w.objects n
  like : AreLike w.objects u.objects

put_at : (t : Table) (at : Spot) (w u : World) (n : ℕ) (x : Value) (o : Object) (i : Option ℕ) → slice_get w.objects n ≡ Some o → place_within t at o ≡ i → option_map (with_object n w) (option_map (λ (k : ℕ). with_part o k x) i) ≡ Some u → Wrote t at w u n
put_at t at w u n x o None e p h = absurd (none_some h)
put_at t at w u n x o (Some i) e p h =
    let same : with_object n w (with_part o i x) ≡ u = some_same h in
    record {
      spot = (o, i, e, p);
      like = subst (λ (y : World). AreLike w.objects y.objects) same (like_set w.objects n o (with_part o i x) e (refl, length-set o.parts i x));
    }

put_in : (t : Table) (at : Spot) (w u : World) (n : ℕ) (x : Value) (o : Option Object) → slice_get w.objects n ≡ o → option_map (with_object n w) (option_and_then (written t at x) o) ≡ Some u → Wrote t at w u n
put_in t at w u n x None e h = absurd (none_some h)
put_in t at w u n x (Some o) e h = put_at t at w u n x o (place_within t at o) e refl h

put_if : (b : Bool) (t : Table) (at : Spot) (w u : World) (n : ℕ) (x : Value) → write_unfrozen b t at n x w ≡ Some u → Wrote t at w u n
put_if true t at w u n x h = absurd (none_some h)
put_if false t at w u n x h = put_in t at w u n x (slice_get w.objects n) refl h

wrote : (t : Table) (at : Spot) (base x : Value) (w u : World) → write t at base x w ≡ Some u → (n : ℕ) × (base ≡ v.Obj n) × Wrote t at w u n
wrote t at (v.Obj n) x w u h = (n, refl, put_if (is_frozen t at n) t at w u n x h)
wrote t at (v.Int z) x w u h = absurd (none_some h)
wrote t at v.Null x w u h = absurd (none_some h)

if_wrote : (t : Table) (p : Pending) (base x : Option Value) (w u : World) → write_if t p base x w ≡ Some u → (n : ℕ) × (base ≡ Some (v.Obj n)) × Wrote t p.spot w u n
if_wrote t p (Some b) (Some x) w u h = (let z = wrote t p.spot b x w u h in (z.0, ap Some z.1, z.2))
if_wrote t p (Some b) None w u h = absurd (none_some h)
if_wrote t p None (Some x) w u h = absurd (none_some h)
if_wrote t p None None w u h = absurd (none_some h)

-- ---- pending stores

within_like : (o p : Object) (i : Option ℕ) (j : ℕ) → IsLike o p → option_and_then (within p) i ≡ Some j → option_and_then (within o) i ≡ Some j
within_like o p None j h e = absurd (none_some e)
within_like o p (Some i) j h e = ap (λ (n : ℕ). if nat_lt i n then Some i else None) (sym h.1) ∙ e

-- an object that is like one with a spot has it too
spot_like : (t : Table) (at : Spot) (o p : Object) (j : ℕ) → IsLike o p → place_within t at p ≡ Some j → place_within t at o ≡ Some j
spot_like t at o p j h e = within_like o p (place_of t o.of at) j h (ap (λ (s : ShapeOf). option_and_then (within p) (place_of t s at)) (sym h.0) ∙ e)

-- the base of a store is an object of the first ones that has the spot
abbrev pub BaseStands : Table → (BoxId → Option Value) → List Object → Pending → Type 0
BaseStands t box objects p = (n : ℕ) × (arg_value box p.base ≡ Some (v.Obj n)) × (n < length objects → HasSpot t p.spot objects n)

some_object : (xs : List Object) (n : ℕ) → n < length xs → (o : Object) × (slice_get xs n ≡ Some o)
some_object [] n lt = absurd (omega (arith, lt))
some_object (x ∷ xs) zero lt = (x, refl)
some_object (x ∷ xs) (suc n) lt = some_object xs n (omega (arith, lt))

base_stands : (t : Table) (at : Spot) (objects now : List Object) (n : ℕ) → AreLike objects now → HasSpot t at now n → n < length objects → HasSpot t at objects n
base_stands t at objects now n like h lt =
    let mine = some_object objects n lt in
    let other = like n mine.0 mine.1 in
    let same : other.0 ≡ h.0 = some_same (sym other.1 ∙ h.2) in
    let alike = subst (IsLike mine.0) same other.2 in
    (mine.0, h.1, mine.1, spot_like t at mine.0 h.0 h.1 alike h.3)

record Split (X : Type 0) (o : Option X) (f : X → Type 0) : Type 0 where
  value : X
  is : o ≡ Some value
  rest : f value

and_then : {X Y : Type 0} (f : X → Option Y) (o : Option X) (y : Y) → option_and_then f o ≡ Some y → Split X o (λ (x : X). f x ≡ Some y)
and_then f None y h = absurd (none_some h)
and_then f (Some x) y h = record { value = x; is = refl; rest = h }

-- so it is for each of the stores that are done
bases_stand : (t : Table) (box : BoxId → Option Value) (next : ℕ) (objects : List Object) (ps : List Pending) (w u : World) → AreLike objects w.objects → stores_done t box next ps w ≡ Some u → All (BaseStands t box objects) ps
bases_stand t box next objects [] w u like h = All-nil (BaseStands t box objects)
bases_stand t box next objects (p ∷ ps) w u like h =
    let one = and_then (stores_done t box next ps) (pending_done t box next p w) u h in
    let z = if_wrote t p (arg_value box p.base) (val_value box next p.value) w one.value one.is in
    let here : BaseStands t box objects p = (z.0, z.1, λ lt. base_stands t p.spot objects w.objects z.0 like z.2.spot lt) in
    All-cons (BaseStands t box objects) p ps here (bases_stand t box next objects ps one.value u (like_more objects w.objects one.value.objects like z.2.like) one.rest)

like_append : (xs ys : List Object) → AreLike xs (xs ++ ys)
like_append xs ys k o e = (o, get_before xs ys k o e, (refl, refl))

made_like : (box : BoxId → Option Value) (shapes : List Shape) (w : World) (o : Option (List Object)) (u : World) → option_map (with_objects w) o ≡ Some u → AreLike w.objects u.objects
made_like box shapes w None u h = absurd (none_some h)
made_like box shapes w (Some more) u h = subst (λ (x : World). AreLike w.objects x.objects) (some_same h) (like_append w.objects more)

with_world : (a : Option World) (b : Option (List RecFrame)) (r : Rebuilt) → rebuilt_with a b ≡ Some r → (u : World) × (a ≡ Some u)
with_world (Some u) b r h = (u, refl)
with_world None b r h = absurd (none_some h)

pub rebuilt_bases : (t : Table) (box : BoxId → Option Value) (snap : Snapshot) (w : World) (r : Rebuilt) → rebuilt_from t box snap w ≡ Some r → All (BaseStands t box w.objects) snap.pending
rebuilt_bases t box snap w r h =
    let next = length w.objects in
    let z = with_world (option_and_then (stores_done t box next snap.pending) (virtuals_made box snap.shapes w)) (all_of (frame_made box next) snap.frames) r h in
    let one = and_then (stores_done t box next snap.pending) (virtuals_made box snap.shapes w) z.0 z.1 in
    bases_stand t box next w.objects snap.pending one.value z.0 (made_like box snap.shapes w (all_of (made_object box next) snap.shapes) one.value one.is) one.rest
