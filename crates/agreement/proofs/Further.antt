-- Places that have more: what held still holds there.
use Rattle.std.proofs.Common.{◌≡◌, ℕ, Bool, true, false, cond, List, [], ◌∷◌, Option, Some, None, slice_get, refl, sym, ap, ◌∙◌, inl, inr}
use Rattle.std.specs.List.{AllZip}
use Rattle.lists.proofs.Options.{some_same, none_some}
use Rattle.lists.proofs.Zips.{zip_weaker}
use Rattle.trace_ops.specs.declared.trace.BoxId.{BoxId}
use Rattle.trace_ops.specs.declared.trace.Arg.{Arg}
use Rattle.trace_ops.specs.declared.trace.Arg.TheVariants as arg
use Rattle.trace_ops.specs.declared.table.Table.{Table}
use Rattle.trace_ops.specs.declared.piece.Val.{Val}
use Rattle.trace_ops.specs.declared.piece.Val.TheVariants.{Known, Virtual}
use Rattle.trace_ops.specs.declared.piece.Spot.{Spot}
use Rattle.trace_ops.specs.declared.piece.Pending.{Pending}
use Rattle.trace_ops.specs.declared.piece.Fact.{Fact}
use Rattle.trace_ops.specs.declared.piece.Fact.TheVariants as fact
use Rattle.trace_meaning.specs.declared.value.Value.{Value}
use Rattle.trace_meaning.specs.declared.value.Value.TheVariants as v
use Rattle.trace_meaning.specs.declared.value.Object.{Object}
use Rattle.trace_meaning.specs.World.{World, Logged}
use Rattle.trace_meaning.specs.Boxes.{arg_value, has_value, with_first, all_values}
use Rattle.trace_meaning.specs.Objects.{read, place_of}
use Rattle.heap_shape.specs.Sameness.{Maps, MapsIf}
use Rattle.opt_meaning.specs.Along.{SameLogged, SameLogs}
use Rattle.opt_meaning.specs.Agrees.{Place, MapsAt, ArgIs, ValIs, NameIs, IsPending, SpotIs, IsOpen, StoreIs, FactHolds}
use Rattle.agreement.specs.Growing.{Extends}

-- Boxes

pub arg_value-extends : (f g : BoxId → Option Value) → Extends f g → (a : Arg) (y : Value) → arg_value f a ≡ Some y → arg_value g a ≡ Some y
arg_value-extends f g more (arg.Of b) y e = more b y e
arg_value-extends f g more (arg.Const z) y e = e
arg_value-extends f g more arg.Null y e = e
arg_value-extends f g more (arg.Class k) y e = e
arg_value-extends f g more (arg.Func k) y e = e
arg_value-extends f g more (arg.Ptr k) y e = e

pub first_parts : (x : Option Value) (xs : Option (List Value)) (ys : List Value) → with_first x xs ≡ Some ys → (u : Value) × (x ≡ Some u) × (us : List Value) × (xs ≡ Some us) × (u ∷ us ≡ ys)
first_parts (Some u) (Some us) ys e = (u, refl, us, refl, some_same e)
first_parts (Some u) None ys e = absurd (none_some e)
first_parts None xs ys e = absurd (none_some e)

pub step_values : (f g : BoxId → Option Value) (a : Arg) (rest : List Arg) (ys : List Value) → ((y : Value) → arg_value f a ≡ Some y → arg_value g a ≡ Some y) → ((zs : List Value) → all_values (arg_value f) rest ≡ Some zs → all_values (arg_value g) rest ≡ Some zs) → (h : Bool)
    → cond h (with_first (arg_value f a) (all_values (arg_value f) rest)) (all_values (arg_value f) rest) ≡ Some ys
    → cond h (with_first (arg_value g a) (all_values (arg_value g) rest)) (all_values (arg_value g) rest) ≡ Some ys
step_values f g a rest ys one next false e = next ys e
step_values f g a rest ys one next true e =
    let s = first_parts (arg_value f a) (all_values (arg_value f) rest) ys e in
    ap (λ x. with_first x (all_values (arg_value g) rest)) (one s.0 s.1) ∙ ap (with_first (Some s.0)) (next s.2 s.3) ∙ ap Some s.4

pub all_values-extends : (f g : BoxId → Option Value) → Extends f g → (args : List Arg) (ys : List Value) → all_values (arg_value f) args ≡ Some ys → all_values (arg_value g) args ≡ Some ys
all_values-extends f g more [] ys e = e
all_values-extends f g more (a ∷ rest) ys e = step_values f g a rest ys (arg_value-extends f g more a) (λ zs. all_values-extends f g more rest zs) (has_value a) e

-- Maps

abbrev pub MapsMore : (ℕ → Option ℕ) → (ℕ → Option ℕ) → Type 0
MapsMore m k = (x j : ℕ) → m x ≡ Some j → k x ≡ Some j

pub maps-more : (m k : ℕ → Option ℕ) → MapsMore m k → (x y : Value) → Maps m x y → Maps k x y
maps-more m k more (v.Int x) (v.Int y) h = h
maps-more m k more v.Null v.Null h = h
maps-more m k more (v.Obj x) (v.Obj y) h = more x y h
maps-more m k more (v.Int x) v.Null h = h
maps-more m k more (v.Int x) (v.Obj y) h = h
maps-more m k more v.Null (v.Int y) h = h
maps-more m k more v.Null (v.Obj y) h = h
maps-more m k more (v.Obj x) (v.Int y) h = h
maps-more m k more (v.Obj x) v.Null h = h

pub maps_if-more : (m k : ℕ → Option ℕ) → MapsMore m k → (x y : Option Value) → MapsIf m x y → MapsIf k x y
maps_if-more m k more None None h = h
maps_if-more m k more (Some x) (Some y) h = maps-more m k more x y h
maps_if-more m k more None (Some y) h = h
maps_if-more m k more (Some x) None h = h

logged-more : (m k : List ℕ) → MapsMore (slice_get m) (slice_get k) → (x y : Logged) → SameLogged m x y → SameLogged k x y
logged-more m k more x y h = record {
  event = record {
    function = h.event.function;
    args = zip_weaker (Maps (slice_get m)) (Maps (slice_get k)) (maps-more (slice_get m) (slice_get k) more) x.event.args y.event.args h.event.args;
    seen = zip_weaker (Maps (slice_get m)) (Maps (slice_get k)) (maps-more (slice_get m) (slice_get k) more) x.event.seen y.event.seen h.event.seen;
    gives = maps_if-more (slice_get m) (slice_get k) more x.event.gives y.event.gives h.event.gives;
  };
  bytes = h.bytes;
}

pub logs-more : (m k : List ℕ) → MapsMore (slice_get m) (slice_get k) → (xs ys : List Logged) → SameLogs m xs ys → SameLogs k xs ys
logs-more m k more xs ys h = zip_weaker (SameLogged m) (SameLogged k) (logged-more m k more) xs ys h

-- Places

-- an object is there still, of its kind
abbrev pub KindsKept : World → World → Type 0
KindsKept w u = (n : ℕ) (c : Object) → slice_get w.objects n ≡ Some c → (d : Object) × (slice_get u.objects n ≡ Some d) × (c.of ≡ d.of)

pub record Further (at to : Place) : Type 0 where
  pub box : Extends at.box to.box
  pub mapped : MapsMore (slice_get at.mapped) (slice_get to.mapped)
  pub virtuals : MapsMore (slice_get at.virtuals) (slice_get to.virtuals)
  pub kinds : KindsKept at.opt to.opt

-- what was read of this spot, of a mapped object, is read there
abbrev pub ReadKept : Table → Spot → Place → World → Type 0
ReadKept t spot at u = (x b y : Value) → MapsAt at x b → read t spot b at.rec ≡ Some y → read t spot b u ≡ Some y

abbrev pub FactKept : Table → Place → World → Fact → Type 0
FactKept t at u (fact.Holds base spot value) = ReadKept t spot at u
FactKept t at u (fact.Between b low high) = Unit {0}
FactKept t at u (fact.Nonnull b) = Unit {0}
FactKept t at u (fact.ClassOf b n) = Unit {0}
FactKept t at u (fact.Same operation args value) = Unit {0}

module _ (at to : Place) (more : Further at to) where
  pub arg-further : (a : Arg) (y : Value) → ArgIs at a y → ArgIs to a y
  arg-further a y h = (h.0, arg_value-extends at.box to.box more.box a h.0 h.1, maps-more (slice_get at.mapped) (slice_get to.mapped) more.mapped h.0 y h.2)

  pub val-further : (x : Val) (y : Value) → ValIs at x y → ValIs to x y
  val-further (Known a) y h = arg-further a y h
  val-further (Virtual n) y h = (h.0, more.virtuals n h.0 h.1, h.2)

  pub name-further : (x : Option Val) (y : Option Value) → NameIs at x y → NameIs to x y
  name-further None None h = h
  name-further (Some x) (Some y) h = val-further x y h
  name-further None (Some y) h = h
  name-further (Some x) None h = h

  pub spot-further : (t : Table) (base : Arg) (spot : Spot) (x : Val) → ReadKept t spot at to.rec → SpotIs t at base spot x → SpotIs t to base spot x
  spot-further t base spot x kept h = (h.0, arg-further base h.0 h.1, h.2, kept h.1.0 h.0 h.2 h.1.2 h.3, val-further x h.2 h.4)

  pub open-further : (t : Table) (base : Arg) (spot : Spot) → IsOpen t at base spot → IsOpen t to base spot
  open-further t base spot h = (h.0, arg_value-extends at.box to.box more.box base (v.Obj h.0) h.1, h.2)

  pub store-further : (t : Table) (p : Pending) → ReadKept t p.spot at to.rec → StoreIs t at p → StoreIs t to p
  store-further t p kept h = (spot-further t p.base p.spot p.value kept h.0, open-further t p.base p.spot h.1)

  pub fact-further : (t : Table) (x : Fact) → FactKept t at to.rec x → FactHolds t at x → FactHolds t to x
  fact-further t (fact.Between b low high) kept h = (h.0, more.box b (v.Int h.0) h.1, h.2, h.3)
  fact-further t (fact.Nonnull b) kept h = (h.0, more.box b (v.Obj h.0) h.1)
  fact-further t (fact.ClassOf b size) kept h = let s = more.kinds h.0 h.2 h.3 in (h.0, more.box b (v.Obj h.0) h.1, s.0, s.1, sym s.2 ∙ h.4)
  fact-further t (fact.Holds base spot x) kept h = spot-further t base spot (Known x) kept h
  fact-further t (fact.Same operation args x) kept h =
      (h.0, all_values-extends at.box to.box more.box args h.0 h.1, h.2, h.3, arg_value-extends at.box to.box more.box x h.2 h.4)

  pub pending-further : (t : Table) (ps : List Pending) (n i : ℕ) → IsPending t at ps n i → IsPending t to ps n i
  pending-further t [] n i h = h
  pending-further t (p ∷ ps) n i (inl h) =
      let s = more.kinds n h.1 h.2 in inl (arg_value-extends at.box to.box more.box p.base (v.Obj n) h.0, s.0, s.1, ap (λ o. place_of t o p.spot) (sym s.2) ∙ h.3)
  pending-further t (p ∷ ps) n i (inr h) = inr (pending-further t ps n i h)

  pub zip-further : (xs : List Val) (ys : List Value) → AllZip (ValIs at) xs ys → AllZip (ValIs to) xs ys
  zip-further xs ys h = zip_weaker (ValIs at) (ValIs to) val-further xs ys h

pub kinds-same : (w : World) → KindsKept w w
kinds-same w n c e = (c, e, refl)

pub read-same : (t : Table) (spot : Spot) (at : Place) → ReadKept t spot at at.rec
read-same t spot at x b y m e = e

pub fact-same : (t : Table) (at : Place) (x : Fact) → FactKept t at at.rec x
fact-same t at (fact.Between b low high) = tt
fact-same t at (fact.Nonnull b) = tt
fact-same t at (fact.ClassOf b n) = tt
fact-same t at (fact.Holds base spot x) = read-same t spot at
fact-same t at (fact.Same operation args x) = tt

-- all reads of mapped objects are kept
pub all_facts : (t : Table) (at : Place) (u : World) → ((spot : Spot) → ReadKept t spot at u) → (x : Fact) → FactKept t at u x
all_facts t at u kept (fact.Between b low high) = tt
all_facts t at u kept (fact.Nonnull b) = tt
all_facts t at u kept (fact.ClassOf b n) = tt
all_facts t at u kept (fact.Holds base spot x) = kept spot
all_facts t at u kept (fact.Same operation args x) = tt
