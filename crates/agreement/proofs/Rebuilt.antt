-- All virtual objects are made at once, the pending stores are done, and the heap is the recorded one.
use Rattle.std.proofs.Common.{◌≡◌, ℕ, zero, suc, ◌+◌, ◌<◌, ◌≤◌, List, [], ◌∷◌, ◌++◌, Option, Some, None, length, slice_get, map, refl, sym, ap, ◌∙◌, subst, arith, ◌⊎◌, inl, inr}
use Rattle.std.specs.Prelude.{option_and_then}
use Rattle.std.specs.Option.{option_map}
use Rattle.std.specs.List.{AllZip, AllByRecursion}
use Rattle.std.proofs.lemmas.Option.{slice_get-map, slice_get_within}
use Rattle.lists.proofs.Appends.{get_before, get_behind, append_cases}
use Rattle.lists.proofs.Eaches.{each_map}
use Rattle.lists.proofs.Options.{some_same, none_some}
use Rattle.lists.proofs.Places.{get_some}
use Rattle.lists.proofs.Zips.{zip_long, zip_append, zip_second}
use Rattle.trace_ops.specs.declared.trace.BoxId.{BoxId}
use Rattle.trace_ops.specs.declared.trace.Arg.TheVariants as arg
use Rattle.trace_ops.specs.declared.table.Table.{Table}
use Rattle.trace_ops.specs.declared.piece.Val.{Val}
use Rattle.trace_ops.specs.declared.piece.Val.TheVariants.{Known, Virtual}
use Rattle.trace_ops.specs.declared.piece.Shape.{Shape}
use Rattle.trace_ops.specs.declared.piece.Spot.{Spot}
use Rattle.trace_ops.specs.declared.piece.Pending.{Pending}
use Rattle.trace_ops.specs.declared.piece.Fact.{Fact}
use Rattle.trace_meaning.specs.declared.value.Value.{Value}
use Rattle.trace_meaning.specs.declared.value.Value.TheVariants as v
use Rattle.trace_meaning.specs.declared.value.Object.{Object}
use Rattle.trace_meaning.specs.World.{World, Logged}
use Rattle.trace_meaning.specs.Boxes.{value_in, arg_value}
use Rattle.heap_shape.specs.Sameness.{Maps, MapsIf, SameListing, SameRoots}
use Rattle.opt_meaning.specs.Along.{AreAlike}
use Rattle.opt_meaning.specs.Agrees.{Facts, Place, ValIs, IsLive, IsPending, StoreIs, Agrees}
use Rattle.std.proofs.lemmas.List.{append-nil, length-append}
use Rattle.trace_ops.specs.declared.piece.OptFrame.{OptFrame}
use Rattle.trace_ops.specs.declared.piece.Snapshot.{Snapshot}
use Rattle.trace_ops.specs.Parts.{parts_of}
use Rattle.trace_meaning.specs.declared.state.RecFrame.{RecFrame}
use Rattle.trace_meaning.specs.World.{events, bytes_in}
use Rattle.trace_meaning.specs.Kept.{alone, allocated}
use Rattle.trace_meaning.specs.Boxes.{bound_to}
use Rattle.trace_meaning.specs.Objects.{read}
use Rattle.heap_shape.specs.Listing.{listing}
use Rattle.heap_shape.specs.Roots.{roots}
use Rattle.heap_shape.specs.Sameness.{SameCall, Alongside}
use Rattle.opt_meaning.specs.Along.{SameLogs}
use Rattle.opt_meaning.specs.Rebuilding.{before_all, all_of, val_value, made_object, with_objects, write_if, pending_done, stores_done, frame_made, Rebuilt, rebuilt_with, rebuilt_from}
use Rattle.opt_meaning.specs.Admits.{nameless, at_entry, slots_of}
use Rattle.agreement.specs.Writing.{IsKnown}
use Rattle.heap_shape.specs.Shown.{values_in}
use Rattle.opt_meaning.specs.Showing.{IsFrameOf, RebuiltSame}
use Rattle.agreement.proofs.Further.{Further, MapsMore, maps-more, maps_if-more, logs-more, arg-further, open-further}
use Rattle.agreement.proofs.Flush.{flushes_agree}
use Rattle.agreement.proofs.Bytes.{bytes_agree}

-- Lists of what may be missing

all_of_get : {X Y : Type 0} (f : X → Option Y) (xs : List X) (Q : ℕ → Y → Type 0) → ((k : ℕ) (x : X) → slice_get xs k ≡ Some x → (y : Y) × (f x ≡ Some y) × Q k y)
    → (ys : List Y) × (all_of f xs ≡ Some ys) × (length ys ≡ length xs) × ((k : ℕ) (y : Y) → slice_get ys k ≡ Some y → Q k y)
all_of_get f [] Q h = ([], refl, refl, λ k y e. absurd (none_some e))
all_of_get {Y = Y} f (x ∷ xs) Q h =
    let first = h 0 x refl in
    let rest = all_of_get f xs (λ k. Q (suc k)) (λ k. h (suc k)) in
    (first.0 ∷ rest.0, ap (λ o. before_all o (all_of f xs)) first.1 ∙ ap (before_all (Some first.0)) rest.1, ap suc rest.2, at rest.0 first.0 first.2 rest.3)
  where
    at : (ys : List Y) (y : Y) → Q 0 y → ((k : ℕ) (z : Y) → slice_get ys k ≡ Some z → Q (suc k) z) → (k : ℕ) (z : Y) → slice_get (y ∷ ys) k ≡ Some z → Q k z
    at ys y q more zero z e = subst (Q 0) (some_same e) q
    at ys y q more (suc k) z e = more k z e

all_of_zip : {X Y Z : Type 0} (f : X → Option Y) (P : X → Z → Type 0) (Q : Y → Z → Type 0) → ((x : X) (z : Z) → P x z → (y : Y) × (f x ≡ Some y) × Q y z) → (xs : List X) (zs : List Z) → AllZip P xs zs
    → (ys : List Y) × (all_of f xs ≡ Some ys) × AllZip Q ys zs
all_of_zip f P Q h [] [] w = ([], refl, tt)
all_of_zip f P Q h [] (z ∷ zs) w = absurd w
all_of_zip f P Q h (x ∷ xs) [] w = absurd w
all_of_zip f P Q h (x ∷ xs) (z ∷ zs) w =
    let first = h x z w.0 in
    let rest = all_of_zip f P Q h xs zs w.1 in
    (first.0 ∷ rest.0, ap (λ o. before_all o (all_of f xs)) first.1 ∙ ap (before_all (Some first.0)) rest.1, (first.2, rest.2))

all_of_long : {X Y : Type 0} (f : X → Option Y) (xs : List X) (ys : List Y) → all_of f xs ≡ Some ys → length ys ≡ length xs
all_of_long f [] ys e = ap length (sym (some_same e))
all_of_long {Y = Y} f (x ∷ xs) ys e = by (f x) (all_of f xs) refl e (all_of_long f xs)
  where
    by : (o : Option Y) (r : Option (List Y)) → all_of f xs ≡ r → before_all o r ≡ Some ys → ((zs : List Y) → all_of f xs ≡ Some zs → length zs ≡ length xs) → length ys ≡ suc (length xs)
    by None r er q next = absurd (none_some q)
    by (Some y) None er q next = absurd (none_some q)
    by (Some y) (Some zs) er q next = ap length (sym (some_same q)) ∙ ap suc (next zs er)

zip_split : {X Y : Type 0} (P : X → Y → Type 0) (xs more : List X) (ys : List Y) → AllZip P (xs ++ more) ys → (us : List Y) × (vs : List Y) × (ys ≡ us ++ vs) × AllZip P xs us × AllZip P more vs
zip_split P [] more ys h = ([], ys, refl, tt, h)
zip_split P (x ∷ xs) more [] h = absurd h
zip_split P (x ∷ xs) more (y ∷ ys) h = let s = zip_split P xs more ys h.1 in (y ∷ s.0, s.1, ap (λ zs. y ∷ zs) s.2, (h.0, s.3), s.4)

zip_gets : (m : ℕ → Option ℕ) (xs ys : List Value) → length xs ≡ length ys → ((i : ℕ) (y : Value) → slice_get ys i ≡ Some y → MapsIf m (slice_get xs i) (Some y)) → AllZip (Maps m) xs ys
zip_gets m [] [] long h = tt
zip_gets m [] (y ∷ ys) long h = absurd (omega (arith, long))
zip_gets m (x ∷ xs) [] long h = absurd (omega (arith, long))
zip_gets m (x ∷ xs) (y ∷ ys) long h = (h 0 y refl, zip_gets m xs ys (omega (arith, long)) (λ i. h (suc i)))

get_live : (shapes : List Shape) (k : ℕ) → k < length shapes → (s : Shape) × (slice_get shapes k ≡ Some s) × (slice_get (map Some shapes) k ≡ Some (Some s))
get_live shapes k less = let s = get_some shapes k less in (s.0, s.1, slice_get-map Some shapes k ∙ ap (option_map Some) s.1)

long_map : {X Y : Type 0} (f : X → Y) (xs : List X) → length (map f xs) ≡ length xs
long_map f [] = refl
long_map f (x ∷ xs) = ap suc (long_map f xs)

-- no shape is left
abbrev none_left : List Shape → List (Option Shape)
none_left shapes = map (λ s. None) shapes

none_live : (shapes : List Shape) (n : ℕ) (x : Shape) → slice_get (none_left shapes) n ≡ Some (Some x) → ⊥
none_live [] n x e = none_some e
none_live (s ∷ ss) zero x e = none_some (some_same e)
none_live (s ∷ ss) (suc n) x e = none_live ss n x e

-- Virtual objects by the numbers that they get

abbrev ptr_val : ℕ → Val → Val
ptr_val next (Known a) = Known a
ptr_val next (Virtual k) = Known (arg.Ptr (next + k))

abbrev ptr_pending : ℕ → Pending → Pending
ptr_pending next p = record { base = p.base; spot = p.spot; value = ptr_val next p.value }

ptr_known : (next : ℕ) (x : Val) → IsKnown (ptr_val next x)
ptr_known next (Known a) = tt
ptr_known next (Virtual k) = tt

ptrs_known : (next : ℕ) (ps : List Pending) → AllByRecursion (λ (p : Pending). IsKnown p.value) (map (ptr_pending next) ps)
ptrs_known next [] = tt
ptrs_known next (p ∷ ps) = (ptr_known next p.value, ptrs_known next ps)

ptr_value : (box : BoxId → Option Value) (next : ℕ) (x : Val) → val_value box next (ptr_val next x) ≡ val_value box next x
ptr_value box next (Known a) = refl
ptr_value box next (Virtual k) = refl

then_same : (f g : World → Option World) → ((z : World) → f z ≡ g z) → (o : Option World) → option_and_then f o ≡ option_and_then g o
then_same f g h None = refl
then_same f g h (Some z) = h z

ptr_stores : (t : Table) (box : BoxId → Option Value) (next : ℕ) (ps : List Pending) (w : World) → stores_done t box next (map (ptr_pending next) ps) w ≡ stores_done t box next ps w
ptr_stores t box next [] w = refl
ptr_stores t box next (p ∷ ps) w =
    ap (λ x. option_and_then (stores_done t box next (map (ptr_pending next) ps)) (write_if t p (arg_value box p.base) x w)) (ptr_value box next p.value)
    ∙ then_same (stores_done t box next (map (ptr_pending next) ps)) (stores_done t box next ps) (λ z. ptr_stores t box next ps z) (pending_done t box next p w)

-- An entry's pair

module _ (same_listing : SameListing) (same_roots : SameRoots) (t : Table) (box : BoxId → Option Value) (shapes : List Shape) (pending : List Pending) (facts : List Fact) (w u : World) (mapped virtuals : List ℕ) where
  abbrev start : Place
  start = record { box = box; rec = w; opt = u; mapped = mapped; virtuals = virtuals }

  abbrev at : Place
  at = record { box = box; rec = alone w; opt = alone u; mapped = mapped; virtuals = virtuals }

  abbrev all : List ℕ
  all = mapped ++ virtuals

  abbrev next : ℕ
  next = length u.objects

  module _ (h : Agrees t (record { names = nameless; shapes = map Some shapes; pending = pending; facts = facts }) [] start) where
    long : length virtuals ≡ length shapes
    long = h.counts ∙ long_map Some shapes

    live_at : (k j : ℕ) → slice_get virtuals k ≡ Some j → IsLive (map Some shapes) k
    live_at k j e = let s = get_live shapes k (omega (arith, slice_get_within virtuals k j e, long)) in (s.0, s.2)

    -- the map with all of them

    wider : MapsMore (slice_get mapped) (slice_get all)
    wider x j e = get_before mapped virtuals x j e

    all_at : (k j : ℕ) → slice_get virtuals k ≡ Some j → slice_get all (next + k) ≡ Some j
    all_at k j e = ap (λ n. slice_get all (n + k)) (sym h.covers) ∙ get_behind mapped virtuals k ∙ e

    value_made : (x : Val) (y : Value) → ValIs start x y → (z : Value) × (val_value box next x ≡ Some z) × Maps (slice_get all) z y
    value_made (Known a) y e = (e.0, e.1, maps-more (slice_get mapped) (slice_get all) wider e.0 y e.2)
    value_made (Virtual k) y e = (v.Obj (next + k), refl, subst (Maps (slice_get all) (v.Obj (next + k))) (sym e.2) (all_at k e.0 e.1))

    -- the recorded object of virtual k, and the object that is made for it
    record Made (k : ℕ) (o : Object) : Type 0 where
      object : ℕ
      names : slice_get virtuals k ≡ Some object
      recorded : Object
      there : slice_get w.objects object ≡ Some recorded
      of : o.of ≡ recorded.of
      parts : AllZip (Maps (slice_get all)) o.parts recorded.parts

    object_made : (k : ℕ) (s : Shape) → slice_get shapes k ≡ Some s → (o : Object) × (made_object box next s ≡ Some o) × Made k o
    object_made k s e =
        let live : slice_get (map Some shapes) k ≡ Some (Some s) = slice_get-map Some shapes k ∙ ap (option_map Some) e in
        let sh = h.shaped k s live in
        let parts = all_of_zip (val_value box next) (ValIs start) (Maps (slice_get all)) value_made s.parts sh.recorded.parts sh.parts in (
          record { of = s.of; parts = parts.0 },
          ap (option_map (λ ps. record { of = s.of; parts = ps })) parts.1,
          record { object = sh.object; names = sh.names; recorded = sh.recorded; there = sh.there; of = sym sh.of; parts = parts.2 },
        )

    objects_made : (os : List Object) × (all_of (made_object box next) shapes ≡ Some os) × (length os ≡ length shapes) × ((k : ℕ) (o : Object) → slice_get os k ≡ Some o → Made k o)
    objects_made = all_of_get (made_object box next) shapes Made object_made

    module _ (os : List Object) (os_long : length os ≡ length shapes) (made : (k : ℕ) (o : Object) → slice_get os k ≡ Some o → Made k o) where
      abbrev to : Place
      to = record { box = box; rec = alone w; opt = with_objects (alone u) os; mapped = all; virtuals = virtuals }

      more : Further start to
      more = record { box = λ b y e. e; mapped = wider; virtuals = λ n j e. e; kinds = λ n c e. (c, get_before u.objects os n c e, refl) }

      val_to : (x : Val) (y : Value) → ValIs start x y → ValIs to (ptr_val next x) y
      val_to (Known a) y e = arg-further start to more a y e
      val_to (Virtual k) y e = (v.Obj (next + k), refl, subst (Maps (slice_get all) (v.Obj (next + k))) (sym e.2) (all_at k e.0 e.1))

      read_alone : (spot : Spot) (b y : Value) → read t spot b w ≡ Some y → read t spot b (alone w) ≡ Some y
      read_alone spot b y e = e

      store_to : (p : Pending) → StoreIs t start p → StoreIs t to (ptr_pending next p)
      store_to p e = ((e.0.0, arg-further start to more p.base e.0.0 e.0.1, e.0.2, read_alone p.spot e.0.0 e.0.2 e.0.3, val_to p.value e.0.2 e.0.4), open-further start to more t p.base p.spot e.1)

      pending_to : (ps : List Pending) (x i : ℕ) → IsPending t start ps x i → IsPending t to (map (ptr_pending next) ps) x i
      pending_to [] x i e = e
      pending_to (p ∷ ps) x i (inl e) = inl (e.0, e.1, get_before u.objects os x e.1 e.2, e.3)
      pending_to (p ∷ ps) x i (inr e) = inr (pending_to ps x i e)

      -- a mapped object is an old one, or one that was made
      pair_cases : (x j : ℕ) (c : Object) → slice_get (u.objects ++ os) x ≡ Some c → slice_get all x ≡ Some j
          → ((slice_get u.objects x ≡ Some c) × (slice_get mapped x ≡ Some j)) ⊎ ((k : ℕ) × (slice_get os k ≡ Some c) × (slice_get virtuals k ≡ Some j))
      pair_cases x j c ec ej = by (append_cases u.objects os x c ec) (append_cases mapped virtuals x j ej)
        where
          by : ((x < length u.objects) × (slice_get u.objects x ≡ Some c)) ⊎ ((k : ℕ) × (x ≡ length u.objects + k) × (slice_get os k ≡ Some c)) → ((x < length mapped) × (slice_get mapped x ≡ Some j)) ⊎ ((k : ℕ) × (x ≡ length mapped + k) × (slice_get virtuals k ≡ Some j))
              → ((slice_get u.objects x ≡ Some c) × (slice_get mapped x ≡ Some j)) ⊎ ((k : ℕ) × (slice_get os k ≡ Some c) × (slice_get virtuals k ≡ Some j))
          by (inl p) (inl q) = inl (p.1, q.1)
          by (inl p) (inr q) = absurd (omega (arith, p.0, q.1, h.covers))
          by (inr p) (inl q) = absurd (omega (arith, p.1, q.0, h.covers))
          by (inr p) (inr q) = let same : p.0 ≡ q.0 = omega (arith, p.1, q.1, h.covers) in inr (p.0, p.2, ap (slice_get virtuals) same ∙ q.2)

      once : (x y j : ℕ) → slice_get all x ≡ Some j → slice_get all y ≡ Some j → x ≡ y
      once x y j ex ey = by (append_cases mapped virtuals x j ex) (append_cases mapped virtuals y j ey)
        where
          by : ((x < length mapped) × (slice_get mapped x ≡ Some j)) ⊎ ((k : ℕ) × (x ≡ length mapped + k) × (slice_get virtuals k ≡ Some j)) → ((y < length mapped) × (slice_get mapped y ≡ Some j)) ⊎ ((k : ℕ) × (y ≡ length mapped + k) × (slice_get virtuals k ≡ Some j)) → x ≡ y
          by (inl p) (inl q) = h.injective.one_to_one x y j p.1 q.1
          by (inl p) (inr q) = absurd (h.outside q.0 j x (live_at q.0 j q.2) q.2 p.1)
          by (inr p) (inl q) = absurd (h.outside p.0 j y (live_at p.0 j p.2) p.2 q.1)
          by (inr p) (inr q) = let same : p.0 ≡ q.0 = h.apart p.0 q.0 j (live_at p.0 j p.2) (live_at q.0 j q.2) p.2 q.2 in omega (arith, p.1, q.1, same)

      of_made : (k j : ℕ) (c : Object) → slice_get os k ≡ Some c → slice_get virtuals k ≡ Some j → (b : Object) × (slice_get w.objects j ≡ Some b) × (c.of ≡ b.of) × AllZip (Maps (slice_get all)) c.parts b.parts
      of_made k j c ec ej =
          let m = made k c ec in
          (m.recorded, ap (slice_get w.objects) (some_same (sym ej ∙ m.names)) ∙ m.there, m.of, m.parts)

      alike : (x j : ℕ) (c : Object) → ((slice_get u.objects x ≡ Some c) × (slice_get mapped x ≡ Some j)) ⊎ ((k : ℕ) × (slice_get os k ≡ Some c) × (slice_get virtuals k ≡ Some j)) → (b : Object) × (slice_get w.objects j ≡ Some b) × AreAlike c b
      alike x j c (inl p) = h.alike x j c p.0 p.1
      alike x j c (inr p) = let m = of_made p.0 j c p.1 p.2 in (m.0, m.1, record { of = m.2; parts = zip_long (Maps (slice_get all)) c.parts m.0.parts m.3 })

      part : (x j i : ℕ) (c b : Object) (y : Value) → ((slice_get u.objects x ≡ Some c) × (slice_get mapped x ≡ Some j)) ⊎ ((k : ℕ) × (slice_get os k ≡ Some c) × (slice_get virtuals k ≡ Some j)) → slice_get w.objects j ≡ Some b → slice_get b.parts i ≡ Some y
          → IsPending t to (map (ptr_pending next) pending) x i ⊎ MapsIf (slice_get all) (slice_get c.parts i) (Some y)
      part x j i c b y (inl p) eb ey = elim (h.parts x j i c b y p.0 p.1 eb ey) [
        | inl q ↦ inl (pending_to pending x i q)
        | inr q ↦ inr (maps_if-more (slice_get mapped) (slice_get all) wider (slice_get c.parts i) (Some y) q)
      ]
      part x j i c b y (inr p) eb ey =
          let m = of_made p.0 j c p.1 p.2 in
          let same : m.0 ≡ b = some_same (sym m.1 ∙ eb) in
          let s = zip_second (Maps (slice_get all)) c.parts m.0.parts m.3 i y (ap (λ (z : Object). slice_get z.parts i) same ∙ ey) in
          inr (subst (λ z. MapsIf (slice_get all) z (Some y)) (sym s.1) s.2)

      all_made : Agrees t (record { names = nameless; shapes = none_left shapes; pending = map (ptr_pending next) pending; facts = [] }) [] to
      all_made = record {
        first = h.first;
        covers = length-append mapped virtuals ∙ ap (λ n. n + length virtuals) h.covers ∙ ap (λ n. length u.objects + n) (long ∙ sym os_long) ∙ sym (length-append u.objects os);
        counts = long ∙ sym (long_map (λ s. None) shapes);
        injective = record { one_to_one = once; prebuilt = λ x less. get_before mapped virtuals x x (h.injective.prebuilt x less) };
        alike = λ x j c ec ej. alike x j c (pair_cases x j c ec ej);
        outside = λ n j x live e. absurd (none_live shapes n live.0 live.1);
        apart = λ m n j live other e f. absurd (none_live shapes m live.0 live.1);
        shaped = λ n s e. absurd (none_live shapes n s e);
        names = λ b. tt;
        parts = λ x j i c b y ec ej eb ey. part x j i c b y (pair_cases x j c ec ej) eb ey;
        pending = each_map (ptr_pending next) (StoreIs t start) (StoreIs t to) store_to pending h.pending;
        facts = tt;
        calls = tt;
        answers = refl;
        failures = refl;
      }

      -- after the stores
      record Finished : Type 0 where
        world : World
        done : stores_done t box next pending (with_objects (alone u) os) ≡ Some world
        agrees : Agrees t (record { names = nameless; shapes = none_left shapes; pending = []; facts = [] }) [] (record { box = box; rec = alone w; opt = world; mapped = all; virtuals = virtuals })

      finished : Finished
      finished =
          let known : Facts = record { names = nameless; shapes = none_left shapes; pending = map (ptr_pending next) pending; facts = [] } in
          let done = flushes_agree t known [] to all_made [] (map (ptr_pending next) pending) [] next (sym (append-nil (map (ptr_pending next) pending))) (ptrs_known next pending) in
          record { world = done.0; done = sym (ptr_stores t box next pending (with_objects (alone u) os)) ∙ done.1; agrees = done.2 }

      along : (f : Finished) → Alongside (slice_get all) f.world.objects w.objects
      along f = record { one_to_one = f.agrees.injective.one_to_one; same = same }
        where
          same : (x j : ℕ) → slice_get all x ≡ Some j → (a : Object) × (slice_get f.world.objects x ≡ Some a) × (b : Object) × (slice_get w.objects j ≡ Some b) × (a.of ≡ b.of) × AllZip (Maps (slice_get all)) a.parts b.parts
          same x j e =
              let a = get_some f.world.objects x (omega (arith, slice_get_within all x j e, f.agrees.covers)) in
              let b = f.agrees.alike x j a.0 a.1 e in
              (a.0, a.1, b.0, b.1, b.2.of, zip_gets (slice_get all) a.0.parts b.0.parts b.2.parts (λ i y ey. elim (f.agrees.parts x j i a.0 b.0 y a.1 e b.1 ey) [ inl q ↦ absurd q | inr q ↦ q ]))

    -- Frames

    frames_made : (frames : List OptFrame) (vs : List Value) → AllZip (ValIs start) (slots_of frames) vs
        → (fs : List RecFrame) × (all_of (frame_made box next) frames ≡ Some fs) × AllZip (Maps (slice_get all)) (values_in fs) vs × AllZip IsFrameOf frames fs
    frames_made [] [] e = ([], refl, tt, tt)
    frames_made [] (y ∷ ys) e = absurd e
    frames_made (f ∷ frames) vs e =
        let s = zip_split (ValIs start) f.slots (slots_of frames) vs e in
        let slots = all_of_zip (val_value box next) (ValIs start) (Maps (slice_get all)) value_made f.slots s.0 s.3 in
        let rest = frames_made frames s.1 s.4 in
        let g : RecFrame = record { name = f.name; pc = f.pc; slots = slots.0 } in (
          g ∷ rest.0,
          ap (λ o. before_all (option_map (λ (xs : List Value). record { name = f.name; pc = f.pc; slots = xs }) o) (all_of (frame_made box next) frames)) slots.1 ∙ ap (before_all (Some g)) rest.1,
          subst (λ ys. AllZip (Maps (slice_get all)) (slots.0 ++ values_in rest.0) ys) (sym s.2) (zip_append (Maps (slice_get all)) slots.0 s.0 (values_in rest.0) s.1 slots.2 rest.2),
          (record { name = refl; pc = refl; slots = all_of_long (val_value box next) f.slots slots.0 slots.1 }, rest.3),
        )

    -- Calls

    calls_of : (xs ys : List Logged) → SameLogs all xs ys → AllZip (SameCall (slice_get all)) (events xs) (events ys)
    calls_of [] [] e = tt
    calls_of [] (y ∷ ys) e = absurd e
    calls_of (x ∷ xs) [] e = absurd e
    calls_of (x ∷ xs) (y ∷ ys) e = (e.0.event, calls_of xs ys e.1)

    same_calls : AllZip (SameCall (slice_get all)) (events u.log) (events w.log)
    same_calls = calls_of u.log w.log (logs-more mapped all wider u.log w.log h.calls)

    whole : (snap : Snapshot) → snap.shapes ≡ shapes → snap.pending ≡ pending → (vs : List Value) → AllZip (ValIs start) (slots_of snap.frames) vs
        → (r : Rebuilt) × (rebuilt_from t box snap (alone u) ≡ Some r)
        × (listing r.objects (roots (length t.prebuilts) (events u.log) (values_in r.frames)) ≡ listing w.objects (roots (length t.prebuilts) (events w.log) vs))
        × AllZip IsFrameOf snap.frames r.frames × (allocated (length t.prebuilts) r.objects ≤ bytes_in t w)
    whole snap es ep vs values =
        let os = objects_made in
        let f = finished os.0 os.2 os.3 in
        let fs = frames_made snap.frames vs values in (
          record { objects = f.world.objects; frames = fs.0 },
          ap (λ ss. rebuilt_with (option_and_then (stores_done t box next snap.pending) (option_map (with_objects (alone u)) (all_of (made_object box next) ss))) (all_of (frame_made box next) snap.frames)) es
              ∙ ap (λ o. rebuilt_with (option_and_then (stores_done t box next snap.pending) (option_map (with_objects (alone u)) o)) (all_of (frame_made box next) snap.frames)) os.1
              ∙ ap (λ ps. rebuilt_with (stores_done t box next ps (with_objects (alone u) os.0)) (all_of (frame_made box next) snap.frames)) ep
              ∙ ap (λ o. rebuilt_with o (all_of (frame_made box next) snap.frames)) f.done
              ∙ ap (rebuilt_with (Some f.world)) fs.1,
          same_listing (slice_get all) f.world.objects w.objects (roots (length t.prebuilts) (events u.log) (values_in fs.0)) (roots (length t.prebuilts) (events w.log) vs) (along os.0 os.2 os.3 f)
              (same_roots (slice_get all) (length t.prebuilts) (events u.log) (events w.log) (values_in fs.0) vs f.agrees.injective.prebuilt same_calls fs.2),
          fs.3,
          bytes_agree t _ [] _ f.agrees,
        )

pub rebuilt_same : SameListing → SameRoots → RebuiltSame
rebuilt_same lists roots_are t snap e is vs w us u a =
    let h = subst (λ label. Agrees t (at_entry e) [] (record { box = value_in (bound_to label us); rec = w; opt = u; mapped = a.mapped; virtuals = a.virtuals })) is.0 a.agrees in
    let values = subst (λ xs. AllZip (ValIs (record { box = value_in (bound_to (parts_of snap) us); rec = w; opt = u; mapped = a.mapped; virtuals = a.virtuals })) xs vs) is.1
    (subst (λ label. AllZip (ValIs (record { box = value_in (bound_to label us); rec = w; opt = u; mapped = a.mapped; virtuals = a.virtuals })) e.values vs) is.0 a.values) in
    whole lists roots_are t (value_in (bound_to (parts_of snap) us)) e.shapes e.pending e.facts w u a.mapped a.virtuals h snap (sym is.2) (sym is.3) vs values
