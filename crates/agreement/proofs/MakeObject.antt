-- A virtual object is made: a box in its place, and stores of its parts.
use Rattle.std.proofs.Common.{◌≡◌, ◌≢◌, ℕ, zero, suc, ◌<◌, ◌≤◌, Bool, true, false, cond, eqb, ltb, List, [], ◌∷◌, ◌++◌, Option, Some, None, length, slice_get, map, refl, sym, ap, ◌∙◌, subst, arith, ◌⊎◌, inl, inr}
use Rattle.std.specs.Prelude.{slice_set}
use Rattle.std.specs.Option.{option_map}
use Rattle.std.specs.List.{AllZip, AllByRecursion}
use Rattle.std.proofs.lemmas.Bool.{eqb-true, le-ltb, ltb-true, ltb-false}
use Rattle.std.proofs.lemmas.Bool.Decides.{eqb_tells}
use Rattle.std.proofs.lemmas.Option.{slice_get-map, slice_get_within}
use Rattle.lists.proofs.Appends.{get_before, get_last, push_cases, length_push}
use Rattle.lists.proofs.Eaches.{each_weaker, each_append, each_map}
use Rattle.lists.proofs.Options.{some_same, none_some}
use Rattle.lists.proofs.Places.{get_set_same, get_set_other}
use Rattle.lists.proofs.Zips.{zip_long, zip_map}
use Rattle.agreement.proofs.Written.{length_set}
use Rattle.trace_ops.specs.declared.trace.BoxId.{BoxId}
use Rattle.trace_ops.specs.declared.trace.Arg.TheVariants as arg
use Rattle.trace_ops.specs.declared.table.Table.{Table}
use Rattle.trace_ops.specs.declared.piece.Val.{Val}
use Rattle.trace_ops.specs.declared.piece.Val.TheVariants.{Known, Virtual}
use Rattle.trace_ops.specs.declared.piece.Shape.{Shape}
use Rattle.trace_ops.specs.declared.piece.Spot.{Spot}
use Rattle.trace_ops.specs.declared.piece.Pending.{Pending}
use Rattle.trace_meaning.specs.declared.value.Value.{Value}
use Rattle.trace_meaning.specs.declared.value.Value.TheVariants as v
use Rattle.trace_meaning.specs.declared.value.Object.{Object}
use Rattle.trace_meaning.specs.Boxes.{Boxes, value_in}
use Rattle.heap_shape.specs.Sameness.{Maps, MapsIf}
use Rattle.opt_meaning.specs.Along.{IsOneToOne, AreAlike}
use Rattle.opt_meaning.specs.Agrees.{Facts, Place, MapsAt, ArgIs, ValIs, NameIs, IsLive, IsPending, IsOpen, StoreIs, FactHolds, ShapeIs, Agrees}
use Rattle.trace_ops.specs.declared.piece.Spot.TheVariants as spot
use Rattle.trace_meaning.specs.Objects.{place_of, is_frozen, immutable}
use Rattle.std.specs.Prelude.{◌&&◌}
use Rattle.agreement.specs.Making.{is_zero, made_val, made_shape, made_pending, part_stores, made_known, made_place, constant_of, IsFresh, AreSpots, MakeAgrees}
use Rattle.agreement.proofs.Further.{Further, fact-same, arg_value-extends, arg-further, maps-more, maps_if-more, logs-more, open-further, fact-further}
use Rattle.agreement.proofs.Reading.{read_there}
use Rattle.agreement.proofs.NewObjects.{kinds_longer}

-- The value of a constant

constant_maps : (at : Place) (x : Val) (z y : Value) → constant_of x ≡ Some z → ValIs at x y → MapsAt at z y
constant_maps at (Virtual n) z y e h = absurd (none_some e)
constant_maps at (Known x) z y e h =
    subst (λ q. MapsAt at q y) (some_same (sym h.1 ∙ arg_value-extends (λ b. None) at.box (λ b w k. absurd (none_some k)) x z e)) h.2

-- Shapes once one is gone

gone : (shapes : List (Option Shape)) (n : ℕ) (b : BoxId) (shape : Shape) → slice_get shapes n ≡ Some (Some shape) → (m : ℕ) (x : Shape)
    → slice_get (slice_set (map (option_map (made_shape n b)) shapes) n None) m ≡ Some (Some x) → (m ≢ n) × (old : Shape) × (slice_get shapes m ≡ Some (Some old)) × (made_shape n b old ≡ x)
gone shapes n b shape live m x e = elim (eqb_tells m n) [
  | inl t ↦ absurd (none_some (some_same (sym (get_set_same (map (option_map (made_shape n b)) shapes) n (Some (made_shape n b shape)) None (slice_get-map (option_map (made_shape n b)) shapes n ∙ ap (option_map (option_map (made_shape n b))) live)) ∙ ap (slice_get (slice_set (map (option_map (made_shape n b)) shapes) n None)) (sym t.1) ∙ e)))
  | inr t ↦ let s = kept (slice_get shapes m) refl (sym (slice_get-map (option_map (made_shape n b)) shapes m) ∙ sym (get_set_other (map (option_map (made_shape n b)) shapes) n m None t.1) ∙ e) in (t.1, s.0, s.1, s.2)
]
  where
    kept : (o : Option (Option Shape)) → slice_get shapes m ≡ o → option_map (option_map (made_shape n b)) (slice_get shapes m) ≡ Some (Some x) → (old : Shape) × (slice_get shapes m ≡ Some (Some old)) × (made_shape n b old ≡ x)
    kept None q k = absurd (none_some (sym (ap (option_map (option_map (made_shape n b))) q) ∙ k))
    kept (Some None) q k = absurd (none_some (some_same (sym (ap (option_map (option_map (made_shape n b))) q) ∙ k)))
    kept (Some (Some old)) q k = (old, q, some_same (some_same (sym (ap (option_map (option_map (made_shape n b))) q) ∙ k)))

long_map : {X Y : Type 0} (f : X → Y) (xs : List X) → length (map f xs) ≡ length xs
long_map f [] = refl
long_map f (x ∷ xs) = ap suc (long_map f xs)

-- The prebuilt objects are mapped, so a new one is none

prebuilts_mapped : (p : ℕ) (m : List ℕ) → IsOneToOne p m → p ≤ length m
prebuilts_mapped p m one = by (ltb (length m) p) refl
  where
    by : (c : Bool) → ltb (length m) p ≡ c → p ≤ length m
    by false e = ltb-false (length m) p e
    by true e =
        let within = slice_get_within m (length m) (length m) (one.prebuilt (length m) (ltb-true (length m) p e)) in absurd (omega (arith, within))

pub new_is_free : (t : Table) (s : Spot) (n : ℕ) → length t.prebuilts ≤ n → is_frozen t s n ≡ false
new_is_free t (spot.Field f) n le = ap (λ c. c && immutable (slice_get t.fields f)) (le-ltb n (length t.prebuilts) le)
new_is_free t (spot.Item a i) n le = refl

module _ (t : Table) (known : Facts) (boxes : Boxes) (at : Place) (h : Agrees t known boxes at) (n : ℕ) (b : BoxId) (shape : Shape) (spots : List Spot) (object : Object) (j : ℕ) (rec : Object)
    (live : slice_get known.shapes n ≡ Some (Some shape)) (is_j : slice_get at.virtuals n ≡ Some j) (is_rec : slice_get at.rec.objects j ≡ Some rec) (rec_of : rec.of ≡ shape.of) (rec_parts : AllZip (ValIs at) shape.parts rec.parts)
    (eb : at.box b ≡ Some (v.Obj (length at.opt.objects))) (fresh : IsFresh shape object) (are : AreSpots t shape spots) where
  more : Further at (made_place object j at)
  more = record { box = λ c y e. e; mapped = λ x k e. get_before at.mapped (j ∷ []) x k e; virtuals = λ m k e. e; kinds = kinds_longer object at.opt }

  own_is : ArgIs (made_place object j at) (arg.Of b) (v.Obj j)
  own_is = (v.Obj (length at.opt.objects), eb, subst (λ k. slice_get (at.mapped ++ j ∷ []) k ≡ Some j) h.covers (get_last at.mapped j))

  own_open : (s : Spot) → IsOpen t (made_place object j at) (arg.Of b) s
  own_open s = let first = prebuilts_mapped (length t.prebuilts) at.mapped h.injective in (length at.opt.objects, eb, new_is_free t s (length at.opt.objects) (omega (arith, first, h.covers)))

  val_made : (x : Val) (y : Value) → ValIs at x y → ValIs (made_place object j at) (made_val n b x) y
  val_made (Known x) y w = arg-further at (made_place object j at) more x y w
  val_made (Virtual m) y w = by (eqb m n) refl
    where
      by : (c : Bool) → eqb m n ≡ c → ValIs (made_place object j at) (cond c (Known (arg.Of b)) (Virtual m)) y
      by false e = w
      by true e =
          let same : w.0 ≡ j = some_same (sym w.1 ∙ ap (slice_get at.virtuals) (eqb-true m n e) ∙ is_j) in
          subst (ArgIs (made_place object j at) (arg.Of b)) (sym (w.2 ∙ ap v.Obj same)) own_is

  name_made : (x : Option Val) (y : Option Value) → NameIs at x y → NameIs (made_place object j at) (option_map (made_val n b) x) y
  name_made None None w = w
  name_made (Some x) (Some y) w = val_made x y w
  name_made None (Some y) w = w
  name_made (Some x) None w = w

  store_made : (p : Pending) → StoreIs t at p → StoreIs t (made_place object j at) (made_pending n b p)
  store_made p w = ((w.0.0, arg-further at (made_place object j at) more p.base w.0.0 w.0.1, w.0.2, w.0.3, val_made p.value w.0.2 w.0.4), open-further at (made_place object j at) more t p.base p.spot w.1)

  pending_made : (xs ys : List Pending) (x i : ℕ) → IsPending t at xs x i → IsPending t (made_place object j at) (map (made_pending n b) xs ++ ys) x i
  pending_made [] ys x i w = absurd w
  pending_made (z ∷ zs) ys x i (inl w) = inl (w.0, w.1, get_before at.opt.objects (object ∷ []) x w.1 w.2, w.3)
  pending_made (z ∷ zs) ys x i (inr w) = inr (pending_made zs ys x i w)

  pending_right : (xs ys : List Pending) (x i : ℕ) → IsPending t (made_place object j at) ys x i → IsPending t (made_place object j at) (xs ++ ys) x i
  pending_right [] ys x i w = w
  pending_right (z ∷ zs) ys x i w = inr (pending_right zs ys x i w)

  -- the new object's parts: each is pending or right
  part_made : (ss : List Spot) (xs : List Val) (zs ys : List Value) (place : ℕ → ℕ) → length ss ≡ length xs → AllZip (λ x z. is_zero x ≡ true → constant_of x ≡ Some z) xs zs → AllZip (ValIs at) xs ys
      → ((k : ℕ) (s : Spot) → slice_get ss k ≡ Some s → place_of t shape.of s ≡ Some (place k))
      → (k : ℕ) (y : Value) → slice_get ys k ≡ Some y
      → IsPending t (made_place object j at) (map (made_pending n b) (part_stores b ss xs)) (length at.opt.objects) (place k) ⊎ MapsIf (slice_get (at.mapped ++ j ∷ [])) (slice_get zs k) (Some y)
  part_made ss xs zs [] place long z r p k y e = absurd (none_some e)
  part_made ss [] zs (q ∷ ys) place long z r p k y e = absurd r
  part_made ss (x ∷ xs) [] (q ∷ ys) place long z r p k y e = absurd z
  part_made [] (x ∷ xs) (c ∷ zs) (q ∷ ys) place long z r p k y e = absurd (omega (arith, long))
  part_made (s ∷ ss) (x ∷ xs) (c ∷ zs) (q ∷ ys) place long z r p zero y e = by (is_zero x) refl
    where
      by : (w : Bool) → is_zero x ≡ w → IsPending t (made_place object j at) (map (made_pending n b) (cond w (part_stores b ss xs) (record { base = arg.Of b; spot = s; value = x } ∷ part_stores b ss xs))) (length at.opt.objects) (place zero) ⊎ Maps (slice_get (at.mapped ++ j ∷ [])) c y
      by true w = inr (maps-more (slice_get at.mapped) (slice_get (at.mapped ++ j ∷ [])) more.mapped c y (subst (MapsAt at c) (some_same e) (constant_maps at x c q (z.0 w) r.0)))
      by false w = inl (inl (eb, object, get_last at.opt.objects object, ap (λ o. place_of t o s) fresh.of ∙ p zero s refl))
  part_made (s ∷ ss) (x ∷ xs) (c ∷ zs) (q ∷ ys) place long z r p (suc k) y e =
      by (is_zero x) (part_made ss xs zs ys (λ i. place (suc i)) (omega (arith, long)) z.1 r.1 (λ i. p (suc i)) k y e)
    where
      by : (w : Bool) → IsPending t (made_place object j at) (map (made_pending n b) (part_stores b ss xs)) (length at.opt.objects) (place (suc k)) ⊎ MapsIf (slice_get (at.mapped ++ j ∷ [])) (slice_get zs k) (Some y)
          → IsPending t (made_place object j at) (map (made_pending n b) (cond w (part_stores b ss xs) (record { base = arg.Of b; spot = s; value = x } ∷ part_stores b ss xs))) (length at.opt.objects) (place (suc k)) ⊎ MapsIf (slice_get (at.mapped ++ j ∷ [])) (slice_get zs k) (Some y)
      by true rest = rest
      by false rest = elim rest [ inl u ↦ inl (inr u) | inr u ↦ inr u ]

  -- each store of a part holds the recorded value
  stores_hold : (ss : List Spot) (xs : List Val) (ys : List Value) (place : ℕ → ℕ) → AllZip (ValIs at) xs ys
      → ((k : ℕ) (s : Spot) → slice_get ss k ≡ Some s → place_of t shape.of s ≡ Some (place k)) → ((k : ℕ) (y : Value) → slice_get ys k ≡ Some y → slice_get rec.parts (place k) ≡ Some y)
      → AllByRecursion (StoreIs t (made_place object j at)) (map (made_pending n b) (part_stores b ss xs))
  stores_hold [] xs ys place r p q = tt
  stores_hold (s ∷ ss) [] ys place r p q = tt
  stores_hold (s ∷ ss) (x ∷ xs) [] place r p q = absurd r
  stores_hold (s ∷ ss) (x ∷ xs) (y ∷ ys) place r p q =
      by (is_zero x) (stores_hold ss xs ys (λ i. place (suc i)) r.1 (λ i. p (suc i)) (λ i. q (suc i)))
    where
      by : (w : Bool) → AllByRecursion (StoreIs t (made_place object j at)) (map (made_pending n b) (part_stores b ss xs))
          → AllByRecursion (StoreIs t (made_place object j at)) (map (made_pending n b) (cond w (part_stores b ss xs) (record { base = arg.Of b; spot = s; value = x } ∷ part_stores b ss xs)))
      by true rest = rest
      by false rest = (
        ((v.Obj j, own_is, y, read_there t s j (place zero) rec y at.rec is_rec (ap (λ o. place_of t o s) rec_of ∙ p zero s refl) (q zero y refl), val_made x y r.0), own_open s),
        rest,
      )

  live_old : (m : ℕ) → IsLive (slice_set (map (option_map (made_shape n b)) known.shapes) n None) m → (m ≢ n) × IsLive known.shapes m
  live_old m w = let s = gone known.shapes n b shape live m w.0 w.1 in (s.0, (s.1, s.2))

  once : (x y q : ℕ) → ((x < length at.mapped) × (slice_get at.mapped x ≡ Some q)) ⊎ ((x ≡ length at.mapped) × (j ≡ q)) → ((y < length at.mapped) × (slice_get at.mapped y ≡ Some q)) ⊎ ((y ≡ length at.mapped) × (j ≡ q)) → x ≡ y
  once x y q (inl u) (inl w) = h.injective.one_to_one x y q u.1 w.1
  once x y q (inl u) (inr w) = absurd (h.outside n j x (shape, live) is_j (u.1 ∙ ap Some (sym w.1)))
  once x y q (inr u) (inl w) = absurd (h.outside n j y (shape, live) is_j (w.1 ∙ ap Some (sym u.1)))
  once x y q (inr u) (inr w) = u.0 ∙ sym w.0

  like : (x q : ℕ) (c : Object) → ((x < length at.opt.objects) × (slice_get at.opt.objects x ≡ Some c)) ⊎ ((x ≡ length at.opt.objects) × (object ≡ c)) → ((x < length at.mapped) × (slice_get at.mapped x ≡ Some q)) ⊎ ((x ≡ length at.mapped) × (j ≡ q))
      → (d : Object) × (slice_get at.rec.objects q ≡ Some d) × AreAlike c d
  like x q c (inl u) (inl w) = h.alike x q c u.1 w.1
  like x q c (inl u) (inr w) = absurd (omega (arith, u.0, w.0, h.covers))
  like x q c (inr u) (inl w) = absurd (omega (arith, u.0, w.0, h.covers))
  like x q c (inr u) (inr w) = (
    rec,
    ap (slice_get at.rec.objects) (sym w.1) ∙ is_rec,
    subst (λ o. AreAlike o rec) u.1 (record {
      of = fresh.of ∙ sym rec_of;
      parts = sym (zip_long (λ x z. is_zero x ≡ true → constant_of x ≡ Some z) shape.parts object.parts fresh.zeros) ∙ zip_long (ValIs at) shape.parts rec.parts rec_parts;
    }),
  )

  part : (x q i : ℕ) (c d : Object) (y : Value) → ((x < length at.opt.objects) × (slice_get at.opt.objects x ≡ Some c)) ⊎ ((x ≡ length at.opt.objects) × (object ≡ c)) → ((x < length at.mapped) × (slice_get at.mapped x ≡ Some q)) ⊎ ((x ≡ length at.mapped) × (j ≡ q))
      → slice_get at.rec.objects q ≡ Some d → slice_get d.parts i ≡ Some y
      → IsPending t (made_place object j at) (map (made_pending n b) known.pending ++ map (made_pending n b) (part_stores b spots shape.parts)) x i ⊎ MapsIf (slice_get (at.mapped ++ j ∷ [])) (slice_get c.parts i) (Some y)
  part x q i c d y (inl u) (inl w) e3 e4 = elim (h.parts x q i c d y u.1 w.1 e3 e4) [
    | inl s ↦ inl (pending_made known.pending (map (made_pending n b) (part_stores b spots shape.parts)) x i s)
    | inr s ↦ inr (maps_if-more (slice_get at.mapped) (slice_get (at.mapped ++ j ∷ [])) more.mapped (slice_get c.parts i) (Some y) s)
  ]
  part x q i c d y (inl u) (inr w) e3 e4 = absurd (omega (arith, u.0, w.0, h.covers))
  part x q i c d y (inr u) (inl w) e3 e4 = absurd (omega (arith, u.0, w.0, h.covers))
  part x q i c d y (inr u) (inr w) e3 e4 =
      let same : rec ≡ d = some_same (sym is_rec ∙ ap (slice_get at.rec.objects) w.1 ∙ e3) in
      elim (part_made spots shape.parts object.parts rec.parts (λ k. k) are.long fresh.zeros rec_parts are.places i y (ap (λ (o : Object). slice_get o.parts i) same ∙ e4)) [
        | inl s ↦ inl (subst (λ k. IsPending t (made_place object j at) (map (made_pending n b) known.pending ++ map (made_pending n b) (part_stores b spots shape.parts)) k i) (sym u.0)
            (pending_right (map (made_pending n b) known.pending) (map (made_pending n b) (part_stores b spots shape.parts)) (length at.opt.objects) i s))
        | inr s ↦ inr (subst (λ (o : Object). MapsIf (slice_get (at.mapped ++ j ∷ [])) (slice_get o.parts i) (Some y)) u.1 s)
      ]

  shaped : (m : ℕ) (x : Shape) → slice_get (slice_set (map (option_map (made_shape n b)) known.shapes) n None) m ≡ Some (Some x) → ShapeIs t (made_place object j at) m x
  shaped m x e =
      let g = gone known.shapes n b shape live m x e in
      let s = h.shaped m g.1 g.2 in
      record {
        object = s.object;
        names = s.names;
        recorded = s.recorded;
        there = s.there;
        of = s.of ∙ ap (λ (o : Shape). o.of) g.3;
        parts = subst (λ (o : Shape). AllZip (ValIs (made_place object j at)) o.parts s.recorded.parts) g.3 (zip_map (made_val n b) (ValIs at) (ValIs (made_place object j at)) val_made g.1.parts s.recorded.parts s.parts);
      }

  pub make_object : Agrees t (made_known n b spots shape known) boxes (made_place object j at)
  make_object = record {
    first = h.first;
    covers = length_push at.mapped j ∙ ap suc h.covers ∙ sym (length_push at.opt.objects object);
    counts = h.counts ∙ sym (length_set (map (option_map (made_shape n b)) known.shapes) n None ∙ long_map (option_map (made_shape n b)) known.shapes);
    injective = record { one_to_one = λ x y q e1 e2. once x y q (push_cases at.mapped j x q e1) (push_cases at.mapped j y q e2); prebuilt = λ x w. get_before at.mapped (j ∷ []) x x (h.injective.prebuilt x w) };
    alike = λ x q c e1 e2. like x q c (push_cases at.opt.objects object x c e1) (push_cases at.mapped j x q e2);
    outside = λ m q x w ev em.
        let old = live_old m w in
        elim (push_cases at.mapped j x q em) [
          | inl u ↦ h.outside m q x old.1 ev u.1
          | inr u ↦ old.0 (h.apart m n q old.1 (shape, live) ev (is_j ∙ ap Some u.1))
        ];
    apart = λ m p q w1 w2. h.apart m p q (live_old m w1).1 (live_old p w2).1;
    shaped = shaped;
    names = λ c. name_made (known.names c) (value_in boxes c) (h.names c);
    parts = λ x q i c d y e1 e2 e3 e4. part x q i c d y (push_cases at.opt.objects object x c e1) (push_cases at.mapped j x q e2) e3 e4;
    pending = each_append (StoreIs t (made_place object j at)) (map (made_pending n b) known.pending) (map (made_pending n b) (part_stores b spots shape.parts))
        (each_map (made_pending n b) (StoreIs t at) (StoreIs t (made_place object j at)) store_made known.pending h.pending)
        (stores_hold spots shape.parts rec.parts (λ k. k) rec_parts are.places (λ k y e. e));
    facts = each_weaker (FactHolds t at) (FactHolds t (made_place object j at)) (λ x. fact-further at (made_place object j at) more t x (fact-same t at x)) known.facts h.facts;
    calls = logs-more at.mapped (at.mapped ++ j ∷ []) more.mapped at.opt.log at.rec.log h.calls;
    answers = h.answers;
    failures = h.failures;
  }

pub make_agrees : MakeAgrees
make_agrees t known boxes at h n b shape spots object live eb fresh are =
    let s = h.shaped n shape live in
    (s.object, s.names, make_object t known boxes at h n b shape spots object s.object s.recorded live s.names s.there s.of s.parts eb fresh are)
