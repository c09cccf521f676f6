-- A late store: the trace writes, and the piece keeps the store as pending.
use Rattle.std.proofs.Common.{◌≡◌, ◌≢◌, ℕ, ◌<◌, true, false, List, [], ◌∷◌, ◌++◌, Some, length, slice_get, sym, ap, ◌∙◌, subst, ◌⊎◌, inl, inr}
use Rattle.std.specs.Prelude.{slice_set, ◌==◌}
use Rattle.std.specs.List.{AllByRecursion}
use Rattle.std.proofs.lemmas.Bool.Decides.{eqb_tells}
use Rattle.lists.proofs.Eaches.{each_append, each_both}
use Rattle.lists.proofs.Options.{some_same}
use Rattle.lists.proofs.Places.{get_set_same, get_set_other}
use Rattle.agreement.proofs.Written.{length_set}
use Rattle.trace_ops.specs.declared.trace.Arg.{Arg}
use Rattle.trace_ops.specs.declared.table.Table.{Table}
use Rattle.trace_ops.specs.declared.piece.Val.{Val}
use Rattle.trace_ops.specs.declared.piece.Shape.{Shape}
use Rattle.trace_ops.specs.declared.piece.Spot.{Spot}
use Rattle.trace_ops.specs.declared.piece.Pending.{Pending}
use Rattle.trace_ops.specs.declared.piece.Fact.{Fact}
use Rattle.trace_ops.specs.declared.piece.Fact.TheVariants as fact
use Rattle.trace_meaning.specs.declared.value.Value.{Value}
use Rattle.trace_meaning.specs.declared.value.Value.TheVariants as v
use Rattle.trace_meaning.specs.declared.value.Object.{Object}
use Rattle.trace_meaning.specs.World.{World}
use Rattle.trace_meaning.specs.Boxes.{Boxes, value_in, arg_value}
use Rattle.trace_meaning.specs.Objects.{place_of, is_frozen, with_part}
use Rattle.heap_shape.specs.Sameness.{MapsIf}
use Rattle.opt_meaning.specs.Along.{AreAlike}
use Rattle.opt_meaning.specs.Agrees.{Facts, Place, MapsAt, ValIs, IsPending, StoreIs, FactHolds, Agrees}
use Rattle.agreement.specs.Reading.{AreApart}
use Rattle.agreement.proofs.First.{first_stored}
use Rattle.agreement.proofs.Further.{Further, FactKept, kinds-same, val-further, name-further, store-further, fact-further, pending-further, zip-further}
use Rattle.agreement.proofs.Reading.{obj_from, twins}
use Rattle.agreement.proofs.Wrote.{stored, wrote, frozen_along, read_apart, read_itself}
use Rattle.agreement.specs.Writing.{with_rec, IsApartFrom, KeptOf, LateStoreAgrees}

pub further-rec : (at : Place) (w : World) → Further at (with_rec at w)
further-rec at w = record { box = λ b y e. e; mapped = λ x j e. e; virtuals = λ n j e. e; kinds = kinds-same at.opt }

-- a store that was pending is kept, or is at the base and spot
pending_kept : (t : Table) (at : Place) (base : Arg) (spot : Spot) (ps kept : List Pending) → KeptOf t base spot ps kept → (n i : ℕ) → IsPending t at ps n i
    → IsPending t at kept n i ⊎ ((arg_value at.box base ≡ Some (v.Obj n)) × (c : Object) × (slice_get at.opt.objects n ≡ Some c) × (place_of t c.of spot ≡ Some i))
pending_kept t at base spot [] kept k n i w = absurd w
pending_kept t at base spot (x ∷ xs) kept (inl k) n i (inl w) = inr (ap (arg_value at.box) (sym k.0) ∙ w.0, w.1, w.2, ap (place_of t w.1.of) (sym k.1) ∙ w.3)
pending_kept t at base spot (x ∷ xs) kept (inl k) n i (inr w) = pending_kept t at base spot xs kept k.2 n i w
pending_kept t at base spot (x ∷ xs) kept (inr k) n i (inl w) = inl (subst (λ ps. IsPending t at ps n i) (sym k.1) (inl w))
pending_kept t at base spot (x ∷ xs) kept (inr k) n i (inr w) = elim (pending_kept t at base spot xs k.0 k.3 n i w) [
  | inl u ↦ inl (subst (λ ps. IsPending t at ps n i) (sym k.1) (inr u))
  | inr u ↦ inr u
]

pub pending_left : (t : Table) (at : Place) (ps qs : List Pending) (n i : ℕ) → IsPending t at ps n i → IsPending t at (ps ++ qs) n i
pending_left t at [] qs n i w = absurd w
pending_left t at (p ∷ ps) qs n i (inl w) = inl w
pending_left t at (p ∷ ps) qs n i (inr w) = inr (pending_left t at ps qs n i w)

pub pending_right : (t : Table) (at : Place) (ps qs : List Pending) (n i : ℕ) → IsPending t at qs n i → IsPending t at (ps ++ qs) n i
pending_right t at [] qs n i w = w
pending_right t at (p ∷ ps) qs n i w = inr (pending_right t at ps qs n i w)

-- what holds of all that was pending and lies apart holds of all that is kept
all_kept : (t : Table) (base : Arg) (spot : Spot) (P Q : Pending → Type 0) → ((p : Pending) → AreApart t spot p.spot → P p → Q p) → (ps kept : List Pending) → KeptOf t base spot ps kept → AllByRecursion P ps → AllByRecursion Q kept
all_kept t base spot P Q f [] kept k h = subst (AllByRecursion Q) (sym k) tt
all_kept t base spot P Q f (x ∷ xs) kept (inl k) h = all_kept t base spot P Q f xs kept k.2 h.1
all_kept t base spot P Q f (x ∷ xs) kept (inr k) h = subst (AllByRecursion Q) (sym k.1) (f x k.2 h.0, all_kept t base spot P Q f xs k.0 k.3 h.1)

module _ (t : Table) (known : Facts) (boxes : Boxes) (at : Place) (h : Agrees t known boxes at) (base : Arg) (spot : Spot) (value : Val) (y : Value)
    (k j i : ℕ) (a o : Object) (eb : arg_value at.box base ≡ Some (v.Obj k)) (em : slice_get at.mapped k ≡ Some j) (ev : ValIs at value y) (free : is_frozen t spot j ≡ false)
    (eo : slice_get at.rec.objects j ≡ Some o) (ep : place_of t o.of spot ≡ Some i) (inside : i < length o.parts)
    (ea : slice_get at.opt.objects k ≡ Some a) (alike : AreAlike a o)
    (kept : List Pending) (keeps : KeptOf t base spot known.pending kept) (facts : List Fact) (apart : AllByRecursion (IsApartFrom t spot) facts) (holds : AllByRecursion (FactHolds t at) facts) where
  more : Further at (with_rec at (stored at.rec j o i y))
  more = further-rec at (stored at.rec j o i y)

  carry : (n p : ℕ) → IsPending t at known.pending n p → IsPending t (with_rec at (stored at.rec j o i y)) (kept ++ record { base = base; spot = spot; value = value } ∷ []) n p
  carry n p w = elim (pending_kept t at base spot known.pending kept keeps n p w) [
    | inl u ↦ pending-further at (with_rec at (stored at.rec j o i y)) more t (kept ++ record { base = base; spot = spot; value = value } ∷ []) n p (pending_left t at kept (record { base = base; spot = spot; value = value } ∷ []) n p u)
    | inr u ↦ pending_right t (with_rec at (stored at.rec j o i y)) kept (record { base = base; spot = spot; value = value } ∷ []) n p (inl u)
  ]

  at_object : (q : ℕ) (d : Object) → slice_get at.rec.objects q ≡ Some d → (c : Object) → AreAlike c d → (e : Object) × (slice_get (slice_set at.rec.objects j (with_part o i y)) q ≡ Some e) × AreAlike c e
  at_object q d e c s = elim (eqb_tells q j) [
    | inl r ↦ (let od : o ≡ d = some_same (sym eo ∙ ap (slice_get at.rec.objects) (sym r.1) ∙ e) in
        (with_part o i y, ap (slice_get (slice_set at.rec.objects j (with_part o i y))) r.1 ∙ get_set_same at.rec.objects j o (with_part o i y) eo, record { of = s.of ∙ ap (λ (z : Object). z.of) (sym od); parts = s.parts ∙ ap (λ (z : Object). length z.parts) (sym od) ∙ sym (length_set o.parts i y) }))
    | inr r ↦ (d, get_set_other at.rec.objects j q (with_part o i y) r.1 ∙ e, s)
  ]

  at_part : (x q n : ℕ) (c d : Object) (z : Value) → slice_get at.opt.objects x ≡ Some c → slice_get at.mapped x ≡ Some q → slice_get (slice_set at.rec.objects j (with_part o i y)) q ≡ Some d → slice_get d.parts n ≡ Some z → (((q == j) ≡ true) × (q ≡ j)) ⊎ (((q == j) ≡ false) × (q ≢ j))
      → IsPending t (with_rec at (stored at.rec j o i y)) (kept ++ record { base = base; spot = spot; value = value } ∷ []) x n ⊎ MapsIf (slice_get at.mapped) (slice_get c.parts n) (Some z)
  at_part x q n c d z e1 e2 e3 e4 (inr r) =
      elim (h.parts x q n c d z e1 e2 (sym (get_set_other at.rec.objects j q (with_part o i y) r.1) ∙ e3) e4) [ inl s ↦ inl (carry x n s) | inr s ↦ inr s ]
  at_part x q n c d z e1 e2 e3 e4 (inl r) =
      let xk : x ≡ k = h.injective.one_to_one x k j (e2 ∙ ap Some r.1) em in
      let od : with_part o i y ≡ d = some_same (sym (get_set_same at.rec.objects j o (with_part o i y) eo) ∙ ap (slice_get (slice_set at.rec.objects j (with_part o i y))) (sym r.1) ∙ e3) in
      elim (eqb_tells n i) [
        | inl s ↦ inl (pending_right t (with_rec at (stored at.rec j o i y)) kept (record { base = base; spot = spot; value = value } ∷ []) x n (inl (eb ∙ ap (λ m. Some (v.Obj m)) (sym xk), a, ap (slice_get at.opt.objects) xk ∙ ea, ap (λ m. place_of t m spot) alike.of ∙ ep ∙ ap Some (sym s.1))))
        | inr s ↦ (let oldpart : slice_get o.parts n ≡ Some z = sym (get_set_other o.parts i n y s.1) ∙ ap (λ (m : Object). slice_get m.parts n) od ∙ e4 in
            elim (h.parts x j n c o z e1 (e2 ∙ ap Some r.1) eo oldpart) [ inl u ↦ inl (carry x n u) | inr u ↦ inr u ])
      ]

  fact_kept : (x : Fact) → IsApartFrom t spot x → FactKept t at (stored at.rec j o i y) x
  fact_kept (fact.Between b low high) p = tt
  fact_kept (fact.Nonnull b) p = tt
  fact_kept (fact.ClassOf b n) p = tt
  fact_kept (fact.Holds base' other x) p = λ x b z m e. read_apart t spot y at.rec j o i eo ep other b z p e
  fact_kept (fact.Same operation args x) p = tt

  not_it : (n : ℕ) (s : Shape) → slice_get known.shapes n ≡ Some (Some s) → (q : ℕ) → slice_get at.virtuals n ≡ Some q → q ≢ j
  not_it n s live q names e = h.outside n q k (s, live) names (em ∙ ap Some (sym e))

  pub late : Agrees t (record known { pending = kept ++ record { base = base; spot = spot; value = value } ∷ []; facts = facts }) boxes (with_rec at (stored at.rec j o i y))
  late = record {
    first = first_stored t at.rec j o i y eo h.first;
    covers = h.covers;
    counts = h.counts;
    injective = h.injective;
    alike = λ x q c e1 e2. let s = h.alike x q c e1 e2 in at_object q s.0 s.1 c s.2;
    outside = h.outside;
    apart = h.apart;
    shaped = λ n s e.
        let w = h.shaped n s e in record {
          object = w.object;
          names = w.names;
          recorded = w.recorded;
          there = get_set_other at.rec.objects j w.object (with_part o i y) (not_it n s e w.object w.names) ∙ w.there;
          of = w.of;
          parts = zip-further at (with_rec at (stored at.rec j o i y)) more s.parts w.recorded.parts w.parts;
        };
    names = λ b. name-further at (with_rec at (stored at.rec j o i y)) more (known.names b) (value_in boxes b) (h.names b);
    parts = λ x q n c d z e1 e2 e3 e4. at_part x q n c d z e1 e2 e3 e4 (eqb_tells q j);
    pending = each_append (StoreIs t (with_rec at (stored at.rec j o i y))) kept (record { base = base; spot = spot; value = value } ∷ [])
        (all_kept t base spot (StoreIs t at) (StoreIs t (with_rec at (stored at.rec j o i y)))
        (λ p q. store-further at (with_rec at (stored at.rec j o i y)) more t p (λ x b z m e. read_apart t spot y at.rec j o i eo ep p.spot b z q e)) known.pending kept keeps h.pending) (
          (
            (v.Obj j, (v.Obj k, eb, em), y, read_itself t spot y at.rec j o i eo ep inside, val-further at (with_rec at (stored at.rec j o i y)) more value y ev),
            (k, eb, frozen_along t at.mapped h.injective spot k j em ∙ free),
          ),
          tt,
        );
    facts = each_both (IsApartFrom t spot) (FactHolds t at) (FactHolds t (with_rec at (stored at.rec j o i y))) (λ x p. fact-further at (with_rec at (stored at.rec j o i y)) more t x (fact_kept x p)) facts apart holds;
    calls = h.calls;
    answers = h.answers;
    failures = h.failures;
  }

pub late_store_agrees : LateStoreAgrees
late_store_agrees t known boxes at h base spot value b y w eb ev ew kept keeps facts apart holds =
    let r = wrote t spot b y at.rec w ew in
    let s = obj_from (slice_get at.mapped) eb.0 r.number (subst (MapsAt at eb.0) r.is eb.2) in
    let pair = twins t known boxes at h s.0 r.number s.2 in
    let same : pair.other ≡ r.object = some_same (sym pair.there ∙ r.there) in
    subst (λ u. Agrees t (record known { pending = kept ++ record { base = base; spot = spot; value = value } ∷ []; facts = facts }) boxes (with_rec at u)) (sym r.now)
    (late t known boxes at h base spot value y s.0 r.number r.place pair.one r.object (eb.1 ∙ ap Some s.1) s.2 ev r.free r.there r.lies r.inside pair.here (subst (AreAlike pair.one) same pair.alike) kept keeps facts apart holds)
