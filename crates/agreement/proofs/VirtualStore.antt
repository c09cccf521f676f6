-- A store into a virtual object: a part of its shape changes.
use Rattle.std.proofs.Common.{◌≡◌, ◌≢◌, ℕ, true, false, Some, length, slice_get, sym, ap, ◌∙◌, subst, arith, ◌⊎◌, inl, inr}
use Rattle.std.specs.Prelude.{slice_set, ◌==◌}
use Rattle.std.specs.List.{AllZip}
use Rattle.std.proofs.lemmas.Bool.Decides.{eqb_tells}
use Rattle.lists.proofs.Eaches.{each_weaker}
use Rattle.lists.proofs.Options.{some_same}
use Rattle.lists.proofs.Places.{get_set_same, get_set_other}
use Rattle.lists.proofs.Zips.{zip_set, zip_long}
use Rattle.agreement.proofs.Written.{length_set}
use Rattle.trace_ops.specs.declared.table.Table.{Table}
use Rattle.trace_ops.specs.declared.piece.Val.{Val}
use Rattle.trace_ops.specs.declared.piece.Shape.{Shape}
use Rattle.trace_ops.specs.declared.piece.Spot.{Spot}
use Rattle.trace_meaning.specs.declared.value.Value.{Value}
use Rattle.trace_meaning.specs.declared.value.Value.TheVariants as v
use Rattle.trace_meaning.specs.declared.value.Object.{Object}
use Rattle.trace_meaning.specs.Boxes.{Boxes, value_in}
use Rattle.trace_meaning.specs.Objects.{place_of, with_part}
use Rattle.opt_meaning.specs.Agrees.{Facts, Place, MapsAt, ValIs, IsLive, StoreIs, FactHolds, ShapeIs, Agrees}
use Rattle.agreement.proofs.First.{first_stored}
use Rattle.agreement.proofs.Further.{Further, ReadKept, all_facts, val-further, name-further, store-further, fact-further, pending-further, zip-further}
use Rattle.agreement.proofs.Reading.{obj_same, obj_from}
use Rattle.agreement.proofs.Wrote.{stored, wrote, read_elsewhere}
use Rattle.agreement.specs.Writing.{with_rec, VirtualStoreAgrees}
use Rattle.agreement.proofs.LateStore.{further-rec}

module _ (t : Table) (known : Facts) (boxes : Boxes) (at : Place) (h : Agrees t known boxes at) (n : ℕ) (s : Shape) (value : Val) (y : Value) (live : slice_get known.shapes n ≡ Some (Some s)) (ev : ValIs at value y)
    (j i : ℕ) (o : Object) (names : slice_get at.virtuals n ≡ Some j) (eo : slice_get at.rec.objects j ≡ Some o) (of : o.of ≡ s.of) (parts : AllZip (ValIs at) s.parts o.parts) where
  more : Further at (with_rec at (stored at.rec j o i y))
  more = further-rec at (stored at.rec j o i y)

  -- what is mapped isn't it
  not_it : (x b : Value) → MapsAt at x b → b ≢ v.Obj j
  not_it x b m e = let q = obj_from (slice_get at.mapped) x j (subst (MapsAt at x) e m) in h.outside n j q.0 (s, live) names q.2

  kept : (other : Spot) → ReadKept t other at (stored at.rec j o i y)
  kept other x b z m e = read_elsewhere t other y at.rec j o i eo other b z (not_it x b m) e

  mapped_other : (x q : ℕ) → slice_get at.mapped x ≡ Some q → q ≢ j
  mapped_other x q e r = h.outside n j x (s, live) names (e ∙ ap Some r)

  was_live : (m : ℕ) (x : Shape) → slice_get (slice_set known.shapes n (Some (record { of = s.of; parts = slice_set s.parts i value }))) m ≡ Some (Some x) → IsLive known.shapes m
  was_live m x e = elim (eqb_tells m n) [
    | inl q ↦ (s, ap (slice_get known.shapes) q.1 ∙ live)
    | inr q ↦ (x, sym (get_set_other known.shapes n m (Some (record { of = s.of; parts = slice_set s.parts i value })) q.1) ∙ e)
  ]

  shaped : (m : ℕ) (x : Shape) → slice_get (slice_set known.shapes n (Some (record { of = s.of; parts = slice_set s.parts i value }))) m ≡ Some (Some x) → (((m == n) ≡ true) × (m ≡ n)) ⊎ (((m == n) ≡ false) × (m ≢ n)) → ShapeIs t (with_rec at (stored at.rec j o i y)) m x
  shaped m x e (inl q) =
      let x_is : record { of = s.of; parts = slice_set s.parts i value } ≡ x = some_same (some_same (sym (get_set_same known.shapes n (Some s) (Some (record { of = s.of; parts = slice_set s.parts i value })) live) ∙ ap (slice_get (slice_set known.shapes n (Some (record { of = s.of; parts = slice_set s.parts i value })))) (sym q.1) ∙ e)) in
      subst (ShapeIs t (with_rec at (stored at.rec j o i y)) m) x_is (record {
        object = j;
        names = ap (slice_get at.virtuals) q.1 ∙ names;
        recorded = with_part o i y;
        there = get_set_same at.rec.objects j o (with_part o i y) eo;
        of = of;
        parts = zip_set (ValIs (with_rec at (stored at.rec j o i y))) s.parts o.parts (zip-further at (with_rec at (stored at.rec j o i y)) more s.parts o.parts parts) i value y (val-further at (with_rec at (stored at.rec j o i y)) more value y ev);
      })
  shaped m x e (inr q) =
      let old : slice_get known.shapes m ≡ Some (Some x) = sym (get_set_other known.shapes n m (Some (record { of = s.of; parts = slice_set s.parts i value })) q.1) ∙ e in
      let w = h.shaped m x old in
      record {
        object = w.object;
        names = w.names;
        recorded = w.recorded;
        there = get_set_other at.rec.objects j w.object (with_part o i y) (λ r. q.1 (h.apart m n j (x, old) (s, live) (w.names ∙ ap Some r) names)) ∙ w.there;
        of = w.of;
        parts = zip-further at (with_rec at (stored at.rec j o i y)) more x.parts w.recorded.parts w.parts;
      }

  pub virtual_store : Agrees t (record known { shapes = slice_set known.shapes n (Some (record { of = s.of; parts = slice_set s.parts i value })) }) boxes (with_rec at (stored at.rec j o i y))
  virtual_store = record {
    first = first_stored t at.rec j o i y eo h.first;
    covers = h.covers;
    counts = h.counts ∙ sym (length_set known.shapes n (Some (record { of = s.of; parts = slice_set s.parts i value })));
    injective = h.injective;
    alike = λ x q c e1 e2. let w = h.alike x q c e1 e2 in (w.0, get_set_other at.rec.objects j q (with_part o i y) (mapped_other x q e2) ∙ w.1, w.2);
    outside = λ m q x w. h.outside m q x (was_live m w.0 w.1);
    apart = λ m p q w1 w2. h.apart m p q (was_live m w1.0 w1.1) (was_live p w2.0 w2.1);
    shaped = λ m x e. shaped m x e (eqb_tells m n);
    names = λ b. name-further at (with_rec at (stored at.rec j o i y)) more (known.names b) (value_in boxes b) (h.names b);
    parts = λ x q p c d z e1 e2 e3 e4. elim (h.parts x q p c d z e1 e2 (sym (get_set_other at.rec.objects j q (with_part o i y) (mapped_other x q e2)) ∙ e3) e4) [
      | inl u ↦ inl (pending-further at (with_rec at (stored at.rec j o i y)) more t known.pending x p u)
      | inr u ↦ inr u
    ];
    pending = each_weaker (StoreIs t at) (StoreIs t (with_rec at (stored at.rec j o i y))) (λ p. store-further at (with_rec at (stored at.rec j o i y)) more t p (kept p.spot)) known.pending h.pending;
    facts = each_weaker (FactHolds t at) (FactHolds t (with_rec at (stored at.rec j o i y))) (λ x. fact-further at (with_rec at (stored at.rec j o i y)) more t x (all_facts t at (stored at.rec j o i y) kept x)) known.facts h.facts;
    calls = h.calls;
    answers = h.answers;
    failures = h.failures;
  }

pub virtual_store_agrees : VirtualStoreAgrees
virtual_store_agrees t known boxes at h n s spot value b y w live eb ev ew =
    let r = wrote t spot b y at.rec w ew in
    let k = h.shaped n s live in
    let same : r.number ≡ k.object = obj_same (sym r.is ∙ eb.2 ∙ ap v.Obj (some_same (sym eb.1 ∙ k.names))) in
    let object : k.recorded ≡ r.object = some_same (sym k.there ∙ ap (slice_get at.rec.objects) (sym same) ∙ r.there) in
    let of : r.object.of ≡ s.of = ap (λ (o : Object). o.of) (sym object) ∙ k.of in
    let parts : AllZip (ValIs at) s.parts r.object.parts = subst (λ (o : Object). AllZip (ValIs at) s.parts o.parts) object k.parts in
    let long : length s.parts ≡ length r.object.parts = zip_long (ValIs at) s.parts r.object.parts parts in (
      r.place,
      ap (λ m. place_of t m spot) (sym of) ∙ r.lies,
      omega (arith, r.inside, long),
      subst (λ u. Agrees t (record known { shapes = slice_set known.shapes n (Some (record { of = s.of; parts = slice_set s.parts r.place value })) }) boxes (with_rec at u)) (sym r.now)
          (virtual_store t known boxes at h n s value y live ev r.number r.place r.object (k.names ∙ ap Some (sym same)) r.there of parts),
    )
