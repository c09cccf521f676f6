-- An object that the trace makes, and the piece too or only as a virtual one.
use Rattle.std.proofs.Common.{◌≡◌, ◌≢◌, ℕ, zero, suc, ◌<◌, List, [], ◌∷◌, ◌++◌, Option, Some, None, length, slice_get, map, refl, sym, ap, ◌∙◌, subst, arith, ◌⊎◌, inl, inr}
use Rattle.std.specs.Prelude.{option_and_then}
use Rattle.std.specs.List.{AllZip}
use Rattle.std.proofs.lemmas.Option.{slice_get_within}
use Rattle.lists.proofs.Appends.{get_before, get_last, push_cases, length_push}
use Rattle.lists.proofs.Eaches.{each_weaker}
use Rattle.lists.proofs.Options.{some_same, none_some}
use Rattle.lists.proofs.Zips.{zip_long, zip_second}
use Rattle.trace_ops.specs.declared.table.Table.{Table}
use Rattle.trace_ops.specs.declared.piece.Val.TheVariants.{Virtual}
use Rattle.trace_ops.specs.declared.piece.Shape.{Shape}
use Rattle.trace_ops.specs.declared.piece.Spot.{Spot}
use Rattle.trace_meaning.specs.declared.value.Value.{Value}
use Rattle.trace_meaning.specs.declared.value.Value.TheVariants as v
use Rattle.trace_meaning.specs.declared.value.Object.{Object}
use Rattle.trace_meaning.specs.World.{World}
use Rattle.trace_meaning.specs.Boxes.{Boxes, value_in}
use Rattle.heap_shape.specs.Sameness.{Maps, MapsIf}
use Rattle.opt_meaning.specs.Along.{AreAlike}
use Rattle.opt_meaning.specs.Agrees.{Facts, Place, MapsAt, ValIs, IsLive, IsPending, StoreIs, FactHolds, ShapeIs, Agrees}
use Rattle.std.specs.Prelude.{replicate}
use Rattle.trace_ops.specs.declared.trace.Kind.{Kind}
use Rattle.trace_ops.specs.declared.trace.Kind.TheVariants as kind
use Rattle.trace_ops.specs.declared.table.FieldRow.{FieldRow}
use Rattle.trace_ops.specs.declared.table.ArrayRow.{ArrayRow}
use Rattle.trace_meaning.specs.Values.{zero_of}
use Rattle.trace_meaning.specs.Objects.{part_of_object, with_new, fields_of, zero_field, zero_item}
use Rattle.agreement.specs.Making.{with_shape, virtual_place, both_place, NewVirtualAgrees, NewBothAgrees, ZerosAreOne}
use Rattle.agreement.proofs.First.{first_new}
use Rattle.agreement.proofs.Further.{Further, ReadKept, KindsKept, kinds-same, all_facts, name-further, store-further, fact-further, pending-further, zip-further, maps_if-more, logs-more}

-- what was there is read as before
pub read_longer : (t : Table) (o : Object) (at : Place) (spot : Spot) → ReadKept t spot at (with_new o at.rec)
read_longer t o at spot x (v.Int z) y m e = absurd (none_some e)
read_longer t o at spot x v.Null y m e = absurd (none_some e)
read_longer t o at spot x (v.Obj n) y m e = by (slice_get at.rec.objects n) refl e
  where
    by : (p : Option Object) → slice_get at.rec.objects n ≡ p → option_and_then (part_of_object t spot) p ≡ Some y → option_and_then (part_of_object t spot) (slice_get (at.rec.objects ++ o ∷ []) n) ≡ Some y
    by None q r = absurd (none_some r)
    by (Some c) q r = ap (option_and_then (part_of_object t spot)) (get_before at.rec.objects (o ∷ []) n c q) ∙ r

pub kinds_longer : (a : Object) (w : World) → KindsKept w (with_new a w)
kinds_longer a w n c e = (c, get_before w.objects (a ∷ []) n c e, refl)

-- a number past the end names nothing
past : {X : Type 0} (xs : List X) (x : X) → slice_get xs (length xs) ≡ Some x → ⊥
past xs x e = let less = slice_get_within xs (length xs) x e in absurd (omega (arith, less))

module _ (t : Table) (known : Facts) (boxes : Boxes) (at : Place) (h : Agrees t known boxes at) where
  -- the next recorded number is that of no mapped object, and of no virtual one
  new_number : (x : ℕ) → slice_get at.mapped x ≡ Some (length at.rec.objects) → ⊥
  new_number x e =
      let within = slice_get_within at.mapped x (length at.rec.objects) e in
      let a = by (slice_get at.opt.objects x) refl within in
      let b = h.alike x (length at.rec.objects) a.0 a.1 e in
      past at.rec.objects b.0 b.1
    where
      by : (o : Option Object) → slice_get at.opt.objects x ≡ o → x < length at.mapped → (a : Object) × (slice_get at.opt.objects x ≡ Some a)
      by (Some a) q w = (a, q)
      by None q w = absurd (missing at.opt.objects x q (omega (arith, w, h.covers)))
        where
          missing : {X : Type 0} (xs : List X) (k : ℕ) → slice_get xs k ≡ None → k < length xs → ⊥
          missing [] k e w = absurd (omega (arith, w))
          missing (x ∷ xs) zero e w = none_some (sym e)
          missing (x ∷ xs) (suc k) e w = missing xs k e (omega (arith, w))

  not_virtual : (n : ℕ) → IsLive known.shapes n → slice_get at.virtuals n ≡ Some (length at.rec.objects) → ⊥
  not_virtual n live e =
      let w = h.shaped n live.0 live.1 in
      past at.rec.objects w.recorded (ap (slice_get at.rec.objects) (some_same (sym e ∙ w.names)) ∙ w.there)

  module _ (s : Shape) (o : Object) (of : o.of ≡ s.of) (parts : AllZip (ValIs at) s.parts o.parts) where
    more : Further at (virtual_place o at)
    more = record { box = λ b y e. e; mapped = λ x j e. e; virtuals = λ n j e. get_before at.virtuals (length at.rec.objects ∷ []) n j e; kinds = kinds-same at.opt }

    -- a live shape is an old one, or the new one
    live_cases : (n : ℕ) (x : Shape) → slice_get (known.shapes ++ Some s ∷ []) n ≡ Some (Some x) → (slice_get known.shapes n ≡ Some (Some x)) ⊎ ((n ≡ length known.shapes) × (s ≡ x))
    live_cases n x e = elim (push_cases known.shapes (Some s) n (Some x) e) [ inl w ↦ inl w.1 | inr w ↦ inr (w.0, some_same w.1) ]

    old_name : (n j : ℕ) (x : Shape) → slice_get known.shapes n ≡ Some (Some x) → slice_get (at.virtuals ++ length at.rec.objects ∷ []) n ≡ Some j → slice_get at.virtuals n ≡ Some j
    old_name n j x live e = elim (push_cases at.virtuals (length at.rec.objects) n j e) [
      | inl w ↦ w.1
      | inr w ↦ absurd (let less = slice_get_within known.shapes n (Some x) live in omega (arith, less, w.0, h.counts))
    ]

    new_name : (n j : ℕ) → n ≡ length known.shapes → slice_get (at.virtuals ++ length at.rec.objects ∷ []) n ≡ Some j → length at.rec.objects ≡ j
    new_name n j same e = elim (push_cases at.virtuals (length at.rec.objects) n j e) [
      | inl w ↦ absurd (omega (arith, w.0, same, h.counts))
      | inr w ↦ w.1
    ]

    new_at : slice_get (at.virtuals ++ length at.rec.objects ∷ []) (length known.shapes) ≡ Some (length at.rec.objects)
    new_at = subst (λ n. slice_get (at.virtuals ++ length at.rec.objects ∷ []) n ≡ Some (length at.rec.objects)) h.counts (get_last at.virtuals (length at.rec.objects))

    new_is : ValIs (virtual_place o at) (Virtual (length known.shapes)) (v.Obj (length at.rec.objects))
    new_is = (length at.rec.objects, new_at, refl)

    apart : (m n j : ℕ) (x y : Shape) → slice_get (known.shapes ++ Some s ∷ []) m ≡ Some (Some x) → slice_get (known.shapes ++ Some s ∷ []) n ≡ Some (Some y)
        → slice_get (at.virtuals ++ length at.rec.objects ∷ []) m ≡ Some j → slice_get (at.virtuals ++ length at.rec.objects ∷ []) n ≡ Some j → m ≡ n
    apart m n j x y em en vm vn = by (live_cases m x em) (live_cases n y en)
      where
        by : (slice_get known.shapes m ≡ Some (Some x)) ⊎ ((m ≡ length known.shapes) × (s ≡ x)) → (slice_get known.shapes n ≡ Some (Some y)) ⊎ ((n ≡ length known.shapes) × (s ≡ y)) → m ≡ n
        by (inl p) (inl q) = h.apart m n j (x, p) (y, q) (old_name m j x p vm) (old_name n j y q vn)
        by (inl p) (inr q) = absurd (not_virtual m (x, p) (old_name m j x p vm ∙ ap Some (sym (new_name n j q.0 vn))))
        by (inr p) (inl q) = absurd (not_virtual n (y, q) (old_name n j y q vn ∙ ap Some (sym (new_name m j p.0 vm))))
        by (inr p) (inr q) = p.0 ∙ sym q.0

    shaped : (n : ℕ) (x : Shape) → (slice_get known.shapes n ≡ Some (Some x)) ⊎ ((n ≡ length known.shapes) × (s ≡ x)) → ShapeIs t (virtual_place o at) n x
    shaped n x (inl p) =
        let w = h.shaped n x p in
        record {
          object = w.object;
          names = get_before at.virtuals (length at.rec.objects ∷ []) n w.object w.names;
          recorded = w.recorded;
          there = get_before at.rec.objects (o ∷ []) w.object w.recorded w.there;
          of = w.of;
          parts = zip-further at (virtual_place o at) more x.parts w.recorded.parts w.parts;
        }
    shaped n x (inr p) = subst (λ z. ShapeIs t (virtual_place o at) n z) p.1 (record {
      object = length at.rec.objects;
      names = ap (slice_get (at.virtuals ++ length at.rec.objects ∷ [])) p.0 ∙ new_at;
      recorded = o;
      there = get_last at.rec.objects o;
      of = of;
      parts = zip-further at (virtual_place o at) more s.parts o.parts parts;
    })

    recorded_old : (x j : ℕ) (b : Object) → slice_get at.mapped x ≡ Some j → slice_get (at.rec.objects ++ o ∷ []) j ≡ Some b → slice_get at.rec.objects j ≡ Some b
    recorded_old x j b em e = elim (push_cases at.rec.objects o j b e) [
      | inl w ↦ w.1
      | inr w ↦ absurd (new_number x (em ∙ ap Some w.0))
    ]

    outside : (n j x : ℕ) (y : Shape) → (slice_get known.shapes n ≡ Some (Some y)) ⊎ ((n ≡ length known.shapes) × (s ≡ y)) → slice_get (at.virtuals ++ length at.rec.objects ∷ []) n ≡ Some j → slice_get at.mapped x ≢ Some j
    outside n j x y (inl p) e em = h.outside n j x (y, p) (old_name n j y p e) em
    outside n j x y (inr p) e em = new_number x (em ∙ ap Some (sym (new_name n j p.0 e)))

    new_virtual : Agrees t (with_shape s known) boxes (virtual_place o at)
    new_virtual = record {
      first = first_new t o at.rec h.first;
      covers = h.covers;
      counts = length_push at.virtuals (length at.rec.objects) ∙ ap suc h.counts ∙ sym (length_push known.shapes (Some s));
      injective = h.injective;
      alike = λ x j a ea em. let w = h.alike x j a ea em in (w.0, get_before at.rec.objects (o ∷ []) j w.0 w.1, w.2);
      outside = λ n j x live e. outside n j x live.0 (live_cases n live.0 live.1) e;
      apart = λ m n j lm ln vm vn. apart m n j lm.0 ln.0 lm.1 ln.1 vm vn;
      shaped = λ n x e. shaped n x (live_cases n x e);
      names = λ b. name-further at (virtual_place o at) more (known.names b) (value_in boxes b) (h.names b);
      parts = λ x j i a b y e1 e2 e3 e4. elim (h.parts x j i a b y e1 e2 (recorded_old x j b e2 e3) e4) [
        | inl u ↦ inl (pending-further at (virtual_place o at) more t known.pending x i u)
        | inr u ↦ inr u
      ];
      pending = each_weaker (StoreIs t at) (StoreIs t (virtual_place o at)) (λ p. store-further at (virtual_place o at) more t p (read_longer t o at p.spot)) known.pending h.pending;
      facts = each_weaker (FactHolds t at) (FactHolds t (virtual_place o at)) (λ x. fact-further at (virtual_place o at) more t x (all_facts t at (with_new o at.rec) (read_longer t o at) x)) known.facts h.facts;
      calls = h.calls;
      answers = h.answers;
      failures = h.failures;
    }

  module _ (a o : Object) (of : a.of ≡ o.of) (parts : AllZip (MapsAt (both_place a o at)) a.parts o.parts) where
    wider : Further at (both_place a o at)
    wider = record { box = λ b y e. e; mapped = λ x j e. get_before at.mapped (length at.rec.objects ∷ []) x j e; virtuals = λ n j e. e; kinds = kinds_longer a at.opt }

    both_is : slice_get (at.mapped ++ length at.rec.objects ∷ []) (length at.opt.objects) ≡ Some (length at.rec.objects)
    both_is = subst (λ n. slice_get (at.mapped ++ length at.rec.objects ∷ []) n ≡ Some (length at.rec.objects)) h.covers (get_last at.mapped (length at.rec.objects))

    once : (x y j : ℕ) → slice_get (at.mapped ++ length at.rec.objects ∷ []) x ≡ Some j → slice_get (at.mapped ++ length at.rec.objects ∷ []) y ≡ Some j → x ≡ y
    once x y j ex ey = by (push_cases at.mapped (length at.rec.objects) x j ex) (push_cases at.mapped (length at.rec.objects) y j ey)
      where
        by : ((x < length at.mapped) × (slice_get at.mapped x ≡ Some j)) ⊎ ((x ≡ length at.mapped) × (length at.rec.objects ≡ j)) → ((y < length at.mapped) × (slice_get at.mapped y ≡ Some j)) ⊎ ((y ≡ length at.mapped) × (length at.rec.objects ≡ j)) → x ≡ y
        by (inl p) (inl q) = h.injective.one_to_one x y j p.1 q.1
        by (inl p) (inr q) = absurd (new_number x (p.1 ∙ ap Some (sym q.1)))
        by (inr p) (inl q) = absurd (new_number y (q.1 ∙ ap Some (sym p.1)))
        by (inr p) (inr q) = p.0 ∙ sym q.0

    -- a mapped object of the piece is an old one, or the new one
    pair_cases : (x j : ℕ) (c : Object) → slice_get (at.opt.objects ++ a ∷ []) x ≡ Some c → slice_get (at.mapped ++ length at.rec.objects ∷ []) x ≡ Some j
        → ((slice_get at.opt.objects x ≡ Some c) × (slice_get at.mapped x ≡ Some j)) ⊎ ((x ≡ length at.opt.objects) × (a ≡ c) × (length at.rec.objects ≡ j))
    pair_cases x j c ec em = by (push_cases at.opt.objects a x c ec) (push_cases at.mapped (length at.rec.objects) x j em)
      where
        by : ((x < length at.opt.objects) × (slice_get at.opt.objects x ≡ Some c)) ⊎ ((x ≡ length at.opt.objects) × (a ≡ c)) → ((x < length at.mapped) × (slice_get at.mapped x ≡ Some j)) ⊎ ((x ≡ length at.mapped) × (length at.rec.objects ≡ j))
            → ((slice_get at.opt.objects x ≡ Some c) × (slice_get at.mapped x ≡ Some j)) ⊎ ((x ≡ length at.opt.objects) × (a ≡ c) × (length at.rec.objects ≡ j))
        by (inl p) (inl q) = inl (p.1, q.1)
        by (inl p) (inr q) = absurd (omega (arith, p.0, q.0, h.covers))
        by (inr p) (inl q) = absurd (omega (arith, p.0, q.0, h.covers))
        by (inr p) (inr q) = inr (p.0, p.1, q.1)

    alike : (x j : ℕ) (c : Object) → ((slice_get at.opt.objects x ≡ Some c) × (slice_get at.mapped x ≡ Some j)) ⊎ ((x ≡ length at.opt.objects) × (a ≡ c) × (length at.rec.objects ≡ j)) → (b : Object) × (slice_get (at.rec.objects ++ o ∷ []) j ≡ Some b) × AreAlike c b
    alike x j c (inl p) = let w = h.alike x j c p.0 p.1 in (w.0, get_before at.rec.objects (o ∷ []) j w.0 w.1, w.2)
    alike x j c (inr p) = (
      o,
      ap (slice_get (at.rec.objects ++ o ∷ [])) (sym p.2) ∙ get_last at.rec.objects o,
      subst (λ z. AreAlike z o) p.1 (record { of = of; parts = zip_long (MapsAt (both_place a o at)) a.parts o.parts parts }),
    )

    part : (x j i : ℕ) (c b : Object) (y : Value) → ((slice_get at.opt.objects x ≡ Some c) × (slice_get at.mapped x ≡ Some j)) ⊎ ((x ≡ length at.opt.objects) × (a ≡ c) × (length at.rec.objects ≡ j))
        → slice_get (at.rec.objects ++ o ∷ []) j ≡ Some b → slice_get b.parts i ≡ Some y → IsPending t (both_place a o at) known.pending x i ⊎ MapsIf (slice_get (at.mapped ++ length at.rec.objects ∷ [])) (slice_get c.parts i) (Some y)
    part x j i c b y (inl p) eb ey = elim (push_cases at.rec.objects o j b eb) [
      | inl w ↦ elim (h.parts x j i c b y p.0 p.1 w.1 ey) [
        | inl u ↦ inl (pending-further at (both_place a o at) wider t known.pending x i u)
        | inr u ↦ inr (maps_if-more (slice_get at.mapped) (slice_get (at.mapped ++ length at.rec.objects ∷ [])) wider.mapped (slice_get c.parts i) (Some y) u)
      ]
      | inr w ↦ absurd (new_number x (p.1 ∙ ap Some w.0))
    ]
    part x j i c b y (inr p) eb ey =
        let same : o ≡ b = some_same (sym (get_last at.rec.objects o) ∙ ap (slice_get (at.rec.objects ++ o ∷ [])) p.2 ∙ eb) in
        let s = zip_second (MapsAt (both_place a o at)) a.parts o.parts parts i y (ap (λ (z : Object). slice_get z.parts i) same ∙ ey) in
        inr (subst (λ z. MapsIf (slice_get (at.mapped ++ length at.rec.objects ∷ [])) z (Some y)) (sym (ap (λ (z : Object). slice_get z.parts i) (sym p.1) ∙ s.1)) s.2)

    outside_both : (n j x : ℕ) → IsLive known.shapes n → slice_get at.virtuals n ≡ Some j → slice_get (at.mapped ++ length at.rec.objects ∷ []) x ≢ Some j
    outside_both n j x live e em = elim (push_cases at.mapped (length at.rec.objects) x j em) [
      | inl w ↦ h.outside n j x live e w.1
      | inr w ↦ not_virtual n live (e ∙ ap Some (sym w.1))
    ]

    new_both : Agrees t known boxes (both_place a o at)
    new_both = record {
      first = first_new t o at.rec h.first;
      covers = length_push at.mapped (length at.rec.objects) ∙ ap suc h.covers ∙ sym (length_push at.opt.objects a);
      counts = h.counts;
      injective = record { one_to_one = once; prebuilt = λ x less. get_before at.mapped (length at.rec.objects ∷ []) x x (h.injective.prebuilt x less) };
      alike = λ x j c ec em. alike x j c (pair_cases x j c ec em);
      outside = outside_both;
      apart = h.apart;
      shaped = λ n x e.
          let w = h.shaped n x e in
          record {
            object = w.object;
            names = w.names;
            recorded = w.recorded;
            there = get_before at.rec.objects (o ∷ []) w.object w.recorded w.there;
            of = w.of;
            parts = zip-further at (both_place a o at) wider x.parts w.recorded.parts w.parts;
          };
      names = λ b. name-further at (both_place a o at) wider (known.names b) (value_in boxes b) (h.names b);
      parts = λ x j i c b y e1 e2 e3 e4. part x j i c b y (pair_cases x j c e1 e2) e3 e4;
      pending = each_weaker (StoreIs t at) (StoreIs t (both_place a o at)) (λ p. store-further at (both_place a o at) wider t p (read_longer t o at p.spot)) known.pending h.pending;
      facts = each_weaker (FactHolds t at) (FactHolds t (both_place a o at)) (λ x. fact-further at (both_place a o at) wider t x (all_facts t at (with_new o at.rec) (read_longer t o at) x)) known.facts h.facts;
      calls = logs-more at.mapped (at.mapped ++ length at.rec.objects ∷ []) wider.mapped at.opt.log at.rec.log h.calls;
      answers = h.answers;
      failures = h.failures;
    }

pub new_virtual_agrees : NewVirtualAgrees
new_virtual_agrees t known boxes at h s o of parts = (new_virtual t known boxes at h s o of parts, new_is t known boxes at h s o of parts)

pub new_both_agrees : NewBothAgrees
new_both_agrees t known boxes at h a o of parts = (new_both t known boxes at h a o of parts, both_is t known boxes at h a o of parts)

-- New parts

zero_itself : (m : ℕ → Option ℕ) (k : Kind) → Maps m (zero_of k) (zero_of k)
zero_itself m kind.Int = refl
zero_itself m kind.Ref = tt

field_itself : (m : ℕ → Option ℕ) (row : Option FieldRow) → Maps m (zero_field row) (zero_field row)
field_itself m None = refl
field_itself m (Some row) = zero_itself m row.kind

item_itself : (m : ℕ → Option ℕ) (row : Option ArrayRow) → Maps m (zero_item row) (zero_item row)
item_itself m None = refl
item_itself m (Some row) = zero_itself m row.kind

fields_themselves : (t : Table) (m : ℕ → Option ℕ) (fields : List ℕ) → AllZip (Maps m) (map (λ f. zero_field (slice_get t.fields f)) fields) (map (λ f. zero_field (slice_get t.fields f)) fields)
fields_themselves t m [] = tt
fields_themselves t m (f ∷ fs) = (field_itself m (slice_get t.fields f), fields_themselves t m fs)

items_themselves : (m : ℕ → Option ℕ) (x : Value) → Maps m x x → (n : ℕ) → AllZip (Maps m) (replicate n x) (replicate n x)
items_themselves m x h zero = tt
items_themselves m x h (suc n) = (h, items_themselves m x h n)

pub zeros_are_one : ZerosAreOne
zeros_are_one t m row n = (fields_themselves t m (fields_of t row), items_themselves m (zero_item (slice_get t.arrays row)) (item_itself m (slice_get t.arrays row)) n)
