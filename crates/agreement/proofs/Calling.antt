-- What a call sees, which answers fit it, and what they do, on both sides.
use Rattle.std.proofs.Common.{◌≡◌, ◌≢◌, ℕ, zero, suc, ◌<◌, Bool, true, false, eqb, List, [], ◌∷◌, ◌++◌, Option, Some, None, length, slice_get, refl, sym, ap, ◌∙◌, subst, arith, inl, inr}
use Rattle.std.specs.Prelude.{◌==◌}
use Rattle.std.specs.List.{AllZip, AllByRecursion}
use Rattle.std.proofs.lemmas.Bool.{eqb-true, ltb-true}
use Rattle.lists.proofs.Appends.{get_before}
use Rattle.lists.proofs.Eaches.{each_weaker}
use Rattle.lists.proofs.Options.{some_same, none_some}
use Rattle.lists.proofs.Zips.{zip_weaker, zip_long, zip_append}
use Rattle.trace_ops.specs.declared.table.Table.{Table}
use Rattle.trace_ops.specs.declared.piece.Spot.{Spot}
use Rattle.trace_ops.specs.declared.piece.Pending.{Pending}
use Rattle.trace_ops.specs.declared.piece.Fact.{Fact}
use Rattle.trace_ops.specs.declared.piece.Fact.TheVariants as fact
use Rattle.trace_meaning.specs.declared.value.Value.{Value}
use Rattle.trace_meaning.specs.declared.value.Value.TheVariants as v
use Rattle.trace_meaning.specs.declared.value.Object.{Object}
use Rattle.trace_meaning.specs.World.{World}
use Rattle.trace_meaning.specs.Boxes.{Boxes, value_in}
use Rattle.heap_shape.specs.Sameness.{Maps, MapsIf}
use Rattle.opt_meaning.specs.Agrees.{Facts, Place, MapsAt, StoreIs, FactHolds, Agrees}
use Rattle.std.specs.Prelude.{◌&&◌, ◌||◌, not, drop, ℤ}
use Rattle.std.specs.List.{flat_map, list_all}
use Rattle.std.specs.Option.{option_to_list}
use Rattle.std.proofs.Common.{get_or}
use Rattle.std.proofs.lemmas.Bool.{and_parts, eq-eqb}
use Rattle.std.proofs.lemmas.List.Quantifiers.{position-Some}
use Rattle.trace_ops.specs.declared.table.CallRow.{CallRow}
use Rattle.trace_ops.specs.declared.table.FieldRow.{FieldRow}
use Rattle.trace_ops.specs.declared.table.ShapeOf.TheVariants as shape
use Rattle.trace_ops.specs.declared.piece.Spot.TheVariants as spot
use Rattle.trace_meaning.specs.declared.call.Give.{Give}
use Rattle.trace_meaning.specs.declared.call.Give.TheVariants as give
use Rattle.trace_meaning.specs.declared.call.AnswerStore.{AnswerStore}
use Rattle.trace_meaning.specs.declared.call.Answer.{Answer}
use Rattle.trace_meaning.specs.declared.call.CallEvent.{CallEvent}
use Rattle.trace_meaning.specs.Values.{references}
use Rattle.trace_meaning.specs.World.{bytes_in}
use Rattle.trace_meaning.specs.Passing.{is_structure_of}
use Rattle.trace_meaning.specs.Objects.{read_in, read, write, place_of, fields_of, is_frozen, zeroed}
use Rattle.trace_meaning.specs.Answers.{seen_of, seen, same_result, kind_given, is_named, is_new, is_size, is_base, may_be_stored, is_declared, store_fits_field, store_fits, fits, value_given, value_stored, or_same, write_given, store_done, stores_done, new_object, with_fresh}
use Rattle.trace_meaning.specs.Performing.{event_of, with_call, answered, answered_if, called_first, called}
use Rattle.heap_shape.specs.Visiting.{Has}
use Rattle.opt_meaning.specs.Along.{SameLogged, SameLogs}
use Rattle.agreement.specs.Reading.{AreApart}
use Rattle.agreement.specs.Writing.{IsApartFrom}
use Rattle.agreement.specs.Making.{both_place}
use Rattle.agreement.specs.Calling.{IsUntouched, IsUnwritten, IsKeptBy, in_worlds, SameDone, CallsAgree}
use Rattle.agreement.proofs.Further.{Further, kinds-same, read-same, fact-same, maps-more, name-further, store-further, fact-further, pending-further, zip-further}
use Rattle.agreement.proofs.Folding.{int, null, obj, Pairs, nil, cons, pairs_of}
use Rattle.agreement.proofs.Reading.{twins, apart_is_settled, reads_alike}
use Rattle.agreement.proofs.Wrote.{wrote, can_write, frozen_along}
use Rattle.agreement.proofs.Growing.{facts_change}
use Rattle.agreement.proofs.Flush.{both_stores_agree}
use Rattle.agreement.proofs.NewObjects.{new_both_agrees, zeros_are_one}
use Rattle.agreement.proofs.Bytes.{bytes_agree}

-- Fields that a call declares

declared_has : (fs : List ℕ) (f : ℕ) → Has fs f → is_declared fs f ≡ true
declared_has [] f h = absurd h
declared_has (g ∷ gs) f (inl e) = ap (λ b. b || is_declared gs f) (eq-eqb g f e)
declared_has (g ∷ gs) f (inr h) = or_true (eqb g f) (is_declared gs f) (declared_has gs f h)
  where
    or_true : (a b : Bool) → b ≡ true → (a || b) ≡ true
    or_true true b e = refl
    or_true false b e = e

true_false : {A : Type 0} → true ≡ false → A
true_false e = cc

apart_declared : (fs : List ℕ) (f g : ℕ) → is_declared fs f ≡ true → is_declared fs g ≡ false → f ≢ g
apart_declared fs f g e d same = true_false (sym e ∙ ap (is_declared fs) same ∙ d)

pub fields_apart : (t : Table) (f g : ℕ) → f ≢ g → AreApart t (spot.Field f) (spot.Field g)
fields_apart t f g ne (shape.Array a) i ef eg = none_some ef
fields_apart t f g ne (shape.Size s) i ef eg =
    let one = position-Some (λ x. x == f) (fields_of t s) i 0 ef in
    let two = position-Some (λ x. x == g) (fields_of t s) i 0 eg in
    ne (sym (eqb-true (get_or (fields_of t s) i 0) f one.1) ∙ eqb-true (get_or (fields_of t s) i 0) g two.1)

pub items_apart : (t : Table) (f a : ℕ) (z : ℤ) → AreApart t (spot.Field f) (spot.Item a z)
items_apart t f a z (shape.Array b) i ef ei = none_some ef
items_apart t f a z (shape.Size s) i ef ei = none_some ei

-- a store that the call doesn't touch lies apart from each field that it reads or writes
read_apart : (t : Table) (row : CallRow) (f : ℕ) → is_declared row.reads f ≡ true → (s : Spot) → IsUntouched row s → AreApart t (spot.Field f) s
read_apart t row f e (spot.Field g) h = fields_apart t f g (apart_declared row.reads f g e h.0)
read_apart t row f e (spot.Item a z) h = items_apart t f a z

unwritten_apart : (t : Table) (row : CallRow) (f : ℕ) → is_declared row.writes f ≡ true → (s : Spot) → IsUnwritten row s → AreApart t (spot.Field f) s
unwritten_apart t row f e (spot.Field g) h = fields_apart t f g (apart_declared row.writes f g e h)
unwritten_apart t row f e (spot.Item a z) h = items_apart t f a z

untouched_unwritten : (row : CallRow) (s : Spot) → IsUntouched row s → IsUnwritten row s
untouched_unwritten row (spot.Field g) h = h.1
untouched_unwritten row (spot.Item a z) h = tt

fact_apart : (t : Table) (row : CallRow) (f : ℕ) → is_declared row.writes f ≡ true → (x : Fact) → IsKeptBy row x → IsApartFrom t (spot.Field f) x
fact_apart t row f e (fact.Between b low high) h = tt
fact_apart t row f e (fact.Nonnull b) h = tt
fact_apart t row f e (fact.ClassOf b n) h = tt
fact_apart t row f e (fact.Holds base s value) h = unwritten_apart t row f e s h
fact_apart t row f e (fact.Same operation args value) h = tt

-- References

references_along : (m : ℕ → Option ℕ) {us ys : List Value} → Pairs m us ys → AllZip (Maps m) (references us) (references ys)
references_along m nil = tt
references_along m (cons (int z) rest) = references_along m rest
references_along m (cons null rest) = (tt, references_along m rest)
references_along m (cons (obj x j e) rest) = (e, references_along m rest)

pub get_along : (m : ℕ → Option ℕ) (us ys : List Value) → AllZip (Maps m) us ys → (k : ℕ) → MapsIf m (slice_get us k) (slice_get ys k)
get_along m [] [] h k = tt
get_along m [] (y ∷ ys) h k = absurd h
get_along m (x ∷ xs) [] h k = absurd h
get_along m (x ∷ xs) (y ∷ ys) h zero = h.0
get_along m (x ∷ xs) (y ∷ ys) h (suc k) = get_along m xs ys h.1 k

to_list_along : (m : ℕ → Option ℕ) (a b : Option Value) → MapsIf m a b → AllZip (Maps m) (option_to_list a) (option_to_list b)
to_list_along m None None h = tt
to_list_along m None (Some y) h = absurd h
to_list_along m (Some x) None h = absurd h
to_list_along m (Some x) (Some y) h = (h, tt)

-- One call more in the logs

abbrev logged : CallEvent → ℕ → List Answer → World → World
logged e bytes answers w = record w { log = w.log ++ record { event = e; bytes = bytes } ∷ []; answers = answers }

log_grows : (t : Table) (known : Facts) (boxes : Boxes) (at : Place) → Agrees t known boxes at → (x y : CallEvent) (m n : ℕ) (answers : List Answer) → SameLogged at.mapped (record { event = x; bytes = m }) (record { event = y; bytes = n })
    → Agrees t known boxes (record at { opt = logged x m answers at.opt; rec = logged y n answers at.rec })
log_grows t known boxes at h x y m n answers same =
    let to : Place = record at { opt = logged x m answers at.opt; rec = logged y n answers at.rec } in
    let f : Further at to = record { box = λ b z e. e; mapped = λ i j e. e; virtuals = λ i j e. e; kinds = kinds-same at.opt } in
    record {
      first = h.first;
      covers = h.covers;
      counts = h.counts;
      injective = h.injective;
      alike = h.alike;
      outside = h.outside;
      apart = h.apart;
      shaped = λ i s e. let w = h.shaped i s e in record { object = w.object; names = w.names; recorded = w.recorded; there = w.there; of = w.of; parts = zip-further at to f s.parts w.recorded.parts w.parts };
      names = λ b. name-further at to f (known.names b) (value_in boxes b) (h.names b);
      parts = λ i j k a b z e1 e2 e3 e4. elim (h.parts i j k a b z e1 e2 e3 e4) [ inl u ↦ inl (pending-further at to f t known.pending i k u) | inr u ↦ inr u ];
      pending = each_weaker (StoreIs t at) (StoreIs t to) (λ p. store-further at to f t p (read-same t p.spot at)) known.pending h.pending;
      facts = each_weaker (FactHolds t at) (FactHolds t to) (λ z. fact-further at to f t z (fact-same t at z)) known.facts h.facts;
      calls = zip_append (SameLogged at.mapped) at.opt.log at.rec.log (record { event = x; bytes = m } ∷ []) (record { event = y; bytes = n } ∷ []) h.calls (same, tt);
      answers = refl;
      failures = h.failures;
    }

module _ (t : Table) (known : Facts) (boxes : Boxes) (at : Place) (h : Agrees t known boxes at) (row : CallRow) where
  -- What the host sees

  module _ (quiet : AllByRecursion (λ (p : Pending). IsUntouched row p.spot) known.pending) where
    fields_seen : (u b : Value) → MapsAt at u b → (fs : List ℕ) → ((f : ℕ) → Has fs f → is_declared row.reads f ≡ true)
        → AllZip (MapsAt at) (flat_map (λ f. option_to_list (read_in t (spot.Field f) u at.opt.objects)) fs) (flat_map (λ f. option_to_list (read_in t (spot.Field f) b at.rec.objects)) fs)
    fields_seen u b m [] all = tt
    fields_seen u b m (f ∷ fs) all =
        let settled = apart_is_settled t at known.pending (spot.Field f) (each_weaker (λ (p : Pending). IsUntouched row p.spot) (λ (p : Pending). AreApart t (spot.Field f) p.spot) (λ p q. read_apart t row f (all f (inl refl)) p.spot q) known.pending quiet) u in
        zip_append (MapsAt at) (option_to_list (read_in t (spot.Field f) u at.opt.objects)) (option_to_list (read_in t (spot.Field f) b at.rec.objects))
        (flat_map (λ g. option_to_list (read_in t (spot.Field g) u at.opt.objects)) fs) (flat_map (λ g. option_to_list (read_in t (spot.Field g) b at.rec.objects)) fs)
        (to_list_along (slice_get at.mapped) (read t (spot.Field f) u at.opt) (read t (spot.Field f) b at.rec) (reads_alike t known boxes at h u b (spot.Field f) m settled))
        (fields_seen u b m fs (λ g w. all g (inr w)))

    all_seen : (us ys : List Value) → AllZip (MapsAt at) us ys → AllZip (MapsAt at) (flat_map (seen_of t at.opt.objects row.reads) us) (flat_map (seen_of t at.rec.objects row.reads) ys)
    all_seen [] [] m = tt
    all_seen [] (y ∷ ys) m = absurd m
    all_seen (u ∷ us) [] m = absurd m
    all_seen (u ∷ us) (y ∷ ys) m =
        zip_append (MapsAt at) (seen_of t at.opt.objects row.reads u) (seen_of t at.rec.objects row.reads y) (flat_map (seen_of t at.opt.objects row.reads) us) (flat_map (seen_of t at.rec.objects row.reads) ys)
        (fields_seen u y m.0 row.reads (λ f w. declared_has row.reads f w)) (all_seen us ys m.1)

    seen_along : (us ys : List Value) → AllZip (MapsAt at) us ys → AllZip (MapsAt at) (seen t row us at.opt) (seen t row ys at.rec)
    seen_along us ys m = all_seen (references us) (references ys) (references_along (slice_get at.mapped) (pairs_of (slice_get at.mapped) us ys m))

  -- Which answers fit

  base_along : (size field : ℕ) (x y : Option Value) → MapsIf (slice_get at.mapped) x y → is_base t size field at.opt.objects x ≡ is_base t size field at.rec.objects y
  base_along size field None None m = refl
  base_along size field None (Some y) m = absurd m
  base_along size field (Some x) None m = absurd m
  base_along size field (Some (v.Int x)) (Some (v.Int y)) m = refl
  base_along size field (Some v.Null) (Some v.Null) m = refl
  base_along size field (Some (v.Int x)) (Some v.Null) m = absurd m
  base_along size field (Some (v.Int x)) (Some (v.Obj y)) m = absurd m
  base_along size field (Some v.Null) (Some (v.Int y)) m = absurd m
  base_along size field (Some v.Null) (Some (v.Obj y)) m = absurd m
  base_along size field (Some (v.Obj x)) (Some (v.Int y)) m = absurd m
  base_along size field (Some (v.Obj x)) (Some v.Null) m = absurd m
  base_along size field (Some (v.Obj n)) (Some (v.Obj j)) m =
      let w = twins t known boxes at h n j m in
      ap (λ o. is_size size o && not (is_frozen t (spot.Field field) n)) w.here
      ∙ ap (λ o. is_structure_of size o && not (is_frozen t (spot.Field field) n)) w.alike.of
      ∙ ap (λ b. is_structure_of size w.other.of && not b) (frozen_along t at.mapped h.injective (spot.Field field) n j m)
      ∙ sym (ap (λ o. is_size size o && not (is_frozen t (spot.Field field) j)) w.there)

  module _ (us ys : List Value) (maps : AllZip (MapsAt at) us ys) where
    store_along : (s : AnswerStore) (field : Option FieldRow) → store_fits_field t row us at.opt.objects s field ≡ store_fits_field t row ys at.rec.objects s field
    store_along s None = refl
    store_along s (Some field) =
        ap (λ n. may_be_stored t n field.kind s.value && is_base t field.size s.field at.opt.objects (slice_get us s.arg) && is_declared row.writes s.field) (zip_long (MapsAt at) us ys maps)
        ∙ ap (λ b. may_be_stored t (length ys) field.kind s.value && b && is_declared row.writes s.field) (base_along field.size s.field (slice_get us s.arg) (slice_get ys s.arg) (get_along (slice_get at.mapped) us ys maps s.arg))

    stores_along : (stores : List AnswerStore) → list_all (store_fits t row us at.opt.objects) stores ≡ list_all (store_fits t row ys at.rec.objects) stores
    stores_along [] = refl
    stores_along (s ∷ rest) =
        ap (λ b. b && list_all (store_fits t row us at.opt.objects) rest) (store_along s (slice_get t.fields s.field))
        ∙ ap (λ b. store_fits t row ys at.rec.objects s && b) (stores_along rest)

    fits_along : (a : Answer) → fits t row us at.opt.objects a ≡ fits t row ys at.rec.objects a
    fits_along a =
        ap (λ n. same_result (kind_given a.gives) row.result && is_named t n a.gives && list_all (store_fits t row us at.opt.objects) a.stores) (zip_long (MapsAt at) us ys maps)
        ∙ ap (λ b. same_result (kind_given a.gives) row.result && is_named t (length ys) a.gives && b) (stores_along a.stores)

  -- What a store of an answer does

  -- where the piece can write, so can the trace
  both_write : (s : Spot) (base b u y : Value) (w : World) → MapsAt at base b → write t s base u at.opt ≡ Some w → (z : World) × (write t s b y at.rec ≡ Some z)
  both_write s base b u y w m e =
      let r = wrote t s base u at.opt w e in
      by r.number r.is b m r.free r.object r.there r.place r.lies r.inside
    where
      by : (n : ℕ) → base ≡ v.Obj n → (b : Value) → MapsAt at base b → is_frozen t s n ≡ false → (o : Object) → slice_get at.opt.objects n ≡ Some o → (i : ℕ) → place_of t o.of s ≡ Some i → i < length o.parts → (z : World) × (write t s b y at.rec ≡ Some z)
      by n is (v.Int c) m free o there i lies inside = absurd (subst (λ x. MapsAt at x (v.Int c)) is m)
      by n is v.Null m free o there i lies inside = absurd (subst (λ x. MapsAt at x v.Null) is m)
      by n is (v.Obj j) m free o there i lies inside =
          let e : slice_get at.mapped n ≡ Some j = subst (λ x. MapsAt at x (v.Obj j)) is m in
          let w = twins t known boxes at h n j e in
          let same : w.one ≡ o = some_same (sym w.here ∙ there) in
          let of : w.other.of ≡ o.of = sym w.alike.of ∙ ap (λ (c : Object). c.of) same in
          let long : length w.other.parts ≡ length o.parts = sym w.alike.parts ∙ ap (λ (c : Object). length c.parts) same in
          (_, can_write t s j i w.other y at.rec (sym (frozen_along t at.mapped h.injective s n j e) ∙ free) w.there (ap (λ c. place_of t c s) of ∙ lies) (omega (arith, inside, long)))

-- one store of an answer
one_store : (t : Table) (known : Facts) (boxes : Boxes) (at : Place) → Agrees t known boxes at → (row : CallRow) → AllByRecursion (λ (p : Pending). IsUntouched row p.spot) known.pending → AllByRecursion (IsKeptBy row) known.facts
    → (f : ℕ) → is_declared row.writes f ≡ true → (base b u y : Option Value) → MapsIf (slice_get at.mapped) base b → MapsIf (slice_get at.mapped) u y
    → Agrees t known boxes (record at { opt = or_same at.opt (write_given t f at.opt base u); rec = or_same at.rec (write_given t f at.rec b y) })
one_store t known boxes at h row quiet kept f declared None None u y mb mu = h
one_store t known boxes at h row quiet kept f declared None (Some b) u y mb mu = absurd mb
one_store t known boxes at h row quiet kept f declared (Some base) None u y mb mu = absurd mb
one_store t known boxes at h row quiet kept f declared (Some base) (Some b) None None mb mu = h
one_store t known boxes at h row quiet kept f declared (Some base) (Some b) None (Some y) mb mu = absurd mu
one_store t known boxes at h row quiet kept f declared (Some base) (Some b) (Some u) None mb mu = absurd mu
one_store t known boxes at h row quiet kept f declared (Some base) (Some b) (Some u) (Some y) mb mu = by (write t (spot.Field f) base u at.opt) refl (write t (spot.Field f) b y at.rec) refl
  where
    by : (o : Option World) → write t (spot.Field f) base u at.opt ≡ o → (r : Option World) → write t (spot.Field f) b y at.rec ≡ r → Agrees t known boxes (record at { opt = or_same at.opt o; rec = or_same at.rec r })
    by None eo None er = h
    by (Some w) eo None er = absurd (let z = both_write t known boxes at h row (spot.Field f) base b u y w mb eo in none_some (sym er ∙ z.1))
    by o eo (Some w) er =
        let done = both_stores_agree t known boxes at h (spot.Field f) base b u y w mb mu er
        (each_weaker (λ (p : Pending). IsUntouched row p.spot) (λ (p : Pending). AreApart t (spot.Field f) p.spot) (λ p q. unwritten_apart t row f declared p.spot (untouched_unwritten row p.spot q)) known.pending quiet)
        known.facts (each_weaker (IsKeptBy row) (IsApartFrom t (spot.Field f)) (fact_apart t row f declared) known.facts kept) h.facts in
        subst (λ q. Agrees t known boxes (record at { opt = or_same at.opt q; rec = w })) (sym done.1 ∙ eo) done.2

-- its stores, in order
all_stores : (t : Table) (known : Facts) (boxes : Boxes) (row : CallRow) → AllByRecursion (λ (p : Pending). IsUntouched row p.spot) known.pending → AllByRecursion (IsKeptBy row) known.facts
    → (us ys : List Value) (stores : List AnswerStore) → AllByRecursion (λ (s : AnswerStore). (is_declared row.writes s.field ≡ true) × (is_named t (length us) s.value ≡ true)) stores
    → (at : Place) → Agrees t known boxes at → AllZip (MapsAt at) us ys → Agrees t known boxes (record at { opt = stores_done t us stores at.opt; rec = stores_done t ys stores at.rec })
all_stores t known boxes row quiet kept us ys [] all at h maps = h
all_stores t known boxes row quiet kept us ys (s ∷ rest) all at h maps =
    all_stores t known boxes row quiet kept us ys rest all.1 (record at { opt = store_done t us s at.opt; rec = store_done t ys s at.rec })
    (one_store t known boxes at h row quiet kept s.field all.0.0 (slice_get us s.arg) (slice_get ys s.arg) (value_stored us s.value) (value_stored ys s.value) (get_along (slice_get at.mapped) us ys maps s.arg) (value s.value all.0.1))
    maps
  where
    value : (g : Give) → is_named t (length us) g ≡ true → MapsIf (slice_get at.mapped) (value_stored us g) (value_stored ys g)
    value give.Nothing e = tt
    value (give.Int z) e = refl
    value give.Null e = tt
    value (give.Arg k) e = get_along (slice_get at.mapped) us ys maps k
    value (give.Prebuilt k) e = h.injective.prebuilt k (ltb-true k (length t.prebuilts) e)
    value (give.New k) e = tt

-- The whole call

module _ (t : Table) (known : Facts) (boxes : Boxes) (at : Place) (h : Agrees t known boxes at) (row : CallRow) (function : ℕ) (us ys : List Value) (maps : AllZip (MapsAt at) us ys) (quiet : AllByRecursion (λ (p : Pending). IsUntouched row p.spot) known.pending) (kept : AllByRecursion (IsKeptBy row) known.facts) where
  refs : AllZip (MapsAt at) (references us) (references ys)
  refs = references_along (slice_get at.mapped) (pairs_of (slice_get at.mapped) us ys maps)

  no_answer : SameLogs at.mapped (with_call t (event_of t row function us None at.opt) at.opt).log (with_call t (event_of t row function ys None at.rec) at.rec).log
  no_answer =
      let same : SameLogged at.mapped (record { event = event_of t row function us None at.opt; bytes = bytes_in t at.opt }) (record { event = event_of t row function ys None at.rec; bytes = bytes_in t at.rec }) =
      record { event = record { function = refl; args = maps; seen = seen_along t known boxes at h row quiet us ys maps; gives = tt }; bytes = bytes_agree t known boxes at h } in
      zip_append (SameLogged at.mapped) at.opt.log at.rec.log (record { event = event_of t row function us None at.opt; bytes = bytes_in t at.opt } ∷ []) (record { event = event_of t row function ys None at.rec; bytes = bytes_in t at.rec } ∷ []) h.calls (same, tt)

  -- the same event on both sides, along a map that may have grown
  same_event : (m : List ℕ) → ((n j : ℕ) → slice_get at.mapped n ≡ Some j → slice_get m n ≡ Some j) → (x y : Option Value) → MapsIf (slice_get m) x y
      → SameLogged m (record { event = event_of t row function us x at.opt; bytes = bytes_in t at.opt }) (record { event = event_of t row function ys y at.rec; bytes = bytes_in t at.rec })
  same_event m more x y gives = record {
    event = record {
      function = refl;
      args = zip_weaker (MapsAt at) (Maps (slice_get m)) (maps-more (slice_get at.mapped) (slice_get m) more) us ys maps;
      seen = zip_weaker (MapsAt at) (Maps (slice_get m)) (maps-more (slice_get at.mapped) (slice_get m) more) (seen t row us at.opt) (seen t row ys at.rec) (seen_along t known boxes at h row quiet us ys maps);
      gives = gives;
    };
    bytes = bytes_agree t known boxes at h;
  }

  -- the event is logged, the answer taken, and the new object made
  abbrev taken : List Value → Give → List Answer → World → World
  taken vs g rest w = with_fresh (new_object t g) (record (with_call t (event_of t row function vs (value_given (references vs) (length w.objects) g) w) w) { answers = rest })

  -- what stands before the stores of an answer
  record Begun (g : Give) (rest : List Answer) : Type 0 where
    mapped : List ℕ
    more : (n j : ℕ) → slice_get at.mapped n ≡ Some j → slice_get mapped n ≡ Some j
    gives : MapsIf (slice_get mapped) (value_given (references us) (length at.opt.objects) g) (value_given (references ys) (length at.rec.objects) g)
    agrees : Agrees t known boxes (in_worlds mapped (taken us g rest at.opt) (taken ys g rest at.rec) at)

  old_object : (g : Give) (rest : List Answer) → new_object t g ≡ None → MapsIf (slice_get at.mapped) (value_given (references us) (length at.opt.objects) g) (value_given (references ys) (length at.rec.objects) g) → Begun g rest
  old_object g rest none gives = record {
    mapped = at.mapped;
    more = λ n j e. e;
    gives = gives;
    agrees = subst (λ o. Agrees t known boxes (in_worlds at.mapped (with_fresh o (record (with_call t (event_of t row function us (value_given (references us) (length at.opt.objects) g) at.opt) at.opt) { answers = rest })) (with_fresh o (record (with_call t (event_of t row function ys (value_given (references ys) (length at.rec.objects) g) at.rec) at.rec) { answers = rest })) at)) (sym none)
        (log_grows t known boxes at h (event_of t row function us (value_given (references us) (length at.opt.objects) g) at.opt) (event_of t row function ys (value_given (references ys) (length at.rec.objects) g) at.rec) (bytes_in t at.opt) (bytes_in t at.rec) rest
        (same_event at.mapped (λ n j e. e) (value_given (references us) (length at.opt.objects) g) (value_given (references ys) (length at.rec.objects) g) gives));
  }

  begun : (g : Give) (rest : List Answer) → is_named t (length (references us)) g ≡ true → Begun g rest
  begun give.Nothing rest e = old_object give.Nothing rest refl tt
  begun (give.Int z) rest e = old_object (give.Int z) rest refl refl
  begun give.Null rest e = old_object give.Null rest refl tt
  begun (give.Arg k) rest e = old_object (give.Arg k) rest refl (get_along (slice_get at.mapped) (references us) (references ys) refs k)
  begun (give.Prebuilt k) rest e = old_object (give.Prebuilt k) rest refl (h.injective.prebuilt k (ltb-true k (length t.prebuilts) e))
  begun (give.New k) rest e =
      let both = new_both_agrees t known boxes at h (zeroed t k) (zeroed t k) refl (zeros_are_one t (slice_get (at.mapped ++ length at.rec.objects ∷ [])) k 0).0 in
      let to = both_place (zeroed t k) (zeroed t k) at in
      record {
        mapped = at.mapped ++ length at.rec.objects ∷ [];
        more = λ n j q. get_before at.mapped (length at.rec.objects ∷ []) n j q;
        gives = both.1;
        agrees = log_grows t known boxes to both.0 (event_of t row function us (Some (v.Obj (length at.opt.objects))) at.opt) (event_of t row function ys (Some (v.Obj (length at.rec.objects))) at.rec) (bytes_in t at.opt) (bytes_in t at.rec) rest
            (same_event to.mapped (λ n j q. get_before at.mapped (length at.rec.objects ∷ []) n j q) (Some (v.Obj (length at.opt.objects))) (Some (v.Obj (length at.rec.objects))) both.1);
      }

  -- the stores of a fitting answer go to fields that the call declares
  fitting_stores : (stores : List AnswerStore) → list_all (store_fits t row (references us) at.opt.objects) stores ≡ true → AllByRecursion (λ (s : AnswerStore). (is_declared row.writes s.field ≡ true) × (is_named t (length (references us)) s.value ≡ true)) stores
  fitting_stores [] e = tt
  fitting_stores (s ∷ rest) e =
      let both = and_parts (store_fits t row (references us) at.opt.objects s) (list_all (store_fits t row (references us) at.opt.objects) rest) e in
      (by (slice_get t.fields s.field) both.0, fitting_stores rest both.1)
    where
      by : (field : Option FieldRow) → store_fits_field t row (references us) at.opt.objects s field ≡ true → (is_declared row.writes s.field ≡ true) × (is_named t (length (references us)) s.value ≡ true)
      by None q = true_false (sym q)
      by (Some field) q =
          let one = and_parts (may_be_stored t (length (references us)) field.kind s.value && is_base t field.size s.field at.opt.objects (slice_get (references us) s.arg)) (is_declared row.writes s.field) q in
          let two = and_parts (may_be_stored t (length (references us)) field.kind s.value) (is_base t field.size s.field at.opt.objects (slice_get (references us) s.arg)) one.0 in
          let three = and_parts (same_result (kind_given s.value) (Some field.kind) && not (is_new s.value)) (is_named t (length (references us)) s.value) two.0 in
          (one.1, three.1)

  answered_alike : (a : Answer) (rest : List Answer) → fits t row (references us) at.opt.objects a ≡ true → SameDone t known boxes at (answered t row function us a rest at.opt) (answered t row function ys a rest at.rec)
  answered_alike a rest e =
      let one = and_parts (same_result (kind_given a.gives) row.result && is_named t (length (references us)) a.gives) (list_all (store_fits t row (references us) at.opt.objects) a.stores) e in
      let two = and_parts (same_result (kind_given a.gives) row.result) (is_named t (length (references us)) a.gives) one.0 in
      let first = begun a.gives rest two.1 in
      let to = in_worlds first.mapped (taken us a.gives rest at.opt) (taken ys a.gives rest at.rec) at in
      (first.mapped, first.more, first.gives, all_stores t known boxes row quiet kept (references us) (references ys) a.stores (fitting_stores a.stores one.1) to first.agrees (zip_weaker (MapsAt at) (MapsAt to) (maps-more (slice_get at.mapped) (slice_get first.mapped) first.more) (references us) (references ys) refs))

  answered_by : (a : Answer) (rest : List Answer) (c d : Bool) → fits t row (references us) at.opt.objects a ≡ c → c ≡ d → SameDone t known boxes at (answered_if c t row function us a rest at.opt) (answered_if d t row function ys a rest at.rec)
  answered_by a rest true true e same = answered_alike a rest e
  answered_by a rest false false e same = no_answer
  answered_by a rest true false e same = true_false same
  answered_by a rest false true e same = true_false (sym same)

  first_alike : (first : Option Answer) (rest : List Answer) → SameDone t known boxes at (called_first t row function us first rest at.opt) (called_first t row function ys first rest at.rec)
  first_alike None rest = no_answer
  first_alike (Some a) rest = answered_by a rest (fits t row (references us) at.opt.objects a) (fits t row (references ys) at.rec.objects a) refl (fits_along t known boxes at h row (references us) (references ys) refs a)

  call_alike : SameDone t known boxes at (called t row function us at.opt) (called t row function ys at.rec)
  call_alike =
      subst (λ answers. SameDone t known boxes at (called_first t row function us (slice_get at.opt.answers 0) (drop 1 at.opt.answers) at.opt) (called_first t row function ys (slice_get answers 0) (drop 1 answers) at.rec)) h.answers
      (first_alike (slice_get at.opt.answers 0) (drop 1 at.opt.answers))

pub calls_agree : CallsAgree
calls_agree t known boxes at h row function us ys maps quiet facts kept holds = call_alike t (record known { facts = facts }) boxes at (facts_change t known boxes at h facts holds) row function us ys maps quiet kept
