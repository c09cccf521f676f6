-- An operation on both sides, where nothing is pending.
use Rattle.std.proofs.Common.{◌≡◌, ℕ, List, [], ◌∷◌, ◌++◌, Option, Some, None, length, slice_get, refl, sym, subst, inl, inr, ap}
use Rattle.std.specs.Option.{option_map}
use Rattle.std.specs.List.{AllZip, AllByRecursion}
use Rattle.lists.proofs.Appends.{get_before}
use Rattle.lists.proofs.Eaches.{each_weaker}
use Rattle.trace_ops.specs.declared.trace.Arg.{Arg}
use Rattle.trace_ops.specs.declared.table.Table.{Table}
use Rattle.trace_ops.specs.declared.piece.Spot.{Spot}
use Rattle.trace_ops.specs.declared.piece.Pending.{Pending}
use Rattle.trace_ops.specs.declared.piece.Fact.{Fact}
use Rattle.trace_ops.specs.declared.piece.Fact.TheVariants as fact
use Rattle.trace_meaning.specs.declared.value.Value.{Value}
use Rattle.trace_meaning.specs.declared.value.Value.TheVariants as v
use Rattle.trace_meaning.specs.declared.value.Object.{Object}
use Rattle.trace_meaning.specs.World.{World}
use Rattle.trace_meaning.specs.Boxes.{Boxes, value_in}
use Rattle.heap_shape.specs.Sameness.{Maps, MapsIf}
use Rattle.opt_meaning.specs.Agrees.{Facts, Place, MapsAt, StoreIs, FactHolds, Agrees}
use Rattle.std.specs.Prelude.{ℤ, pos, ◌+ℤ◌, ◌-ℤ◌, ◌*ℤ◌}
use Rattle.trace_ops.specs.declared.code.OpCode.{OpCode}
use Rattle.trace_ops.specs.declared.code.OpCode.TheVariants as code
use Rattle.trace_ops.specs.declared.trace.Descr.{Descr}
use Rattle.trace_ops.specs.declared.trace.Descr.TheVariants as descr
use Rattle.trace_ops.specs.declared.table.CallRow.{CallRow}
use Rattle.trace_ops.specs.declared.piece.Spot.TheVariants as spot
use Rattle.trace_ops.specs.Words.{overflows, wrap}
use Rattle.trace_meaning.specs.Objects.{read, write, length_at, zeroed, cleared, index_of}
use Rattle.trace_meaning.specs.Folding.{fold}
use Rattle.trace_meaning.specs.Performing.{Done, Gave, Bad, Waited, Misfitted, value_done, write_done, overflowing, get_field, set_field, get_item, set_item, get_length, made, make_structure, make_items, make_array, called, call_row, call_function, call, function_in, perform}
use Rattle.agreement.specs.Reading.{AreApart, IsSettled}
use Rattle.agreement.specs.Writing.{IsApartFrom}
use Rattle.agreement.specs.Calling.{IsUntouched, IsKeptBy, SameDone}
use Rattle.agreement.specs.Performs.{IsLasting, SameUnlessBad, PerformsAgree, OverflowIsApart, OverflowsAlike}
use Rattle.agreement.proofs.Further.{Further, kinds-same, read-same, fact-same, name-further, store-further, fact-further, pending-further, zip-further}
use Rattle.agreement.proofs.Folding.{int, null, obj, Pairs, nil, cons, pairs_of, folds_alike}
use Rattle.agreement.proofs.Reading.{apart_is_settled, reads_alike, lengths_alike}
use Rattle.agreement.proofs.Flush.{both_stores_agree}
use Rattle.agreement.proofs.NewObjects.{new_both_agrees, zeros_are_one}
use Rattle.agreement.proofs.Calling.{calls_agree}

pub overflow_is_apart : OverflowIsApart
overflow_is_apart t known boxes at h b c =
    let to : Place = record at { opt = record at.opt { overflow = b }; rec = record at.rec { overflow = c } } in
    let f : Further at to = record { box = λ b z e. e; mapped = λ i j e. e; virtuals = λ i j e. e; kinds = kinds-same at.opt } in
    record {
      first = h.first;
      covers = h.covers;
      counts = h.counts;
      injective = h.injective;
      alike = h.alike;
      outside = h.outside;
      apart = h.apart;
      shaped = λ i s e. let w = h.shaped i s e in record { object = w.object; names = w.names; recorded = w.recorded; there = w.there; of = w.of; parts = zip-further at to f s.parts w.recorded.parts w.parts };
      names = λ b. name-further at to f (known.names b) (value_in boxes b) (h.names b);
      parts = λ i j k a b z e1 e2 e3 e4. elim (h.parts i j k a b z e1 e2 e3 e4) [ inl u ↦ inl (pending-further at to f t known.pending i k u) | inr u ↦ inr u ];
      pending = each_weaker (StoreIs t at) (StoreIs t to) (λ p. store-further at to f t p (read-same t p.spot at)) known.pending h.pending;
      facts = each_weaker (FactHolds t at) (FactHolds t to) (λ z. fact-further at to f t z (fact-same t at z)) known.facts h.facts;
      calls = h.calls;
      answers = h.answers;
      failures = h.failures;
    }

gave_same : (x y : Option Value) (w u : World) → Gave x w ≡ Gave y u → (x ≡ y) × (w ≡ u)
gave_same x y w u e = (ap value_of e, ap world_of e)
  where
    value_of : Done → Option Value
    value_of (Gave z q) = z
    value_of _ = x

    world_of : Done → World
    world_of (Gave z q) = q
    world_of _ = w

not_bad : {A : Type 0} (y : Option Value) (u : World) → Bad ≡ Gave y u → A
not_bad y u e = cc

pub overflows_alike : OverflowsAlike
overflows_alike t known boxes at h exact us ys y w maps e = by (pairs_of (slice_get at.mapped) us ys maps) e
  where
    by : {us ys : List Value} → Pairs (slice_get at.mapped) us ys → overflowing exact ys at.rec ≡ Gave y w → (o : World) × (overflowing exact us at.opt ≡ Gave y o) × (o.overflow ≡ w.overflow) × Agrees t known boxes (record at { opt = o; rec = w })
    by nil q = not_bad y w q
    by (cons null rest) q = not_bad y w q
    by (cons (obj x j f) rest) q = not_bad y w q
    by (cons (int a) nil) q = not_bad y w q
    by (cons (int a) (cons null rest)) q = not_bad y w q
    by (cons (int a) (cons (obj x j f) rest)) q = not_bad y w q
    by (cons (int a) (cons (int b) (cons c rest))) q = not_bad y w q
    by (cons (int a) (cons (int b) nil)) q =
        let s = gave_same (Some (v.Int (wrap (exact a b)))) y (record at.rec { overflow = overflows (exact a b) }) w q in (
          record at.opt { overflow = overflows (exact a b) },
          ap (λ z. Gave z (record at.opt { overflow = overflows (exact a b) })) s.0,
          ap (λ (u : World). u.overflow) s.1,
          subst (λ u. Agrees t known boxes (record at { opt = record at.opt { overflow = overflows (exact a b) }; rec = u })) s.1 (overflow_is_apart t known boxes at h (overflows (exact a b)) (overflows (exact a b))),
        )

lasts_store : (t : Table) (s : Spot) (x : Fact) → IsLasting x → IsApartFrom t s x
lasts_store t s (fact.Between b low high) h = tt
lasts_store t s (fact.Nonnull b) h = tt
lasts_store t s (fact.ClassOf b n) h = tt
lasts_store t s (fact.Holds base other value) h = absurd h
lasts_store t s (fact.Same operation args value) h = tt

lasts_call : (row : CallRow) (x : Fact) → IsLasting x → IsKeptBy row x
lasts_call row (fact.Between b low high) h = tt
lasts_call row (fact.Nonnull b) h = tt
lasts_call row (fact.ClassOf b n) h = tt
lasts_call row (fact.Holds base other value) h = absurd h
lasts_call row (fact.Same operation args value) h = tt

module _ (t : Table) (known : Facts) (boxes : Boxes) (at : Place) (h : Agrees t known boxes at) (still : known.pending ≡ []) (lasting : AllByRecursion IsLasting known.facts) where
  none_pending : (P : Pending → Type 0) → AllByRecursion P known.pending
  none_pending P = subst (AllByRecursion P) (sym still) tt

  settled : (u : Value) (s : Spot) → IsSettled t at known.pending u s
  settled u s = apart_is_settled t at known.pending s (none_pending (λ (p : Pending). AreApart t s p.spot)) u

  unless : (x y : Done) → SameDone t known boxes at x y → SameUnlessBad t known boxes at x y
  unless x Bad s = tt
  unless x (Gave y u) s = s
  unless x (Waited u) s = s
  unless x (Misfitted u) s = s

  value_alike : (x y : Option Value) → MapsIf (slice_get at.mapped) x y → SameUnlessBad t known boxes at (value_done at.opt x) (value_done at.rec y)
  value_alike None None m = tt
  value_alike (Some x) None m = tt
  value_alike None (Some y) m = absurd m
  value_alike (Some x) (Some y) m = (at.mapped, λ n j e. e, m, h)

  overflowing_alike : (exact : ℤ → ℤ → ℤ) {us ys : List Value} → Pairs (slice_get at.mapped) us ys → SameUnlessBad t known boxes at (overflowing exact us at.opt) (overflowing exact ys at.rec)
  overflowing_alike exact nil = tt
  overflowing_alike exact (cons null rest) = tt
  overflowing_alike exact (cons (obj x j e) rest) = tt
  overflowing_alike exact (cons (int a) nil) = tt
  overflowing_alike exact (cons (int a) (cons null rest)) = tt
  overflowing_alike exact (cons (int a) (cons (obj x j e) rest)) = tt
  overflowing_alike exact (cons (int a) (cons (int b) (cons c rest))) = tt
  overflowing_alike exact (cons (int a) (cons (int b) nil)) = (at.mapped, λ n j e. e, refl, overflow_is_apart t known boxes at h (overflows (exact a b)) (overflows (exact a b)))

  read_alike : (s : Spot) (u y : Value) → MapsAt at u y → SameUnlessBad t known boxes at (value_done at.opt (read t s u at.opt)) (value_done at.rec (read t s y at.rec))
  read_alike s u y m = value_alike (read t s u at.opt) (read t s y at.rec) (reads_alike t known boxes at h u y s m (settled u s))

  write_alike : (s : Spot) (base b u y : Value) → MapsAt at base b → MapsAt at u y → SameUnlessBad t known boxes at (write_done (write t s base u at.opt)) (write_done (write t s b y at.rec))
  write_alike s base b u y mb mu = by (write t s b y at.rec) refl
    where
      by : (o : Option World) → write t s b y at.rec ≡ o → SameUnlessBad t known boxes at (write_done (write t s base u at.opt)) (write_done o)
      by None e = tt
      by (Some w) e =
          let done = both_stores_agree t known boxes at h s base b u y w mb mu e (none_pending (λ (p : Pending). AreApart t s p.spot)) known.facts (each_weaker IsLasting (IsApartFrom t s) (lasts_store t s) known.facts lasting) h.facts in
          subst (λ o. SameDone t known boxes at (write_done o) (Gave None w)) (sym done.1) (at.mapped, λ n j q. q, tt, done.2)

  get_field_alike : (d : Descr) (us ys : List Value) → AllZip (MapsAt at) us ys → SameUnlessBad t known boxes at (get_field t d us at.opt) (get_field t d ys at.rec)
  get_field_alike (descr.Field f) [] [] m = tt
  get_field_alike (descr.Field f) [] (y ∷ ys) m = absurd m
  get_field_alike (descr.Field f) (u ∷ us) [] m = tt
  get_field_alike (descr.Field f) (u ∷ []) (y ∷ []) m = read_alike (spot.Field f) u y m.0
  get_field_alike (descr.Field f) (u ∷ []) (y ∷ z ∷ ys) m = tt
  get_field_alike (descr.Field f) (u ∷ q ∷ us) (y ∷ []) m = absurd m.1
  get_field_alike (descr.Field f) (u ∷ q ∷ us) (y ∷ z ∷ ys) m = tt
  get_field_alike _ us ys m = tt

  set_field_alike : (d : Descr) (us ys : List Value) → AllZip (MapsAt at) us ys → SameUnlessBad t known boxes at (set_field t d us at.opt) (set_field t d ys at.rec)
  set_field_alike (descr.Field f) [] [] m = tt
  set_field_alike (descr.Field f) [] (y ∷ ys) m = absurd m
  set_field_alike (descr.Field f) (u ∷ us) [] m = tt
  set_field_alike (descr.Field f) (u ∷ us) (y ∷ []) m = tt
  set_field_alike (descr.Field f) (u ∷ []) (y ∷ z ∷ ys) m = absurd m.1
  set_field_alike (descr.Field f) (u ∷ q ∷ []) (y ∷ z ∷ []) m = write_alike (spot.Field f) u y q z m.0 m.1.0
  set_field_alike (descr.Field f) (u ∷ q ∷ us) (y ∷ z ∷ r ∷ ys) m = tt
  set_field_alike (descr.Field f) (u ∷ q ∷ p ∷ us) (y ∷ z ∷ []) m = absurd m.1.1
  set_field_alike _ us ys m = tt

  get_item_alike : (d : Descr) {us ys : List Value} → Pairs (slice_get at.mapped) us ys → AllZip (MapsAt at) us ys → SameUnlessBad t known boxes at (get_item t d us at.opt) (get_item t d ys at.rec)
  get_item_alike (descr.Array a) nil m = tt
  get_item_alike (descr.Array a) (cons p nil) m = tt
  get_item_alike (descr.Array a) (cons {x = u} {y = y} p (cons (int z) nil)) m = read_alike (spot.Item a z) u y m.0
  get_item_alike (descr.Array a) (cons p (cons (int z) (cons q rest))) m = tt
  get_item_alike (descr.Array a) (cons p (cons null rest)) m = tt
  get_item_alike (descr.Array a) (cons p (cons (obj x j e) rest)) m = tt
  get_item_alike _ p m = tt

  set_item_alike : (d : Descr) {us ys : List Value} → Pairs (slice_get at.mapped) us ys → AllZip (MapsAt at) us ys → SameUnlessBad t known boxes at (set_item t d us at.opt) (set_item t d ys at.rec)
  set_item_alike (descr.Array a) nil m = tt
  set_item_alike (descr.Array a) (cons p nil) m = tt
  set_item_alike (descr.Array a) (cons p (cons (int z) nil)) m = tt
  set_item_alike (descr.Array a) (cons {x = u} {y = y} p (cons (int z) (cons {x = w} {y = x} q nil))) m = write_alike (spot.Item a z) u y w x m.0 m.1.1.0
  set_item_alike (descr.Array a) (cons p (cons (int z) (cons q (cons r rest)))) m = tt
  set_item_alike (descr.Array a) (cons p (cons null rest)) m = tt
  set_item_alike (descr.Array a) (cons p (cons (obj x j e) rest)) m = tt
  set_item_alike _ p m = tt

  numbered_if : (a b : Option ℕ) → a ≡ b → MapsIf (slice_get at.mapped) (option_map (λ n. v.Int (pos n)) a) (option_map (λ n. v.Int (pos n)) b)
  numbered_if a b e = subst (λ c. MapsIf (slice_get at.mapped) (option_map (λ n. v.Int (pos n)) a) (option_map (λ n. v.Int (pos n)) c)) e (itself a)
    where
      itself : (a : Option ℕ) → MapsIf (slice_get at.mapped) (option_map (λ n. v.Int (pos n)) a) (option_map (λ n. v.Int (pos n)) a)
      itself None = tt
      itself (Some n) = refl

  get_length_alike : (d : Descr) (us ys : List Value) → AllZip (MapsAt at) us ys → SameUnlessBad t known boxes at (get_length d us at.opt) (get_length d ys at.rec)
  get_length_alike (descr.Array a) [] [] m = tt
  get_length_alike (descr.Array a) [] (y ∷ ys) m = absurd m
  get_length_alike (descr.Array a) (u ∷ us) [] m = tt
  get_length_alike (descr.Array a) (u ∷ []) (y ∷ []) m = value_alike _ _ (numbered_if (length_at a u at.opt) (length_at a y at.rec) (lengths_alike t known boxes at h u y a m.0))
  get_length_alike (descr.Array a) (u ∷ []) (y ∷ z ∷ ys) m = tt
  get_length_alike (descr.Array a) (u ∷ q ∷ us) (y ∷ []) m = absurd m.1
  get_length_alike (descr.Array a) (u ∷ q ∷ us) (y ∷ z ∷ ys) m = tt
  get_length_alike _ us ys m = tt

  made_alike : (o : Object) → AllZip (Maps (slice_get (at.mapped ++ length at.rec.objects ∷ []))) o.parts o.parts → SameUnlessBad t known boxes at (made o at.opt) (made o at.rec)
  made_alike o parts =
      let both = new_both_agrees t known boxes at h o o refl parts in
      (at.mapped ++ length at.rec.objects ∷ [], λ n j e. get_before at.mapped (length at.rec.objects ∷ []) n j e, both.1, both.0)

  structure_alike : (d : Descr) → SameUnlessBad t known boxes at (make_structure t d at.opt) (make_structure t d at.rec)
  structure_alike (descr.Size s) = made_alike (zeroed t s) (zeros_are_one t (slice_get (at.mapped ++ length at.rec.objects ∷ [])) s 0).0
  structure_alike _ = tt

  items_alike : (a : ℕ) (n : Option ℕ) → SameUnlessBad t known boxes at (make_items t a n at.opt) (make_items t a n at.rec)
  items_alike a None = tt
  items_alike a (Some n) = made_alike (cleared t a n) (zeros_are_one t (slice_get (at.mapped ++ length at.rec.objects ∷ [])) a n).1

  array_alike : (d : Descr) {us ys : List Value} → Pairs (slice_get at.mapped) us ys → SameUnlessBad t known boxes at (make_array t d us at.opt) (make_array t d ys at.rec)
  array_alike (descr.Array a) nil = tt
  array_alike (descr.Array a) (cons (int z) nil) = items_alike a (index_of z)
  array_alike (descr.Array a) (cons (int z) (cons q rest)) = tt
  array_alike (descr.Array a) (cons null rest) = tt
  array_alike (descr.Array a) (cons (obj x j e) rest) = tt
  array_alike _ p = tt

  row_alike : (row : Option CallRow) (function : ℕ) (us ys : List Value) → AllZip (MapsAt at) us ys → SameUnlessBad t known boxes at (call_row t row function us at.opt) (call_row t row function ys at.rec)
  row_alike None function us ys m = tt
  row_alike (Some row) function us ys m =
      unless (called t row function us at.opt) (called t row function ys at.rec)
      (calls_agree t known boxes at h row function us ys m (none_pending (λ (p : Pending). IsUntouched row p.spot)) known.facts (each_weaker IsLasting (IsKeptBy row) (lasts_call row) known.facts lasting) h.facts)

  function_alike : (k : ℕ) (function : Option ℕ) (us ys : List Value) → AllZip (MapsAt at) us ys → SameUnlessBad t known boxes at (call_function t k function us at.opt) (call_function t k function ys at.rec)
  function_alike k None us ys m = tt
  function_alike k (Some function) us ys m = row_alike (slice_get t.calls k) function us ys m

  call_alike : (d : Descr) (args others : List Arg) (us ys : List Value) → function_in args ≡ function_in others → AllZip (MapsAt at) us ys → SameUnlessBad t known boxes at (call t d args us at.opt) (call t d others ys at.rec)
  call_alike (descr.Call k) args others us ys same m =
      subst (λ f. SameUnlessBad t known boxes at (call_function t k (function_in args) us at.opt) (call_function t k f ys at.rec)) same (function_alike k (function_in args) us ys m)
  call_alike _ args others us ys same m = tt

  alike : (operation : OpCode) (d : Descr) (args others : List Arg) (us ys : List Value) → function_in args ≡ function_in others → AllZip (MapsAt at) us ys → SameUnlessBad t known boxes at (perform t operation d args us at.opt) (perform t operation d others ys at.rec)
  alike code.IntAddOvf d args others us ys same m = overflowing_alike (λ a b. a +ℤ b) (pairs_of (slice_get at.mapped) us ys m)
  alike code.IntSubOvf d args others us ys same m = overflowing_alike (λ a b. a -ℤ b) (pairs_of (slice_get at.mapped) us ys m)
  alike code.IntMulOvf d args others us ys same m = overflowing_alike (λ a b. a *ℤ b) (pairs_of (slice_get at.mapped) us ys m)
  alike code.GetfieldGcI d args others us ys same m = get_field_alike d us ys m
  alike code.GetfieldGcR d args others us ys same m = get_field_alike d us ys m
  alike code.SetfieldGc d args others us ys same m = set_field_alike d us ys m
  alike code.GetarrayitemGcI d args others us ys same m = get_item_alike d (pairs_of (slice_get at.mapped) us ys m) m
  alike code.GetarrayitemGcR d args others us ys same m = get_item_alike d (pairs_of (slice_get at.mapped) us ys m) m
  alike code.SetarrayitemGc d args others us ys same m = set_item_alike d (pairs_of (slice_get at.mapped) us ys m) m
  alike code.ArraylenGc d args others us ys same m = get_length_alike d us ys m
  alike code.New d args others us ys same m = structure_alike d
  alike code.NewWithVtable d args others us ys same m = structure_alike d
  alike code.NewArrayClear d args others us ys same m = array_alike d (pairs_of (slice_get at.mapped) us ys m)
  alike code.CallI d args others us ys same m = call_alike d args others us ys same m
  alike code.CallR d args others us ys same m = call_alike d args others us ys same m
  alike code.CallN d args others us ys same m = call_alike d args others us ys same m
  alike operation d args others us ys same m = value_alike (fold operation us) (fold operation ys) (folds_alike operation (length t.prebuilts) at.mapped h.injective us ys m)

pub performs_agree : PerformsAgree
performs_agree t known boxes at h operation d args others us ys still lasting same m = alike t known boxes at h still lasting operation d args others us ys same m
