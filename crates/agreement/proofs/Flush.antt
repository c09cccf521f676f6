-- A flush: the piece does a pending store, and it is pending no more.
use Rattle.std.proofs.Common.{◌≡◌, ◌≢◌, ℕ, ◌<◌, true, false, List, [], ◌∷◌, ◌++◌, Option, Some, None, length, slice_get, refl, sym, ap, ◌∙◌, subst, arith, ◌⊎◌, inl, inr}
use Rattle.std.specs.Prelude.{option_and_then, slice_set, ◌==◌}
use Rattle.std.specs.List.{AllByRecursion}
use Rattle.std.proofs.lemmas.Bool.Decides.{eqb_tells}
use Rattle.std.proofs.lemmas.Option.{slice_get_within}
use Rattle.lists.proofs.Eaches.{each_weaker, each_middle}
use Rattle.lists.proofs.Options.{some_same, none_some}
use Rattle.lists.proofs.Places.{get_some, get_set_same, get_set_other}
use Rattle.agreement.proofs.Written.{length_set}
use Rattle.trace_ops.specs.declared.trace.BoxId.{BoxId}
use Rattle.trace_ops.specs.declared.trace.Arg.{Arg}
use Rattle.trace_ops.specs.declared.trace.Arg.TheVariants as arg
use Rattle.trace_ops.specs.declared.table.Table.{Table}
use Rattle.trace_ops.specs.declared.piece.Val.{Val}
use Rattle.trace_ops.specs.declared.piece.Val.TheVariants.{Known, Virtual}
use Rattle.trace_ops.specs.declared.piece.Spot.{Spot}
use Rattle.trace_ops.specs.declared.piece.Pending.{Pending}
use Rattle.trace_meaning.specs.declared.value.Value.{Value}
use Rattle.trace_meaning.specs.declared.value.Value.TheVariants as v
use Rattle.trace_meaning.specs.declared.value.Object.{Object}
use Rattle.trace_meaning.specs.Boxes.{Boxes, value_in, arg_value}
use Rattle.trace_meaning.specs.Objects.{place_of, is_frozen, with_part, write}
use Rattle.heap_shape.specs.Sameness.{Maps, MapsIf}
use Rattle.opt_meaning.specs.Along.{AreAlike}
use Rattle.opt_meaning.specs.Agrees.{Facts, Place, MapsAt, ValIs, IsPending, StoreIs, FactHolds, Agrees}
use Rattle.agreement.specs.Reading.{AreApart}
use Rattle.agreement.proofs.Further.{Further, read-same, fact-same, name-further, store-further, fact-further, pending-further, zip-further}
use Rattle.agreement.proofs.Reading.{obj_same, obj_from, arg_once, found, twins}
use Rattle.agreement.proofs.Wrote.{stored, can_write, kinds_stored}
use Rattle.opt_meaning.specs.Rebuilding.{val_value, write_if, stores_done}
use Rattle.agreement.specs.Writing.{with_rec, with_opt, KeptOf, known_value, IsKnown, FlushAgrees, FlushesAgree, BothStoresAgree}
use Rattle.agreement.proofs.LateStore.{late_store_agrees}

maps_if : (m : ℕ → Option ℕ) (u y : Value) (o : Option Value) → o ≡ Some u → Maps m u y → MapsIf m o (Some y)
maps_if m u y None e h = absurd (none_some e)
maps_if m u y (Some z) e h = subst (λ q. Maps m q y) (sym (some_same e)) h

module _ (t : Table) (known : Facts) (boxes : Boxes) (at : Place) (h : Agrees t known boxes at) (before later : List Pending) (p : Pending) (split : known.pending ≡ before ++ p ∷ later)
    (k i : ℕ) (u : Value) (a : Object) (eb : arg_value at.box p.base ≡ Some (v.Obj k)) (ea : slice_get at.opt.objects k ≡ Some a) (ep : place_of t a.of p.spot ≡ Some i) (inside : i < length a.parts)
    (is : (y : Value) → ValIs at p.value y → MapsAt at u y) where
  more : Further at (with_opt at (stored at.opt k a i u))
  more = record { box = λ b y e. e; mapped = λ x j e. e; virtuals = λ n j e. e; kinds = kinds_stored t p.spot u at.opt k a i ea }

  -- what is pending, but for the store that is done
  rest : (xs ys : List Pending) (n q : ℕ) → (((arg_value at.box p.base ≡ Some (v.Obj n)) × (o : Object) × (slice_get at.opt.objects n ≡ Some o) × (place_of t o.of p.spot ≡ Some q)) → ⊥) → IsPending t at (xs ++ p ∷ ys) n q → IsPending t at (xs ++ ys) n q
  rest [] ys n q not (inl w) = absurd (not w)
  rest [] ys n q not (inr w) = w
  rest (x ∷ xs) ys n q not (inl w) = inl w
  rest (x ∷ xs) ys n q not (inr w) = inr (rest xs ys n q not w)

  middle : StoreIs t at p × AllByRecursion (StoreIs t at) (before ++ later)
  middle = each_middle (StoreIs t at) before p later (subst (AllByRecursion (StoreIs t at)) split h.pending)

  was : (n : ℕ) (c : Object) → slice_get (slice_set at.opt.objects k (with_part a i u)) n ≡ Some c → n ≢ k → slice_get at.opt.objects n ≡ Some c
  was n c e q = sym (get_set_other at.opt.objects k n (with_part a i u) q) ∙ e

  is_now : (n : ℕ) (c : Object) → slice_get (slice_set at.opt.objects k (with_part a i u)) n ≡ Some c → n ≡ k → with_part a i u ≡ c
  is_now n c e q = some_same (sym (get_set_same at.opt.objects k a (with_part a i u) ea) ∙ ap (slice_get (slice_set at.opt.objects k (with_part a i u))) (sym q) ∙ e)

  at_object : (n j : ℕ) (c : Object) → slice_get (slice_set at.opt.objects k (with_part a i u)) n ≡ Some c → slice_get at.mapped n ≡ Some j → (((n == k) ≡ true) × (n ≡ k)) ⊎ (((n == k) ≡ false) × (n ≢ k)) → (b : Object) × (slice_get at.rec.objects j ≡ Some b) × AreAlike c b
  at_object n j c e1 e2 (inr q) = h.alike n j c (was n c e1 q.1) e2
  at_object n j c e1 e2 (inl q) =
      let s = h.alike k j a ea (ap (slice_get at.mapped) (sym q.1) ∙ e2) in
      let c_is = is_now n c e1 q.1 in
      (s.0, s.1, record { of = ap (λ (z : Object). z.of) (sym c_is) ∙ s.2.of; parts = ap (λ (z : Object). length z.parts) (sym c_is) ∙ length_set a.parts i u ∙ s.2.parts })

  -- the recorded part at the spot is the value of the store
  the_spot : (j q : ℕ) (d : Object) (z : Value) → q ≡ i → slice_get at.mapped k ≡ Some j → slice_get at.rec.objects j ≡ Some d → slice_get d.parts q ≡ Some z → MapsAt at u z
  the_spot j q d z qi e2 e3 e4 =
      let s = middle.0.0 in
      let base_is : s.0 ≡ v.Obj j = arg_once at p.base s.0 (v.Obj j) s.1 (v.Obj k, eb, e2) in
      let like = h.alike k j a ea e2 in
      let bd : like.0 ≡ d = some_same (sym like.1 ∙ e3) in
      let of : a.of ≡ d.of = like.2.of ∙ ap (λ (m : Object). m.of) bd in
      let f = found t p.spot s.0 s.2 at.rec s.3 in
      let number : f.number ≡ j = obj_same (sym f.is ∙ base_is) in
      let object : f.object ≡ d = some_same (sym f.there ∙ ap (slice_get at.rec.objects) number ∙ e3) in
      let place : f.place ≡ i = some_same (sym f.lies ∙ ap (λ (m : Object). place_of t m.of p.spot) object ∙ ap (λ m. place_of t m p.spot) (sym of) ∙ ep) in
      let part : s.2 ≡ z = some_same (sym f.holds ∙ ap (λ (m : Object). slice_get m.parts f.place) object ∙ ap (slice_get d.parts) (place ∙ sym qi) ∙ e4) in
      subst (MapsAt at u) part (is s.2 s.4)

  at_part : (n j q : ℕ) (c d : Object) (z : Value) → slice_get (slice_set at.opt.objects k (with_part a i u)) n ≡ Some c → slice_get at.mapped n ≡ Some j → slice_get at.rec.objects j ≡ Some d → slice_get d.parts q ≡ Some z
      → (((n == k) ≡ true) × (n ≡ k)) ⊎ (((n == k) ≡ false) × (n ≢ k)) → (((q == i) ≡ true) × (q ≡ i)) ⊎ (((q == i) ≡ false) × (q ≢ i))
      → IsPending t (with_opt at (stored at.opt k a i u)) (before ++ later) n q ⊎ MapsIf (slice_get at.mapped) (slice_get c.parts q) (Some z)
  at_part n j q c d z e1 e2 e3 e4 (inl s) (inl r) =
      let old = get_some a.parts i inside in
      inr (maps_if (slice_get at.mapped) u z (slice_get c.parts q) (ap (λ (m : Object). slice_get m.parts q) (sym (is_now n c e1 s.1)) ∙ ap (slice_get (slice_set a.parts i u)) r.1 ∙ get_set_same a.parts i old.0 u old.1) (the_spot j q d z r.1 (ap (slice_get at.mapped) (sym s.1) ∙ e2) e3 e4))
  at_part n j q c d z e1 e2 e3 e4 (inl s) (inr r) =
      elim (h.parts n j q a d z (ap (slice_get at.opt.objects) s.1 ∙ ea) e2 e3 e4) [
        | inl w ↦ inl (pending-further at (with_opt at (stored at.opt k a i u)) more t (before ++ later) n q
            (rest before later n q (λ x. r.1 (some_same (sym x.3 ∙ ap (λ (m : Object). place_of t m.of p.spot) (some_same (sym x.2 ∙ ap (slice_get at.opt.objects) s.1 ∙ ea)) ∙ ep))) (subst (λ m. IsPending t at m n q) split w)))
        | inr w ↦ inr (subst (λ m. MapsIf (slice_get at.mapped) m (Some z)) (sym (get_set_other a.parts i q u r.1) ∙ ap (λ (m : Object). slice_get m.parts q) (is_now n c e1 s.1)) w)
      ]
  at_part n j q c d z e1 e2 e3 e4 (inr s) r =
      elim (h.parts n j q c d z (was n c e1 s.1) e2 e3 e4) [
        | inl w ↦ inl (pending-further at (with_opt at (stored at.opt k a i u)) more t (before ++ later) n q
            (rest before later n q (λ x. s.1 (obj_same (some_same (sym x.0 ∙ eb)))) (subst (λ m. IsPending t at m n q) split w)))
        | inr w ↦ inr w
      ]

  pub flush_one : Agrees t (record known { pending = before ++ later }) boxes (with_opt at (stored at.opt k a i u))
  flush_one = record {
    first = h.first;
    covers = h.covers ∙ sym (length_set at.opt.objects k (with_part a i u));
    counts = h.counts;
    injective = h.injective;
    alike = λ n j c e1 e2. at_object n j c e1 e2 (eqb_tells n k);
    outside = h.outside;
    apart = h.apart;
    shaped = λ n s e. let w = h.shaped n s e in record { object = w.object; names = w.names; recorded = w.recorded; there = w.there; of = w.of; parts = zip-further at (with_opt at (stored at.opt k a i u)) more s.parts w.recorded.parts w.parts };
    names = λ b. name-further at (with_opt at (stored at.opt k a i u)) more (known.names b) (value_in boxes b) (h.names b);
    parts = λ n j q c d z e1 e2 e3 e4. at_part n j q c d z e1 e2 e3 e4 (eqb_tells n k) (eqb_tells q i);
    pending = each_weaker (StoreIs t at) (StoreIs t (with_opt at (stored at.opt k a i u))) (λ x. store-further at (with_opt at (stored at.opt k a i u)) more t x (read-same t x.spot at)) (before ++ later) middle.1;
    facts = each_weaker (FactHolds t at) (FactHolds t (with_opt at (stored at.opt k a i u))) (λ x. fact-further at (with_opt at (stored at.opt k a i u)) more t x (fact-same t at x)) known.facts h.facts;
    calls = h.calls;
    answers = h.answers;
    failures = h.failures;
  }

value_is : (at : Place) (x : Val) (u : Value) → known_value at.box x ≡ Some u → (y : Value) → ValIs at x y → MapsAt at u y
value_is at (Known a) u e y h = subst (λ z. MapsAt at z y) (some_same (sym h.1 ∙ e)) h.2
value_is at (Virtual n) u e y h = absurd (none_some e)

pub flush_agrees : FlushAgrees
flush_agrees t known boxes at h before later p split base u eb eu =
    let s = (each_middle (StoreIs t at) before p later (subst (AllByRecursion (StoreIs t at)) split h.pending)).0 in
    let f = found t p.spot s.0.0 s.0.2 at.rec s.0.3 in
    let o = obj_from (slice_get at.mapped) s.0.1.0 f.number (subst (MapsAt at s.0.1.0) f.is s.0.1.2) in
    let base_is : arg_value at.box p.base ≡ Some (v.Obj o.0) = s.0.1.1 ∙ ap Some o.1 in
    let pair = twins t known boxes at h o.0 f.number o.2 in
    let same : pair.other ≡ f.object = some_same (sym pair.there ∙ f.there) in
    let lies : place_of t pair.one.of p.spot ≡ Some f.place = ap (λ m. place_of t m p.spot) (pair.alike.of ∙ ap (λ (m : Object). m.of) same) ∙ f.lies in
    let long : length pair.one.parts ≡ length f.object.parts = pair.alike.parts ∙ ap (λ (m : Object). length m.parts) same in
    let inside : f.place < length pair.one.parts = omega (arith, slice_get_within f.object.parts f.place s.0.2 f.holds, long) in
    let number : s.1.0 ≡ o.0 = obj_same (some_same (sym s.1.1 ∙ base_is)) in
    let free : is_frozen t p.spot o.0 ≡ false = ap (is_frozen t p.spot) (sym number) ∙ s.1.2 in (
      stored at.opt o.0 pair.one f.place u,
      ap (λ b. write t p.spot b u at.opt) (some_same (sym eb ∙ base_is)) ∙ can_write t p.spot o.0 f.place pair.one u at.opt free pair.here lies inside,
      flush_one t known boxes at h before later p split o.0 f.place u pair.one base_is pair.here lies inside (value_is at p.value u eu),
    )

-- Several

first_known : (at : Place) (x : Val) (y : Value) (next : ℕ) → IsKnown x → ValIs at x y → (u : Value) × (known_value at.box x ≡ Some u) × (val_value at.box next x ≡ Some u)
first_known at (Known a) y next is h = (h.0, h.1, h.1)
first_known at (Virtual n) y next is h = absurd is

pub flushes_agree : FlushesAgree
flushes_agree t known boxes at h before [] later next split all = (at.opt, refl, subst (λ ps. Agrees t (record known { pending = ps }) boxes at) split h)
flushes_agree t known boxes at h before (p ∷ ps) later next split all =
    let s = (each_middle (StoreIs t at) before p (ps ++ later) (subst (AllByRecursion (StoreIs t at)) split h.pending)).0 in
    let value = first_known at p.value s.0.2 next all.0 s.0.4 in
    let one = flush_agrees t known boxes at h before (ps ++ later) p split s.0.1.0 value.0 s.0.1.1 value.1 in
    let rest = flushes_agree t (record known { pending = before ++ (ps ++ later) }) boxes (with_opt at one.0) one.2 before ps later next refl all.1 in (
      rest.0,
      ap (option_and_then (stores_done t at.box next ps))
          (ap (λ b. write_if t p b (val_value at.box next p.value) at.opt) s.0.1.1 ∙ ap (λ u. write_if t p (Some s.0.1.0) u at.opt) value.2 ∙ one.1)
          ∙ rest.1,
      rest.2,
    )

-- On both sides at once: a late store, and its flush

-- each value is that of an argument
abbrev arg_of : Value → Arg
arg_of (v.Int z) = arg.Const z
arg_of v.Null = arg.Null
arg_of (v.Obj n) = arg.Ptr n

arg_of_is : (box : BoxId → Option Value) (x : Value) → arg_value box (arg_of x) ≡ Some x
arg_of_is box (v.Int z) = refl
arg_of_is box v.Null = refl
arg_of_is box (v.Obj n) = refl

all_are_kept : (t : Table) (base : Arg) (spot : Spot) (ps : List Pending) → AllByRecursion (λ (p : Pending). AreApart t spot p.spot) ps → KeptOf t base spot ps ps
all_are_kept t base spot [] h = refl
all_are_kept t base spot (p ∷ ps) h = inr (ps, refl, h.0, all_are_kept t base spot ps h.1)

nothing_later : {X : Type 0} (xs : List X) → xs ++ [] ≡ xs
nothing_later [] = refl
nothing_later (x ∷ xs) = ap (λ ys. x ∷ ys) (nothing_later xs)

pub both_stores_agree : BothStoresAgree
both_stores_agree t known boxes at h spot base b u y w mb mu ew apart facts free holds =
    let p : Pending = record { base = arg_of base; spot = spot; value = Known (arg_of u) } in
    let late = late_store_agrees t known boxes at h (arg_of base) spot (Known (arg_of u)) b y w (base, arg_of_is at.box base, mb) (u, arg_of_is at.box u, mu) ew known.pending (all_are_kept t (arg_of base) spot known.pending apart) facts free holds in
    let done = flush_agrees t (record known { pending = known.pending ++ p ∷ []; facts = facts }) boxes (with_rec at w) late known.pending [] p refl base u (arg_of_is at.box base) (arg_of_is at.box u) in
    (done.0, done.1, subst (λ ps. Agrees t (record known { pending = ps; facts = facts }) boxes (with_opt (with_rec at w) done.0)) (nothing_later known.pending) done.2)
