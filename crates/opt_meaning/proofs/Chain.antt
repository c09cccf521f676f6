-- Legs of traces and of their pieces stay paired.
use Rattle.std.proofs.Common.{◌≡◌, ℕ, zero, suc, ◌+◌, List, [], ◌∷◌, ◌++◌, Option, Some, None, length, refl, sym, ap, ◌∙◌, subst, inl, inr, append_assoc}
use Rattle.std.specs.List.{AllZip, AllByRecursion}
use Rattle.trace_ops.specs.declared.trace.BoxId.{BoxId}
use Rattle.trace_ops.specs.declared.trace.Arg.{Arg}
use Rattle.trace_ops.specs.declared.table.Table.{Table}
use Rattle.trace_ops.specs.declared.piece.Val.{Val}
use Rattle.trace_ops.specs.declared.piece.Val.TheVariants.{Known, Virtual}
use Rattle.trace_ops.specs.declared.piece.Shape.{Shape}
use Rattle.trace_ops.specs.declared.piece.Spot.{Spot}
use Rattle.trace_ops.specs.declared.piece.Pending.{Pending}
use Rattle.trace_ops.specs.declared.piece.Fact.{Fact}
use Rattle.trace_ops.specs.declared.piece.Fact.TheVariants as fact
use Rattle.trace_ops.specs.declared.piece.Entry.{Entry}
use Rattle.trace_meaning.specs.declared.value.Value.{Value}
use Rattle.trace_meaning.specs.declared.value.Value.TheVariants as v
use Rattle.trace_meaning.specs.World.{World, Logged, failed}
use Rattle.trace_meaning.specs.Objects.{read}
use Rattle.trace_meaning.specs.Growing.{IsLonger}
use Rattle.trace_meaning.specs.Legs.{Leave, Fails, Jumps, Finishes, Waits, Misfits, Wrong, drive, Program, Leg, At, Ended, into_leg, land, leg, legs}
use Rattle.trace_meaning.specs.Observed.{world_left}
use Rattle.opt_meaning.specs.Along.{BeginsCalls}
use Rattle.opt_meaning.specs.Agrees.{Facts, Place, ValIs, NameIs, IsPending, SpotIs, StoreIs, FactHolds, ShapeIs, Agrees}
use Rattle.opt_meaning.specs.Admits.{Admits, at_entry, place_with, entry_for}
use Rattle.opt_meaning.specs.Leaving.{SameLeave}
use Rattle.trace_meaning.specs.Sound.{Beginnings, CanGo}
use Rattle.trace_meaning.specs.Growing.{leg_world}
use Rattle.opt_meaning.specs.Composing.{Joined, SeeAlike, CanJump, Composes, Paired}

-- one more failure on both sides changes nothing else
abbrev later : Place → Place
later at = record at { rec = failed at.rec; opt = failed at.opt }

pub AllZip-weaker : {A B : Type 0} (P Q : A → B → Type 0) → ((x : A) (y : B) → P x y → Q x y) → (xs : List A) (ys : List B) → AllZip P xs ys → AllZip Q xs ys
AllZip-weaker P Q f [] [] h = h
AllZip-weaker P Q f [] (y ∷ ys) h = h
AllZip-weaker P Q f (x ∷ xs) [] h = h
AllZip-weaker P Q f (x ∷ xs) (y ∷ ys) h = (f x y h.0, AllZip-weaker P Q f xs ys h.1)

pub AllByRecursion-weaker : {A : Type 0} (P Q : A → Type 0) → ((x : A) → P x → Q x) → (xs : List A) → AllByRecursion P xs → AllByRecursion Q xs
AllByRecursion-weaker P Q f [] h = h
AllByRecursion-weaker P Q f (x ∷ xs) h = (f x h.0, AllByRecursion-weaker P Q f xs h.1)

module _ (t : Table) (at : Place) where
  val_later : (x : Val) (y : Value) → ValIs at x y → ValIs (later at) x y
  val_later (Known x) y h = h
  val_later (Virtual n) y h = h

  read_later : (spot : Spot) (b y : Value) (w : World) → read t spot b w ≡ Some y → read t spot b (failed w) ≡ Some y
  read_later spot (v.Obj n) y w e = e
  read_later spot (v.Int n) y w e = e
  read_later spot v.Null y w e = e

  spot_later : (base : Arg) (spot : Spot) (x : Val) → SpotIs t at base spot x → SpotIs t (later at) base spot x
  spot_later base spot x h = (h.0, h.1, h.2, read_later spot h.0 h.2 at.rec h.3, val_later x h.2 h.4)

  fact_later : (x : Fact) → FactHolds t at x → FactHolds t (later at) x
  fact_later (fact.Between b low high) h = h
  fact_later (fact.Nonnull b) h = h
  fact_later (fact.ClassOf b size) h = h
  fact_later (fact.Holds base spot x) h = spot_later base spot (Known x) h
  fact_later (fact.Same operation args x) h = h

  pending_later : (xs : List Pending) (n i : ℕ) → IsPending t at xs n i → IsPending t (later at) xs n i
  pending_later [] n i h = h
  pending_later (x ∷ xs) n i (inl h) = inl h
  pending_later (x ∷ xs) n i (inr h) = inr (pending_later xs n i h)

  shape_later : (n : ℕ) (s : Shape) → ShapeIs t at n s → ShapeIs t (later at) n s
  shape_later n s h = record {
    object = h.object;
    names = h.names;
    recorded = h.recorded;
    there = h.there;
    of = h.of;
    parts = AllZip-weaker (ValIs at) (ValIs (later at)) val_later s.parts h.recorded.parts h.parts;
  }

  agrees_later : (known : Facts) → Agrees t known [] at → ((b : BoxId) → NameIs (later at) (known.names b) None) → Agrees t known [] (later at)
  agrees_later known h ns = record {
    first = h.first;
    covers = h.covers;
    counts = h.counts;
    injective = h.injective;
    alike = h.alike;
    outside = h.outside;
    apart = h.apart;
    shaped = λ n s e. shape_later n s (h.shaped n s e);
    names = ns;
    parts = λ x j i p q y e1 e2 e3 e4. elim (h.parts x j i p q y e1 e2 e3 e4) [ inl z ↦ inl (pending_later known.pending x i z) | inr z ↦ inr z ];
    pending = AllByRecursion-weaker (StoreIs t at) (StoreIs t (later at)) (λ p x. (spot_later p.base p.spot p.value x.0, x.1)) known.pending h.pending;
    facts = AllByRecursion-weaker (FactHolds t at) (FactHolds t (later at)) fact_later known.facts h.facts;
    calls = h.calls;
    answers = h.answers;
    failures = ap (λ n. n + 1) h.failures;
  }

-- a failure is counted on both sides
pub Admits-failed : (t : Table) (e : Entry) (vs : List Value) (w : World) (us : List Value) (u : World) → Admits t e vs w us u → Admits t e vs (failed w) us (failed u)
Admits-failed t e vs w us u h =
    let at : Place = place_with e w us u h.mapped h.virtuals in
    record {
      mapped = h.mapped;
      virtuals = h.virtuals;
      label_fits = h.label_fits;
      values = AllZip-weaker (ValIs at) (ValIs (later at)) (val_later t at) e.values vs h.values;
      agrees = agrees_later t at (at_entry e) h.agrees (λ b. tt);
    }

failures_same : (t : Table) (e : Entry) (vs : List Value) (w : World) (us : List Value) (u : World) → Admits t e vs w us u → u.failures ≡ w.failures
failures_same t e vs w us u h = h.agrees.failures

longer : (n : ℕ) (rec opt after : List Logged) → BeginsCalls n rec opt → IsLonger opt after → BeginsCalls n rec after
longer n rec opt after h m = record {
  first = h.first;
  later = h.later ++ m.0;
  splits = m.1 ∙ ap (λ l. l ++ m.0) h.splits ∙ append_assoc h.first h.later m.0;
  same = h.same;
}

module _ {P Q O U S V : Type 0} (t : Table) (a : Program P O S) (b : Program Q U V) (k : Joined P Q) (can : Beginnings P) (h : Composes t a b k can) where
  fails : (q : Q) (n : ℕ) (vs : List Value) (w : World) (us : List Value) (u : World) (e : Entry) → entry_for (k.guards q) n ≡ Some e → Admits t e vs w us u → (x : Option P) (y : Option Q) → b.sees q n u.failures ≡ y → SeeAlike k.trace x y → CanGo can (into_leg (k.trace q) n vs w x) → Paired t k can (into_leg (k.trace q) n vs w x) (into_leg q n us u y)
  fails q n vs w us u e found k1 None None sy z go = (refl, (refl, e, found, Admits-failed t e vs w us u k1))
  fails q n vs w us u e found k1 None (Some y) sy z go = absurd z
  fails q n vs w us u e found k1 (Some x) None sy z go = absurd z
  fails q n vs w us u e found k1 (Some x) (Some y) sy z go = (z, go, subst (λ f. Admits t f vs (failed w) us (failed u)) (sym (h.bridges q y n u.failures e found sy)) (Admits-failed t e vs w us u k1))

  land_world : (q : Q) (y : Leave) → (leg_world (land b q y)).log ≡ (world_left y).log
  land_world q (Fails n us u) = into_world q n us u (b.sees q n u.failures)
    where
      into_world : (q : Q) (n : ℕ) (us : List Value) (u : World) (s : Option Q) → (leg_world (into_leg q n us u s)).log ≡ u.log
      into_world q n us u None = refl
      into_world q n us u (Some r) = refl
  land_world q (Jumps us u) = refl
  land_world q (Finishes us u) = refl
  land_world q (Waits u) = refl
  land_world q (Misfits u) = refl
  land_world q (Wrong u) = refl

  landed : (q : Q) (x y : Leave) → ((us : List Value) (u : World) → y ≡ Jumps us u → CanJump b q) → CanGo can (land a (k.trace q) x) → SameLeave t (k.guards q) (k.at_end q) x y → Paired t k can (land a (k.trace q) x) (land b q y)
  landed q (Wrong w) y jump go z = subst (λ l. BeginsCalls (length t.prebuilts) w.log l) (sym (land_world q y)) z
  landed q (Fails n vs w) (Fails m us u) jump go z =
      subst (λ i. Paired t k can (into_leg (k.trace q) n vs w (a.sees (k.trace q) n w.failures)) (into_leg q i us u (b.sees q i u.failures))) z.0
      (fails q n vs w us u z.1 z.2 z.3 (a.sees (k.trace q) n w.failures) (b.sees q n u.failures) refl (subst (λ f. SeeAlike k.trace (a.sees (k.trace q) n w.failures) (b.sees q n f)) (sym (failures_same t z.1 vs w us u z.3)) (h.sees q n w.failures z.1 z.2)) go)
  landed q (Jumps vs w) (Jumps us u) jump go z = let can_jump = jump us u refl in (h.targets q can_jump, go, subst (λ f. Admits t f vs w us u) (h.jumps q can_jump) z)
  landed q (Finishes vs w) (Finishes us u) jump go z = (refl, z)
  landed q (Waits w) (Waits u) jump go z = (refl, z)
  landed q (Misfits w) (Misfits u) jump go z = (refl, z)
  landed q _ _ jump go z = absurd z

  one_leg : (x : Leg P) (y : Leg Q) → Paired t k can x y → Paired t k can (leg a x) (leg b y)
  one_leg (At p vs w) (At q us u) z =
      let go : CanGo can (leg a (At (k.trace q) vs w)) = h.begins (k.trace q) vs w (subst (λ i. can i vs w) (sym z.0) z.1) in
      subst (λ i. Paired t k can (land a i (drive a.step a.world (a.ops i) (a.begin i vs w))) (land b q (drive b.step b.world (b.ops q) (b.begin q us u)))) z.0
      (landed q (drive a.step a.world (a.ops (k.trace q)) (a.begin (k.trace q) vs w)) (drive b.step b.world (b.ops q) (b.begin q us u)) (λ now after e. (us, u, now, after, e)) go
      (h.each q vs w us u (subst (λ i. can i vs w) (sym z.0) z.1) z.2))
  one_leg (At p vs w) (Ended q y) z = absurd z
  one_leg (Ended p (Wrong w)) (At q us u) z = longer (length t.prebuilts) w.log u.log (leg_world (leg b (At q us u))).log z (h.grows q us u)
  one_leg (Ended p (Wrong w)) (Ended q y) z = z
  one_leg (Ended p x) (Ended q y) z = z
  one_leg (Ended p x) (At q us u) z = absurd z

  -- after any number of legs
  pub paired : (n : ℕ) (x : Leg P) (y : Leg Q) → Paired t k can x y → Paired t k can (legs a n x) (legs b n y)
  paired zero x y z = z
  paired (suc n) x y z = paired n (leg a x) (leg b y) (one_leg x y z)
