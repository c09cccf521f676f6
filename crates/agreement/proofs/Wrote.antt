-- What a write does to objects.
use Rattle.std.proofs.Common.{◌≡◌, ◌≢◌, ℕ, ◌<◌, Bool, true, false, cond, ltb, List, Option, Some, None, length, slice_get, refl, sym, ap, ◌∙◌, inl, inr}
use Rattle.std.specs.Prelude.{option_and_then, slice_set, ◌&&◌}
use Rattle.std.specs.Option.{option_map}
use Rattle.std.proofs.lemmas.Bool.{ltb-true, lt-ltb}
use Rattle.std.proofs.lemmas.Bool.Decides.{eqb_tells}
use Rattle.lists.proofs.Options.{some_same, none_some}
use Rattle.lists.proofs.Places.{get_some, get_set_same, get_set_other}
use Rattle.trace_ops.specs.declared.table.Table.{Table}
use Rattle.trace_ops.specs.declared.piece.Spot.{Spot}
use Rattle.trace_ops.specs.declared.piece.Spot.TheVariants as spot
use Rattle.trace_meaning.specs.declared.value.Value.{Value}
use Rattle.trace_meaning.specs.declared.value.Value.TheVariants as v
use Rattle.trace_meaning.specs.declared.value.Object.{Object}
use Rattle.trace_meaning.specs.World.{World}
use Rattle.trace_meaning.specs.Objects.{read, part_of_object, place_of, is_frozen, immutable, with_part, within, written, with_object, write_unfrozen, write}
use Rattle.opt_meaning.specs.Along.{IsOneToOne}
use Rattle.agreement.specs.Reading.{AreApart}
use Rattle.agreement.proofs.Further.{KindsKept}
use Rattle.agreement.proofs.Reading.{obj_same}

-- the object n with another value at place i
abbrev pub stored : World → ℕ → Object → ℕ → Value → World
stored w n o i y = record w { objects = slice_set w.objects n (with_part o i y) }

pub record Wrote (t : Table) (s : Spot) (b y : Value) (w u : World) : Type 0 where
  pub number : ℕ
  pub is : b ≡ v.Obj number
  pub free : is_frozen t s number ≡ false
  pub object : Object
  pub there : slice_get w.objects number ≡ Some object
  pub place : ℕ
  pub lies : place_of t object.of s ≡ Some place
  pub inside : place < length object.parts
  pub now : u ≡ stored w number object place y

pub wrote : (t : Table) (s : Spot) (b y : Value) (w u : World) → write t s b y w ≡ Some u → Wrote t s b y w u
wrote t s (v.Int z) y w u e = absurd (none_some e)
wrote t s v.Null y w u e = absurd (none_some e)
wrote t s (v.Obj n) y w u e = frozen (is_frozen t s n) refl e
  where
    inside : (o : Object) (i : ℕ) → is_frozen t s n ≡ false → slice_get w.objects n ≡ Some o → place_of t o.of s ≡ Some i → (c : Bool) → ltb i (length o.parts) ≡ c
        → option_map (with_object n w) (option_map (λ k. with_part o k y) (cond c (Some i) None)) ≡ Some u → Wrote t s (v.Obj n) y w u
    inside o i free there lies true c q =
        record { number = n; is = refl; free = free; object = o; there = there; place = i; lies = lies; inside = ltb-true i (length o.parts) c; now = sym (some_same q) }
    inside o i free there lies false c q = absurd (none_some q)

    lies : (o : Object) → is_frozen t s n ≡ false → slice_get w.objects n ≡ Some o → (p : Option ℕ) → place_of t o.of s ≡ p
        → option_map (with_object n w) (option_map (λ k. with_part o k y) (option_and_then (within o) p)) ≡ Some u → Wrote t s (v.Obj n) y w u
    lies o free there None p q = absurd (none_some q)
    lies o free there (Some i) p q = inside o i free there p (ltb i (length o.parts)) refl q

    there : is_frozen t s n ≡ false → (o : Option Object) → slice_get w.objects n ≡ o → option_map (with_object n w) (option_and_then (written t s y) o) ≡ Some u → Wrote t s (v.Obj n) y w u
    there free None e q = absurd (none_some q)
    there free (Some o) e q = lies o free e (place_of t o.of s) refl q

    frozen : (c : Bool) → is_frozen t s n ≡ c → write_unfrozen c t s n y w ≡ Some u → Wrote t s (v.Obj n) y w u
    frozen true c q = absurd (none_some q)
    frozen false c q = there c (slice_get w.objects n) refl q

pub can_write : (t : Table) (s : Spot) (n i : ℕ) (o : Object) (y : Value) (w : World) → is_frozen t s n ≡ false → slice_get w.objects n ≡ Some o → place_of t o.of s ≡ Some i → i < length o.parts → write t s (v.Obj n) y w ≡ Some (stored w n o i y)
can_write t s n i o y w free there lies inside =
    ap (λ c. write_unfrozen c t s n y w) free
    ∙ ap (λ x. option_map (with_object n w) (option_and_then (written t s y) x)) there
    ∙ ap (λ p. option_map (with_object n w) (option_map (λ k. with_part o k y) (option_and_then (within o) p))) lies
    ∙ ap (λ c. option_map (with_object n w) (option_map (λ k. with_part o k y) (cond c (Some i) None))) (lt-ltb i (length o.parts) inside)

-- the same fields are immutable on both sides
pub below_along : (p : ℕ) (m : List ℕ) → IsOneToOne p m → (n j : ℕ) → slice_get m n ≡ Some j → ltb n p ≡ ltb j p
below_along p m one n j e = by (ltb n p) refl (ltb j p) refl
  where
    by : (a : Bool) → ltb n p ≡ a → (b : Bool) → ltb j p ≡ b → ltb n p ≡ ltb j p
    by true ea true eb = ea ∙ sym eb
    by false ea false eb = ea ∙ sym eb
    by true ea false eb =
        let same : j ≡ n = some_same (sym e ∙ one.prebuilt n (ltb-true n p ea)) in ap (λ k. ltb k p) (sym same)
    by false ea true eb =
        let same : n ≡ j = one.one_to_one n j j e (one.prebuilt j (ltb-true j p eb)) in ap (λ k. ltb k p) same

pub frozen_along : (t : Table) (m : List ℕ) → IsOneToOne (length t.prebuilts) m → (s : Spot) (n j : ℕ) → slice_get m n ≡ Some j → is_frozen t s n ≡ is_frozen t s j
frozen_along t m one (spot.Field field) n j e = ap (λ b. b && immutable (slice_get t.fields field)) (below_along (length t.prebuilts) m one n j e)
frozen_along t m one (spot.Item array i) n j e = refl

-- Reads after a write

module _ (t : Table) (s : Spot) (y : Value) (w : World) (j : ℕ) (o : Object) (i : ℕ) (object : slice_get w.objects j ≡ Some o) where
  -- of another object
  pub read_elsewhere : (other : Spot) (b z : Value) → b ≢ v.Obj j → read t other b w ≡ Some z → read t other b (stored w j o i y) ≡ Some z
  read_elsewhere other (v.Int n) z k e = absurd (none_some e)
  read_elsewhere other v.Null z k e = absurd (none_some e)
  read_elsewhere other (v.Obj n) z k e = ap (option_and_then (part_of_object t other)) (get_set_other w.objects j n (with_part o i y) (λ q. k (ap v.Obj q))) ∙ e

  -- of a spot that lies apart, of any object
  pub read_apart : place_of t o.of s ≡ Some i → (other : Spot) (b z : Value) → AreApart t s other → read t other b w ≡ Some z → read t other b (stored w j o i y) ≡ Some z
  read_apart lies other (v.Int n) z k e = absurd (none_some e)
  read_apart lies other v.Null z k e = absurd (none_some e)
  read_apart lies other (v.Obj n) z k e = elim (eqb_tells n j) [ inl q ↦ same q.1 | inr q ↦ read_elsewhere other (v.Obj n) z (λ r. q.1 (obj_same r)) e ]
    where
      part : (q : Option ℕ) → place_of t o.of other ≡ q → option_and_then (slice_get o.parts) q ≡ Some z → option_and_then (slice_get (slice_set o.parts i y)) q ≡ Some z
      part None p r = absurd (none_some r)
      part (Some m) p r = get_set_other o.parts i m y (λ d. k o.of i lies (p ∙ ap Some d)) ∙ r

      same : n ≡ j → read t other (v.Obj n) (stored w j o i y) ≡ Some z
      same q =
          let old : part_of_object t other o ≡ Some z = ap (option_and_then (part_of_object t other)) (sym object) ∙ ap (λ m. option_and_then (part_of_object t other) (slice_get w.objects m)) (sym q) ∙ e in
          ap (λ m. option_and_then (part_of_object t other) (slice_get (slice_set w.objects j (with_part o i y)) m)) q
          ∙ ap (option_and_then (part_of_object t other)) (get_set_same w.objects j o (with_part o i y) object) ∙ part (place_of t o.of other) refl old

  -- of the spot itself
  pub read_itself : place_of t o.of s ≡ Some i → i < length o.parts → read t s (v.Obj j) (stored w j o i y) ≡ Some y
  read_itself lies inside =
      let old = get_some o.parts i inside in
      ap (option_and_then (part_of_object t s)) (get_set_same w.objects j o (with_part o i y) object)
      ∙ ap (option_and_then (slice_get (slice_set o.parts i y))) lies ∙ get_set_same o.parts i old.0 y old.1

  -- objects keep their kinds
  pub kinds_stored : KindsKept w (stored w j o i y)
  kinds_stored n c e = elim (eqb_tells n j) [
    | inl q ↦ (with_part o i y, ap (slice_get (slice_set w.objects j (with_part o i y))) q.1 ∙ get_set_same w.objects j o (with_part o i y) object, ap (λ (z : Object). z.of) (some_same (sym e ∙ ap (slice_get w.objects) q.1 ∙ object)))
    | inr q ↦ (c, get_set_other w.objects j n (with_part o i y) q.1 ∙ e, refl)
  ]
