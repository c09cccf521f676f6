-- More is known, and all that agreed still does.
use Rattle.std.proofs.Common.{◌≡◌, ℕ, Bool, true, false, cond, [], ◌∷◌, ◌++◌, Option, Some, None, slice_get, refl, sym, ap, ◌∙◌, subst, inl, inr}
use Rattle.lists.proofs.Eaches.{each_weaker, each_append}
use Rattle.lists.proofs.Options.{some_same, none_some}
use Rattle.trace_ops.specs.declared.trace.BoxId.{BoxId}
use Rattle.trace_ops.specs.declared.trace.Arg.TheVariants.{Of}
use Rattle.trace_ops.specs.declared.piece.Val.TheVariants.{Known}
use Rattle.trace_ops.specs.declared.piece.Fact.TheVariants as fact
use Rattle.trace_meaning.specs.declared.value.Value.{Value}
use Rattle.trace_meaning.specs.Boxes.{BoxesDecide, Boxes, same_box, value_in, bind}
use Rattle.trace_meaning.specs.Folding.{fold}
use Rattle.heap_shape.specs.Sameness.{Maps, MapsIf}
use Rattle.opt_meaning.specs.Agrees.{Place, NameIs, StoreIs, FactHolds}
use Rattle.agreement.specs.Growing.{Extends, with_box, named, BoxesGrow, NamesGrow, FactsChange, FactsGrow, PureAgrees}
use Rattle.agreement.proofs.Further.{Further, kinds-same, read-same, fact-same, name-further, store-further, fact-further, pending-further, zip-further, all_values-extends}
use Rattle.agreement.proofs.Folding.{folds_alike}

-- Boxes of the piece

further-box : (at : Place) (g : BoxId → Option Value) → Extends at.box g → Further at (with_box at g)
further-box at g more = record { box = more; mapped = λ x j e. e; virtuals = λ n j e. e; kinds = kinds-same at.opt }

pub boxes_grow : BoxesGrow
boxes_grow t known boxes at h g more =
    let to = with_box at g in
    let f = further-box at g more in
    record {
      first = h.first;
      covers = h.covers;
      counts = h.counts;
      injective = h.injective;
      alike = h.alike;
      outside = h.outside;
      apart = h.apart;
      shaped = λ n s e. let k = h.shaped n s e in record { object = k.object; names = k.names; recorded = k.recorded; there = k.there; of = k.of; parts = zip-further at to f s.parts k.recorded.parts k.parts };
      names = λ b. name-further at to f (known.names b) (value_in boxes b) (h.names b);
      parts = λ x j i a b y e1 e2 e3 e4. elim (h.parts x j i a b y e1 e2 e3 e4) [ inl u ↦ inl (pending-further at to f t known.pending x i u) | inr u ↦ inr u ];
      pending = each_weaker (StoreIs t at) (StoreIs t to) (λ p. store-further at to f t p (read-same t p.spot at)) known.pending h.pending;
      facts = each_weaker (FactHolds t at) (FactHolds t to) (λ x. fact-further at to f t x (fact-same t at x)) known.facts h.facts;
      calls = h.calls;
      answers = h.answers;
      failures = h.failures;
    }

-- Recorded boxes

pub same_itself : BoxesDecide → (b : BoxId) → same_box b b ≡ true
same_itself d b = (d b b).1 refl

pub bound_same : BoxesDecide → (b : BoxId) (x : Value) (es : Boxes) → value_in (bind b x es) b ≡ Some x
bound_same d b x [] = ap (λ s. cond s (Some x) None) (same_itself d b)
bound_same d b x (e ∷ es) = elim (same_box b e.0) as (λ s. same_box b e.0 ≡ s → value_in (cond s ((e.0, x) ∷ es) (e ∷ bind b x es)) b ≡ Some x) [
  | true ↦ λ h. ap (λ s. cond s (Some x) (value_in es b)) h
  | false ↦ λ h. ap (λ s. cond s (Some e.1) (value_in (bind b x es) b)) h ∙ bound_same d b x es
] refl

not_both : true ≡ false → ⊥
not_both e = cc

pub bound_other : BoxesDecide → (b c : BoxId) (x : Value) (es : Boxes) → same_box c b ≡ false → value_in (bind b x es) c ≡ value_in es c
bound_other d b c x [] h = ap (λ s. cond s (Some x) None) h
bound_other d b c x (e ∷ es) h = elim (same_box b e.0) as (λ s. same_box b e.0 ≡ s → value_in (cond s ((e.0, x) ∷ es) (e ∷ bind b x es)) c ≡ value_in (e ∷ es) c) [
  | true ↦ λ own.
      let apart : same_box c e.0 ≡ false = ap (same_box c) (sym ((d b e.0).0 own)) ∙ h in
      ap (λ s. cond s (Some x) (value_in es c)) apart ∙ sym (ap (λ s. cond s (Some e.1) (value_in es c)) apart)
  | false ↦ λ own. ap (λ r. cond (same_box c e.0) (Some e.1) r) (bound_other d b c x es h)
] refl

pub names_grow : BoxesDecide → NamesGrow
names_grow d t known boxes at h b x y is = record {
  first = h.first;
  covers = h.covers;
  counts = h.counts;
  injective = h.injective;
  alike = h.alike;
  outside = h.outside;
  apart = h.apart;
  shaped = h.shaped;
  names = λ c. by c (same_box c b) refl;
  parts = h.parts;
  pending = h.pending;
  facts = h.facts;
  calls = h.calls;
  answers = h.answers;
  failures = h.failures;
}
  where
    by : (c : BoxId) (s : Bool) → same_box c b ≡ s → NameIs at (cond s (Some x) (known.names c)) (value_in (bind b y boxes) c)
    by c true e = subst (NameIs at (Some x)) (sym (ap (value_in (bind b y boxes)) ((d c b).0 e) ∙ bound_same d b y boxes)) is
    by c false e = subst (NameIs at (known.names c)) (sym (bound_other d b c y boxes e)) (h.names c)

-- Facts

pub facts_change : FactsChange
facts_change t known boxes at h facts hold = record {
  first = h.first;
  covers = h.covers;
  counts = h.counts;
  injective = h.injective;
  alike = h.alike;
  outside = h.outside;
  apart = h.apart;
  shaped = h.shaped;
  names = h.names;
  parts = h.parts;
  pending = h.pending;
  facts = hold;
  calls = h.calls;
  answers = h.answers;
  failures = h.failures;
}

pub facts_grow : FactsGrow
facts_grow t known boxes at h x holds = facts_change t known boxes at h (known.facts ++ x ∷ []) (each_append (FactHolds t at) known.facts (x ∷ []) h.facts (holds, tt))

-- A pure operation on both sides

given_too : (m : ℕ → Option ℕ) (a b : Option Value) (y : Value) → MapsIf m a b → b ≡ Some y → (u : Value) × (a ≡ Some u) × Maps m u y
given_too m None None y h e = absurd (none_some e)
given_too m None (Some z) y h e = absurd h
given_too m (Some u) None y h e = absurd h
given_too m (Some u) (Some z) y h e = (u, refl, subst (Maps m u) (some_same e) h)

pub pure_agrees : BoxesDecide → PureAgrees
pure_agrees d t known boxes at h operation args us ys y b c ea maps ey =
    let s = given_too (slice_get at.mapped) (fold operation us) (fold operation ys) y (folds_alike operation _ at.mapped h.injective us ys maps) ey in (
      s.0,
      s.1,
      λ g more gc.
          let to = with_box at g in
          let first = boxes_grow t known boxes at h g more in
          let second = names_grow d t known boxes to first b (Known (Of c)) y (s.0, gc, s.2) in
          facts_grow t (record known { names = named b (Known (Of c)) known.names }) (bind b y boxes) to second (fact.Same operation args (Of c))
          (us, all_values-extends at.box g more args us ea, s.0, s.1, gc),
    )
