-- Virtual objects in comparisons and guards.
use Rattle.std.proofs.Common.{◌≡◌, ◌≢◌, ℕ, false, eqb, [], ◌∷◌, Some, slice_get, refl, sym, ap, ◌∙◌, inl, inr}
use Rattle.std.proofs.lemmas.Bool.Decides.{eqb_tells}
use Rattle.lists.proofs.Options.{some_same}
use Rattle.trace_ops.specs.declared.trace.Arg.{Arg}
use Rattle.trace_ops.specs.declared.table.Table.{Table}
use Rattle.trace_meaning.specs.declared.value.Value.{Value}
use Rattle.trace_meaning.specs.declared.value.Value.TheVariants as v
use Rattle.trace_meaning.specs.Boxes.{Boxes}
use Rattle.opt_meaning.specs.Agrees.{Facts, Place, ArgIs, IsLive, Agrees}
use Rattle.std.proofs.lemmas.Bool.{ne_eqb, eq-eqb}
use Rattle.trace_meaning.specs.Values.{same_reference}
use Rattle.trace_meaning.specs.Passing.{is_null, has_class, has_class_or_null, is_structure_of, object_has_class}
use Rattle.agreement.specs.Comparing.{VirtualsCompare, VirtualsPass}
use Rattle.agreement.proofs.Reading.{obj_from}

module _ (t : Table) (known : Facts) (boxes : Boxes) (at : Place) (h : Agrees t known boxes at) where
  apart_from : (n j : ℕ) → IsLive known.shapes n → slice_get at.virtuals n ≡ Some j → (a : Arg) (y : Value) → ArgIs at a y → (same_reference (v.Obj j) y ≡ false) × (same_reference y (v.Obj j) ≡ false)
  apart_from n j live names a (v.Int z) w = (refl, refl)
  apart_from n j live names a v.Null w = (refl, refl)
  apart_from n j live names a (v.Obj k) w =
      let o = obj_from (slice_get at.mapped) w.0 k w.2 in
      let ne : j ≢ k = λ e. h.outside n j o.0 live names (o.2 ∙ ap Some (sym e)) in
      (ne_eqb j k ne, ne_eqb k j (λ e. ne (sym e)))

  two : (m n i j : ℕ) → IsLive known.shapes m → IsLive known.shapes n → slice_get at.virtuals m ≡ Some i → slice_get at.virtuals n ≡ Some j → eqb i j ≡ eqb m n
  two m n i j lm ln em en = elim (eqb_tells m n) [
    | inl e ↦ eq-eqb i j (some_same (sym em ∙ ap (slice_get at.virtuals) e.1 ∙ en)) ∙ sym e.0
    | inr e ↦ ne_eqb i j (λ q. e.1 (h.apart m n j lm ln (em ∙ ap Some q) en)) ∙ sym e.0
  ]

pub virtuals_compare : VirtualsCompare
virtuals_compare t known boxes at h n x live w = (
  λ a y is. let s = apart_from t known boxes at h n w.0 live w.1 a y is in (ap (λ z. same_reference z y) w.2 ∙ s.0, ap (same_reference y) w.2 ∙ s.1),
  λ m y other z. ap (λ q. same_reference q y) w.2 ∙ ap (same_reference (v.Obj w.0)) z.2 ∙ two t known boxes at h n m w.0 z.0 live other w.1 z.1,
)

pub virtuals_pass : VirtualsPass
virtuals_pass t known boxes at h n s x live w =
    let k = h.shaped n s live in
    let there : slice_get at.rec.objects w.0 ≡ Some k.recorded = ap (slice_get at.rec.objects) (some_same (sym w.1 ∙ k.names)) ∙ k.there in
    let class : (size : ℕ) → object_has_class size (slice_get at.rec.objects w.0) ≡ Some (is_structure_of size s.of) = λ size. ap (object_has_class size) there ∙ ap (λ o. Some (is_structure_of size o)) k.of in (
      ap (λ z. is_null (z ∷ [])) w.2,
      λ size. ap (λ z. has_class at.rec.objects (Some size) (z ∷ [])) w.2 ∙ class size,
      λ size. ap (λ z. has_class_or_null at.rec.objects (Some size) (z ∷ [])) w.2 ∙ class size,
    )
