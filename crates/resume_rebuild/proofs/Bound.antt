-- Boxes that have got values stand where each of them does.
use Rattle.std.proofs.Common.{◌≡◌, ◌⊎◌, inl, inr, Bool, true, false, Some, List, [], ◌∷◌, refl, ap, sym, ◌∙◌, subst}
use Rattle.std.specs.List.{AllZip}
use Rattle.std.proofs.lemmas.Option.{same_Some}
use Rattle.trace_ops.specs.declared.trace.BoxId.{BoxId}
use Rattle.trace_ops.specs.Parts.{parts_of}
use Rattle.trace_meaning.specs.declared.value.Value.{Value}
use Rattle.trace_meaning.specs.Boxes.{Boxes, BoxesDecide, BindingLaws, same_box, value_in, bind, bind_all, bound_to}
use Rattle.trace_meaning.specs.Kept.{alone}
use Rattle.resume_rebuild.proofs.ArenaLaws.{ArenaLaws}
use Rattle.resume_rebuild.specs.Standing.{BoxStands}
use Rattle.resume_rebuild.specs.Laws.{RebuildsFromParts}
use Rattle.resume_rebuild.proofs.Meaning.{rebuilds_what_is_meant}

bound_cases : BoxesDecide → BindingLaws → (b c : BoxId) (x y : Value) (es : Boxes) → value_in (bind b x es) c ≡ Some y → ((c ≡ b) × (y ≡ x)) ⊎ (value_in es c ≡ Some y)
bound_cases decide binding b c x y es h = by (same_box c b) refl
  where
    by : (t : Bool) → same_box c b ≡ t → ((c ≡ b) × (y ≡ x)) ⊎ (value_in es c ≡ Some y)
    by true e =
        let same : c ≡ b = (decide c b).0 e in
        inl (same, same_Some y x (sym h ∙ ap (value_in (bind b x es)) same ∙ binding.same b x es))
    by false e = inr (sym (binding.other b c x es (λ same. absurd (let other : same_box c b ≡ true = (decide c b).1 same in cc))) ∙ h)

bound_hold : BoxesDecide → BindingLaws → (P : BoxId → Value → Type 0) (es : Boxes) (bs : List BoxId) (vs : List Value) → ((c : BoxId) (y : Value) → value_in es c ≡ Some y → P c y) → AllZip P bs vs → (c : BoxId) (y : Value) → value_in (bind_all es bs vs) c ≡ Some y → P c y
bound_hold decide binding P es [] [] held h c y e = held c y e
bound_hold decide binding P es [] (v ∷ vs) held h c y e = absurd h
bound_hold decide binding P es (b ∷ bs) [] held h c y e = absurd h
bound_hold decide binding P es (b ∷ bs) (x ∷ xs) held h c y e =
    bound_hold decide binding P (bind b x es) bs xs (λ d z g. one d z (bound_cases decide binding b d x z es g)) h.1 c y e
  where
    one : (d : BoxId) (z : Value) → ((d ≡ b) × (z ≡ x)) ⊎ (value_in es d ≡ Some z) → P d z
    one d z (inl same) = subst (λ w. P d w) (sym same.1) (subst (λ w. P w x) (sym same.0) h.0)
    one d z (inr there) = held d z there

pub rebuilds_from_parts : ArenaLaws → BoxesDecide → BindingLaws → RebuildsFromParts
rebuilds_from_parts laws decide binding t snap vs w places frame arena r lists st boxes can room e =
    rebuilds_what_is_meant laws t snap (value_in (bound_to (parts_of snap) vs)) (alone w) places frame arena r lists st
    (bound_hold decide binding (BoxStands w.objects places frame) [] (parts_of snap) vs (λ c y none. absurd (cc)) boxes) can room e
