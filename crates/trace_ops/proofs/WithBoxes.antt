-- Boxes that are added one list after another.
use Rattle.std.proofs.Common.{◌≡◌, ℕ, suc, ◌+◌, ◌<◌, ◌≤◌, List, [], ◌∷◌, ◌++◌, length, get_or, drop, refl, ap, sym, ◌∙◌, add-one, drop-cons}
use Rattle.std.specs.List.{flat_map}
use Rattle.std.proofs.lemmas.List.{drop_all}
use Rattle.trace_ops.specs.declared.trace.BoxId.{BoxId}
use Rattle.trace_ops.specs.Parts.{with_boxes}

pub with_boxes-append : (xs kept ys : List BoxId) → with_boxes kept (xs ++ ys) ≡ with_boxes (with_boxes kept xs) ys
unfolding with_boxes
with_boxes-append [] kept ys = refl
with_boxes-append (x ∷ xs) kept ys = with_boxes-append xs _ ys

pub with_boxes-nil : (kept : List BoxId) → with_boxes kept [] ≡ kept
unfolding with_boxes
with_boxes-nil kept = refl

-- one item more of those that a loop goes over
pub noted_more : {X : Type 0} (f : X → List BoxId) (xs : List X) (i : ℕ) (x : X) (kept next whole : List BoxId) → i < length xs → next ≡ with_boxes kept (f (get_or xs i x)) → with_boxes kept (flat_map f (drop i xs)) ≡ whole → with_boxes next (flat_map f (drop (i + 1) xs)) ≡ whole
noted_more f xs i x kept next whole within e h =
    let front : drop i xs ≡ get_or xs i x ∷ drop (suc i) xs = drop-cons xs i x within in
    let more : i + 1 ≡ suc i = add-one i in
    ap (λ j. with_boxes next (flat_map f (drop j xs))) more
    ∙ ap (λ k. with_boxes k (flat_map f (drop (suc i) xs))) e
    ∙ sym (with_boxes-append (f (get_or xs i x)) kept (flat_map f (drop (suc i) xs)))
    ∙ ap (λ rest. with_boxes kept (flat_map f rest)) (sym front)
    ∙ h

-- after the last item
pub noted_all : {X : Type 0} (f : X → List BoxId) (xs : List X) (i : ℕ) (kept whole : List BoxId) → length xs ≤ i → with_boxes kept (flat_map f (drop i xs)) ≡ whole → kept ≡ whole
noted_all f xs i kept whole past h =
    sym (with_boxes-nil kept) ∙ ap (λ rest. with_boxes kept (flat_map f rest)) (sym (drop_all i xs past)) ∙ h

pub ruleset append = (with_boxes-append, with_boxes-nil)
