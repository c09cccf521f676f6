-- Attachments by their number.
use Rattle.std.proofs.Common.{◌≡◌, ℕ, zero, suc, ◌+◌, ◌<◌, List, [], ◌∷◌, length, refl, ap, ◌∙◌, arith}
use Rattle.trace_ops.specs.declared.trace.TraceSet.{TraceSet}
use Rattle.bridge_patch.specs.Pieces.{Placed}
use Rattle.bridge_patch.specs.Image.{Imaged}
use Rattle.set_in_image.specs.Placing.{Step, placed_behind, image_behind, AreSteps}
use Rattle.set_in_image.specs.Steps.{placed_at, image_at, IsStepAt, StepsAreNumbered}

first_placed : (placed : List Placed) (steps : List Step) → placed_at placed steps zero ≡ placed
first_placed placed [] = refl
first_placed placed (s ∷ steps) = refl

first_image : (image : Imaged) (steps : List Step) → image_at image steps zero ≡ image
first_image image [] = refl
first_image image (s ∷ steps) = refl

last_placed : (placed : List Placed) (steps : List Step) → placed_at placed steps (length steps) ≡ placed_behind placed steps
last_placed placed [] = refl
last_placed placed (s ∷ steps) = last_placed s.placed steps

last_image : (image : Imaged) (steps : List Step) → image_at image steps (length steps) ≡ image_behind image steps
last_image image [] = refl
last_image image (s ∷ steps) = last_image s.image steps

one_at : (set : TraceSet) (placed : List Placed) (image : Imaged) (steps : List Step) → AreSteps set placed image steps → (j : ℕ) → j < length steps → (s : Step) × IsStepAt set placed image steps j s
one_at set placed image [] all j lt = absurd (omega (arith, lt))
one_at set placed image (s ∷ steps) all zero lt = (s, record { there = refl; step = all.0; placed_next = first_placed s.placed steps; image_next = first_image s.image steps })
one_at set placed image (s ∷ steps) all (suc j) lt =
    let r = one_at set s.placed s.image steps all.1 j (omega (arith, lt)) in
    let one : suc j + 1 ≡ suc (j + 1) = omega arith in (
      r.0,
      record {
        there = r.1.there;
        step = r.1.step;
        placed_next = ap (placed_at placed (s ∷ steps)) one ∙ r.1.placed_next;
        image_next = ap (image_at image (s ∷ steps)) one ∙ r.1.image_next;
      },
    )

pub are_numbered : StepsAreNumbered
are_numbered set placed image steps all = record { each = one_at set placed image steps all; placed_last = last_placed placed steps; image_last = last_image image steps }
