-- Attachments by their number.
use Rattle.std.specs.Prelude.{◌≡◌, ℕ, zero, suc, ◌+◌, ◌<◌, List, [], ◌∷◌, Some, length, slice_get}
use Rattle.trace_ops.specs.declared.trace.TraceSet.{TraceSet}
use Rattle.bridge_patch.specs.Pieces.{Placed}
use Rattle.bridge_patch.specs.Image.{Imaged}
use Rattle.set_in_image.specs.Placing.{Step, placed_behind, image_behind, IsStep, AreSteps}

-- behind so many attachments
abbrev pub placed_at : List Placed → List Step → ℕ → List Placed
placed_at placed steps zero = placed
placed_at placed [] (suc j) = placed
placed_at placed (s ∷ steps) (suc j) = placed_at s.placed steps j

abbrev pub image_at : Imaged → List Step → ℕ → Imaged
image_at image steps zero = image
image_at image [] (suc j) = image
image_at image (s ∷ steps) (suc j) = image_at s.image steps j

-- attachment j is made to what stands behind j of them, and gives what stands behind one more
pub record IsStepAt (set : TraceSet) (placed : List Placed) (image : Imaged) (steps : List Step) (j : ℕ) (s : Step) : Type 0 where
  pub there : slice_get steps j ≡ Some s
  pub step : IsStep set (placed_at placed steps j) (image_at image steps j) s
  pub placed_next : placed_at placed steps (j + 1) ≡ s.placed
  pub image_next : image_at image steps (j + 1) ≡ s.image

-- so is each attachment of a history, and behind all of them is what is behind the last
pub record AreNumbered (set : TraceSet) (placed : List Placed) (image : Imaged) (steps : List Step) : Type 0 where
  pub each : (j : ℕ) → j < length steps → (s : Step) × IsStepAt set placed image steps j s
  pub placed_last : placed_at placed steps (length steps) ≡ placed_behind placed steps
  pub image_last : image_at image steps (length steps) ≡ image_behind image steps

abbrev pub StepsAreNumbered : Type 0
StepsAreNumbered = (set : TraceSet) (placed : List Placed) (image : Imaged) (steps : List Step) → AreSteps set placed image steps → AreNumbered set placed image steps
