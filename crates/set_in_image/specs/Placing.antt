-- A set's optimised pieces and the image in which they stand: compiled from the loops, and grown by one bridge after another.
use Rattle.std.specs.Prelude.{◌≡◌, ℕ, List, [], ◌∷◌, ◌++◌, map}
use Rattle.trace_ops.specs.declared.trace.TraceSet.{TraceSet}
use Rattle.trace_ops.specs.declared.piece.OptTrace.{OptTrace}
use Rattle.opt_meaning.specs.Pieces.{all_pieces}
use Rattle.bridge_patch.specs.Pieces.{Placed}
use Rattle.bridge_patch.specs.Image.{Imaged, CanCompile, IsImage}
use Rattle.bridge_patch.specs.Attached.{IsImageOf, CanAttach, IsChanged, IsGrown, led_on}
use Rattle.loop_peel.specs.declared.peeling.Peeled.{Peeled}
use Rattle.opt_set.specs.Optimised.{Optimised, IsOptimised, with_bridge}
use Rattle.opt_set.specs.Attaching.{IsOneMore}
use Rattle.set_in_image.specs.Attaching.{StandIn}

-- What contracts see of a set with its optimised pieces and its image.
pub record Placing : Type 0 where
  pub set : TraceSet
  pub optimised : Optimised
  pub image : Imaged

-- ---- how the image came to be

-- an attachment: the bridge and its pieces, and the image with the placed pieces in it behind the attachment
pub record Step : Type 0 where
  pub bridge : ℕ
  pub opt : OptTrace
  pub placed : List Placed
  pub image : Imaged

-- the pieces of loops, the image that was compiled of them with the placed pieces in it, and the attachments, in order
pub record History : Type 0 where
  pub loops : List OptTrace
  pub placed : List Placed
  pub first : Imaged
  pub steps : List Step

abbrev pub with_step : History → Step → History
with_step h s = record { loops = h.loops; placed = h.placed; first = h.first; steps = h.steps ++ s ∷ [] }

-- behind all steps
abbrev pub placed_behind : List Placed → List Step → List Placed
placed_behind placed [] = placed
placed_behind placed (s ∷ steps) = placed_behind s.placed steps

abbrev pub image_behind : Imaged → List Step → Imaged
image_behind image [] = image
image_behind image (s ∷ steps) = image_behind s.image steps

-- the attachment may be made to the image of these placed pieces, and is made
pub record IsStep (set : TraceSet) (placed : List Placed) (image : Imaged) (s : Step) : Type 0 where
  pub can : CanAttach set image s.bridge s.opt.pieces
  pub at : can.placed ≡ placed
  pub changed : IsChanged set s.bridge s.opt.pieces image s.image
  pub grown : IsGrown set s.bridge s.opt.pieces placed image s.image
  pub next : s.placed ≡ map (led_on set.traces s.bridge grown.news) placed ++ grown.news

abbrev pub AreSteps : TraceSet → List Placed → Imaged → List Step → Type 0
AreSteps set placed image [] = Unit {0}
AreSteps set placed image (s ∷ steps) = IsStep set placed image s × AreSteps set s.placed s.image steps

-- The pieces of the loops were compiled, and then the bridges attached one after another, to no other image: so it came to these
-- optimised pieces, which stand in this image.
pub record IsHistory (set : TraceSet) (h : History) (o : Optimised) (image : Imaged) : Type 0 where
  pub registers : ℕ
  pub can : CanCompile set h.loops registers
  pub compiled : IsImage set (all_pieces h.loops) h.first
  pub at : compiled.placed ≡ h.placed
  pub first_of : IsImageOf set h.placed h.first
  pub none : h.first.attached ≡ []
  pub steps : AreSteps set h.placed h.first h.steps
  pub last : image_behind h.first h.steps ≡ image
  pub stand : StandIn set o (placed_behind h.placed h.steps) image
  pub traces : o.traces ≡ h.loops ++ map (λ (s : Step). s.opt) h.steps
  pub attached : o.attached ≡ map (λ (s : Step). s.bridge) h.steps

-- nothing was attached since the loops were compiled
abbrev pub HasNoStep : Placing → Type 0
HasNoStep p = (placed : List Placed) × IsHistory p.set (record { loops = p.optimised.traces; placed = placed; first = p.image; steps = [] }) p.optimised p.image

-- all pieces are those of an optimised set, and stand in the image that came to be so
pub record IsPlaced (set : TraceSet) (o : Optimised) (image : Imaged) : Type 0 where
  pub optimised : IsOptimised set o
  pub history : History
  pub is : IsHistory set history o image

-- ---- one attachment

-- With these pieces of a bridge the set is an optimised one too, to which one bridge more is attached.
pub record IsReady (bridge : ℕ) (made : Peeled) (p : Placing) : Type 0 where
  pub optimised : IsOptimised p.set (with_bridge p.optimised bridge made.opt made.at_guards)
  pub one : IsOneMore p.optimised (with_bridge p.optimised bridge made.opt made.at_guards)

-- A bridge more is attached to the set, and its pieces to the image: whatever the history was, this attachment is its last one.
pub record IsAttached (bridge : ℕ) (old new : Placing) : Type 0 where
  pub set : new.set ≡ old.set
  pub one : IsOneMore old.optimised new.optimised
  pub named : one.bridge ≡ bridge
  pub changed : IsChanged old.set bridge one.pieces.pieces old.image new.image
  pub lasts : (h : History) → IsHistory old.set h old.optimised old.image
      → (placed : List Placed) × IsHistory old.set (with_step h (record { bridge = bridge; opt = one.pieces; placed = placed; image = new.image })) new.optimised new.image
