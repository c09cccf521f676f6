-- The places of an image's instructions.
use Rattle.std.specs.Prelude.{◌≡◌, ℕ, ◌+◌, List, [], ◌∷◌}
use Rattle.lists.specs.Has.{Has}
use Rattle.trace_ops.specs.declared.piece.PieceId.{PieceId}
use Rattle.x64_machine.specs.State.{State}
use Rattle.trace_meaning.specs.World.{World}
use Rattle.trace_meaning.specs.Legs.{Wrong, Over, run}
use Rattle.asm_select.specs.Slots.{Slot, size_of}
use Rattle.image_runs.specs.Image.{Image}
use Rattle.image_runs.specs.Runs.{PieceProgram}
use Rattle.image_runs.specs.Following.{Begun, first_now}

-- the places of slots from a place on
abbrev pub places_from : ℕ → List Slot → List ℕ
places_from p [] = []
places_from p (x ∷ xs) = p ∷ places_from (p + size_of x) xs

-- and of all slots of an image
abbrev pub places_of : Image → List ℕ
places_of g = places_from 0 g.slots

-- the instruction pointer is at one of them
abbrev pub IsAtPlace : Image → State → Type 0
IsAtPlace g s = (place : ℕ) × Has (places_of g) place × (s.at ≡ 0x40000000 + place)

-- the pieces are wrong after some operations
abbrev pub GoWrong : PieceProgram → Begun → Type 0
GoWrong a b = (n : ℕ) × (q : PieceId) × (w : World) × (run a n (first_now a b) ≡ Over q (Wrong w))
