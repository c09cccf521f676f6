-- The image of a trace set.
use Rattle.std.specs.Prelude.{◌≡◌, ℕ, ◌+◌, ◌≤◌, List, [], ◌∷◌, ◌++◌, length, map, Option, true, if◌then◌else◌}
use Rattle.std.specs.Option.{option_map}
use Rattle.std.specs.List.{All, AllByRecursion}
use Rattle.trace_ops.specs.declared.trace.Origin.{Origin}
use Rattle.trace_ops.specs.declared.trace.Origin.TheVariants.{Loop, Bridge}
use Rattle.trace_ops.specs.declared.trace.BoxId.{BoxId}
use Rattle.trace_ops.specs.declared.trace.Trace.{Trace}
use Rattle.trace_ops.specs.declared.trace.TraceSet.{TraceSet}
use Rattle.trace_ops.specs.declared.piece.Half.TheVariants as half
use Rattle.trace_ops.specs.declared.piece.PieceId.{PieceId}
use Rattle.trace_ops.specs.declared.piece.OptOp.{OptOp}
use Rattle.trace_ops.specs.declared.piece.OptOp.TheVariants as opt
use Rattle.code_layout.specs.Chosen.{can_fail}
use Rattle.trace_ops.specs.declared.piece.Piece.{Piece}
use Rattle.trace_ops.specs.declared.piece.OptTrace.{OptTrace}
use Rattle.trace_ops.specs.InRange.{IsInRange}
use Rattle.trace_ops.specs.Sound.{IsSound}
use Rattle.trace_ops.specs.Weights.{weight_of}
use Rattle.opt_meaning.specs.Pieces.{same_piece, piece_at, all_pieces}
use Rattle.opt_meaning.specs.Worded.{OpHasWords}
use Rattle.guard_exit.specs.declared.row.ExitRow.{ExitRow}
use Rattle.guard_exit.specs.Codes.{common_code}
use Rattle.resume_numbering.specs.Numbered.{IsNumbered}
use Rattle.bridge_patch.specs.declared.image.PieceHere.{PieceHere}
use Rattle.bridge_patch.specs.declared.image.Change.{Change}
use Rattle.bridge_patch.specs.Pieces.{Placed, start_of, spelled, all_bytes, AreLaid, IsChosen, start_in, AllLead, all_rows, loop_front, label_at}

-- What contracts see of an image: how many registers its boxes may have; the bytes of the code; for each piece in it where it begins,
-- where its first operation stands, the places of its label and its resume table; the rows of exits; the attached bridges, and what
-- each of them changed.
pub record Imaged : Type 0 where
  pub registers : ℕ
  pub bytes : List ℕ
  pub pieces : List PieceHere
  pub exits : List ExitRow
  pub attached : List ℕ
  pub changes : List Change

-- what is kept of a piece in the code
pub record IsHere (pl : Placed) (here : PieceHere) : Type 0 where
  pub id : here.id ≡ pl.piece.id
  pub begins : here.at ≡ pl.at
  pub start : here.start ≡ start_of pl
  pub label : here.label ≡ label_at pl
  pub table : IsNumbered here.table pl.piece

abbrev pub AreHere : List Placed → List PieceHere → Type 0
AreHere [] [] = Unit {0}
AreHere (pl ∷ pls) (here ∷ heres) = IsHere pl here × AreHere pls heres
AreHere _ _ = ⊥

-- The image of the pieces of a set's loops, to which no bridge is attached. The code is the common exit and then, one behind the
-- other, the pieces; each jump leads to the start of its piece or to the stub of its exit; and there is a row for each exit.
pub record IsImage (set : TraceSet) (ps : List Piece) (image : Imaged) : Type 0 where
  pub placed : List Placed
  pub pieces : map (λ (pl : Placed). pl.piece) placed ≡ ps
  pub fronts : AllByRecursion (λ (pl : Placed). pl.front ≡ loop_front pl.piece.id.half) placed
  pub code : image.bytes ≡ spelled common_code ++ all_bytes placed
  pub end : ℕ
  pub last : ℕ
  pub laid : AreLaid (length (spelled common_code)) 0 placed end last
  pub chosen : AllByRecursion (IsChosen set) placed
  pub leads : AllByRecursion (AllLead (start_in placed)) placed
  pub exits : image.exits ≡ all_rows placed
  pub heres : AreHere placed image.pieces

-- ---- what is compiled

-- the pieces of the loop at this place: the preamble alone, or with its body
abbrev pub ArePiecesOf : ℕ → List Piece → Type 0
ArePiecesOf k (p ∷ []) = p.id ≡ record { trace = k; half = half.Pre }
ArePiecesOf k (p ∷ q ∷ []) = (p.id ≡ record { trace = k; half = half.Pre }) × (q.id ≡ record { trace = k; half = half.Body })
ArePiecesOf k ps = ⊥

-- the places of the loops among these traces, of which the first is at this place
abbrev pub loop_if : Origin → ℕ → List ℕ
loop_if Loop k = k ∷ []
loop_if (Bridge parent guard) k = []

abbrev pub loops_from : ℕ → List Trace → List ℕ
loops_from k [] = []
loops_from k (t ∷ ts) = loop_if t.origin k ++ loops_from (k + 1) ts

-- one entry a loop, in order
abbrev pub AreOfLoops : List ℕ → List OptTrace → Type 0
AreOfLoops [] [] = Unit {0}
AreOfLoops (k ∷ ks) (o ∷ os) = ArePiecesOf k o.pieces × AreOfLoops ks os
AreOfLoops _ _ = ⊥

-- the labels of pieces
abbrev pub label_in : List Piece → PieceId → Option (List BoxId)
label_in ps q = option_map (λ (p : Piece). p.label) (piece_at ps q)

-- no guard on an exception is kept: it always passes
abbrev pub KeepsItsGuard : OptOp → Type 0
KeepsItsGuard (opt.Guard operation args n snap) = can_fail operation ≡ true
KeepsItsGuard op = Unit {0}

-- Sound pieces of all loops of a set in range that isn't too heavy. Their jumps lead to one another; their constants are words, and
-- they keep no guard on an exception.
pub record CanCompile (set : TraceSet) (loops : List OptTrace) (registers : ℕ) : Type 0 where
  pub range : IsInRange set
  pub light : weight_of set ≤ 131072
  pub within : (3 ≤ registers) × (registers ≤ 12)
  pub each : AreOfLoops (loops_from 0 set.traces) loops
  pub sound : AllByRecursion (IsSound set (label_in (all_pieces loops))) (all_pieces loops)
  pub words : AllByRecursion (λ (p : Piece). All OpHasWords p.ops) (all_pieces loops)
  pub guards : AllByRecursion (λ (p : Piece). All KeepsItsGuard p.ops) (all_pieces loops)

-- where the loop of this trace is entered
abbrev pub entry_in : List PieceHere → PieceId → ℕ
entry_in [] q = 0
entry_in (here ∷ heres) q = if same_piece q here.id then here.at else entry_in heres q
