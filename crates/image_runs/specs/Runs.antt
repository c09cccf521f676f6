-- Runs of pieces under cuts that grow.
use Rattle.std.specs.Prelude.{◌≡◌, ℕ, ◌<◌, List, Some}
use Rattle.trace_meaning.specs.declared.value.Value.{Value}
use Rattle.trace_meaning.specs.World.{World}
use Rattle.trace_meaning.specs.Legs.{Program, Leave, On, Off, In, Over, At, Ended, Leg}
use Rattle.trace_ops.specs.declared.piece.PieceId.{PieceId}
use Rattle.trace_ops.specs.declared.piece.OptOp.{OptOp}
use Rattle.opt_meaning.specs.Step.{Opt}
use Rattle.trace_meaning.specs.Observed.{world_left}
use Rattle.opt_meaning.specs.Pieces.{PiecesNow}

-- pieces that lead on to one another
abbrev pub PieceProgram : Type 0
PieceProgram = Program PieceId OptOp Opt

-- what the pieces share now
abbrev pub world_now : PieceProgram → PiecesNow → World
world_now a (In q rest s) = a.world s
world_now a (Over q l) = world_left l

-- and between legs
abbrev pub world_leg : Leg PieceId → World
world_leg (At q vs w) = w
world_leg (Ended q l) = world_left l

-- operations count no failures, and pieces begin in the world that they are given
pub record Steady (a : PieceProgram) : Type 0 where
  pub begins : (q : PieceId) (vs : List Value) (w : World) → a.world (a.begin q vs w) ≡ w
  pub goes : (op : OptOp) (s t : Opt) → a.step op s ≡ On t → (a.world t).failures ≡ (a.world s).failures
  pub leaves : (op : OptOp) (s : Opt) (l : Leave) → a.step op s ≡ Off l → (world_left l).failures ≡ (a.world s).failures

-- Other code, of which all pieces that are here are the same, and what a failure below k sees.
pub record Grows (k : ℕ) (here : PieceId → Type 0) (a b : PieceProgram) : Type 0 where
  pub ops : (q : PieceId) → here q → b.ops q ≡ a.ops q
  pub begin : (q : PieceId) (vs : List Value) (w : World) → here q → b.begin q vs w ≡ a.begin q vs w
  pub step : (op : OptOp) (s : Opt) → b.step op s ≡ a.step op s
  pub world : (s : Opt) → b.world s ≡ a.world s
  pub target : (q : PieceId) → here q → b.target q ≡ a.target q
  pub sees : (q : PieceId) (n i : ℕ) → here q → i < k → b.sees q n i ≡ a.sees q n i
  -- what is here leads to what is here
  pub targets : (q : PieceId) → here q → here (a.target q)
  pub bridges : (q r : PieceId) (n i : ℕ) → here q → a.sees q n i ≡ Some r → here r

-- the piece in which a run is, is here
abbrev pub IsHere : (PieceId → Type 0) → PiecesNow → Type 0
IsHere here (In q rest s) = here q
IsHere here (Over q l) = Unit {0}

-- so is that of a leg
abbrev pub IsLegHere : (PieceId → Type 0) → Leg PieceId → Type 0
IsLegHere here (At q vs w) = here q
IsLegHere here (Ended q l) = Unit {0}
