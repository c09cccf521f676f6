-- The image that compiled pieces are. Keys are numbered through: behind those of a piece's operations come those of the next.
use Rattle.std.specs.Prelude.{ℕ, ◌+◌, ◌-◌, ◌==◌, nat_lt, if◌then◌else◌, pos, List, [], ◌∷◌, ◌++◌, length, Option, Some, None, slice_get}
use Rattle.trace_ops.specs.declared.piece.Half.TheVariants.{Pre}
use Rattle.trace_ops.specs.declared.piece.PieceId.{PieceId}
use Rattle.trace_ops.specs.declared.piece.OptOp.{OptOp}
use Rattle.opt_meaning.specs.Pieces.{same_piece}
use Rattle.guard_exit.specs.Codes.{common_code}
use Rattle.asm_select.specs.declared.told.Told.TheVariants as tell
use Rattle.asm_select.specs.Slots.{Slot, Put, Leave, Go, Jumps, size_of, puts}
use Rattle.asm_select.specs.Chosen.{Setting, all_code}
use Rattle.code_layout.specs.Leading.{way}
use Rattle.bridge_patch.specs.Pieces.{Placed, stubs_of, exits_in, exit_of, stub_of, stubs_from}
use Rattle.image_runs.specs.Selection.{Exit, Inside}
use Rattle.image_runs.specs.Selection as runs
use Rattle.image_runs.specs.Image.{Image}
use Rattle.image_model.specs.Laws.{codes_from}

-- the setting of a piece whose first operation has this key: the moves of calls are told by key
abbrev pub keyed : ℕ → Setting → Setting
keyed b st = record st { call_moves = λ (k : ℕ). st.call_moves (k - b) }

-- the slots of a piece: what stands in front, the operations, and the stubs
abbrev pub slots_of : ℕ → Placed → List Slot
slots_of b pl =
    puts pl.front ++ (all_code (keyed b pl.setting) b tell.Nothing pl.piece.ops ++ puts (stubs_from (stubs_of pl) pl.exit (exits_in pl.piece.ops)))

-- of pieces, of which the first has this key
abbrev pub slots_from : ℕ → List Placed → List Slot
slots_from b [] = []
slots_from b (pl ∷ pls) = slots_of b pl ++ slots_from (b + length pl.piece.ops) pls

-- behind the common exit
abbrev pub all_slots : List Placed → List Slot
all_slots pls = puts common_code ++ slots_from 0 pls

-- the piece in the code
abbrev pub run_of : ℕ → Placed → runs.Placed
run_of b pl = record {
  id = pl.piece.id;
  at = pl.at;
  key = b;
  moves = puts pl.front;
  codes = codes_from (keyed b pl.setting) b tell.Nothing pl.piece.ops;
}

abbrev pub runs_from : ℕ → List Placed → List runs.Placed
runs_from b [] = []
runs_from b (pl ∷ pls) = run_of b pl ∷ runs_from (b + length pl.piece.ops) pls

-- what is said of the operation with this key, counted from the first piece on
abbrev pub by_key : {X : Type 0} → X → (Placed → ℕ → X) → List Placed → ℕ → X
by_key none f [] e = none
by_key none f (pl ∷ pls) e = if nat_lt e (length pl.piece.ops) then f pl e else by_key none f pls (e - length pl.piece.ops)

-- the displacements of jumps that lead to places, among slots from a place on
abbrev pub by_of : (ℕ → ℕ) → ℕ → List Slot → Jumps
by_of to p [] j = pos 0
by_of to p (Put i ∷ xs) j = by_of to (p + size_of (Put i)) xs j
by_of to p (Leave c k ∷ xs) j = if j == k then way (p + 6) (to k) else by_of to (p + 6) xs j
by_of to p (Go k ∷ xs) j = if j == k then way (p + 5) (to k) else by_of to (p + 5) xs j

abbrev pub exit_if : Option OptOp → Exit
exit_if None = Inside
exit_if (Some op) = runs.exit_of op

abbrev pub to_all : List Placed → ℕ → ℕ
to_all pls = by_key 0 (λ (pl : Placed) (k : ℕ). pl.to k) pls

-- the image of pieces in the code
abbrev pub image_of : List Placed → Image
image_of pls = record {
  slots = all_slots pls;
  by = by_of (to_all pls) 0 (all_slots pls);
  placed = runs_from 0 pls;
  exit = by_key Inside (λ (pl : Placed) (k : ℕ). exit_if (slice_get pl.piece.ops k)) pls;
  owner = by_key (record { trace = 0; half = Pre }) (λ (pl : Placed) (k : ℕ). pl.piece.id) pls;
  number = by_key 0 exit_of pls;
  stub = by_key 0 stub_of pls;
  leap = by_key (pos 0) (λ (pl : Placed) (k : ℕ). way (stub_of pl k + 16) 0) pls;
  common = 0;
}

-- the setting of each piece; of one that isn't here, another one
abbrev pub settings_from : ℕ → List Placed → (PieceId → Setting) → PieceId → Setting
settings_from b [] other q = other q
settings_from b (pl ∷ pls) other q = if same_piece q pl.piece.id then keyed b pl.setting else settings_from (b + length pl.piece.ops) pls other q
