-- The operations of a piece, and what each of them defines, uses and needs.
use Rattle.std.specs.Prelude.{◌≡◌, ℕ, ◌+◌, Bool, true, false, Option, Some, None, List, [], ◌∷◌, ◌++◌, length, map, take, slice_get, IsTrue, IsSome}
use Rattle.std.specs.Option.{option_map, IsSomeAnd}
use Rattle.std.specs.List.{All, flat_map, sum_by}
use Rattle.trace_ops.specs.declared.trace.BoxId.{BoxId}
use Rattle.trace_ops.specs.declared.trace.Arg.{Arg}
use Rattle.trace_ops.specs.declared.trace.Descr.TheVariants as descr
use Rattle.trace_ops.specs.declared.table.Table.{Table}
use Rattle.trace_ops.specs.declared.piece.Snapshot.{Snapshot}
use Rattle.trace_ops.specs.declared.piece.Half.TheVariants.{Pre}
use Rattle.trace_ops.specs.declared.piece.PieceId.{PieceId}
use Rattle.trace_ops.specs.declared.piece.OptOp.{OptOp}
use Rattle.trace_ops.specs.declared.piece.OptOp.TheVariants as opt
use Rattle.trace_ops.specs.declared.piece.Piece.{Piece}
use Rattle.trace_ops.specs.Facts.{takes_of}
use Rattle.trace_ops.specs.Classes.{is_guard, is_plain, is_overflowing, reads_overflow}
use Rattle.trace_ops.specs.Fits.{FitArgs, FitsOperation}
use Rattle.trace_ops.specs.Kinds.{kind_of_arg, NamesArg, NamesDescr}
use Rattle.trace_ops.specs.Parts.{boxes_of_arg, boxes_of}

-- the box that the operation gives
abbrev pub results_of : OptOp → List BoxId
results_of (opt.Plain code (Some b) args d) = b ∷ []
results_of _ = []

abbrev pub finished : Option Arg → List Arg
finished (Some a) = a ∷ []
finished None = []

-- the arguments, and what is finished with
abbrev pub args_of : OptOp → List Arg
args_of (opt.Plain code result args d) = args
args_of (opt.Guard code args guard snap) = args
args_of (opt.Exit guard snap) = []
args_of (opt.Jump to args) = args
args_of (opt.Finish value) = finished value

-- the snapshot of a guard or an exit
abbrev pub snapshots_of : OptOp → List Snapshot
snapshots_of (opt.Guard code args guard snap) = snap ∷ []
snapshots_of (opt.Exit guard snap) = snap ∷ []
snapshots_of _ = []

-- the guard that the operation stands for
abbrev pub guards_of : OptOp → List ℕ
guards_of (opt.Guard code args guard snap) = guard ∷ []
guards_of (opt.Exit guard snap) = guard ∷ []
guards_of _ = []

-- the boxes in the arguments and in the snapshot
abbrev pub used_by : OptOp → List BoxId
used_by op = flat_map boxes_of_arg (args_of op) ++ flat_map boxes_of (snapshots_of op)

-- the label's boxes, and then the results
abbrev pub defined_by : Piece → List BoxId
defined_by p = p.label ++ flat_map results_of p.ops

-- those in front of operation k
abbrev pub defined_before : Piece → ℕ → List BoxId
defined_before p k = p.label ++ flat_map results_of (take k p.ops)

-- each operation counts one, and one more for each of its arguments
abbrev pub size_of : Piece → ℕ
size_of p = sum_by (λ op. 1 + length (args_of op)) p.ops

-- the operation ends its piece
abbrev pub is_end : OptOp → Bool
is_end (opt.Plain code result args d) = false
is_end (opt.Guard code args guard snap) = false
is_end (opt.Exit guard snap) = true
is_end (opt.Jump to args) = true
is_end (opt.Finish value) = true

-- guards bear the codes of guards, plain operations those of none, and nothing plain ends its piece
abbrev pub HasItsCode : OptOp → Type 0
HasItsCode (opt.Plain code result args d) = IsTrue (is_plain code)
HasItsCode (opt.Guard code args guard snap) = IsTrue (is_guard code)
HasItsCode _ = Unit {0}

-- arguments, result and descr fit the operation; what is passed and what is finished with are values
abbrev pub FitsTable : Table → OptOp → Type 0
FitsTable t (opt.Plain code result args d) = FitsOperation t code result args d
FitsTable t (opt.Guard code args guard snap) = FitArgs t descr.No (takes_of code) args
FitsTable t (opt.Exit guard snap) = Unit {0}
FitsTable t (opt.Jump to args) = All (λ a. IsSome (kind_of_arg a)) args
FitsTable t (opt.Finish value) = All (λ a. IsSome (kind_of_arg a)) (finished value)

-- the rows that an operation names in its arguments and by its descr are there
abbrev pub NamesRows : Table → OptOp → Type 0
NamesRows t (opt.Plain code result args d) = All (NamesArg t) args × NamesDescr t d
NamesRows t op = All (NamesArg t) (args_of op)

-- an operation that sets overflow, and a guard that reads it
abbrev pub sets_overflow : OptOp → Bool
sets_overflow (opt.Plain code result args d) = is_overflowing code
sets_overflow _ = false

abbrev pub tests_overflow : OptOp → Bool
tests_overflow (opt.Guard code args guard snap) = reads_overflow code
tests_overflow _ = false

-- directly behind each operation that sets overflow stands a guard that reads it
abbrev pub HasItsPair : List OptOp → Type 0
HasItsPair ops = (k : ℕ) → option_map sets_overflow (slice_get ops k) ≡ Some true → option_map tests_overflow (slice_get ops (k + 1)) ≡ Some true

-- and directly in front of each such guard stands such an operation
abbrev pub IsPaired : List OptOp → Type 0
IsPaired ops = (k : ℕ) → option_map tests_overflow (slice_get ops k) ≡ Some true → (j : ℕ) × (k ≡ j + 1) × (option_map sets_overflow (slice_get ops j) ≡ Some true)

-- a jump passes a value of the right kind for each box of the label of its target
abbrev pub FitsLabel : (PieceId → Option (List BoxId)) → OptOp → Type 0
FitsLabel label_of (opt.Jump to args) = IsSomeAnd (label_of to) (λ (label : List BoxId). map kind_of_arg args ≡ map (λ b. Some b.kind) label)
FitsLabel label_of _ = Unit {0}

-- the same of jumps to the preamble of a loop alone
abbrev pub FitsPreamble : (PieceId → Option (List BoxId)) → OptOp → Type 0
FitsPreamble label_of (opt.Jump to args) = to.half ≡ Pre → FitsLabel label_of (opt.Jump to args)
FitsPreamble label_of _ = Unit {0}

-- how many arguments a jump has
abbrev pub jump_args : OptOp → ℕ
jump_args (opt.Jump to args) = length args
jump_args _ = 0
