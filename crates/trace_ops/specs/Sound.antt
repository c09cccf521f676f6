-- What holds of each piece: what an optimiser of one trace shows, and what is shown where its pieces are put together.
use Rattle.std.specs.Prelude.{◌≡◌, ℕ, ◌+◌, ◌*◌, ◌^◌, ◌<◌, ◌≤◌, ◌↔◌, Option, Some, List, [], ◌∷◌, ◌++◌, length, map, slice_get, IsTrue}
use Rattle.std.specs.Option.{IsSomeAnd}
use Rattle.std.specs.List.{All, Contains, flat_map, sum_by, count_by, range_with_len}
use Rattle.trace_ops.specs.declared.trace.BoxId.{BoxId}
use Rattle.trace_ops.specs.declared.trace.Arg.{Arg}
use Rattle.trace_ops.specs.declared.trace.Arg.TheVariants as arg
use Rattle.trace_ops.specs.declared.trace.Op.{Op}
use Rattle.trace_ops.specs.declared.trace.Origin.TheVariants.{Loop}
use Rattle.trace_ops.specs.declared.trace.Trace.{Trace}
use Rattle.trace_ops.specs.declared.trace.TraceSet.{TraceSet}
use Rattle.trace_ops.specs.declared.table.Table.{Table}
use Rattle.trace_ops.specs.declared.piece.Val.{Val}
use Rattle.trace_ops.specs.declared.piece.Val.TheVariants.{Known, Virtual}
use Rattle.trace_ops.specs.declared.piece.Shape.{Shape}
use Rattle.trace_ops.specs.declared.piece.OptFrame.{OptFrame}
use Rattle.trace_ops.specs.declared.piece.Pending.{Pending}
use Rattle.trace_ops.specs.declared.piece.Snapshot.{Snapshot}
use Rattle.trace_ops.specs.declared.piece.Half.TheVariants as half
use Rattle.trace_ops.specs.declared.piece.PieceId.{PieceId}
use Rattle.trace_ops.specs.declared.piece.OptOp.{OptOp}
use Rattle.trace_ops.specs.declared.piece.Piece.{Piece}
use Rattle.trace_ops.specs.Classes.{is_guard}
use Rattle.trace_ops.specs.Lawful.{AreDistinct}
use Rattle.trace_ops.specs.Pieces.{snapshots_of, guards_of, used_by, defined_by, defined_before, size_of, is_end, HasItsCode, FitsTable, HasItsPair, IsPaired, FitsPreamble, FitsLabel, NamesRows, jump_args}
use Rattle.trace_ops.specs.Parts.{boxes_of}
use Rattle.trace_ops.specs.Snapshots.{IsSnapshotSound, NamesSnapshot}
use Rattle.trace_ops.specs.Weights.{trace_weight}

-- no item twice
abbrev pub AreApart : {X : Type 0} → List X → Type 0
AreApart [] = Unit {0}
AreApart (x ∷ xs) = (¬ Contains xs x) × AreApart xs

-- the guards of a recorded trace
abbrev pub guards_in : Trace → ℕ
guards_in t = count_by (λ (op : Op). is_guard op.code) t.ops

-- the argument, where it is no box
abbrev pub constants_in_arg : Arg → List Arg
constants_in_arg (arg.Of b) = []
constants_in_arg a = a ∷ []

abbrev pub constants_in_val : Val → List Arg
constants_in_val (Known a) = constants_in_arg a
constants_in_val (Virtual k) = []

-- the constants of a snapshot, as often as they stand there
abbrev pub constants_in : Snapshot → List Arg
constants_in s =
    flat_map (λ (f : OptFrame). flat_map constants_in_val f.slots) s.frames
    ++ flat_map (λ (h : Shape). flat_map constants_in_val h.parts) s.shapes
    ++ flat_map (λ (p : Pending). constants_in_arg p.base ++ constants_in_val p.value) s.pending

-- the snapshots of all guards and exits, in order
abbrev pub snapshots_in : Piece → List Snapshot
snapshots_in p = flat_map snapshots_of p.ops

-- each row that the piece names, in an argument, by a descr or in a snapshot, is one of the table
pub record NamesPiece (t : Table) (p : Piece) : Type 0 where
  pub operations : All (NamesRows t) p.ops
  pub snapshots : All (NamesSnapshot t) (snapshots_in p)

-- what a table of resume data has room for; boxes that are distinct by number have one kind a number
pub record HasRoom (p : Piece) : Type 0 where
  pub boxes : All (λ (s : Snapshot). All (λ (b : BoxId). b.number < 2 ^ 30) (boxes_of s)) (snapshots_in p)
  pub shapes_of_each : All (λ (s : Snapshot). length s.shapes < 2 ^ 30) (snapshots_in p)
  pub constants : (some : List Arg) → AreApart some → All (Contains (flat_map constants_in (snapshots_in p))) some → length some < 2 ^ 30
  pub frames : sum_by (λ (s : Snapshot). length s.frames) (snapshots_in p) < 2 ^ 32
  pub shapes : sum_by (λ (s : Snapshot). length s.shapes) (snapshots_in p) < 2 ^ 32

-- where the piece is the preamble of a loop, its label has a box for each input, of the same kinds
abbrev pub RepeatsInputs : PieceId → List BoxId → Trace → Type 0
RepeatsInputs id label t = id.half ≡ half.Pre → t.origin ≡ Loop → map (λ (b : BoxId). b.kind) label ≡ map (λ (b : BoxId). b.kind) t.inputs

-- a piece of a set as it is made from its trace, where the labels of pieces are these
pub record IsFormed (set : TraceSet) (label_of : PieceId → Option (List BoxId)) (p : Piece) : Type 0 where
  pub boxes_distinct : AreDistinct (defined_by p)
  pub boxes_numbered : map (λ (b : BoxId). b.number) (defined_by p) ≡ range_with_len 0 (length (defined_by p))
  pub boxes_defined : (k : ℕ) (op : OptOp) → slice_get p.ops k ≡ Some op → All (Contains (defined_before p k)) (used_by op)
  pub codes_in_place : All HasItsCode p.ops
  pub operations_fit : All (FitsTable set.table) p.ops
  pub snapshots_sound : All (IsSnapshotSound set.table) (snapshots_in p)
  pub rows_named : NamesPiece set.table p
  pub overflow_is_tested : HasItsPair p.ops
  pub overflow_is_set : IsPaired p.ops
  pub ends_once : (k : ℕ) (op : OptOp) → slice_get p.ops k ≡ Some op → IsTrue (is_end op) ↔ (k + 1 ≡ length p.ops)
  pub has_an_end : 0 < length p.ops
  pub guards_of_trace : IsSomeAnd (slice_get set.traces p.id.trace) (λ t. All (λ g. g < guards_in t) (flat_map guards_of p.ops))
  pub guards_distinct : AreApart (flat_map guards_of p.ops)
  pub preambles_fit : All (FitsPreamble label_of) p.ops

-- a piece that is sound for a set: besides, its jump fits where it goes, to a body too, it is small, its label is its
-- loop's where it is a preamble, and its snapshots can be numbered
pub record IsSound (set : TraceSet) (label_of : PieceId → Option (List BoxId)) (p : Piece) : Type 0 where
  pub formed : IsFormed set label_of p
  pub jumps_fit : All (FitsLabel label_of) p.ops
  pub small : size_of p ≤ 4 * trace_weight set p.id.trace
  pub few_boxes : length (defined_by p) ≤ 2 * trace_weight set p.id.trace + 64
  pub few_jump_args : All (λ op. jump_args op ≤ trace_weight set p.id.trace + 64) p.ops
  pub inputs_repeated : IsSomeAnd (slice_get set.traces p.id.trace) (RepeatsInputs p.id p.label)
  pub room : HasRoom p
