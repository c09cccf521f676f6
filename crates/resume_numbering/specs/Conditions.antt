-- Which pieces can be numbered.
use Rattle.std.specs.Prelude.{◌≡◌, ◌<◌, ◌^◌, Option, List, length, All, Contains, sum_by}
use Rattle.std.specs.List.{flat_map}
use Rattle.trace_ops.specs.declared.trace.BoxId.{BoxId}
use Rattle.trace_ops.specs.declared.trace.Arg.{Arg}
use Rattle.trace_ops.specs.declared.trace.Arg.TheVariants.{Of}
use Rattle.trace_ops.specs.declared.piece.Val.{Val}
use Rattle.trace_ops.specs.declared.piece.Val.TheVariants.{Known}
use Rattle.trace_ops.specs.declared.piece.Snapshot.{Snapshot}
use Rattle.trace_ops.specs.declared.piece.PieceId.{PieceId}
use Rattle.trace_ops.specs.declared.piece.Piece.{Piece}
use Rattle.trace_ops.specs.declared.trace.TraceSet.{TraceSet}
use Rattle.trace_ops.specs.Lawful.{IsNumbered}
use Rattle.trace_ops.specs.Pieces.{guards_of}
use Rattle.trace_ops.specs.Snapshots.{IsValue}
use Rattle.trace_ops.specs.Sound.{AreApart, constants_in, snapshots_in, IsSound}
use Rattle.resume_numbering.specs.Values.{values_in, IsBoxBelow}

-- boxes of one number are of one kind
abbrev pub HaveOneKind : List Val → Type 0
HaveOneKind vals = (a b : BoxId) → Contains vals (Known (Of a)) → Contains vals (Known (Of b)) → a.number ≡ b.number → a.kind ≡ b.kind

-- a piece whose snapshots a table has room for
pub record CanNumber (p : Piece) : Type 0 where
  pub guards_once : AreApart (flat_map guards_of p.ops)
  pub has_frames : All (λ (s : Snapshot). 0 < length s.frames) (snapshots_in p)
  pub one_kind : HaveOneKind (flat_map values_in (snapshots_in p))
  pub are_values : All (λ (s : Snapshot). All IsValue (values_in s)) (snapshots_in p)
  pub virtuals_named : All (λ (s : Snapshot). All (IsNumbered (length s.shapes)) (values_in s)) (snapshots_in p)
  pub few_boxes : All (λ (s : Snapshot). All (IsBoxBelow (2 ^ 30)) (values_in s)) (snapshots_in p)
  pub few_shapes_each : All (λ (s : Snapshot). length s.shapes < 2 ^ 30) (snapshots_in p)
  pub few_constants : (some : List Arg) → AreApart some → All (Contains (flat_map constants_in (snapshots_in p))) some → length some < 2 ^ 30
  pub few_frames : sum_by (λ (s : Snapshot). length s.frames) (snapshots_in p) < 2 ^ 32
  pub few_shapes : sum_by (λ (s : Snapshot). length s.shapes) (snapshots_in p) < 2 ^ 32

-- sound pieces are such
abbrev pub SoundPiecesCanBeNumbered : Type 0
SoundPiecesCanBeNumbered = (set : TraceSet) (label_of : PieceId → Option (List BoxId)) (p : Piece) → IsSound set label_of p → CanNumber p
