-- The constants of a snapshot are words.
use Rattle.std.specs.List.{All, AllByRecursion}
use Rattle.trace_ops.specs.declared.piece.OptFrame.{OptFrame}
use Rattle.trace_ops.specs.declared.piece.OptOp.{OptOp}
use Rattle.trace_ops.specs.declared.piece.Pending.{Pending}
use Rattle.trace_ops.specs.declared.piece.Shape.{Shape}
use Rattle.trace_ops.specs.declared.piece.Snapshot.{Snapshot}
use Rattle.trace_ops.specs.declared.piece.Val.{Val}
use Rattle.trace_ops.specs.Constants.{ArgHasWord}
use Rattle.trace_ops.specs.Pieces.{snapshots_of}
use Rattle.trace_ops.specs.Sound.{constants_in_arg, constants_in_val, constants_in}

abbrev pub ValHasWord : Val → Type 0
ValHasWord v = AllByRecursion ArgHasWord (constants_in_val v)

abbrev pub FrameHasWords : OptFrame → Type 0
FrameHasWords f = AllByRecursion ValHasWord f.slots

abbrev pub ShapeHasWords : Shape → Type 0
ShapeHasWords h = AllByRecursion ValHasWord h.parts

-- a store that waits
abbrev pub StoreHasWords : Pending → Type 0
StoreHasWords p = AllByRecursion ArgHasWord (constants_in_arg p.base) × ValHasWord p.value

abbrev pub SnapshotHasWords : Snapshot → Type 0
SnapshotHasWords s = All ArgHasWord (constants_in s)

-- the snapshot of a guard or an exit
abbrev pub OpShowsWords : OptOp → Type 0
OpShowsWords op = AllByRecursion SnapshotHasWords (snapshots_of op)
