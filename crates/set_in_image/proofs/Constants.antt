-- The constants of what a snapshot has, and the snapshots of a piece.
use Rattle.std.proofs.Common.{List, [], ◌∷◌, ◌++◌}
use Rattle.std.specs.List.{All, AllByRecursion, flat_map}
use Rattle.std.proofs.lemmas.List.Elements.{All-from_recursion}
use Rattle.lists.proofs.Eaches.{each_append, each_weaker}
use Rattle.trace_ops.specs.declared.piece.OptFrame.{OptFrame}
use Rattle.trace_ops.specs.declared.piece.OptOp.{OptOp}
use Rattle.trace_ops.specs.declared.piece.Pending.{Pending}
use Rattle.trace_ops.specs.declared.piece.Shape.{Shape}
use Rattle.trace_ops.specs.declared.piece.Snapshot.{Snapshot}
use Rattle.trace_ops.specs.declared.trace.Arg.{Arg}
use Rattle.trace_ops.specs.Constants.{ArgHasWord}
use Rattle.trace_ops.specs.Pieces.{snapshots_of}
use Rattle.trace_ops.specs.Sound.{constants_in_arg, constants_in_val, constants_in}
use Rattle.set_in_image.specs.Snapshots.{FrameHasWords, ShapeHasWords, StoreHasWords, SnapshotHasWords, OpShowsWords}

-- what holds of all that each gives holds of all that they give
each_flat : {X Y : Type 0} (f : X → List Y) (P : Y → Type 0) (xs : List X) → AllByRecursion (λ (x : X). AllByRecursion P (f x)) xs → AllByRecursion P (flat_map f xs)
each_flat f P [] h = tt
each_flat f P (x ∷ xs) h = each_append P (f x) (flat_map f xs) h.0 (each_flat f P xs h.1)

abbrev constants_in_frame : OptFrame → List Arg
constants_in_frame f = flat_map constants_in_val f.slots

abbrev constants_in_shape : Shape → List Arg
constants_in_shape h = flat_map constants_in_val h.parts

abbrev constants_in_store : Pending → List Arg
constants_in_store p = constants_in_arg p.base ++ constants_in_val p.value

-- the constants of an item are words
abbrev AreWords : {X : Type 0} → (X → List Arg) → X → Type 0
AreWords f x = AllByRecursion ArgHasWord (f x)

of_frame : (f : OptFrame) → FrameHasWords f → AreWords constants_in_frame f
of_frame f h = each_flat constants_in_val ArgHasWord f.slots h

of_shape : (s : Shape) → ShapeHasWords s → AreWords constants_in_shape s
of_shape s h = each_flat constants_in_val ArgHasWord s.parts h

of_store : (p : Pending) → StoreHasWords p → AreWords constants_in_store p
of_store p h = each_append ArgHasWord (constants_in_arg p.base) (constants_in_val p.value) h.0 h.1

pub of_snapshot : (s : Snapshot) → AllByRecursion FrameHasWords s.frames → AllByRecursion ShapeHasWords s.shapes → AllByRecursion StoreHasWords s.pending → SnapshotHasWords s
of_snapshot s frames shapes stores =
    let fs = flat_map constants_in_frame s.frames in
    let hs = flat_map constants_in_shape s.shapes in
    let ps = flat_map constants_in_store s.pending in
    All-from_recursion ArgHasWord (constants_in s)
    (each_append ArgHasWord (fs ++ hs) ps
    (each_append ArgHasWord fs hs
    (each_flat constants_in_frame ArgHasWord s.frames (each_weaker FrameHasWords (AreWords constants_in_frame) of_frame s.frames frames))
    (each_flat constants_in_shape ArgHasWord s.shapes (each_weaker ShapeHasWords (AreWords constants_in_shape) of_shape s.shapes shapes)))
    (each_flat constants_in_store ArgHasWord s.pending (each_weaker StoreHasWords (AreWords constants_in_store) of_store s.pending stores)))

pub of_operations : (ops : List OptOp) → AllByRecursion OpShowsWords ops → All SnapshotHasWords (flat_map snapshots_of ops)
of_operations ops h = All-from_recursion SnapshotHasWords (flat_map snapshots_of ops) (each_flat snapshots_of SnapshotHasWords ops h)
