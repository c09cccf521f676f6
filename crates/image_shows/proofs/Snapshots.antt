-- The guards of sound pieces rebuild rightly.
use Rattle.std.proofs.Common.{◌≡◌, ℕ, zero, suc, ◌≤◌, List, [], ◌∷◌, length, map, Option, Some, None, refl, ap, ◌∙◌, subst}
use Rattle.std.specs.Prelude.{◌==◌, slice_get}
use Rattle.std.specs.List.{All, AllByRecursion, flat_map}
use Rattle.std.proofs.lemmas.List.Elements.{All-head}
use Rattle.lists.proofs.Alls.{all_left, all_right}
use Rattle.lists.proofs.Bools.{if_some}
use Rattle.lists.proofs.Options.{some_same, none_some}
use Rattle.trace_ops.specs.Constants.{ArgHasWord}
use Rattle.trace_ops.specs.InRange.{IsTableInRange}
use Rattle.trace_ops.specs.Parts.{parts_of}
use Rattle.trace_ops.specs.Pieces.{snapshots_of}
use Rattle.trace_ops.specs.Snapshots.{IsSnapshotSound, NamesSnapshot}
use Rattle.trace_ops.specs.Sound.{constants_in}
use Rattle.trace_ops.specs.declared.table.Table.{Table}
use Rattle.trace_ops.specs.declared.trace.BoxId.{BoxId}
use Rattle.trace_ops.specs.declared.trace.TraceSet.{TraceSet}
use Rattle.trace_ops.specs.declared.piece.OptOp.{OptOp}
use Rattle.trace_ops.specs.declared.piece.OptOp.TheVariants as opt
use Rattle.trace_ops.specs.declared.piece.Piece.{Piece}
use Rattle.trace_ops.specs.declared.piece.PieceId.{PieceId}
use Rattle.trace_ops.specs.declared.piece.Snapshot.{Snapshot}
use Rattle.trace_meaning.specs.Boxes.{BoxesDecide, BindingLaws}
use Rattle.trace_meaning.specs.Holding.{OperationsKeepKinds}
use Rattle.trace_meaning.specs.Kinds.{AreOfKinds, ObjectsHold}
use Rattle.trace_meaning.specs.World.{World}
use Rattle.trace_meaning.specs.declared.value.Value.{Value}
use Rattle.opt_meaning.specs.Pieces.{piece_at, ops_of, ops_at}
use Rattle.opt_meaning.specs.Rebuilding.{Rebuilt, rebuilt, snapshot_of}
use Rattle.resume_rebuild.specs.Exits.{SoundSnapshotsRebuild}
use Rattle.resume_rebuild.specs.Standing.{CanRebuild}
use Rattle.image_model.specs.Ready.{AreKinded, kinds_left}
use Rattle.image_shows.specs.Laws.{IsSoundPiece, HasSnapshotWords}
use Rattle.image_shows.proofs.Naming.{each_at}
use Rattle.image_shows.proofs.Rebuilding.{rebuilt_holds}

-- What the guards of pieces rebuild, by the snapshot of an operation: it names what there is, with constants that are words; and
-- from values of the kinds of its boxes objects are rebuilt that hold what they should.
pub record RebuildRightly (set : TraceSet) (whole : List Piece) : Type 0 where
  pub can : (q : PieceId) (j n : ℕ) (op : OptOp) (snap : Snapshot) (objects : ℕ) → slice_get (ops_at whole q) j ≡ Some op → snapshot_of n op ≡ Some snap → length set.table.prebuilts ≤ objects → CanRebuild set.table objects snap
  pub hold : (q : PieceId) (j n : ℕ) (op : OptOp) (snap : Snapshot) (vs : List Value) (w : World) (r : Rebuilt) → slice_get (ops_at whole q) j ≡ Some op → snapshot_of n op ≡ Some snap
      → AreKinded set.table (kinds_left op) vs w → rebuilt set.table snap vs w ≡ Some r → ObjectsHold set.table r.objects

-- ---- the snapshot of an operation

own_snapshot : (P : Snapshot → Type 0) (n : ℕ) (op : OptOp) (snap : Snapshot) → All P (snapshots_of op) → snapshot_of n op ≡ Some snap → P snap
own_snapshot P n (opt.Plain operation r args d) snap h e = absurd (none_some e)
own_snapshot P n (opt.Guard operation args m own) snap h e = subst P (if_some (m == n) own snap e).1 (All-head P own [] h)
own_snapshot P n (opt.Exit m own) snap h e = subst P (if_some (m == n) own snap e).1 (All-head P own [] h)
own_snapshot P n (opt.Jump to args) snap h e = absurd (none_some e)
own_snapshot P n (opt.Finish value) snap h e = absurd (none_some e)

snapshot_at : (P : Snapshot → Type 0) (ops : List OptOp) (j n : ℕ) (op : OptOp) (snap : Snapshot) → All P (flat_map snapshots_of ops) → slice_get ops j ≡ Some op → snapshot_of n op ≡ Some snap → P snap
snapshot_at P [] j n op snap h e is = absurd (none_some e)
snapshot_at P (o ∷ ops) zero n op snap h e is = own_snapshot P n o snap (all_left P (snapshots_of o) (flat_map snapshots_of ops) h) (ap (snapshot_of n) (some_same e) ∙ is)
snapshot_at P (o ∷ ops) (suc j) n op snap h e is = snapshot_at P ops j n op snap (all_right P (snapshots_of o) (flat_map snapshots_of ops) h) e is

-- the boxes with whose kinds a guard is left are those of its snapshot
kinds_of_snapshot : (n objects : ℕ) (op : OptOp) (snap : Snapshot) (vs : List Value) → snapshot_of n op ≡ Some snap → AreOfKinds objects (kinds_left op) vs → AreOfKinds objects (map (λ (b : BoxId). Some b.kind) (parts_of snap)) vs
kinds_of_snapshot n objects (opt.Plain operation r args d) snap vs e h = absurd (none_some e)
kinds_of_snapshot n objects (opt.Guard operation args m own) snap vs e h = subst (λ (s : Snapshot). AreOfKinds objects (map (λ (b : BoxId). Some b.kind) (parts_of s)) vs) (if_some (m == n) own snap e).1 h
kinds_of_snapshot n objects (opt.Exit m own) snap vs e h = subst (λ (s : Snapshot). AreOfKinds objects (map (λ (b : BoxId). Some b.kind) (parts_of s)) vs) (if_some (m == n) own snap e).1 h
kinds_of_snapshot n objects (opt.Jump to args) snap vs e h = absurd (none_some e)
kinds_of_snapshot n objects (opt.Finish value) snap vs e h = absurd (none_some e)

-- what is known of it
record KnownSnapshot (t : Table) (snap : Snapshot) : Type 0 where
  sound : IsSnapshotSound t snap
  names : NamesSnapshot t snap
  words : All ArgHasWord (constants_in snap)

known_of : (set : TraceSet) (whole : List Piece) (q : PieceId) (j n : ℕ) (op : OptOp) (snap : Snapshot) (o : Option Piece) → piece_at whole q ≡ o → AllByRecursion (IsSoundPiece set) whole → AllByRecursion HasSnapshotWords whole
    → slice_get (ops_of o) j ≡ Some op → snapshot_of n op ≡ Some snap → KnownSnapshot set.table snap
known_of set whole q j n op snap None at sound words e is = absurd (none_some e)
known_of set whole q j n op snap (Some p) at sound words e is =
    let formed = (each_at (IsSoundPiece set) whole q p sound at).1.formed in
    record {
      sound = snapshot_at (IsSnapshotSound set.table) p.ops j n op snap formed.snapshots_sound e is;
      names = snapshot_at (NamesSnapshot set.table) p.ops j n op snap formed.rows_named.snapshots e is;
      words = snapshot_at (λ (s : Snapshot). All ArgHasWord (constants_in s)) p.ops j n op snap (each_at HasSnapshotWords whole q p words at) e is;
    }

pub rebuild_rightly : SoundSnapshotsRebuild → BoxesDecide → BindingLaws → OperationsKeepKinds → (set : TraceSet) (whole : List Piece) → IsTableInRange set.table → AllByRecursion (IsSoundPiece set) whole → AllByRecursion HasSnapshotWords whole → RebuildRightly set whole
rebuild_rightly can decide binding ops set whole range sound words = record {
  can = λ q j n op snap objects here is many. (let k = known_of set whole q j n op snap (piece_at whole q) refl sound words here is in can set.table snap objects range k.sound k.names k.words many);
  hold = λ q j n op snap vs w r here is kinded e. (let k = known_of set whole q j n op snap (piece_at whole q) refl sound words here is in
      rebuilt_holds decide binding ops set.table snap vs w r k.sound k.names kinded.world (kinds_of_snapshot n (length w.objects) op snap vs is kinded.values) e);
}
