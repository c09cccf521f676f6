-- What the derived `==` says: that the two values are equal.
use Rattle.std.proofs.Common.{◌≡◌, ℕ, Bool, true, false, sym, Option, Some, None, List, refl, ap, subst}
use Rattle.std.specs.Bool.{Decides, beq}
use Rattle.std.specs.Option.{option_eq}
use Rattle.std.specs.Ordering.{int_eq}
use Rattle.std.specs.Cmp.Lexicographic.{pointwise, pointwise_decides, bytes_decides}
use Rattle.std.proofs.lemmas.Bool.{and_parts}
use Rattle.std.proofs.lemmas.Bool.Decides.{Decides-eqb, Decides-int_eq}
use lib.Dec.{eqb}
use denote.Enum.Bare.{same_true}
use Rattle.trace_ops.specs.declared.code.OpCode.{OpCode}
use Rattle.trace_ops.specs.contracts.code.OpCodePartialEq.TheImpl as code_eq
use Rattle.trace_ops.specs.contracts.code.OpCodeEq.TheImpl.Laws as code_laws
use Rattle.trace_ops.specs.contracts.code.OpCode.{the_type as code_type}
use Rattle.trace_ops.specs.declared.trace.Kind.{Kind}
use Rattle.trace_ops.specs.contracts.trace.KindPartialEq.TheImpl as kind_eq
use Rattle.trace_ops.specs.contracts.trace.KindEq.TheImpl.Laws as kind_laws
use Rattle.trace_ops.specs.contracts.trace.Kind.{the_type as kind_type}
use Rattle.trace_ops.specs.declared.piece.Half.{Half}
use Rattle.trace_ops.specs.contracts.piece.HalfPartialEq.TheImpl as half_eq
use Rattle.trace_ops.specs.contracts.piece.HalfEq.TheImpl.Laws as half_laws
use Rattle.trace_ops.specs.contracts.piece.Half.{the_type as half_type}
use Rattle.trace_ops.specs.declared.trace.BoxId.{BoxId}
use Rattle.trace_ops.specs.contracts.trace.BoxIdPartialEq.TheImpl as box_eq
use Rattle.trace_ops.specs.contracts.trace.BoxIdEq.TheImpl.Laws as box_laws
use Rattle.trace_ops.specs.declared.trace.Arg.{Arg}
use Rattle.trace_ops.specs.declared.trace.Arg.TheVariants as arg
use Rattle.trace_ops.specs.contracts.trace.ArgPartialEq.TheImpl as arg_eq
use Rattle.trace_ops.specs.contracts.trace.ArgEq.TheImpl.Laws as arg_laws
use Rattle.trace_ops.specs.declared.table.ShapeOf.{ShapeOf}
use Rattle.trace_ops.specs.declared.table.ShapeOf.TheVariants as shape_of
use Rattle.trace_ops.specs.contracts.table.ShapeOfPartialEq.TheImpl as shape_of_eq
use Rattle.trace_ops.specs.contracts.table.ShapeOfEq.TheImpl.Laws as shape_of_laws
use Rattle.trace_ops.specs.contracts.text.TextPartialEq.TheImpl as text_eq
use Rattle.trace_ops.specs.declared.trace.Descr.{Descr}
use Rattle.trace_ops.specs.declared.trace.Descr.TheVariants as descr
use Rattle.trace_ops.specs.contracts.trace.DescrPartialEq.TheImpl as descr_eq
use Rattle.trace_ops.specs.contracts.trace.DescrEq.TheImpl.Laws as descr_laws
use Rattle.trace_ops.specs.declared.trace.Frame.{Frame}
use Rattle.trace_ops.specs.contracts.trace.FramePartialEq.TheImpl as frame_eq
use Rattle.trace_ops.specs.contracts.trace.FrameEq.TheImpl.Laws as frame_laws
use Rattle.trace_ops.specs.declared.trace.Op.{Op}
use Rattle.trace_ops.specs.contracts.trace.OpPartialEq.TheImpl as op_eq
use Rattle.trace_ops.specs.contracts.trace.OpEq.TheImpl.Laws as op_laws
use Rattle.trace_ops.specs.declared.piece.Val.{Val}
use Rattle.trace_ops.specs.declared.piece.Val.TheVariants as val
use Rattle.trace_ops.specs.contracts.piece.ValPartialEq.TheImpl as val_eq
use Rattle.trace_ops.specs.contracts.piece.ValEq.TheImpl.Laws as val_laws
use Rattle.trace_ops.specs.declared.piece.Spot.{Spot}
use Rattle.trace_ops.specs.declared.piece.Spot.TheVariants as spot
use Rattle.trace_ops.specs.contracts.piece.SpotPartialEq.TheImpl as spot_eq
use Rattle.trace_ops.specs.contracts.piece.SpotEq.TheImpl.Laws as spot_laws
use Rattle.trace_ops.specs.declared.piece.Pending.{Pending}
use Rattle.trace_ops.specs.contracts.piece.PendingPartialEq.TheImpl as pending_eq
use Rattle.trace_ops.specs.contracts.piece.PendingEq.TheImpl.Laws as pending_laws
use Rattle.trace_ops.specs.declared.piece.Shape.{Shape}
use Rattle.trace_ops.specs.contracts.piece.ShapePartialEq.TheImpl as shape_eq
use Rattle.trace_ops.specs.contracts.piece.ShapeEq.TheImpl.Laws as shape_laws
use Rattle.trace_ops.specs.declared.piece.OptFrame.{OptFrame}
use Rattle.trace_ops.specs.contracts.piece.OptFramePartialEq.TheImpl as opt_frame_eq
use Rattle.trace_ops.specs.contracts.piece.OptFrameEq.TheImpl.Laws as opt_frame_laws
use Rattle.trace_ops.specs.declared.piece.Snapshot.{Snapshot}
use Rattle.trace_ops.specs.contracts.piece.SnapshotPartialEq.TheImpl as snapshot_eq
use Rattle.trace_ops.specs.contracts.piece.SnapshotEq.TheImpl.Laws as snapshot_laws
use Rattle.trace_ops.specs.declared.piece.PieceId.{PieceId}
use Rattle.trace_ops.specs.contracts.piece.PieceIdPartialEq.TheImpl as piece_id_eq
use Rattle.trace_ops.specs.contracts.piece.PieceIdEq.TheImpl.Laws as piece_id_laws
use Rattle.trace_ops.specs.declared.piece.OptOp.{OptOp}
use Rattle.trace_ops.specs.declared.piece.OptOp.TheVariants as opt_op
use Rattle.trace_ops.specs.contracts.piece.OptOpPartialEq.TheImpl as opt_op_eq
use Rattle.trace_ops.specs.contracts.piece.OptOpEq.TheImpl.Laws as opt_op_laws
use Rattle.trace_ops.specs.declared.piece.Piece.{Piece}
use Rattle.trace_ops.specs.contracts.piece.PiecePartialEq.TheImpl as piece_eq
use Rattle.trace_ops.specs.contracts.piece.PieceEq.TheImpl.Laws as piece_laws
use Rattle.trace_ops.specs.declared.piece.Fact.{Fact}
use Rattle.trace_ops.specs.declared.piece.Fact.TheVariants as fact
use Rattle.trace_ops.specs.contracts.piece.FactPartialEq.TheImpl as fact_eq
use Rattle.trace_ops.specs.contracts.piece.FactEq.TheImpl.Laws as fact_laws
use Rattle.trace_ops.specs.declared.piece.Entry.{Entry}
use Rattle.trace_ops.specs.contracts.piece.EntryPartialEq.TheImpl as entry_eq
use Rattle.trace_ops.specs.contracts.piece.EntryEq.TheImpl.Laws as entry_laws
use Rattle.trace_ops.specs.declared.trace.Origin.{Origin}
use Rattle.trace_ops.specs.declared.trace.Origin.TheVariants as origin
use Rattle.trace_ops.specs.contracts.trace.OriginPartialEq.TheImpl as origin_eq
use Rattle.trace_ops.specs.contracts.trace.OriginEq.TheImpl.Laws as origin_laws
use Rattle.trace_ops.specs.declared.trace.Trace.{Trace}
use Rattle.trace_ops.specs.contracts.trace.TracePartialEq.TheImpl as trace_eq
use Rattle.trace_ops.specs.contracts.trace.TraceEq.TheImpl.Laws as trace_laws
use Rattle.trace_ops.specs.declared.trace.TraceSet.{TraceSet}
use Rattle.trace_ops.specs.contracts.trace.TraceSetPartialEq.TheImpl as trace_set_eq
use Rattle.trace_ops.specs.contracts.trace.TraceSetEq.TheImpl.Laws as trace_set_laws
use Rattle.trace_ops.specs.declared.table.What.{What}
use Rattle.trace_ops.specs.contracts.table.WhatPartialEq.TheImpl as what_eq
use Rattle.trace_ops.specs.contracts.table.WhatEq.TheImpl.Laws as what_laws
use Rattle.trace_ops.specs.contracts.table.What.{the_type as what_type}
use Rattle.trace_ops.specs.declared.table.SizeRow.{SizeRow}
use Rattle.trace_ops.specs.contracts.table.SizeRowPartialEq.TheImpl as size_row_eq
use Rattle.trace_ops.specs.contracts.table.SizeRowEq.TheImpl.Laws as size_row_laws
use Rattle.trace_ops.specs.declared.table.FieldRow.{FieldRow}
use Rattle.trace_ops.specs.contracts.table.FieldRowPartialEq.TheImpl as field_row_eq
use Rattle.trace_ops.specs.contracts.table.FieldRowEq.TheImpl.Laws as field_row_laws
use Rattle.trace_ops.specs.declared.table.ArrayRow.{ArrayRow}
use Rattle.trace_ops.specs.contracts.table.ArrayRowPartialEq.TheImpl as array_row_eq
use Rattle.trace_ops.specs.contracts.table.ArrayRowEq.TheImpl.Laws as array_row_laws
use Rattle.trace_ops.specs.declared.table.CallRow.{CallRow}
use Rattle.trace_ops.specs.contracts.table.CallRowPartialEq.TheImpl as call_row_eq
use Rattle.trace_ops.specs.contracts.table.CallRowEq.TheImpl.Laws as call_row_laws
use Rattle.trace_ops.specs.declared.table.Initial.{Initial}
use Rattle.trace_ops.specs.declared.table.Initial.TheVariants as initial
use Rattle.trace_ops.specs.contracts.table.InitialPartialEq.TheImpl as initial_eq
use Rattle.trace_ops.specs.contracts.table.InitialEq.TheImpl.Laws as initial_laws
use Rattle.trace_ops.specs.declared.table.PrebuiltRow.{PrebuiltRow}
use Rattle.trace_ops.specs.contracts.table.PrebuiltRowPartialEq.TheImpl as prebuilt_row_eq
use Rattle.trace_ops.specs.contracts.table.PrebuiltRowEq.TheImpl.Laws as prebuilt_row_laws
use Rattle.trace_ops.specs.declared.table.Table.{Table}
use Rattle.trace_ops.specs.contracts.table.TablePartialEq.TheImpl as table_eq
use Rattle.trace_ops.specs.contracts.table.TableEq.TheImpl.Laws as table_laws
use Rattle.trace_ops.specs.declared.piece.OptTrace.{OptTrace}
use Rattle.trace_ops.specs.contracts.piece.OptTracePartialEq.TheImpl as opt_trace_eq
use Rattle.trace_ops.specs.contracts.piece.OptTraceEq.TheImpl.Laws as opt_trace_laws

-- a test that finds only equal values equal, and each equal to itself
told : {A : Type 0} (E : A → A → Bool) → ((a b : A) → E a b ≡ true → a ≡ b) → ((a : A) → E a a ≡ true) → (a b : A) → Decides (E a b) (a ≡ b)
told E same own a b = (same a b, λ e. subst (λ x. E a x ≡ true) e (own a))

option_decides : {A : Type 0} {E : A → A → Bool} → ((a b : A) → Decides (E a b) (a ≡ b)) → (a b : Option A) → Decides (option_eq E a b) (a ≡ b)
option_decides {A} {E} each = told (option_eq E) same own
  where
    same : (a b : Option A) → option_eq E a b ≡ true → a ≡ b
    same (Some a) (Some b) h = ap Some ((each a b).0 h)
    same None None h = refl
    same _ _ h = cc

    own : (a : Option A) → option_eq E a a ≡ true
    own (Some a) = (each a a).1 refl
    own None = refl

bool_decides : (a b : Bool) → Decides (beq a b) (a ≡ b)
bool_decides true true = (λ e. refl, λ e. refl)
bool_decides true false = (λ e. sym e, λ e. sym e)
bool_decides false true = (λ e. e, λ e. e)
bool_decides false false = (λ e. refl, λ e. refl)

code_same : (a b : OpCode) → code_eq.ghosts.eq a b ≡ true → a ≡ b
code_same a b h = same_true code_type tt a b h

pub code_decides : (a b : OpCode) → Decides (code_eq.ghosts.eq a b) (a ≡ b)
code_decides = told code_eq.ghosts.eq code_same code_laws.lawful.laws.refl

kind_same : (a b : Kind) → kind_eq.ghosts.eq a b ≡ true → a ≡ b
kind_same a b h = same_true kind_type tt a b h

pub kind_decides : (a b : Kind) → Decides (kind_eq.ghosts.eq a b) (a ≡ b)
kind_decides = told kind_eq.ghosts.eq kind_same kind_laws.lawful.laws.refl

half_same : (a b : Half) → half_eq.ghosts.eq a b ≡ true → a ≡ b
half_same a b h = same_true half_type tt a b h

pub half_decides : (a b : Half) → Decides (half_eq.ghosts.eq a b) (a ≡ b)
half_decides = told half_eq.ghosts.eq half_same half_laws.lawful.laws.refl

box_same : (a b : BoxId) → box_eq.ghosts.eq a b ≡ true → a ≡ b
box_same a b h =
    let p0 = and_parts (kind_eq.ghosts.eq a.kind b.kind) _ h in
    λ i. record { kind = (kind_decides a.kind b.kind).0 p0.0 i; number = (Decides-eqb a.number b.number).0 p0.1 i }

pub box_decides : (a b : BoxId) → Decides (box_eq.ghosts.eq a b) (a ≡ b)
box_decides = told box_eq.ghosts.eq box_same box_laws.lawful.laws.refl

arg_same : (a b : Arg) → arg_eq.ghosts.eq a b ≡ true → a ≡ b
arg_same (arg.Of a0) (arg.Of b0) h = λ i. arg.Of ((box_decides a0 b0).0 h i)
arg_same (arg.Const a0) (arg.Const b0) h = λ i. arg.Const ((Decides-int_eq a0 b0).0 h i)
arg_same arg.Null arg.Null h = refl
arg_same (arg.Class a0) (arg.Class b0) h = λ i. arg.Class ((Decides-eqb a0 b0).0 h i)
arg_same (arg.Func a0) (arg.Func b0) h = λ i. arg.Func ((Decides-eqb a0 b0).0 h i)
arg_same (arg.Ptr a0) (arg.Ptr b0) h = λ i. arg.Ptr ((Decides-eqb a0 b0).0 h i)
arg_same _ _ h = cc

pub arg_decides : (a b : Arg) → Decides (arg_eq.ghosts.eq a b) (a ≡ b)
arg_decides = told arg_eq.ghosts.eq arg_same arg_laws.lawful.laws.refl

shape_of_same : (a b : ShapeOf) → shape_of_eq.ghosts.eq a b ≡ true → a ≡ b
shape_of_same (shape_of.Size a0) (shape_of.Size b0) h = λ i. shape_of.Size ((Decides-eqb a0 b0).0 h i)
shape_of_same (shape_of.Array a0) (shape_of.Array b0) h = λ i. shape_of.Array ((Decides-eqb a0 b0).0 h i)
shape_of_same _ _ h = cc

pub shape_of_decides : (a b : ShapeOf) → Decides (shape_of_eq.ghosts.eq a b) (a ≡ b)
shape_of_decides = told shape_of_eq.ghosts.eq shape_of_same shape_of_laws.lawful.laws.refl

pub text_decides : (a b : List ℕ) → Decides (text_eq.ghosts.eq a b) (a ≡ b)
text_decides = bytes_decides

descr_same : (a b : Descr) → descr_eq.ghosts.eq a b ≡ true → a ≡ b
descr_same descr.No descr.No h = refl
descr_same (descr.Size a0) (descr.Size b0) h = λ i. descr.Size ((Decides-eqb a0 b0).0 h i)
descr_same (descr.Field a0) (descr.Field b0) h = λ i. descr.Field ((Decides-eqb a0 b0).0 h i)
descr_same (descr.Array a0) (descr.Array b0) h = λ i. descr.Array ((Decides-eqb a0 b0).0 h i)
descr_same (descr.Call a0) (descr.Call b0) h = λ i. descr.Call ((Decides-eqb a0 b0).0 h i)
descr_same (descr.Target a0) (descr.Target b0) h = λ i. descr.Target ((text_decides a0 b0).0 h i)
descr_same _ _ h = cc

pub descr_decides : (a b : Descr) → Decides (descr_eq.ghosts.eq a b) (a ≡ b)
descr_decides = told descr_eq.ghosts.eq descr_same descr_laws.lawful.laws.refl

frame_same : (a b : Frame) → frame_eq.ghosts.eq a b ≡ true → a ≡ b
frame_same a b h =
    let p0 = and_parts (text_eq.ghosts.eq a.name b.name) _ h in
    let p1 = and_parts (eqb a.pc b.pc) _ p0.1 in
    λ i. record { name = (text_decides a.name b.name).0 p0.0 i; pc = (Decides-eqb a.pc b.pc).0 p1.0 i; slots = (pointwise_decides arg_decides a.slots b.slots).0 p1.1 i }

pub frame_decides : (a b : Frame) → Decides (frame_eq.ghosts.eq a b) (a ≡ b)
frame_decides = told frame_eq.ghosts.eq frame_same frame_laws.lawful.laws.refl

op_same : (a b : Op) → op_eq.ghosts.eq a b ≡ true → a ≡ b
op_same a b h =
    let p0 = and_parts (code_eq.ghosts.eq a.code b.code) _ h in
    let p1 = and_parts (option_eq box_eq.ghosts.eq a.result b.result) _ p0.1 in
    let p2 = and_parts (pointwise arg_eq.ghosts.eq a.args b.args) _ p1.1 in
    let p3 = and_parts (descr_eq.ghosts.eq a.descr b.descr) _ p2.1 in
    λ i. record { code = (code_decides a.code b.code).0 p0.0 i; result = (option_decides box_decides a.result b.result).0 p1.0 i; args = (pointwise_decides arg_decides a.args b.args).0 p2.0 i; descr = (descr_decides a.descr b.descr).0 p3.0 i; snapshot = (pointwise_decides frame_decides a.snapshot b.snapshot).0 p3.1 i }

pub op_decides : (a b : Op) → Decides (op_eq.ghosts.eq a b) (a ≡ b)
op_decides = told op_eq.ghosts.eq op_same op_laws.lawful.laws.refl

val_same : (a b : Val) → val_eq.ghosts.eq a b ≡ true → a ≡ b
val_same (val.Known a0) (val.Known b0) h = λ i. val.Known ((arg_decides a0 b0).0 h i)
val_same (val.Virtual a0) (val.Virtual b0) h = λ i. val.Virtual ((Decides-eqb a0 b0).0 h i)
val_same _ _ h = cc

pub val_decides : (a b : Val) → Decides (val_eq.ghosts.eq a b) (a ≡ b)
val_decides = told val_eq.ghosts.eq val_same val_laws.lawful.laws.refl

spot_same : (a b : Spot) → spot_eq.ghosts.eq a b ≡ true → a ≡ b
spot_same (spot.Field a0) (spot.Field b0) h = λ i. spot.Field ((Decides-eqb a0 b0).0 h i)
spot_same (spot.Item a0 a1) (spot.Item b0 b1) h =
    let p0 = and_parts (eqb a0 b0) _ h in
    λ i. spot.Item ((Decides-eqb a0 b0).0 p0.0 i) ((Decides-int_eq a1 b1).0 p0.1 i)
spot_same _ _ h = cc

pub spot_decides : (a b : Spot) → Decides (spot_eq.ghosts.eq a b) (a ≡ b)
spot_decides = told spot_eq.ghosts.eq spot_same spot_laws.lawful.laws.refl

pending_same : (a b : Pending) → pending_eq.ghosts.eq a b ≡ true → a ≡ b
pending_same a b h =
    let p0 = and_parts (arg_eq.ghosts.eq a.base b.base) _ h in
    let p1 = and_parts (spot_eq.ghosts.eq a.spot b.spot) _ p0.1 in
    λ i. record { base = (arg_decides a.base b.base).0 p0.0 i; spot = (spot_decides a.spot b.spot).0 p1.0 i; value = (val_decides a.value b.value).0 p1.1 i }

pub pending_decides : (a b : Pending) → Decides (pending_eq.ghosts.eq a b) (a ≡ b)
pending_decides = told pending_eq.ghosts.eq pending_same pending_laws.lawful.laws.refl

shape_same : (a b : Shape) → shape_eq.ghosts.eq a b ≡ true → a ≡ b
shape_same a b h =
    let p0 = and_parts (shape_of_eq.ghosts.eq a.of b.of) _ h in
    λ i. record { of = (shape_of_decides a.of b.of).0 p0.0 i; parts = (pointwise_decides val_decides a.parts b.parts).0 p0.1 i }

pub shape_decides : (a b : Shape) → Decides (shape_eq.ghosts.eq a b) (a ≡ b)
shape_decides = told shape_eq.ghosts.eq shape_same shape_laws.lawful.laws.refl

opt_frame_same : (a b : OptFrame) → opt_frame_eq.ghosts.eq a b ≡ true → a ≡ b
opt_frame_same a b h =
    let p0 = and_parts (text_eq.ghosts.eq a.name b.name) _ h in
    let p1 = and_parts (eqb a.pc b.pc) _ p0.1 in
    λ i. record { name = (text_decides a.name b.name).0 p0.0 i; pc = (Decides-eqb a.pc b.pc).0 p1.0 i; slots = (pointwise_decides val_decides a.slots b.slots).0 p1.1 i }

pub opt_frame_decides : (a b : OptFrame) → Decides (opt_frame_eq.ghosts.eq a b) (a ≡ b)
opt_frame_decides = told opt_frame_eq.ghosts.eq opt_frame_same opt_frame_laws.lawful.laws.refl

snapshot_same : (a b : Snapshot) → snapshot_eq.ghosts.eq a b ≡ true → a ≡ b
snapshot_same a b h =
    let p0 = and_parts (pointwise opt_frame_eq.ghosts.eq a.frames b.frames) _ h in
    let p1 = and_parts (pointwise shape_eq.ghosts.eq a.shapes b.shapes) _ p0.1 in
    λ i. record { frames = (pointwise_decides opt_frame_decides a.frames b.frames).0 p0.0 i; shapes = (pointwise_decides shape_decides a.shapes b.shapes).0 p1.0 i; pending = (pointwise_decides pending_decides a.pending b.pending).0 p1.1 i }

pub snapshot_decides : (a b : Snapshot) → Decides (snapshot_eq.ghosts.eq a b) (a ≡ b)
snapshot_decides = told snapshot_eq.ghosts.eq snapshot_same snapshot_laws.lawful.laws.refl

piece_id_same : (a b : PieceId) → piece_id_eq.ghosts.eq a b ≡ true → a ≡ b
piece_id_same a b h =
    let p0 = and_parts (eqb a.trace b.trace) _ h in
    λ i. record { trace = (Decides-eqb a.trace b.trace).0 p0.0 i; half = (half_decides a.half b.half).0 p0.1 i }

pub piece_id_decides : (a b : PieceId) → Decides (piece_id_eq.ghosts.eq a b) (a ≡ b)
piece_id_decides = told piece_id_eq.ghosts.eq piece_id_same piece_id_laws.lawful.laws.refl

opt_op_same : (a b : OptOp) → opt_op_eq.ghosts.eq a b ≡ true → a ≡ b
opt_op_same (opt_op.Plain a0 a1 a2 a3) (opt_op.Plain b0 b1 b2 b3) h =
    let p0 = and_parts (code_eq.ghosts.eq a0 b0) _ h in
    let p1 = and_parts (option_eq box_eq.ghosts.eq a1 b1) _ p0.1 in
    let p2 = and_parts (pointwise arg_eq.ghosts.eq a2 b2) _ p1.1 in
    λ i. opt_op.Plain ((code_decides a0 b0).0 p0.0 i) ((option_decides box_decides a1 b1).0 p1.0 i) ((pointwise_decides arg_decides a2 b2).0 p2.0 i) ((descr_decides a3 b3).0 p2.1 i)
opt_op_same (opt_op.Guard a0 a1 a2 a3) (opt_op.Guard b0 b1 b2 b3) h =
    let p0 = and_parts (code_eq.ghosts.eq a0 b0) _ h in
    let p1 = and_parts (pointwise arg_eq.ghosts.eq a1 b1) _ p0.1 in
    let p2 = and_parts (eqb a2 b2) _ p1.1 in
    λ i. opt_op.Guard ((code_decides a0 b0).0 p0.0 i) ((pointwise_decides arg_decides a1 b1).0 p1.0 i) ((Decides-eqb a2 b2).0 p2.0 i) ((snapshot_decides a3 b3).0 p2.1 i)
opt_op_same (opt_op.Exit a0 a1) (opt_op.Exit b0 b1) h =
    let p0 = and_parts (eqb a0 b0) _ h in
    λ i. opt_op.Exit ((Decides-eqb a0 b0).0 p0.0 i) ((snapshot_decides a1 b1).0 p0.1 i)
opt_op_same (opt_op.Jump a0 a1) (opt_op.Jump b0 b1) h =
    let p0 = and_parts (piece_id_eq.ghosts.eq a0 b0) _ h in
    λ i. opt_op.Jump ((piece_id_decides a0 b0).0 p0.0 i) ((pointwise_decides arg_decides a1 b1).0 p0.1 i)
opt_op_same (opt_op.Finish a0) (opt_op.Finish b0) h = λ i. opt_op.Finish ((option_decides arg_decides a0 b0).0 h i)
opt_op_same _ _ h = cc

pub opt_op_decides : (a b : OptOp) → Decides (opt_op_eq.ghosts.eq a b) (a ≡ b)
opt_op_decides = told opt_op_eq.ghosts.eq opt_op_same opt_op_laws.lawful.laws.refl

piece_same : (a b : Piece) → piece_eq.ghosts.eq a b ≡ true → a ≡ b
piece_same a b h =
    let p0 = and_parts (piece_id_eq.ghosts.eq a.id b.id) _ h in
    let p1 = and_parts (pointwise box_eq.ghosts.eq a.label b.label) _ p0.1 in
    λ i. record { id = (piece_id_decides a.id b.id).0 p0.0 i; label = (pointwise_decides box_decides a.label b.label).0 p1.0 i; ops = (pointwise_decides opt_op_decides a.ops b.ops).0 p1.1 i }

pub piece_decides : (a b : Piece) → Decides (piece_eq.ghosts.eq a b) (a ≡ b)
piece_decides = told piece_eq.ghosts.eq piece_same piece_laws.lawful.laws.refl

fact_same : (a b : Fact) → fact_eq.ghosts.eq a b ≡ true → a ≡ b
fact_same (fact.Between a0 a1 a2) (fact.Between b0 b1 b2) h =
    let p0 = and_parts (box_eq.ghosts.eq a0 b0) _ h in
    let p1 = and_parts (int_eq a1 b1) _ p0.1 in
    λ i. fact.Between ((box_decides a0 b0).0 p0.0 i) ((Decides-int_eq a1 b1).0 p1.0 i) ((Decides-int_eq a2 b2).0 p1.1 i)
fact_same (fact.Nonnull a0) (fact.Nonnull b0) h = λ i. fact.Nonnull ((box_decides a0 b0).0 h i)
fact_same (fact.ClassOf a0 a1) (fact.ClassOf b0 b1) h =
    let p0 = and_parts (box_eq.ghosts.eq a0 b0) _ h in
    λ i. fact.ClassOf ((box_decides a0 b0).0 p0.0 i) ((Decides-eqb a1 b1).0 p0.1 i)
fact_same (fact.Holds a0 a1 a2) (fact.Holds b0 b1 b2) h =
    let p0 = and_parts (arg_eq.ghosts.eq a0 b0) _ h in
    let p1 = and_parts (spot_eq.ghosts.eq a1 b1) _ p0.1 in
    λ i. fact.Holds ((arg_decides a0 b0).0 p0.0 i) ((spot_decides a1 b1).0 p1.0 i) ((arg_decides a2 b2).0 p1.1 i)
fact_same (fact.Same a0 a1 a2) (fact.Same b0 b1 b2) h =
    let p0 = and_parts (code_eq.ghosts.eq a0 b0) _ h in
    let p1 = and_parts (pointwise arg_eq.ghosts.eq a1 b1) _ p0.1 in
    λ i. fact.Same ((code_decides a0 b0).0 p0.0 i) ((pointwise_decides arg_decides a1 b1).0 p1.0 i) ((arg_decides a2 b2).0 p1.1 i)
fact_same _ _ h = cc

pub fact_decides : (a b : Fact) → Decides (fact_eq.ghosts.eq a b) (a ≡ b)
fact_decides = told fact_eq.ghosts.eq fact_same fact_laws.lawful.laws.refl

entry_same : (a b : Entry) → entry_eq.ghosts.eq a b ≡ true → a ≡ b
entry_same a b h =
    let p0 = and_parts (pointwise box_eq.ghosts.eq a.label b.label) _ h in
    let p1 = and_parts (pointwise val_eq.ghosts.eq a.values b.values) _ p0.1 in
    let p2 = and_parts (pointwise shape_eq.ghosts.eq a.shapes b.shapes) _ p1.1 in
    let p3 = and_parts (pointwise pending_eq.ghosts.eq a.pending b.pending) _ p2.1 in
    λ i. record { label = (pointwise_decides box_decides a.label b.label).0 p0.0 i; values = (pointwise_decides val_decides a.values b.values).0 p1.0 i; shapes = (pointwise_decides shape_decides a.shapes b.shapes).0 p2.0 i; pending = (pointwise_decides pending_decides a.pending b.pending).0 p3.0 i; facts = (pointwise_decides fact_decides a.facts b.facts).0 p3.1 i }

pub entry_decides : (a b : Entry) → Decides (entry_eq.ghosts.eq a b) (a ≡ b)
entry_decides = told entry_eq.ghosts.eq entry_same entry_laws.lawful.laws.refl

what_same : (a b : What) → what_eq.ghosts.eq a b ≡ true → a ≡ b
what_same a b h = same_true what_type tt a b h

pub what_decides : (a b : What) → Decides (what_eq.ghosts.eq a b) (a ≡ b)
what_decides = told what_eq.ghosts.eq what_same what_laws.lawful.laws.refl

origin_same : (a b : Origin) → origin_eq.ghosts.eq a b ≡ true → a ≡ b
origin_same origin.Loop origin.Loop h = refl
origin_same (origin.Bridge a0 a1) (origin.Bridge b0 b1) h =
    let p0 = and_parts (text_eq.ghosts.eq a0 b0) _ h in
    λ i. origin.Bridge ((text_decides a0 b0).0 p0.0 i) ((Decides-eqb a1 b1).0 p0.1 i)
origin_same _ _ h = cc

pub origin_decides : (a b : Origin) → Decides (origin_eq.ghosts.eq a b) (a ≡ b)
origin_decides = told origin_eq.ghosts.eq origin_same origin_laws.lawful.laws.refl

initial_same : (a b : Initial) → initial_eq.ghosts.eq a b ≡ true → a ≡ b
initial_same (initial.Int a0) (initial.Int b0) h = λ i. initial.Int ((Decides-int_eq a0 b0).0 h i)
initial_same initial.Null initial.Null h = refl
initial_same (initial.Ptr a0) (initial.Ptr b0) h = λ i. initial.Ptr ((Decides-eqb a0 b0).0 h i)
initial_same _ _ h = cc

pub initial_decides : (a b : Initial) → Decides (initial_eq.ghosts.eq a b) (a ≡ b)
initial_decides = told initial_eq.ghosts.eq initial_same initial_laws.lawful.laws.refl

trace_same : (a b : Trace) → trace_eq.ghosts.eq a b ≡ true → a ≡ b
trace_same a b h =
    let p0 = and_parts (text_eq.ghosts.eq a.name b.name) _ h in
    let p1 = and_parts (origin_eq.ghosts.eq a.origin b.origin) _ p0.1 in
    let p2 = and_parts (beq a.label b.label) _ p1.1 in
    let p3 = and_parts (pointwise box_eq.ghosts.eq a.inputs b.inputs) _ p2.1 in
    λ i. record { name = (text_decides a.name b.name).0 p0.0 i; origin = (origin_decides a.origin b.origin).0 p1.0 i; label = (bool_decides a.label b.label).0 p2.0 i; inputs = (pointwise_decides box_decides a.inputs b.inputs).0 p3.0 i; ops = (pointwise_decides op_decides a.ops b.ops).0 p3.1 i }

pub trace_decides : (a b : Trace) → Decides (trace_eq.ghosts.eq a b) (a ≡ b)
trace_decides = told trace_eq.ghosts.eq trace_same trace_laws.lawful.laws.refl

size_row_same : (a b : SizeRow) → size_row_eq.ghosts.eq a b ≡ true → a ≡ b
size_row_same a b h =
    let p0 = and_parts (text_eq.ghosts.eq a.name b.name) _ h in
    let p1 = and_parts (option_eq text_eq.ghosts.eq a.vtable b.vtable) _ p0.1 in
    λ i. record { name = (text_decides a.name b.name).0 p0.0 i; vtable = (option_decides text_decides a.vtable b.vtable).0 p1.0 i; fields = (pointwise_decides Decides-eqb a.fields b.fields).0 p1.1 i }

pub size_row_decides : (a b : SizeRow) → Decides (size_row_eq.ghosts.eq a b) (a ≡ b)
size_row_decides = told size_row_eq.ghosts.eq size_row_same size_row_laws.lawful.laws.refl

field_row_same : (a b : FieldRow) → field_row_eq.ghosts.eq a b ≡ true → a ≡ b
field_row_same a b h =
    let p0 = and_parts (text_eq.ghosts.eq a.name b.name) _ h in
    let p1 = and_parts (eqb a.size b.size) _ p0.1 in
    let p2 = and_parts (kind_eq.ghosts.eq a.kind b.kind) _ p1.1 in
    λ i. record { name = (text_decides a.name b.name).0 p0.0 i; size = (Decides-eqb a.size b.size).0 p1.0 i; kind = (kind_decides a.kind b.kind).0 p2.0 i; immutable = (bool_decides a.immutable b.immutable).0 p2.1 i }

pub field_row_decides : (a b : FieldRow) → Decides (field_row_eq.ghosts.eq a b) (a ≡ b)
field_row_decides = told field_row_eq.ghosts.eq field_row_same field_row_laws.lawful.laws.refl

array_row_same : (a b : ArrayRow) → array_row_eq.ghosts.eq a b ≡ true → a ≡ b
array_row_same a b h =
    let p0 = and_parts (text_eq.ghosts.eq a.name b.name) _ h in
    λ i. record { name = (text_decides a.name b.name).0 p0.0 i; kind = (kind_decides a.kind b.kind).0 p0.1 i }

pub array_row_decides : (a b : ArrayRow) → Decides (array_row_eq.ghosts.eq a b) (a ≡ b)
array_row_decides = told array_row_eq.ghosts.eq array_row_same array_row_laws.lawful.laws.refl

call_row_same : (a b : CallRow) → call_row_eq.ghosts.eq a b ≡ true → a ≡ b
call_row_same a b h =
    let p0 = and_parts (text_eq.ghosts.eq a.name b.name) _ h in
    let p1 = and_parts (pointwise kind_eq.ghosts.eq a.args b.args) _ p0.1 in
    let p2 = and_parts (option_eq kind_eq.ghosts.eq a.result b.result) _ p1.1 in
    let p3 = and_parts (pointwise eqb a.reads b.reads) _ p2.1 in
    λ i. record { name = (text_decides a.name b.name).0 p0.0 i; args = (pointwise_decides kind_decides a.args b.args).0 p1.0 i; result = (option_decides kind_decides a.result b.result).0 p2.0 i; reads = (pointwise_decides Decides-eqb a.reads b.reads).0 p3.0 i; writes = (pointwise_decides Decides-eqb a.writes b.writes).0 p3.1 i }

pub call_row_decides : (a b : CallRow) → Decides (call_row_eq.ghosts.eq a b) (a ≡ b)
call_row_decides = told call_row_eq.ghosts.eq call_row_same call_row_laws.lawful.laws.refl

prebuilt_row_same : (a b : PrebuiltRow) → prebuilt_row_eq.ghosts.eq a b ≡ true → a ≡ b
prebuilt_row_same a b h =
    let p0 = and_parts (text_eq.ghosts.eq a.name b.name) _ h in
    let p1 = and_parts (shape_of_eq.ghosts.eq a.of b.of) _ p0.1 in
    λ i. record { name = (text_decides a.name b.name).0 p0.0 i; of = (shape_of_decides a.of b.of).0 p1.0 i; parts = (pointwise_decides initial_decides a.parts b.parts).0 p1.1 i }

pub prebuilt_row_decides : (a b : PrebuiltRow) → Decides (prebuilt_row_eq.ghosts.eq a b) (a ≡ b)
prebuilt_row_decides = told prebuilt_row_eq.ghosts.eq prebuilt_row_same prebuilt_row_laws.lawful.laws.refl

table_same : (a b : Table) → table_eq.ghosts.eq a b ≡ true → a ≡ b
table_same a b h =
    let p0 = and_parts (pointwise shape_of_eq.ghosts.eq a.shapes b.shapes) _ h in
    let p1 = and_parts (pointwise size_row_eq.ghosts.eq a.sizes b.sizes) _ p0.1 in
    let p2 = and_parts (pointwise field_row_eq.ghosts.eq a.fields b.fields) _ p1.1 in
    let p3 = and_parts (pointwise array_row_eq.ghosts.eq a.arrays b.arrays) _ p2.1 in
    let p4 = and_parts (pointwise call_row_eq.ghosts.eq a.calls b.calls) _ p3.1 in
    let p5 = and_parts (pointwise text_eq.ghosts.eq a.functions b.functions) _ p4.1 in
    λ i. record { shapes = (pointwise_decides shape_of_decides a.shapes b.shapes).0 p0.0 i; sizes = (pointwise_decides size_row_decides a.sizes b.sizes).0 p1.0 i; fields = (pointwise_decides field_row_decides a.fields b.fields).0 p2.0 i; arrays = (pointwise_decides array_row_decides a.arrays b.arrays).0 p3.0 i; calls = (pointwise_decides call_row_decides a.calls b.calls).0 p4.0 i; functions = (pointwise_decides text_decides a.functions b.functions).0 p5.0 i; prebuilts = (pointwise_decides prebuilt_row_decides a.prebuilts b.prebuilts).0 p5.1 i }

pub table_decides : (a b : Table) → Decides (table_eq.ghosts.eq a b) (a ≡ b)
table_decides = told table_eq.ghosts.eq table_same table_laws.lawful.laws.refl

trace_set_same : (a b : TraceSet) → trace_set_eq.ghosts.eq a b ≡ true → a ≡ b
trace_set_same a b h =
    let p0 = and_parts (table_eq.ghosts.eq a.table b.table) _ h in
    λ i. record { table = (table_decides a.table b.table).0 p0.0 i; traces = (pointwise_decides trace_decides a.traces b.traces).0 p0.1 i }

pub trace_set_decides : (a b : TraceSet) → Decides (trace_set_eq.ghosts.eq a b) (a ≡ b)
trace_set_decides = told trace_set_eq.ghosts.eq trace_set_same trace_set_laws.lawful.laws.refl

opt_trace_same : (a b : OptTrace) → opt_trace_eq.ghosts.eq a b ≡ true → a ≡ b
opt_trace_same a b h =
    λ i. record { pieces = (pointwise_decides piece_decides a.pieces b.pieces).0 h i }

pub opt_trace_decides : (a b : OptTrace) → Decides (opt_trace_eq.ghosts.eq a b) (a ≡ b)
opt_trace_decides = told opt_trace_eq.ghosts.eq opt_trace_same opt_trace_laws.lawful.laws.refl
