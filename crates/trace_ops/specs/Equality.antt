-- What the derived `==` of each type of traces and pieces decides: whether two values are the same.
use Rattle.std.specs.Prelude.{◌≡◌, ℕ, List}
use Rattle.std.specs.Bool.{Decides}
use Rattle.trace_ops.specs.declared.code.OpCode.{OpCode}
use Rattle.trace_ops.specs.contracts.code.OpCodePartialEq.TheImpl as code_eq
use Rattle.trace_ops.specs.declared.trace.Kind.{Kind}
use Rattle.trace_ops.specs.contracts.trace.KindPartialEq.TheImpl as kind_eq
use Rattle.trace_ops.specs.declared.piece.Half.{Half}
use Rattle.trace_ops.specs.contracts.piece.HalfPartialEq.TheImpl as half_eq
use Rattle.trace_ops.specs.declared.trace.BoxId.{BoxId}
use Rattle.trace_ops.specs.contracts.trace.BoxIdPartialEq.TheImpl as box_eq
use Rattle.trace_ops.specs.declared.trace.Arg.{Arg}
use Rattle.trace_ops.specs.contracts.trace.ArgPartialEq.TheImpl as arg_eq
use Rattle.trace_ops.specs.declared.table.ShapeOf.{ShapeOf}
use Rattle.trace_ops.specs.contracts.table.ShapeOfPartialEq.TheImpl as shape_of_eq
use Rattle.trace_ops.specs.contracts.text.TextPartialEq.TheImpl as text_eq
use Rattle.trace_ops.specs.declared.trace.Descr.{Descr}
use Rattle.trace_ops.specs.contracts.trace.DescrPartialEq.TheImpl as descr_eq
use Rattle.trace_ops.specs.declared.trace.Frame.{Frame}
use Rattle.trace_ops.specs.contracts.trace.FramePartialEq.TheImpl as frame_eq
use Rattle.trace_ops.specs.declared.trace.Op.{Op}
use Rattle.trace_ops.specs.contracts.trace.OpPartialEq.TheImpl as op_eq
use Rattle.trace_ops.specs.declared.piece.Val.{Val}
use Rattle.trace_ops.specs.contracts.piece.ValPartialEq.TheImpl as val_eq
use Rattle.trace_ops.specs.declared.piece.Spot.{Spot}
use Rattle.trace_ops.specs.contracts.piece.SpotPartialEq.TheImpl as spot_eq
use Rattle.trace_ops.specs.declared.piece.Pending.{Pending}
use Rattle.trace_ops.specs.contracts.piece.PendingPartialEq.TheImpl as pending_eq
use Rattle.trace_ops.specs.declared.piece.Shape.{Shape}
use Rattle.trace_ops.specs.contracts.piece.ShapePartialEq.TheImpl as shape_eq
use Rattle.trace_ops.specs.declared.piece.OptFrame.{OptFrame}
use Rattle.trace_ops.specs.contracts.piece.OptFramePartialEq.TheImpl as opt_frame_eq
use Rattle.trace_ops.specs.declared.piece.Snapshot.{Snapshot}
use Rattle.trace_ops.specs.contracts.piece.SnapshotPartialEq.TheImpl as snapshot_eq
use Rattle.trace_ops.specs.declared.piece.PieceId.{PieceId}
use Rattle.trace_ops.specs.contracts.piece.PieceIdPartialEq.TheImpl as piece_id_eq
use Rattle.trace_ops.specs.declared.piece.OptOp.{OptOp}
use Rattle.trace_ops.specs.contracts.piece.OptOpPartialEq.TheImpl as opt_op_eq
use Rattle.trace_ops.specs.declared.piece.Piece.{Piece}
use Rattle.trace_ops.specs.contracts.piece.PiecePartialEq.TheImpl as piece_eq
use Rattle.trace_ops.specs.declared.piece.Fact.{Fact}
use Rattle.trace_ops.specs.contracts.piece.FactPartialEq.TheImpl as fact_eq
use Rattle.trace_ops.specs.declared.piece.Entry.{Entry}
use Rattle.trace_ops.specs.contracts.piece.EntryPartialEq.TheImpl as entry_eq
use Rattle.trace_ops.specs.declared.trace.Origin.{Origin}
use Rattle.trace_ops.specs.contracts.trace.OriginPartialEq.TheImpl as origin_eq
use Rattle.trace_ops.specs.declared.trace.Trace.{Trace}
use Rattle.trace_ops.specs.contracts.trace.TracePartialEq.TheImpl as trace_eq
use Rattle.trace_ops.specs.declared.trace.TraceSet.{TraceSet}
use Rattle.trace_ops.specs.contracts.trace.TraceSetPartialEq.TheImpl as trace_set_eq
use Rattle.trace_ops.specs.declared.table.What.{What}
use Rattle.trace_ops.specs.contracts.table.WhatPartialEq.TheImpl as what_eq
use Rattle.trace_ops.specs.declared.table.SizeRow.{SizeRow}
use Rattle.trace_ops.specs.contracts.table.SizeRowPartialEq.TheImpl as size_row_eq
use Rattle.trace_ops.specs.declared.table.FieldRow.{FieldRow}
use Rattle.trace_ops.specs.contracts.table.FieldRowPartialEq.TheImpl as field_row_eq
use Rattle.trace_ops.specs.declared.table.ArrayRow.{ArrayRow}
use Rattle.trace_ops.specs.contracts.table.ArrayRowPartialEq.TheImpl as array_row_eq
use Rattle.trace_ops.specs.declared.table.CallRow.{CallRow}
use Rattle.trace_ops.specs.contracts.table.CallRowPartialEq.TheImpl as call_row_eq
use Rattle.trace_ops.specs.declared.table.Initial.{Initial}
use Rattle.trace_ops.specs.contracts.table.InitialPartialEq.TheImpl as initial_eq
use Rattle.trace_ops.specs.declared.table.PrebuiltRow.{PrebuiltRow}
use Rattle.trace_ops.specs.contracts.table.PrebuiltRowPartialEq.TheImpl as prebuilt_row_eq
use Rattle.trace_ops.specs.declared.table.Table.{Table}
use Rattle.trace_ops.specs.contracts.table.TablePartialEq.TheImpl as table_eq
use Rattle.trace_ops.specs.declared.piece.OptTrace.{OptTrace}
use Rattle.trace_ops.specs.contracts.piece.OptTracePartialEq.TheImpl as opt_trace_eq

pub record EqualityDecides : Type 0 where
  pub code : (a b : OpCode) → Decides (code_eq.ghosts.eq a b) (a ≡ b)
  pub kind : (a b : Kind) → Decides (kind_eq.ghosts.eq a b) (a ≡ b)
  pub half : (a b : Half) → Decides (half_eq.ghosts.eq a b) (a ≡ b)
  pub box : (a b : BoxId) → Decides (box_eq.ghosts.eq a b) (a ≡ b)
  pub arg : (a b : Arg) → Decides (arg_eq.ghosts.eq a b) (a ≡ b)
  pub shape_of : (a b : ShapeOf) → Decides (shape_of_eq.ghosts.eq a b) (a ≡ b)
  pub text : (a b : List ℕ) → Decides (text_eq.ghosts.eq a b) (a ≡ b)
  pub descr : (a b : Descr) → Decides (descr_eq.ghosts.eq a b) (a ≡ b)
  pub frame : (a b : Frame) → Decides (frame_eq.ghosts.eq a b) (a ≡ b)
  pub op : (a b : Op) → Decides (op_eq.ghosts.eq a b) (a ≡ b)
  pub val : (a b : Val) → Decides (val_eq.ghosts.eq a b) (a ≡ b)
  pub spot : (a b : Spot) → Decides (spot_eq.ghosts.eq a b) (a ≡ b)
  pub pending : (a b : Pending) → Decides (pending_eq.ghosts.eq a b) (a ≡ b)
  pub shape : (a b : Shape) → Decides (shape_eq.ghosts.eq a b) (a ≡ b)
  pub opt_frame : (a b : OptFrame) → Decides (opt_frame_eq.ghosts.eq a b) (a ≡ b)
  pub snapshot : (a b : Snapshot) → Decides (snapshot_eq.ghosts.eq a b) (a ≡ b)
  pub piece_id : (a b : PieceId) → Decides (piece_id_eq.ghosts.eq a b) (a ≡ b)
  pub opt_op : (a b : OptOp) → Decides (opt_op_eq.ghosts.eq a b) (a ≡ b)
  pub piece : (a b : Piece) → Decides (piece_eq.ghosts.eq a b) (a ≡ b)
  pub fact : (a b : Fact) → Decides (fact_eq.ghosts.eq a b) (a ≡ b)
  pub entry : (a b : Entry) → Decides (entry_eq.ghosts.eq a b) (a ≡ b)
  pub what : (a b : What) → Decides (what_eq.ghosts.eq a b) (a ≡ b)
  pub origin : (a b : Origin) → Decides (origin_eq.ghosts.eq a b) (a ≡ b)
  pub initial : (a b : Initial) → Decides (initial_eq.ghosts.eq a b) (a ≡ b)
  pub trace : (a b : Trace) → Decides (trace_eq.ghosts.eq a b) (a ≡ b)
  pub size_row : (a b : SizeRow) → Decides (size_row_eq.ghosts.eq a b) (a ≡ b)
  pub field_row : (a b : FieldRow) → Decides (field_row_eq.ghosts.eq a b) (a ≡ b)
  pub array_row : (a b : ArrayRow) → Decides (array_row_eq.ghosts.eq a b) (a ≡ b)
  pub call_row : (a b : CallRow) → Decides (call_row_eq.ghosts.eq a b) (a ≡ b)
  pub prebuilt_row : (a b : PrebuiltRow) → Decides (prebuilt_row_eq.ghosts.eq a b) (a ≡ b)
  pub table : (a b : Table) → Decides (table_eq.ghosts.eq a b) (a ≡ b)
  pub trace_set : (a b : TraceSet) → Decides (trace_set_eq.ghosts.eq a b) (a ≡ b)
  pub opt_trace : (a b : OptTrace) → Decides (opt_trace_eq.ghosts.eq a b) (a ≡ b)
