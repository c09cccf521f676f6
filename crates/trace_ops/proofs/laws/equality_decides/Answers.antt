use Rattle.trace_ops.proofs.Same.{code_decides, kind_decides, half_decides, box_decides, arg_decides, shape_of_decides, text_decides, descr_decides, frame_decides, op_decides, val_decides, spot_decides, pending_decides, shape_decides, opt_frame_decides, snapshot_decides, piece_id_decides, opt_op_decides, piece_decides, fact_decides, entry_decides, what_decides, origin_decides, initial_decides, trace_decides, size_row_decides, field_row_decides, array_row_decides, call_row_decides, prebuilt_row_decides, table_decides, trace_set_decides, opt_trace_decides}
use Rattle.trace_ops.proofs.laws.equality_decides.Goals as goal

pub returns : goal.returns
returns c = record {
  code = code_decides;
  kind = kind_decides;
  half = half_decides;
  box = box_decides;
  arg = arg_decides;
  shape_of = shape_of_decides;
  text = text_decides;
  descr = descr_decides;
  frame = frame_decides;
  op = op_decides;
  val = val_decides;
  spot = spot_decides;
  pending = pending_decides;
  shape = shape_decides;
  opt_frame = opt_frame_decides;
  snapshot = snapshot_decides;
  piece_id = piece_id_decides;
  opt_op = opt_op_decides;
  piece = piece_decides;
  fact = fact_decides;
  entry = entry_decides;
  what = what_decides;
  origin = origin_decides;
  initial = initial_decides;
  trace = trace_decides;
  size_row = size_row_decides;
  field_row = field_row_decides;
  array_row = array_row_decides;
  call_row = call_row_decides;
  prebuilt_row = prebuilt_row_decides;
  table = table_decides;
  trace_set = trace_set_decides;
  opt_trace = opt_trace_decides;
}
