-- A piece as the pass makes it is a piece of its trace.
use Rattle.std.proofs.Common.{◌≡◌, ℕ, zero, suc, ◌+◌, ◌-◌, ◌*◌, ◌<◌, ◌≤◌, List, [], ◌∷◌, ◌++◌, Option, Some, None, length, map, slice_get, sum_by, refl, sym, ap, ◌∙◌, subst, arith}
use Rattle.std.specs.Option.{IsSomeAnd}
use Rattle.std.specs.List.{All, AllByRecursion, flat_map}
use Rattle.std.proofs.lemmas.List.{length-map}
use Rattle.std.proofs.lemmas.List.Elements.{All-from_recursion}
use Rattle.std.proofs.lemmas.Option.{slice_get_within}
use Rattle.lists.proofs.Alls.{all_at}
use Rattle.lists.proofs.Appends.{get_last}
use Rattle.lists.proofs.Eaches.{each_push}
use Rattle.trace_ops.specs.declared.trace.BoxId.{BoxId}
use Rattle.trace_ops.specs.declared.trace.Arg.{Arg}
use Rattle.trace_ops.specs.declared.trace.Op.{Op}
use Rattle.trace_ops.specs.declared.trace.Trace.{Trace}
use Rattle.trace_ops.specs.declared.trace.TraceSet.{TraceSet}
use Rattle.trace_ops.specs.declared.piece.Half.{Half}
use Rattle.trace_ops.specs.declared.piece.PieceId.{PieceId}
use Rattle.trace_ops.specs.declared.piece.Snapshot.{Snapshot}
use Rattle.trace_ops.specs.declared.piece.OptOp.{OptOp}
use Rattle.trace_ops.specs.declared.piece.OptOp.TheVariants as opt
use Rattle.trace_ops.specs.declared.piece.Piece.{Piece}
use Rattle.trace_ops.specs.declared.piece.Entry.{Entry}
use Rattle.trace_ops.specs.Constants.{HasWords}
use Rattle.trace_ops.specs.InRange.{IsInRange, IsTraceWithin}
use Rattle.trace_ops.specs.Kinds.{kind_of_arg}
use Rattle.trace_ops.specs.Lawful.{IsLawful}
use Rattle.trace_ops.specs.Pieces.{size_of, defined_by, guards_of, jump_args, FitsLabel, FitsPreamble}
use Rattle.trace_ops.specs.Sound.{AreApart, guards_in, snapshots_in, constants_in, RepeatsInputs, HasRoom, IsFormed, IsSound}
use Rattle.trace_ops.specs.Weights.{operation_weight, own_of, own_weight, trace_weight, weight_of}
use Rattle.trace_ops.specs.WellFormed.{IsWellFormed}
use Rattle.trace_meaning.specs.Recorded.{ops_at, ops_of, inputs_of, jump_target, last_of as last_recorded}
use Rattle.opt_meaning.specs.Admits.{plain_entry}
use Rattle.opt_meaning.specs.Leaving.{Simulates}
use Rattle.opt_meaning.specs.Pieces.{last_of, preamble}
use Rattle.opt_pass.specs.Contract.{kept_of, HasEntries, HasFramesOf, KeepsNoException, GoesOn, EndsWith, own_size, cost_of, IsSmall, IsOf}
use Rattle.opt_pass.specs.Counting.{constants_of, AreAtMost, AreFewMore, AddsFewConstants}
use Rattle.opt_pass.specs.Inputs.{HasInputs, AreLawful}
use Rattle.opt_pass.specs.Recording.{HasSlotsOf, HaveSlots, JumpsWithTrace}
use Rattle.loop_peel.specs.Going.{goal_at}
use Rattle.loop_peel.specs.Peeling.{IsLoop, HavePreambles, JumpsOn, IsPieceOf}
use Rattle.loop_peel.specs.Serving.{IsBounded, weight_above, CanEnter, IsLeft}
use Rattle.loop_peel.proofs.Sizes.{whole_size, size_split, op_in_weight, few_ops}
use Rattle.loop_peel.proofs.Weighing.{weight_in_all, own_in_weight}
use Rattle.loop_peel.proofs.Guards.{kept_snapshots, few_guards, few_frames, few_shapes}
use Rattle.loop_peel.proofs.Room.{has_room}
use Rattle.loop_peel.proofs.Goaling.{goal_inputs, last_is, jumps_so, target_there, JumpsSo, Target}

-- what the pass promises of a piece
pub record Passed (set : TraceSet) (id : PieceId) (e : Entry) (to : PieceId) (piece : Piece) (guards : List (ℕ × Entry)) (at_end : Entry) : Type 0 where
  pub simulates : HasWords set → Simulates set id.trace e piece guards at_end
  pub piece_is : IsOf id e piece
  pub entries : HasEntries piece.ops guards
  pub ends : EndsWith to (inputs_of (slice_get set.traces to.trace)) at_end piece.ops
  pub formed : (labels : PieceId → Option (List BoxId)) → HasInputs labels to (inputs_of (slice_get set.traces to.trace)) → IsFormed set labels piece
  pub lawful : AreLawful set guards at_end
  pub frames : HasFramesOf (ops_at set id.trace) piece.ops
  pub constants : AddsFewConstants set id.trace e piece guards at_end
  pub small : IsSmall set id.trace e piece guards at_end
  pub values : HaveSlots (ops_at set id.trace) guards
  pub jumps : JumpsWithTrace (ops_at set id.trace) piece.ops
  pub exceptions : AllByRecursion KeepsNoException piece.ops

-- Constants

at_most_more : (n m : ℕ) (xs : List Arg) → n ≤ m → AreAtMost n xs → AreAtMost m xs
at_most_more n m xs le h some apart among = let few : length some ≤ n = h some apart among in omega (arith, le, few)

-- Entries of guards

bounded : (own weight above : ℕ) (e x : Entry) → own ≤ weight → above ≡ weight - own → IsBounded above e → (ops : ℕ) → ops ≤ own
    → cost_of x ≤ own + cost_of e → length x.label + length x.shapes ≤ length e.label + length e.shapes + ops → AreFewMore (8 * own) (constants_of e) (constants_of x) → IsBounded weight x
bounded own weight above e x within is h ops few cost boxes constants = record {
  cost = let c : cost_of e ≤ 2 * above = h.cost in omega (arith, within, is, c, cost);
  boxes = let b : length e.label + length e.shapes ≤ 2 * above + 64 = h.boxes in omega (arith, within, is, few, b, boxes);
  constants = at_most_more (16 * above + 8 * own) (16 * weight) (constants_of x) (omega (arith, within, is)) (constants (16 * above) h.constants);
}

left_all : (set : TraceSet) (p own above ops : ℕ) (e : Entry) → own ≤ trace_weight set p → above ≡ trace_weight set p - own → IsBounded above e → ops ≤ own → (guards : List (ℕ × Entry))
    → AllByRecursion (λ x. IsLawful set x.1) guards → AllByRecursion (HasSlotsOf (ops_at set p)) guards → AllByRecursion (λ x. cost_of x.1 ≤ own + cost_of e) guards
    → AllByRecursion (λ x. length x.1.label + length x.1.shapes ≤ length e.label + length e.shapes + ops) guards → AllByRecursion (λ x. AreFewMore (8 * own) (constants_of e) (constants_of x.1)) guards
    → AllByRecursion (λ x. IsLeft set p x.0 x.1) guards
left_all set p own above ops e within is h few [] a b c d f = tt
left_all set p own above ops e within is h few (x ∷ guards) a b c d f = (
  record { lawful = a.0; values = b.0; bounded = bounded own (trace_weight set p) above e x.1 within is h ops few c.0 d.0 f.0 },
  left_all set p own above ops e within is h few guards a.1 b.1 c.1 d.1 f.1,
)

-- Jumps

goes_fits : (labels : PieceId → Option (List BoxId)) (x : OptOp) → GoesOn x → FitsLabel labels x
goes_fits labels (opt.Plain c r a d) h = tt
goes_fits labels (opt.Guard c a n s) h = tt
goes_fits labels (opt.Exit n s) h = absurd h
goes_fits labels (opt.Jump q a) h = absurd h
goes_fits labels (opt.Finish v) h = absurd h

all_go : (P : OptOp → Type 0) → ((x : OptOp) → GoesOn x → P x) → (front : List OptOp) → AllByRecursion GoesOn front → AllByRecursion P front
all_go P f [] h = tt
all_go P f (x ∷ front) h = (f x h.0, all_go P f front h.1)

goes_small : (n : ℕ) (x : OptOp) → GoesOn x → jump_args x ≤ n
goes_small n (opt.Plain c r a d) h = omega arith
goes_small n (opt.Guard c a m s) h = omega arith
goes_small n (opt.Exit m s) h = absurd h
goes_small n (opt.Jump q a) h = absurd h
goes_small n (opt.Finish v) h = absurd h

-- labels that repeat inputs
abbrev inputs_labels : TraceSet → PieceId → Option (List BoxId)
inputs_labels set q = Some (inputs_of (slice_get set.traces q.trace))

inputs_have : (set : TraceSet) → HavePreambles set (inputs_labels set)
inputs_have set p t at loop pre = ap (λ o. map (λ (b : BoxId). Some b.kind) (inputs_of o)) at

same_long : {X Y Z : Type 0} (f : X → Z) (g : Y → Z) (xs : List X) (ys : List Y) → map f xs ≡ map g ys → length xs ≡ length ys
same_long f g xs ys e = sym (length-map xs f) ∙ ap length e ∙ length-map ys g

module _ (set : TraceSet) (p : ℕ) (t : Trace) (h : Half) (e : Entry) (range : IsInRange set) (well : IsWellFormed set) (light : weight_of set ≤ 131072) (at : slice_get set.traces p ≡ Some t)
    (enter : CanEnter set p e) (repeats : RepeatsInputs (record { trace = p; half = h }) e.label t) (piece : Piece) (guards : List (ℕ × Entry)) (at_end : Entry)
    (o : Passed set (record { trace = p; half = h }) e (goal_at set p) piece guards at_end) where
  -- Weights

  long : length set.traces ≡ suc (length set.traces - 1)
  long = let lt : p < length set.traces = slice_get_within set.traces p t at in omega (arith, lt)

  own_less : own_weight set p ≤ trace_weight set p
  own_less = own_in_weight set p (length set.traces - 1) long

  weight_light : trace_weight set p ≤ 131072
  weight_light = let a : trace_weight set p ≤ weight_of set = weight_in_all set p (slice_get_within set.traces p t at) in omega (arith, a, light)

  ops_are : ops_at set p ≡ t.ops
  ops_are = ap ops_of at

  own_is : own_weight set p ≡ sum_by (operation_weight set.table.sizes) t.ops
  own_is = ap (own_of set.table.sizes) at

  ops_few : length (ops_at set p) ≤ own_weight set p
  ops_few = let a : length (ops_at set p) ≡ length t.ops = ap length ops_are in omega (arith, a, own_is, few_ops set.table.sizes t.ops)

  -- What the piece jumps to

  formed_so : IsFormed set (inputs_labels set) piece
  formed_so = o.formed (inputs_labels set) (goal_inputs set p t (inputs_labels set) well at (inputs_have set))

  last_at : slice_get piece.ops (length o.ends.front) ≡ Some o.ends.last
  last_at = ap (λ z. slice_get z (length o.ends.front)) o.ends.whole ∙ get_last o.ends.front o.ends.last

  so : (to : PieceId) (args : List Arg) → o.ends.last ≡ opt.Jump to args → JumpsSo set p at_end to
  so to args is = jumps_so set p piece.ops at_end o.ends o.jumps to args (ap last_of o.ends.whole ∙ last_is o.ends.front o.ends.last ∙ ap Some is)

  passed_few : (x : OptOp) → o.ends.last ≡ x → jump_args x ≤ own_weight set p
  passed_few (opt.Plain c r a d) is = omega arith
  passed_few (opt.Guard c a n s) is = omega arith
  passed_few (opt.Exit n s) is = omega arith
  passed_few (opt.Finish v) is = omega arith
  passed_few (opt.Jump to args) is =
      let j = so to args is in
      let tar : Target set p j.op = target_there set p t j.op well at j.last j.jumps in
      let fits : FitsPreamble (inputs_labels set) (opt.Jump to args) = subst (FitsPreamble (inputs_labels set)) is (all_at (FitsPreamble (inputs_labels set)) piece.ops (length o.ends.front) o.ends.last formed_so.preambles_fit last_at) in
      let kinds : map kind_of_arg args ≡ map (λ (b : BoxId). Some b.kind) (inputs_of (slice_get set.traces to.trace)) = fits (ap (λ (q : PieceId). q.half) j.goes) in
      let a : length args ≡ length (inputs_of (slice_get set.traces to.trace)) = same_long kind_of_arg (λ (b : BoxId). Some b.kind) args (inputs_of (slice_get set.traces to.trace)) kinds in
      let b : length (inputs_of (slice_get set.traces to.trace)) ≡ length tar.trace.inputs = ap (λ (q : PieceId). length (inputs_of (slice_get set.traces q.trace))) j.goes ∙ ap (λ z. length (inputs_of z)) tar.there in
      let c : length j.op.args ≡ length tar.trace.inputs = same_long kind_of_arg (λ (x : BoxId). Some x.kind) j.op.args tar.trace.inputs tar.kinds in
      let d : 1 + length j.op.args ≤ sum_by (operation_weight set.table.sizes) t.ops = op_in_weight set.table.sizes t.ops (length t.ops - 1) j.op (ap last_recorded (sym ops_are) ∙ j.last) in
      omega (arith, a, b, c, d, own_is)

  last_few : jump_args o.ends.last ≤ own_weight set p
  last_few = passed_few o.ends.last refl

  jumps_on : JumpsOn set p (record { piece = piece; entry = e; guards = guards; at_end = at_end })
  jumps_on to args is =
      let j = jumps_so set p piece.ops at_end o.ends o.jumps to args is in
      let tar : Target set p j.op = target_there set p t j.op well at j.last j.jumps in
      (j.goes, subst (λ z. IsSomeAnd z (λ (x : Trace). IsLoop x.origin × (at_end ≡ plain_entry x.inputs))) (sym tar.there) (tar.is_loop, j.knows ∙ ap (λ z. plain_entry (inputs_of z)) tar.there))

  -- Sizes

  size_small : size_of piece ≤ 4 * trace_weight set p
  size_small =
      let a : size_of piece ≤ sum_by own_size piece.ops + jump_args o.ends.last = subst (λ z. sum_by whole_size z ≤ sum_by own_size z + jump_args o.ends.last) (sym o.ends.whole) (size_split o.ends.front o.ends.last o.ends.goes) in
      let b : sum_by own_size piece.ops + cost_of at_end ≤ own_weight set p + cost_of e = o.small.size in
      let c : cost_of e ≤ 2 * weight_above set p = enter.bounded.cost in
      omega (arith, a, b, c, last_few, own_less)

  boxes_few : length (defined_by piece) ≤ 2 * trace_weight set p + 64
  boxes_few =
      let a : length (defined_by piece) + length at_end.shapes ≤ length e.label + length e.shapes + length (ops_at set p) = o.small.boxes in
      let b : length e.label + length e.shapes ≤ 2 * weight_above set p + 64 = enter.bounded.boxes in
      omega (arith, a, b, ops_few, own_less)

  jump_args_few : AllByRecursion (λ op. jump_args op ≤ trace_weight set p + 64) piece.ops
  jump_args_few = subst (AllByRecursion (λ op. jump_args op ≤ trace_weight set p + 64)) (sym o.ends.whole) (each_push (λ op. jump_args op ≤ trace_weight set p + 64) o.ends.front o.ends.last (all_go (λ op. jump_args op ≤ trace_weight set p + 64) (goes_small (trace_weight set p + 64)) o.ends.front o.ends.goes) (omega (arith, last_few, own_less)))

  -- Room

  within : IsTraceWithin t
  within = all_at IsTraceWithin set.traces p t range.traces_within at

  left : AllByRecursion (λ x. IsLeft set p x.0 x.1) guards
  left = left_all set p (own_weight set p) (weight_above set p) (length (ops_at set p)) e own_less refl enter.bounded ops_few guards o.lawful.0 o.values o.small.guards o.small.labels o.constants.guards

  guards_below : IsSomeAnd (slice_get set.traces piece.id.trace) (λ x. All (λ g. g < guards_in x) (flat_map guards_of piece.ops)) → All (λ g. g < guards_in t) (flat_map guards_of piece.ops)
  guards_below w = subst (λ z. IsSomeAnd z (λ x. All (λ g. g < guards_in x) (flat_map guards_of piece.ops))) (ap (λ (q : PieceId). slice_get set.traces q.trace) o.piece_is.name ∙ at) w

  snapshots_few : length (snapshots_in piece) ≤ 8192
  snapshots_few =
      let a : length (snapshots_in piece) ≤ length t.ops = few_guards piece.ops t formed_so.guards_distinct (guards_below formed_so.guards_of_trace) in
      let b : length t.ops ≤ 8192 = within.operations in
      omega (arith, a, b)

  frames_few : All (λ (s : Snapshot). length s.frames ≤ 32) (snapshots_in piece)
  frames_few = subst (All (λ (s : Snapshot). length s.frames ≤ 32)) (sym (kept_snapshots piece.ops))
      (All-from_recursion (λ (s : Snapshot). length s.frames ≤ 32) (map (λ (x : ℕ × Snapshot). x.1) (flat_map kept_of piece.ops))
      (few_frames (ops_at set p) (subst (All (λ (op : Op). length op.snapshot ≤ 32)) (sym ops_are) within.frames) (flat_map kept_of piece.ops) o.frames))

  labels_few : (x : ℕ × Entry) → length x.1.label + length x.1.shapes ≤ length e.label + length e.shapes + length (ops_at set p) → length x.1.label + length x.1.shapes ≤ 2 * trace_weight set p + 64
  labels_few x a = let b : length e.label + length e.shapes ≤ 2 * weight_above set p + 64 = enter.bounded.boxes in omega (arith, a, b, ops_few, own_less)

  all_few : (xs : List (ℕ × Entry)) → AllByRecursion (λ x. length x.1.label + length x.1.shapes ≤ length e.label + length e.shapes + length (ops_at set p)) xs → AllByRecursion (λ x. length x.1.label + length x.1.shapes ≤ 2 * trace_weight set p + 64) xs
  all_few [] a = tt
  all_few (x ∷ xs) a = (labels_few x a.0, all_few xs a.1)

  shapes_few : All (λ (s : Snapshot). length s.shapes ≤ 2 * trace_weight set p + 64) (snapshots_in piece)
  shapes_few = subst (All (λ (s : Snapshot). length s.shapes ≤ 2 * trace_weight set p + 64)) (sym (kept_snapshots piece.ops))
      (All-from_recursion (λ (s : Snapshot). length s.shapes ≤ 2 * trace_weight set p + 64) (map (λ (x : ℕ × Snapshot). x.1) (flat_map kept_of piece.ops))
      (few_shapes (2 * trace_weight set p + 64) (flat_map kept_of piece.ops) guards o.entries (all_few guards o.small.labels)))

  constants_few : AreAtMost (16 * trace_weight set p) (flat_map constants_in (snapshots_in piece))
  constants_few = at_most_more (16 * weight_above set p + 8 * own_weight set p) (16 * trace_weight set p) (flat_map constants_in (snapshots_in piece)) (omega (arith, own_less)) (o.constants.snapshots (16 * weight_above set p) enter.bounded.constants)

  room : HasRoom piece
  room = has_room piece (trace_weight set p) weight_light formed_so.boxes_defined formed_so.boxes_numbered boxes_few snapshots_few frames_few shapes_few constants_few

  -- Sound

  last_fits : (labels : PieceId → Option (List BoxId)) → All (FitsPreamble labels) piece.ops → (x : OptOp) → o.ends.last ≡ x → FitsLabel labels x
  last_fits labels fit (opt.Plain c r a d) is = tt
  last_fits labels fit (opt.Guard c a n s) is = tt
  last_fits labels fit (opt.Exit n s) is = tt
  last_fits labels fit (opt.Finish v) is = tt
  last_fits labels fit (opt.Jump to args) is =
      subst (FitsPreamble labels) is (all_at (FitsPreamble labels) piece.ops (length o.ends.front) o.ends.last fit last_at) (ap (λ (q : PieceId). q.half) (so to args is).goes)

  jumps_fit : (labels : PieceId → Option (List BoxId)) → All (FitsPreamble labels) piece.ops → All (FitsLabel labels) piece.ops
  jumps_fit labels fit =
      All-from_recursion (FitsLabel labels) piece.ops
      (subst (AllByRecursion (FitsLabel labels)) (sym o.ends.whole)
      (each_push (FitsLabel labels) o.ends.front o.ends.last (all_go (FitsLabel labels) (goes_fits labels) o.ends.front o.ends.goes) (last_fits labels fit o.ends.last refl)))

  trace_is : piece.id.trace ≡ p
  trace_is = ap (λ (q : PieceId). q.trace) o.piece_is.name

  inputs_so : IsSomeAnd (slice_get set.traces piece.id.trace) (RepeatsInputs piece.id piece.label)
  inputs_so = subst (λ (z : PieceId). IsSomeAnd (slice_get set.traces z.trace) (RepeatsInputs z piece.label)) (sym o.piece_is.name)
      (subst (λ z. IsSomeAnd z (RepeatsInputs (record { trace = p; half = h }) piece.label)) (sym at) (λ pre loop. o.piece_is.label ∙ repeats pre loop))

  sound : (labels : PieceId → Option (List BoxId)) → HavePreambles set labels → IsSound set labels piece
  sound labels have =
      let f = o.formed labels (goal_inputs set p t labels well at have) in
      record {
        formed = f;
        jumps_fit = jumps_fit labels f.preambles_fit;
        small = subst (λ k. size_of piece ≤ 4 * trace_weight set k) (sym trace_is) size_small;
        few_boxes = subst (λ k. length (defined_by piece) ≤ 2 * trace_weight set k + 64) (sym trace_is) boxes_few;
        few_jump_args = subst (λ k. All (λ op. jump_args op ≤ trace_weight set k + 64) piece.ops) (sym trace_is) (All-from_recursion (λ op. jump_args op ≤ trace_weight set p + 64) piece.ops jump_args_few);
        inputs_repeated = inputs_so;
        room = room;
      }

  -- The whole

  pub is_piece : IsPieceOf set p h e (record { piece = piece; entry = e; guards = guards; at_end = at_end })
  is_piece = record {
    name = o.piece_is.name;
    entry = refl;
    label = o.piece_is.label;
    simulates = o.simulates;
    guards = o.entries;
    frames = o.frames;
    exceptions = o.exceptions;
    left = left;
    jumps = jumps_on;
    sound = sound;
  }
