-- Where a piece goes on, and that it is there.
use Rattle.std.proofs.Common.{◌≡◌, ℕ, zero, suc, ◌+◌, ◌-◌, ◌<◌, ◌≤◌, Bool, true, false, List, [], ◌∷◌, ◌++◌, Option, Some, None, length, map, slice_get, refl, sym, ap, ◌∙◌, subst, arith}
use Rattle.std.specs.Option.{IsSomeAnd, option_and_then, unwrap_or}
use Rattle.std.proofs.lemmas.List.{length-map}
use Rattle.lists.proofs.Appends.{length_push, get_last}
use Rattle.lists.proofs.Options.{some_same, none_some}
use Rattle.trace_ops.specs.declared.facts.Part.{Part}
use Rattle.trace_ops.specs.declared.facts.Part.TheVariants as part
use Rattle.trace_ops.specs.declared.trace.BoxId.{BoxId}
use Rattle.trace_ops.specs.declared.trace.Arg.{Arg}
use Rattle.trace_ops.specs.declared.trace.Op.{Op}
use Rattle.trace_ops.specs.declared.trace.Trace.{Trace}
use Rattle.trace_ops.specs.declared.trace.TraceSet.{TraceSet}
use Rattle.trace_ops.specs.declared.piece.Half.TheVariants as half
use Rattle.trace_ops.specs.declared.piece.PieceId.{PieceId}
use Rattle.trace_ops.specs.declared.piece.OptOp.{OptOp}
use Rattle.trace_ops.specs.declared.piece.OptOp.TheVariants as opt
use Rattle.trace_ops.specs.declared.piece.Entry.{Entry}
use Rattle.trace_ops.specs.Facts.{part_of}
use Rattle.trace_ops.specs.Kinds.{kind_of_arg}
use Rattle.trace_ops.specs.Rules.{target_of, IsLoopOf, JumpsRightly}
use Rattle.trace_ops.specs.WellFormed.{IsWellFormed}
use Rattle.trace_meaning.specs.Recorded.{ops_at, ops_of, inputs_of, last_of as last_recorded, jump_target}
use Rattle.opt_meaning.specs.Admits.{plain_entry}
use Rattle.opt_meaning.specs.Pieces.{last_of, preamble}
use Rattle.opt_pass.specs.Contract.{JumpsTo, IsEnd, EndsWith}
use Rattle.opt_pass.specs.Inputs.{HasInputs}
use Rattle.opt_pass.specs.Recording.{JumpsWithTrace}
use Rattle.loop_peel.specs.Peeling.{IsLoop, HavePreambles}
use Rattle.loop_peel.specs.Going.{is_jump, jumps_by, goal_of, goal_at}

false_true : false ≡ true → ⊥
false_true e = cc

is_jump_part : (x : Part) → is_jump x ≡ true → x ≡ part.Jump
is_jump_part part.Jump e = refl
is_jump_part part.Plain e = absurd (false_true e)
is_jump_part part.Overflowing e = absurd (false_true e)
is_jump_part part.Guard e = absurd (false_true e)
is_jump_part part.OverflowGuard e = absurd (false_true e)
is_jump_part part.Finish e = absurd (false_true e)

-- the trace's last operation is a jump
abbrev pub Jumps : Option Op → Type 0
Jumps o = (op : Op) × (o ≡ Some op) × (part_of op.code ≡ part.Jump)

jumps_told : (o : Option Op) → jumps_by o ≡ true → Jumps o
jumps_told None e = absurd (false_true e)
jumps_told (Some op) e = (op, refl, is_jump_part (part_of op.code) e)

told_jumps : (o : Option Op) → Jumps o → jumps_by o ≡ true
told_jumps o j = ap jumps_by j.1 ∙ ap is_jump j.2

goal_where : (set : TraceSet) (p : ℕ) → Jumps (last_recorded (ops_at set p)) → goal_at set p ≡ preamble (jump_target set p)
goal_where set p j = ap (λ b. goal_of b set p) (told_jumps (last_recorded (ops_at set p)) j)

-- it is what the pass asks for
pub goal_jumps : (set : TraceSet) (p : ℕ) → JumpsTo set p (goal_at set p).trace
goal_jumps set p op e j = ap (λ (q : PieceId). q.trace) (goal_where set p (op, e, j))

-- The loop that is jumped to

pub record Target (set : TraceSet) (p : ℕ) (op : Op) : Type 0 where
  pub trace : Trace
  pub there : slice_get set.traces (jump_target set p) ≡ Some trace
  pub is_loop : IsLoop trace.origin
  pub kinds : map kind_of_arg op.args ≡ map (λ (b : BoxId). Some b.kind) trace.inputs

found : (set : TraceSet) (p : ℕ) (op : Op) (q : ℕ) (o : Option Trace) → jump_target set p ≡ q → slice_get set.traces q ≡ o → IsSomeAnd o (IsLoopOf (map kind_of_arg op.args)) → Target set p op
found set p op q None e is h = absurd h
found set p op q (Some t) e is h = record { trace = t; there = ap (slice_get set.traces) e ∙ is; is_loop = h.0; kinds = h.1 }

aimed : (set : TraceSet) (p : ℕ) (op : Op) (o : Option ℕ) → target_of set p op.descr ≡ o → jump_target set p ≡ unwrap_or o p → IsSomeAnd (option_and_then (slice_get set.traces) o) (IsLoopOf (map kind_of_arg op.args)) → Target set p op
aimed set p op None is e h = absurd h
aimed set p op (Some q) is e h = found set p op q (slice_get set.traces q) e refl h

jump_meant : (set : TraceSet) (p : ℕ) (op : Op) → last_recorded (ops_at set p) ≡ Some op → jump_target set p ≡ unwrap_or (target_of set p op.descr) p
jump_meant set p op e = ap (λ (o : Option Op). unwrap_or (option_and_then (λ (x : Op). target_of set p x.descr) o) p) e

-- a jump of a well-formed set goes to a loop, and passes what its inputs are
pub target_there : (set : TraceSet) (p : ℕ) (t : Trace) (op : Op) → IsWellFormed set → slice_get set.traces p ≡ Some t → last_recorded (ops_at set p) ≡ Some op → part_of op.code ≡ part.Jump → Target set p op
target_there set p t op well at e j =
    let here : slice_get t.ops (length t.ops - 1) ≡ Some op = ap last_recorded (ap ops_of (sym at)) ∙ e in
    aimed set p op (target_of set p op.descr) refl (jump_meant set p op e)
    (subst (λ x. JumpsRightly x set p op) j (well.jumps_fit p t at (length t.ops - 1) op here))

-- The labels of preambles

goal_labelled : (set : TraceSet) (p : ℕ) (t : Trace) (labels : PieceId → Option (List BoxId)) → IsWellFormed set → slice_get set.traces p ≡ Some t → HavePreambles set labels
    → (b : Bool) → jumps_by (last_recorded (ops_at set p)) ≡ b → HasInputs labels (goal_of b set p) (inputs_of (slice_get set.traces (goal_of b set p).trace))
goal_labelled set p t labels well at have false e body = absurd (apart body)
  where
    apart : half.Body ≡ half.Pre → ⊥
    apart h = cc
goal_labelled set p t labels well at have true e pre =
    let j = jumps_told (last_recorded (ops_at set p)) e in
    let to = target_there set p t j.0 well at j.1 j.2 in
    subst (λ z. IsSomeAnd (labels (preamble (jump_target set p))) (λ (label : List BoxId). map (λ (b : BoxId). Some b.kind) label ≡ map (λ (b : BoxId). Some b.kind) z)) (ap inputs_of (sym to.there)) (have (jump_target set p) to.trace to.there to.is_loop pre)

-- where preambles repeat the inputs of loops, the goal does
pub goal_inputs : (set : TraceSet) (p : ℕ) (t : Trace) (labels : PieceId → Option (List BoxId)) → IsWellFormed set → slice_get set.traces p ≡ Some t → HavePreambles set labels
    → HasInputs labels (goal_at set p) (inputs_of (slice_get set.traces (goal_at set p).trace))
goal_inputs set p t labels well at have = goal_labelled set p t labels well at have (jumps_by (last_recorded (ops_at set p))) refl

-- The end of the piece

pub last_is : (front : List OptOp) (last : OptOp) → last_of (front ++ last ∷ []) ≡ Some last
last_is front last =
    let n : length (front ++ last ∷ []) ≡ suc (length front) = length_push front last in
    let k : length (front ++ last ∷ []) - 1 ≡ length front = omega (arith, n) in
    ap (slice_get (front ++ last ∷ [])) k ∙ get_last front last

pub record JumpsSo (set : TraceSet) (p : ℕ) (at_end : Entry) (to : PieceId) : Type 0 where
  pub op : Op
  pub last : last_recorded (ops_at set p) ≡ Some op
  pub jumps : part_of op.code ≡ part.Jump
  pub goes : to ≡ preamble (jump_target set p)
  pub knows : at_end ≡ plain_entry (inputs_of (slice_get set.traces (jump_target set p)))

-- a jump goes to the preamble of the loop to which the trace jumps
pub jumps_so : (set : TraceSet) (p : ℕ) (ops : List OptOp) (at_end : Entry) → EndsWith (goal_at set p) (inputs_of (slice_get set.traces (goal_at set p).trace)) at_end ops → JumpsWithTrace (ops_at set p) ops
    → (to : PieceId) (args : List Arg) → last_of ops ≡ Some (opt.Jump to args) → JumpsSo set p at_end to
jumps_so set p ops at_end ends with_trace to args e =
    let j = with_trace to args e in
    let goal : goal_at set p ≡ preamble (jump_target set p) = goal_where set p j in
    let same : ends.last ≡ opt.Jump to args = some_same (sym (last_is ends.front ends.last) ∙ ap last_of (sym ends.whole) ∙ e) in
    let end : IsEnd (preamble (jump_target set p)) (inputs_of (slice_get set.traces (jump_target set p))) at_end (opt.Jump to args) =
    subst (λ (q : PieceId). IsEnd q (inputs_of (slice_get set.traces q.trace)) at_end (opt.Jump to args)) goal (subst (IsEnd (goal_at set p) (inputs_of (slice_get set.traces (goal_at set p).trace)) at_end) same ends.ends) in
    record { op = j.0; last = j.1; jumps = j.2; goes = end.0; knows = end.2 refl }
