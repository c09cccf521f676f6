use Rattle.std.proofs.Common.{◌≡◌, ◌++◌, [], ◌∙◌, ap, sym, subst, length}
use Rattle.std.specs.List.{flat_map}
use Rattle.trace_ops.specs.Parts.{boxes_of_arg, boxes_of}
use Rattle.trace_ops.specs.Pieces.{used_by}
use Rattle.linear_scan.specs.Living.{HaveNumbersBelow}
use Rattle.linear_scan.specs.Marking.{mark}
use Rattle.linear_scan.proofs.Marks.{below_parts, below_nil, length-mark, mark-append, mark-nil}
use Rattle.linear_scan.proofs.marking.mark_op.Goals as goal

pub mark_args-requires : goal.mark_args-requires
mark_args-requires c =
    let all = subst (λ op. HaveNumbersBelow (length c.args.tos.now) (used_by op)) c.in-Plain.is c.requires in
    rw c.items.ensures (below_nil (length c.args.tos.now) (flat_map boxes_of_arg c.in-Plain.args) all)

pub returns-in-Plain : goal.returns-in-Plain
returns-in-Plain c =
    let k = c.args.k in
    c.mark_args.ensures ∙ ap (λ xs. mark k (flat_map boxes_of_arg xs) c.args.tos.now) c.items.ensures
    ∙ sym (mark-nil k (flat_map boxes_of_arg c.in-Plain.args) c.args.tos.now)
    ∙ sym (ap (λ op. mark k (used_by op) c.args.tos.now) c.in-Plain.is)

pub mark_args-requires-in-Guard : goal.mark_args-requires-in-Guard
mark_args-requires-in-Guard c =
    let all = subst (λ op. HaveNumbersBelow (length c.args.tos.now) (used_by op)) c.in-Guard.is c.requires in
    rw c.items-in-Guard.ensures (below_parts (length c.args.tos.now) (flat_map boxes_of_arg c.in-Guard.args) (boxes_of c.in-Guard.snap ++ []) all).0

pub mark_snapshot-requires : goal.mark_snapshot-requires
mark_snapshot-requires c =
    let all = subst (λ op. HaveNumbersBelow (length c.args.tos.now) (used_by op)) c.in-Guard.is c.requires in
    let same : length c.mark_args-in-Guard.new.tos ≡ length c.args.tos.now = ap length c.mark_args-in-Guard.ensures ∙ length-mark c.args.k (flat_map boxes_of_arg c.items-in-Guard.result.now) c.args.tos.now in
    rw same (below_nil (length c.args.tos.now) (boxes_of c.in-Guard.snap) (below_parts (length c.args.tos.now) (flat_map boxes_of_arg c.in-Guard.args) (boxes_of c.in-Guard.snap ++ []) all).1)

pub returns-in-Guard : goal.returns-in-Guard
returns-in-Guard c =
    let k = c.args.k in
    let args = flat_map boxes_of_arg c.in-Guard.args in
    let snap = boxes_of c.in-Guard.snap in
    let a : c.mark_args-in-Guard.new.tos ≡ mark k args c.args.tos.now = c.mark_args-in-Guard.ensures ∙ ap (λ xs. mark k (flat_map boxes_of_arg xs) c.args.tos.now) c.items-in-Guard.ensures in
    c.mark_snapshot.ensures ∙ ap (mark k snap) a
    ∙ sym (mark-nil k snap (mark k args c.args.tos.now))
    ∙ sym (mark-append k args (snap ++ []) c.args.tos.now)
    ∙ sym (ap (λ op. mark k (used_by op) c.args.tos.now) c.in-Guard.is)
