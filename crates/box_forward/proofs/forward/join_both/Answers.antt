use Rattle.std.proofs.Common.{◌+◌, List, map, slice_get, ap, sym, ◌∙◌}
use Rattle.trace_ops.specs.declared.trace.Arg.{Arg}
use Rattle.trace_ops.specs.declared.trace.Arg.TheVariants.{Of}
use Rattle.trace_ops.specs.declared.trace.Kind.TheVariants.{Int, Ref}
use Rattle.box_forward.specs.Trees.{renamed}
use Rattle.box_forward.proofs.TableLemmas.{some_is, apart_box, maps_twice, reference_stays, other_stays}
use Rattle.box_forward.proofs.forward.join_both.Goals as goal

pub join-requires-clause-other : goal.join-requires-clause-other
join-requires-clause-other c = (c.args.to, ap (slice_get c.args.classes.now) c.node_of-other.ensures ∙ c.requires.other)

pub join-requires-2-clause-node : goal.join-requires-2-clause-node
join-requires-2-clause-node c =
    let other = ap (slice_get c.args.classes.now) c.node_of-other.ensures ∙ c.requires.other in (
      record { kind = Ref; number = c.args.from },
      ap (λ (vs : List Arg). slice_get vs (c.args.boxes + c.args.from)) (c.join.ensures (record { kind = Int; number = c.args.from }) c.args.to c.requires.own.0 other)
          ∙ reference_stays c.args.from c.args.boxes (Of c.args.to) c.args.classes.now c.requires.own.1,
    )

pub join-requires-2-clause-other : goal.join-requires-2-clause-other
join-requires-2-clause-other c =
    let other = ap (slice_get c.args.classes.now) c.node_of-other.ensures ∙ c.requires.other in (
      c.args.to,
      ap (λ (vs : List Arg). slice_get vs c.node_of-other.result) (c.join.ensures (record { kind = Int; number = c.args.from }) c.args.to c.requires.own.0 other)
          ∙ other_stays c.args.from c.node_of-other.result (Of c.args.to) c.args.classes.now c.requires.apart other,
    )

pub join-requires-2-clause-apart : goal.join-requires-2-clause-apart
join-requires-2-clause-apart c = λ e.
    let other = ap (slice_get c.args.classes.now) c.node_of-other.ensures ∙ c.requires.other in
    let first = c.join.ensures (record { kind = Int; number = c.args.from }) c.args.to c.requires.own.0 other in
    let reference = ap (λ (vs : List Arg). slice_get vs (c.args.boxes + c.args.from)) first ∙ reference_stays c.args.from c.args.boxes (Of c.args.to) c.args.classes.now c.requires.own.1 in
    let third = ap (λ (vs : List Arg). slice_get vs c.node_of-other.result) first ∙ other_stays c.args.from c.node_of-other.result (Of c.args.to) c.args.classes.now c.requires.apart other in
    apart_box c.args.from (Of c.args.to) Ref c.requires.apart (some_is (sym third ∙ sym e ∙ reference))

pub returns : goal.returns
returns c =
    let other = ap (slice_get c.args.classes.now) c.node_of-other.ensures ∙ c.requires.other in
    let first = c.join.ensures (record { kind = Int; number = c.args.from }) c.args.to c.requires.own.0 other in
    let reference = ap (λ (vs : List Arg). slice_get vs (c.args.boxes + c.args.from)) first ∙ reference_stays c.args.from c.args.boxes (Of c.args.to) c.args.classes.now c.requires.own.1 in
    let third = ap (λ (vs : List Arg). slice_get vs c.node_of-other.result) first ∙ other_stays c.args.from c.node_of-other.result (Of c.args.to) c.args.classes.now c.requires.apart other in
    c.join-2.ensures (record { kind = Ref; number = c.args.from }) c.args.to reference third
    ∙ ap (map (renamed (record { kind = Ref; number = c.args.from }) (Of c.args.to))) first ∙ maps_twice c.args.from (Of c.args.to) c.args.classes.now c.requires.apart
