use Rattle.std.proofs.Common.{◌+◌, List, map, slice_get, ap, ◌∙◌}
use Rattle.trace_ops.specs.declared.trace.Arg.{Arg}
use Rattle.trace_ops.specs.declared.trace.Kind.TheVariants.{Int, Ref}
use Rattle.box_forward.specs.Trees.{renamed}
use Rattle.box_forward.proofs.TableLemmas.{constant_apart, maps_twice, reference_stays}
use Rattle.box_forward.proofs.forward.settle_both.Goals as goal

pub settle-requires-2-clause-node : goal.settle-requires-2-clause-node
settle-requires-2-clause-node c = (
  record { kind = Ref; number = c.args.from },
  ap (λ (vs : List Arg). slice_get vs (c.args.boxes + c.args.from)) (c.settle.ensures (record { kind = Int; number = c.args.from }) c.requires.own.0)
      ∙ reference_stays c.args.from c.args.boxes c.args.to c.args.classes.now c.requires.own.1,
)

pub returns : goal.returns
returns c =
    let first = c.settle.ensures (record { kind = Int; number = c.args.from }) c.requires.own.0 in
    let reference = ap (λ (vs : List Arg). slice_get vs (c.args.boxes + c.args.from)) first ∙ reference_stays c.args.from c.args.boxes c.args.to c.args.classes.now c.requires.own.1 in
    c.settle-2.ensures (record { kind = Ref; number = c.args.from }) reference
    ∙ ap (map (renamed (record { kind = Ref; number = c.args.from }) c.args.to)) first ∙ maps_twice c.args.from c.args.to c.args.classes.now (constant_apart c.args.from c.args.to c.requires.constant)
