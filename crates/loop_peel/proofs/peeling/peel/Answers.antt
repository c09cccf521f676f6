use Rattle.std.proofs.Common.{[], ◌∷◌, subst}
use Rattle.trace_ops.specs.declared.piece.Half.TheVariants as half
use Rattle.loop_peel.specs.Peeling.{ArePieces}
use Rattle.loop_peel.proofs.Entered.{loop_may, entry_is}
use Rattle.loop_peel.proofs.Folded.{none_so_far, one_more}
use Rattle.loop_peel.proofs.peeling.peel.Goals as goal

pub add_piece-requires-clause-enters : goal.add_piece-requires-clause-enters
add_piece-requires-clause-enters c =
    loop_may c.args.checked.now c.set-set.result.now c.args.trace c.inputs_of_trace-inputs.result.now c.in_ok-entry.entry c.set-set.ensures.value c.inputs_of_trace-inputs.ensures c.in_ok-entry.ensures
    c.set-set.ensures.checked.in_range c.set-set.ensures.checked.well_formed c.requires.trace

pub returns : goal.returns
returns c =
    subst (λ e. ArePieces c.args.checked.now c.args.trace ((half.Pre, e) ∷ []) c.add_piece.new.made.opt.pieces c.add_piece.new.made.at_guards)
    (entry_is c.args.checked.now c.set-set.result.now c.args.trace c.inputs_of_trace-inputs.result.now c.in_ok-entry.entry c.set-set.ensures.value c.inputs_of_trace-inputs.ensures c.in_ok-entry.ensures)
    (one_more c.args.checked.now c.args.trace [] half.Pre c.in_ok-entry.entry c.nothing-made.result c.add_piece.new.made
    (none_so_far c.args.checked.now c.args.trace c.nothing-made.result c.nothing-made.ensures.pieces c.nothing-made.ensures.guards) c.in_ok-add_piece.ensures)
