use Rattle.std.proofs.Common.{◌∙◌, length, ap, sym}
use Rattle.linear_scan.specs.Living.{end_of}
use Rattle.linear_scan.specs.Placing.{words_used}
use Rattle.bridge_patch.specs.Bridging.{first_call}
use Rattle.bridge_patch.proofs.Entering.{labels_long}
use Rattle.bridge_patch.proofs.bridging.bridge_ends.Goals as goal

pub entry_code-requires-clause-long : goal.entry_code-requires-clause-long
entry_code-requires-clause-long c =
    let p = c.args.piece.now in
    let guards = c.deref-2.result.now in
    ap length c.items.ensures
    ∙ ap length (c.in_ok-label.ensures {u = tt})
    ∙ labels_long (end_of p) (first_call p.ops) (words_used guards) 0 guards
    ∙ ap length (c.deref-2.ensures.value ∙ sym c.deref-3.ensures.value)
