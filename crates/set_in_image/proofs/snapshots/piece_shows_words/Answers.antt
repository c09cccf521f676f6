use Rattle.std.proofs.Common.{List, subst}
use Rattle.std.specs.List.{AllByRecursion}
use Rattle.trace_ops.specs.declared.piece.OptOp.{OptOp}
use Rattle.set_in_image.specs.Snapshots.{OpShowsWords}
use Rattle.set_in_image.proofs.Constants.{of_operations}
use Rattle.set_in_image.proofs.snapshots.piece_shows_words.Goals as goal

pub returns : goal.returns
returns c = of_operations c.args.piece.now.ops (subst (λ (ops : List OptOp). AllByRecursion OpShowsWords ops) c.items-ops.ensures c.operations_show_words.ensures)
