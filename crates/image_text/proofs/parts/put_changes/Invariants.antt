use Rattle.std.proofs.Common.{◌≡◌, ◌++◌, drop}
use Rattle.image_text.specs.Parted.{changes_text}
use Rattle.image_text.proofs.parts.put_changes.Given as goal

abbrev pub invariant-loop-change : goal.invariant-loop-change
invariant-loop-change l =
    l.out.items ++ changes_text l.set l.rest l.later (drop l.change-index l.changes) ≡ l.fn.out.items ++ changes_text l.set l.bytes l.rows l.changes
