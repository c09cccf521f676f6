use Rattle.std.proofs.Common.{◌≡◌, ◌++◌, take}
use Rattle.image_text.specs.Texts.{exits_text}
use Rattle.image_text.proofs.exits.put_exits.Given as goal

abbrev pub invariant-loop-row : goal.invariant-loop-row
invariant-loop-row l = l.out.items ≡ l.fn.out.items ++ exits_text l.set (take l.row-index l.rows)
