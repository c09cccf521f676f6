use Rattle.std.proofs.Common.{◌≡◌, ◌++◌, take}
use Rattle.image_text.specs.Texts.{entries_text}
use Rattle.image_text.proofs.image.put_entries.Given as goal

abbrev pub invariant-loop-entry : goal.invariant-loop-entry
invariant-loop-entry l = l.out.items ≡ l.fn.out.items ++ entries_text l.set (take l.entry-index l.entries)
