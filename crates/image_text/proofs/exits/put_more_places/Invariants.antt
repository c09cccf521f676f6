use Rattle.std.proofs.Common.{◌≡◌, ◌++◌, take}
use Rattle.image_text.specs.Texts.{more_places}
use Rattle.image_text.proofs.exits.put_more_places.Given as goal

abbrev pub invariant-loop-standing : goal.invariant-loop-standing
invariant-loop-standing l = l.out.items ≡ l.fn.out.items ++ more_places (take l.standing-index l.places)
