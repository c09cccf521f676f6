-- What a link ends as, once a `&mut` to its value has ended.
use Rattle.std.specs.Borrow.{Fml, RattleType, MutBor, Lends}
use Rattle.std.specs.declared.alloc.Allocator.{Ghosts}
use Rattle.code_region.specs.declared.link.Link.{Link}
use Rattle.code_region.specs.contracts.link.Link.{the_row}

-- the same link with another value behind it
abbrev pub with_value : {X Z : Type 0} → Link X Z → X → Link X Z
with_value l w = record { at = l.at; alloc = l.alloc; value = w }

-- once the borrow r ends, the link l leads to the last value written through r
abbrev pub LendsValue : (T A : RattleType) (g : Ghosts A.Denot) → MutBor (Link T.Denot A.Denot) → MutBor T.Denot → Fml
LendsValue T A g l r = Lends (the_row T A g) T l r (with_value l.now)
