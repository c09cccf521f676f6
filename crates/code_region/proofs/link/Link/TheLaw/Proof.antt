-- A `&` to a link is made where one to its value can be.
use mathlib.Core.List.{[], ◌++◌}
use mir.Raw.{raw}
use base.Fraction.{full_share}
use base.Fml.{Incl-trans}
use contract.BorrowLft.{meet_⊑_left}
use denote.RattleType.{RattleType}
use denote.Memory.{lone}
use denote.RawPtr.{lies_at}
use denote.Shares.{Shares-less}
use denote.Param.Laws.{Laws, row_shared}
use denote.Param.Shared.{copy_shared}
use denote.Struct.Field.{RawPtr-field}
use denote.Struct.Laws.{RawPtr-copy}
use denote.Struct.Lending.{lent_at, lent_at_shr_laws, Lends-lies, Lends-first, of_Lends}
use Rattle.std.specs.declared.alloc.Allocator.{Ghosts}
use Rattle.code_region.specs.contracts.link.Link as link
use Rattle.code_region.proofs.link.Link.TheLaw.Statement.{statement}

pub shares : (T A : RattleType) (g : Ghosts A.Denot) (L : Laws T) (K : Laws A) → statement T A g L K
shares T A g L K =
    of_Lends (link.struct T A g) (link.the_codes T.Denot A.Denot T.coded A.coded) (link.the_heap T A g) (link.the_lent T A g)
    (λ l _. lent_at_shr_laws T L.shr_laws l.at l.value)
    (copy_shared RawPtr-field RawPtr-copy, (row_shared A K, tt))
    (λ M 𝓤 𝓛 l _.
    let lives = (link.the_row T A g).lives in
    let within = Incl-trans (meet_⊑_left (T.lives ++ (A.lives ++ [])) _) (meet_⊑_left T.lives (A.lives ++ [])) in
    Lends-first 𝓛 (lies_at T full_share l.at l.value) (g.dealloc_token l.alloc (raw (lone T.mir)) l.at) (lent_at T l.at l.value) lives
    (Lends-lies 𝓛 T lives l.at l.value (Shares-less 𝓛 T T.lives lives within (L.shares 𝓛) l.value)))
