-- Two places that the derived `==` finds equal are equal.
use Rattle.std.proofs.Common.{◌≡◌, ℕ, true, ap}
use Rattle.std.proofs.lemmas.Bool.{eqb-true}
use Rattle.target_base.specs.declared.reg.Reg.{Reg}
use Rattle.target_base.specs.declared.place.Place.{Place}
use Rattle.target_base.specs.declared.place.Place.TheVariants.{In, Word}
use Rattle.target_base.specs.contracts.reg.RegPartialEq.TheImpl as reg_eq
use Rattle.target_base.specs.contracts.place.PlacePartialEq.TheImpl as place_eq

abbrev reg_of : ℕ → Reg
reg_of n = record { 0 = n }

reg_same : (a b : Reg) → reg_eq.ghosts.eq a b ≡ true → a ≡ b
reg_same a b h = ap reg_of (eqb-true a.0 b.0 h)

pub place_same : (a b : Place) → place_eq.ghosts.eq a b ≡ true → a ≡ b
place_same (In a) (In b) h = ap In (reg_same a b h)
place_same (Word a) (Word b) h = ap Word (eqb-true a b h)
place_same _ _ h = cc
