-- Two places, and two boxes, that the derived `==` finds equal are equal.
use Rattle.std.proofs.Common.{◌≡◌, ℕ, true, ap, subst}
use Rattle.std.specs.Bool.{Decides}
use Rattle.std.proofs.lemmas.Bool.{eqb-true, and_parts}
use Rattle.std.proofs.lemmas.Bool.Decides.{Decides-eqb}
use denote.Enum.Bare.{same_true}
use Rattle.target_base.specs.declared.reg.Reg.{Reg}
use Rattle.target_base.specs.declared.place.Place.{Place}
use Rattle.target_base.specs.declared.place.Place.TheVariants.{In, Word}
use Rattle.target_base.specs.contracts.reg.RegPartialEq.TheImpl as reg_eq
use Rattle.target_base.specs.contracts.place.PlacePartialEq.TheImpl as place_eq
use Rattle.trace_ops.specs.declared.trace.Kind.{Kind}
use Rattle.trace_ops.specs.contracts.trace.KindPartialEq.TheImpl as kind_eq
use Rattle.trace_ops.specs.contracts.trace.Kind.{the_type as kind_type}
use Rattle.trace_ops.specs.declared.trace.BoxId.{BoxId}
use Rattle.trace_ops.specs.contracts.trace.BoxIdPartialEq.TheImpl as box_eq
use Rattle.trace_ops.specs.contracts.trace.BoxIdEq.TheImpl.Laws as box_laws

abbrev reg_of : ℕ → Reg
reg_of n = record { 0 = n }

reg_same : (a b : Reg) → reg_eq.ghosts.eq a b ≡ true → a ≡ b
reg_same a b h = ap reg_of (eqb-true a.0 b.0 h)

pub place_same : (a b : Place) → place_eq.ghosts.eq a b ≡ true → a ≡ b
place_same (In a) (In b) h = ap In (reg_same a b h)
place_same (Word a) (Word b) h = ap Word (eqb-true a b h)
place_same _ _ h = cc

kind_same : (a b : Kind) → kind_eq.ghosts.eq a b ≡ true → a ≡ b
kind_same a b h = same_true kind_type tt a b h

box_same : (a b : BoxId) → box_eq.ghosts.eq a b ≡ true → a ≡ b
box_same a b h =
    let p = and_parts (kind_eq.ghosts.eq a.kind b.kind) _ h in
    λ i. record { kind = kind_same a.kind b.kind p.0 i; number = (Decides-eqb a.number b.number).0 p.1 i }

pub box_decides : (a b : BoxId) → Decides (box_eq.ghosts.eq a b) (a ≡ b)
box_decides a b = (box_same a b, λ e. subst (λ x. box_eq.ghosts.eq a x ≡ true) e (box_laws.lawful.laws.refl a))
