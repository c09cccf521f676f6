-- What a rebuild gives is what is meant.
use Rattle.std.proofs.Common.{◌≡◌, ℕ, ◌*◌, ◌<◌, ◌≤◌, Bool, true, false, length, refl, sym, ◌∙◌, subst, arith}
use Rattle.std.specs.Prelude.{nat_lt, Ok, Err}
use Rattle.std.proofs.lemmas.Bool.{ltb-true, ltb-false}
use Rattle.arena_objects.specs.Standing.{Stands}
use Rattle.resume_rebuild.specs.Rebuilding.{asked_for}
use Rattle.arena_objects.specs.Making.{bytes_left}
use Rattle.resume_rebuild.specs.Joint.{GivesWhatIsMeant}
use Rattle.trace_meaning.specs.Boxes.{BoxesDecide, BindingLaws}
use Rattle.resume_rebuild.proofs.ArenaLaws.{ArenaLaws}
use Rattle.resume_rebuild.proofs.Bound.{rebuilds_from_parts}

not_less : (a b : ℕ) → (a < b → ⊥) → b ≤ a
not_less a b h = by (nat_lt a b) refl
  where
    by : (c : Bool) → nat_lt a b ≡ c → b ≤ a
    by true e = absurd (h (ltb-true a b e))
    by false e = ltb-false a b e

pub gives_what_is_meant : ArenaLaws → BoxesDecide → BindingLaws → GivesWhatIsMeant
gives_what_is_meant laws decide binding snap vs w places frame old new before after (Ok u) r lists st boxes can e g =
    let t = before.table in
    let most : old.taken ≤ 8 * length old.words = laws.there t w.objects old st in
    let enough : asked_for snap ≤ bytes_left old = not_less (bytes_left old) (asked_for snap) (λ lt. absurd (let no = g.variant.1 lt in cc)) in
    let all = rebuilds_from_parts laws decide binding t snap vs w places frame old r lists st boxes can (omega (arith, enough, most)) e in
    (subst (Stands t r.objects) (sym g.arena) all.0, g.given ∙ all.1)
gives_what_is_meant laws decide binding snap vs w places frame old new before after (Err f) r lists st boxes can e g = tt
