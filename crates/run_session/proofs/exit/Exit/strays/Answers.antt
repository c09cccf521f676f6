use Rattle.std.proofs.Common.{◌≡◌, ◌||◌, not, is_some, w64, pos, sym, subst}
use Rattle.std.specs.Ordering.{int_eq}
use Rattle.std.proofs.lemmas.Int.{to_z-of_z}
use Rattle.arena_objects.specs.Walked.{number_in}
use Rattle.run_session.specs.Returning.{Strays}
use Rattle.run_session.proofs.Straying.{strays_found}
use Rattle.run_session.proofs.exit.Exit.strays.Goals as goal

pub returns-in-Ref : goal.returns-in-Ref
returns-in-Ref c =
    let self = c.args.self.now in
    let found = self.rebuilt.now.found in
    let is = subst (λ z. c.is_stray.result ≡ not (int_eq z (pos 0) || is_some (number_in z found))) (to_z-of_z w64 c.args.word c.ranges.word) c.is_stray.ensures in
    subst (λ k. Strays self.table.now self.arena.now k c.args.word c.is_stray.result) (sym c.in-Ref.is) (strays_found c.walk_finds.ensures.addresses self.table.now self.arena.now found c.args.word c.is_stray.result c.requires is)
