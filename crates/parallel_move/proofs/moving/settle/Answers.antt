use Rattle.std.proofs.Common.{◌≡◌, true, false, List, [], ◌∷◌, ◌++◌, ap, sym, subst, ◌∙◌}
use Rattle.target_base.specs.declared.place.Place.{Place}
use Rattle.parallel_move.proofs.Same.{place_same}
use Rattle.parallel_move.specs.declared.moving.Move.{Move}
use Rattle.parallel_move.specs.declared.moving.Move.TheVariants.{Copy, Swap}
use Rattle.parallel_move.specs.Moving.{same, is_target, is_source, HasDistinctTargets, Settles, HavePlaces, MovePlaces}
use Rattle.parallel_move.specs.Resting.{name, named, pairs_of}
use Rattle.parallel_move.proofs.MovingLemmas.{settles_itself, settles_copy, settles_swap, settles_last, distinct-exchanged, have_exchanged, move-append}
use Rattle.parallel_move.proofs.moving.settle.Goals as goal

-- a move that is put behind others
pushed : (make : Place → Place → Move) (before after : List Move) (p q to from : Place) → after ≡ before ++ make to from ∷ [] → to ≡ p → from ≡ q → after ≡ before ++ make p q ∷ []
pushed make before after p q to from e t f = e ∙ ap (λ (x : Place). before ++ make x from ∷ []) t ∙ ap (λ (x : Place). before ++ make p x ∷ []) f

pub returns-then-are_one-clause-settles : goal.returns-then-are_one-clause-settles
returns-then-are_one-clause-settles c =
    settles_itself c.args.first.now.items c.args.last.now.items (pairs_of c.args.rest.now) (name c.args.rest.now.names c.args.pair.0) (name c.args.rest.now.names c.args.pair.1)
    (place_same _ _ (sym c.are_one.ensures ∙ c.if-are_one.true)) c.requires.once

pub returns-then-not-is_source-clause-settles : goal.returns-then-not-is_source-clause-settles
returns-then-not-is_source-clause-settles c =
    let names = c.args.rest.now.names in let ps = pairs_of c.args.rest.now in
    let none : is_source (name c.args.rest.now.names c.args.pair.0) (pairs_of c.args.rest.now) ≡ false = sym c.is_source.ensures ∙ c.if-not-is_source.true in
    subst (λ (f : List Move). Settles (named names c.args.pair) c.args.first.now.items c.args.last.now.items ps f c.args.last.now.items ps)
    (sym (pushed Copy c.args.first.now.items c.push.new.self.items (name names c.args.pair.0) (name names c.args.pair.1) c.place-to.result c.place-from.result c.in_ok-push.ensures.items c.place-to.ensures c.place-from.ensures))
    (settles_copy c.args.first.now.items c.args.last.now.items ps (name names c.args.pair.0) (name names c.args.pair.1) c.requires.once none)

pub returns-then-is_target-clause-settles : goal.returns-then-is_target-clause-settles
returns-then-is_target-clause-settles c =
    let names = c.args.rest.now.names in let ps = pairs_of c.args.rest.now in
    let apart : same (name c.args.rest.now.names c.args.pair.0) (name c.args.rest.now.names c.args.pair.1) ≡ false = sym c.are_one.ensures ∙ c.if-are_one.false in
    let some : is_target (name c.args.rest.now.names c.args.pair.1) (pairs_of c.args.rest.now) ≡ true = sym c.is_target.ensures ∙ c.if-is_target.true in
    subst (λ (f : List Move). Settles (named names c.args.pair) c.args.first.now.items c.args.last.now.items ps f c.args.last.now.items (pairs_of c.exchange.new.self))
    (sym (pushed Swap c.args.first.now.items c.push-then-is_target.new.self.items (name names c.args.pair.0) (name names c.args.pair.1) c.place-to.result c.place-from.result c.in_ok-push-2.ensures.items c.place-to.ensures c.place-from.ensures))
    (subst (λ (xs : List (Place × Place)). Settles (named names c.args.pair) c.args.first.now.items c.args.last.now.items ps (c.args.first.now.items ++ Swap (name names c.args.pair.0) (name names c.args.pair.1) ∷ []) c.args.last.now.items xs)
    (sym c.exchange.ensures.exchanged)
    (settles_swap c.args.first.now.items c.args.last.now.items ps (name names c.args.pair.0) (name names c.args.pair.1) apart c.requires.once some))

pub returns-then-is_target-clause-distinct : goal.returns-then-is_target-clause-distinct
returns-then-is_target-clause-distinct c = λ h.
    subst HasDistinctTargets (sym c.exchange.ensures.exchanged)
    (distinct-exchanged (pairs_of c.args.rest.now) (name c.args.rest.now.names c.args.pair.0) (name c.args.rest.now.names c.args.pair.1) h)

pub returns-clause-settles : goal.returns-clause-settles
returns-clause-settles c =
    let names = c.args.rest.now.names in let ps = pairs_of c.args.rest.now in
    let none : is_target (name c.args.rest.now.names c.args.pair.1) (pairs_of c.args.rest.now) ≡ false = sym c.is_target.ensures ∙ c.if-is_target.false in
    subst (λ (l : List Move). Settles (named names c.args.pair) c.args.first.now.items c.args.last.now.items ps c.args.first.now.items l ps)
    (sym (pushed Copy c.args.last.now.items c.push-2.new.self.items (name names c.args.pair.0) (name names c.args.pair.1) c.place-to.result c.place-from.result c.in_ok-push-3.ensures.items c.place-to.ensures c.place-from.ensures))
    (settles_last c.args.first.now.items c.args.last.now.items ps (name names c.args.pair.0) (name names c.args.pair.1) none)

pub returns-then-not-is_source-clause-among : goal.returns-then-not-is_source-clause-among
returns-then-not-is_source-clause-among c = λ test have first last.
    let names = c.args.rest.now.names in (
      have.2,
      subst (MovePlaces test) (sym (pushed Copy c.args.first.now.items c.push.new.self.items (name names c.args.pair.0) (name names c.args.pair.1) c.place-to.result c.place-from.result c.in_ok-push.ensures.items c.place-to.ensures c.place-from.ensures))
          (move-append test c.args.first.now.items (Copy (name names c.args.pair.0) (name names c.args.pair.1)) have.0 have.1 first),
      last,
    )

pub returns-then-is_target-clause-among : goal.returns-then-is_target-clause-among
returns-then-is_target-clause-among c = λ test have first last.
    let names = c.args.rest.now.names in (
      subst (HavePlaces test) (sym c.exchange.ensures.exchanged) (have_exchanged test (name names c.args.pair.0) (name names c.args.pair.1) (pairs_of c.args.rest.now) have.0 have.1 have.2),
      subst (MovePlaces test) (sym (pushed Swap c.args.first.now.items c.push-then-is_target.new.self.items (name names c.args.pair.0) (name names c.args.pair.1) c.place-to.result c.place-from.result c.in_ok-push-2.ensures.items c.place-to.ensures c.place-from.ensures))
          (move-append test c.args.first.now.items (Swap (name names c.args.pair.0) (name names c.args.pair.1)) have.0 have.1 first),
      last,
    )

pub returns-clause-among : goal.returns-clause-among
returns-clause-among c = λ test have first last.
    let names = c.args.rest.now.names in (
      have.2,
      first,
      subst (MovePlaces test) (sym (pushed Copy c.args.last.now.items c.push-2.new.self.items (name names c.args.pair.0) (name names c.args.pair.1) c.place-to.result c.place-from.result c.in_ok-push-3.ensures.items c.place-to.ensures c.place-from.ensures))
          (move-append test c.args.last.now.items (Copy (name names c.args.pair.0) (name names c.args.pair.1)) have.0 have.1 last),
    )
