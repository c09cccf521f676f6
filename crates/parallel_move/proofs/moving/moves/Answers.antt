use Rattle.std.proofs.Common.{◌≡◌, List, [], ◌∷◌, length, reverse, ap, sym, subst, ◌∙◌, arith, ◌++◌}
use Rattle.std.proofs.lemmas.List.{reverse-append}
use Rattle.std.proofs.lemmas.Grind.{common_steps}
use Rattle.target_base.specs.declared.place.Place.{Place}
use Rattle.parallel_move.specs.declared.moving.Move.{Move}
use Rattle.parallel_move.specs.Moving.{at_once, after, planned, HasDistinctTargets, HavePlaces, MovePlaces}
use Rattle.parallel_move.proofs.NumberLemmas.{next_pairs, no_pairs, none_left}
use Rattle.parallel_move.proofs.MovingLemmas.{after-append, move-append_all, move-append_parts}
use Rattle.parallel_move.proofs.moving.moves.Goals as goal

pub settle-requires-clause-once : goal.settle-requires-clause-once
settle-requires-clause-once c =
    (subst HasDistinctTargets (next_pairs c.loop-pair.rest c.take_next.new.self c.in-Some.pair c.in-Some.ensures.some c.take_next.ensures.names) c.loop-pair.invariant.distinct).0

pub loop-pair-preserved : goal.loop-pair-preserved
loop-pair-preserved c =
    let is = next_pairs c.loop-pair.rest c.take_next.new.self c.in-Some.pair c.in-Some.ensures.some c.take_next.ensures.names in
    let distinct = subst HasDistinctTargets is c.loop-pair.invariant.distinct in
    record {
      acts = λ state.
          c.in_ok-settle.ensures.settles state
          ∙ ap (λ (xs : List (Place × Place)). planned c.loop-pair.first.items xs c.loop-pair.last.items state) (sym is)
          ∙ c.loop-pair.invariant.acts state;
      distinct = c.in_ok-settle.ensures.distinct distinct.1;
      among = λ test have.
          let parts = c.loop-pair.invariant.among test have in
          c.in_ok-settle.ensures.among test (subst (HavePlaces test) is parts.0) parts.1 parts.2;
      few = omega (arith, c.in_ok-settle.ensures.few, c.in_ok-settle.ensures.len, c.loop-pair.invariant.few, ap length c.in-Some.ensures.some);
    }

pub loop-m-init : goal.loop-m-init
loop-m-init c =
    let none = no_pairs c.loop-pair.rest (none_left c.take_next.result (c.loop-pair.rest.pairs ≡ []) c.in_default.not-Some c.take_next.ensures.none) in
    record {
      acts = λ state.
          after-append c.loop-pair.first.items (reverse c.loop-pair.last.items) state
          ∙ ap (λ (ps : List (Place × Place)). after (reverse c.loop-pair.last.items) (at_once ps (after c.loop-pair.first.items state))) (sym none)
          ∙ c.loop-pair.invariant.acts state;
      few = omega (arith, c.loop-pair.invariant.few);
      among = λ test have. (let parts = c.loop-pair.invariant.among test have in (parts.1, parts.2));
    }

pub loop-m-preserved : goal.loop-m-preserved
loop-m-preserved c =
    let last : c.loop-m.last.items ≡ c.pop.new.self.items ++ c.in-Some-pop.m ∷ [] = c.in-Some-pop.ensures.items in
    let first : c.push.new.self.items ≡ c.loop-m.first.items ++ c.in-Some-pop.m ∷ [] = c.in_ok-push.ensures.items in
    record {
      acts = λ state.
          ap (λ (ms : List Move). after ms state) (moved c.loop-m.first.items c.pop.new.self.items c.in-Some-pop.m c.push.new.self.items c.loop-m.last.items first last)
          ∙ c.loop-m.invariant.acts state;
      few = omega (arith, c.loop-m.invariant.few, c.in-Some-pop.ensures.len, c.in_ok-push.ensures.len);
      among = λ test have.
          let parts = c.loop-m.invariant.among test have in
          let ends = move-append_parts test c.pop.new.self.items (c.in-Some-pop.m ∷ []) (subst (MovePlaces test) last parts.1) in
          (subst (MovePlaces test) (sym first) (move-append_all test c.loop-m.first.items (c.in-Some-pop.m ∷ []) parts.0 ends.1), ends.0);
    }
  where
    moved : (first last : List Move) (m : Move) (more all : List Move) → more ≡ first ++ m ∷ [] → all ≡ last ++ m ∷ [] → more ++ reverse last ≡ first ++ reverse all
    moved first last m more all f l = grind (arith, common_steps, reverse-append)

pub returns-clause-among : goal.returns-clause-among
returns-clause-among c = λ test have. (c.loop-m.invariant.among test have).0
