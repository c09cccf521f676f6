use Rattle.std.proofs.Common.{◌≡◌, ◌+◌, ◌-◌, ◌*◌, ◌≤◌, ◌++◌, ◌∷◌, [], append_assoc, sym, ap, ◌∙◌, suc, arith}
use Rattle.std.proofs.lemmas.List.{append-nil}
use Rattle.arena_objects.specs.Walk.{words_found}
use Rattle.arena_world.proofs.Views.{objects_from, object_next, object_none, all_objects}
use Rattle.arena_world.proofs.view.Reading.objects.Goals as goal

pub returns-in-None : goal.returns-in-None
returns-in-None c =
    let t = c.args.self.now.table.now in
    let arena = c.args.self.now.arena.now in
    let items = c.loop.objects.items in
    let none = object_none t arena (c.taken-taken.result - c.loop.counter) c.loop.at (sym c.begins_at.ensures ∙ c.in-None.is) in
    sym (append-nil items)
    ∙ ap (λ l. items ++ l) (sym none)
    ∙ c.loop.invariant.objects
    ∙ all_objects t arena c.taken-taken.result c.taken-taken.ensures.value

pub loop-preserved : goal.loop-preserved
loop-preserved c =
    let t = c.args.self.now.table.now in
    let arena = c.args.self.now.arena.now in
    let items = c.loop.objects.items in
    let f = c.in-Some.found in
    let begins = sym c.begins_at.ensures ∙ c.in-Some.is in
    let n = c.taken-taken.result - c.loop.counter in
    let m = c.taken-taken.result - (c.loop.counter + 1) in
    let rest = objects_from t arena m (f.at + 8 * words_found f) in
    let place : f.at + 8 * words_found f ≡ f.at + 8 * (c.words_ahead.result + f.parts) = ap (λ k. f.at + 8 * (k + f.parts)) (sym c.words_ahead.ensures.value) in
    let less : n ≡ suc m = omega (arith, c.loop-test.true) in
    let taken = c.walk_finds.ensures.taken t arena c.loop.at f begins in
    record {
      objects =
          ap (λ a. c.push.new.self.items ++ objects_from t arena m a) (sym place)
          ∙ ap (λ xs. xs ++ rest) c.in_ok-push-in-Some.ensures.items
          ∙ append_assoc items (c.in_ok-object-in-Some.field-0 ∷ []) rest
          ∙ ap (λ y. items ++ y ∷ rest) c.in_ok-object-in-Some.ensures
          ∙ ap (λ l. items ++ l) (sym (object_next t arena n m c.loop.at f less begins))
          ∙ c.loop.invariant.objects;
      low = omega (arith, taken.0, c.loop.invariant.low);
      high = omega (arith, place, taken.1, c.taken-taken.ensures.value);
    }

pub returns : goal.returns
returns c =
    let t = c.args.self.now.table.now in
    let arena = c.args.self.now.arena.now in
    let items = c.loop.objects.items in
    let none : c.taken-taken.result - c.loop.counter ≡ 0 = omega (arith, c.loop-test.false) in
    sym (append-nil items)
    ∙ ap (λ k. items ++ objects_from t arena k c.loop.at) (sym none)
    ∙ c.loop.invariant.objects
    ∙ all_objects t arena c.taken-taken.result c.taken-taken.ensures.value
